use Rattle.asp.proofs.RowLaws.{formed_each}
use Rattle.choosing.proofs.FirstLaws.{passing_next, passing_done}
use Rattle.choosing.proofs.first.choose_all.Goals as goal

pub choose_rule-requires : goal.choose_rule-requires
choose_rule-requires c = (formed_each c.args.rules.formed).each c.loop-row.row-index c.loop-row-test.true

pub loop-row-preserved : goal.loop-row-preserved
loop-row-preserved c = passing_next c.loop-row.invariant c.loop-row-test.true c.choose_rule.ensures

pub returns : goal.returns
returns c = passing_done c.loop-row.invariant c.loop-row-test.false
