use borrow.Author.Rules.{rules}
use Rattle.asp.proofs.Rounds.{round_next, round_done}
use Rattle.asp.proofs.RowLaws.{formed_each}
use Rattle.stability.proofs.stable.add_round.Goals as goal

pub add_rule-new-requires : goal.add_rule-new-requires
add_rule-new-requires c = (formed_each c.args.rules.formed).each c.loop-row.row-index c.loop-row-test.true

pub loop-row-preserved : goal.loop-row-preserved
loop-row-preserved c = search (round_next, rules)

pub returns : goal.returns
returns c = search (round_done, rules)
