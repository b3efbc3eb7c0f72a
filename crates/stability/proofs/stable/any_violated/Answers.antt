use borrow.Author.Rules.{rules}
use Rattle.asp.proofs.Rounds.{unviolated_next, violated_here, unviolated_done}
use Rattle.asp.proofs.RowLaws.{formed_each}
use Rattle.stability.proofs.stable.any_violated.Goals as goal

pub is_violated-requires : goal.is_violated-requires
is_violated-requires c = (formed_each c.args.rules.formed).each c.loop-row.row-index c.loop-row-test.true

pub returns-then-is_violated : goal.returns-then-is_violated
returns-then-is_violated c = search (violated_here, rules)

pub loop-row-preserved : goal.loop-row-preserved
loop-row-preserved c = search (unviolated_next, rules)

pub returns : goal.returns
returns c = search (unviolated_done, rules)
