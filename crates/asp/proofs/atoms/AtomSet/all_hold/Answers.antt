use borrow.Author.Rules.{rules}
use borrow.Author.Tests.{not-true, not-false}
use Rattle.asp.proofs.Holding.{left_next, left_out, left_done}
use Rattle.asp.proofs.atoms.AtomSet.all_hold.Goals as goal

pub returns-then-not-holds_in : goal.returns-then-not-holds_in
returns-then-not-holds_in c = search (left_out, not-true, rules)

pub loop-l-preserved : goal.loop-l-preserved
loop-l-preserved c = search (left_next, not-false, rules)

pub returns : goal.returns
returns c = search (left_done, rules)
