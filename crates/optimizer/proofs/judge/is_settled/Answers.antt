use borrow.Author.Rules.{rules}
use borrow.Author.Tests.{not-true, not-false}
use Rattle.optimizer.proofs.Settled.{settling_next, settling_out, settling_done}
use Rattle.optimizer.proofs.judge.is_settled.Goals as goal

pub returns-then-not-is_settled_at : goal.returns-then-not-is_settled_at
returns-then-not-is_settled_at c = search (settling_out, not-true, rules)

pub loop-l-preserved : goal.loop-l-preserved
loop-l-preserved c = search (settling_next, not-false, rules)

pub returns : goal.returns
returns c = search (settling_done, rules)
