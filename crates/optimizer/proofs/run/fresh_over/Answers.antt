use borrow.Author.Rules.{rules}
use Rattle.optimizer.proofs.Running.{fresh_is}
use Rattle.optimizer.proofs.run.fresh_over.Goals as goal

pub returns : goal.returns
returns c = search (fresh_is, rules)
