use Rattle.counting.specs.Counters.{raise_at}
use Rattle.counting.proofs.CounterLaws.{raise_one}
use borrow.Author.Rules.{rules}
use Rattle.counting.proofs.counters.raise_at.Goals as goal

pub returns : goal.returns
unfolding raise_at
returns c = search (raise_one, rules)
