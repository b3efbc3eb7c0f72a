use Rattle.counting.specs.Counters.{lower_at}
use Rattle.counting.proofs.CounterLaws.{lower_one}
use borrow.Author.Rules.{rules}
use Rattle.counting.proofs.counters.lower_at.Goals as goal

pub returns : goal.returns
unfolding lower_at
returns c = search (lower_one, rules)
