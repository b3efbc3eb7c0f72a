use Rattle.counting.proofs.CounterLaws.{decided_in, decided_out}
use borrow.Author.Rules.{rules}
use Rattle.counting.proofs.counters.Counters.decide.Goals as goal

pub returns-then-s-eq1 : goal.returns-then-s-eq1
returns-then-s-eq1 c = search (decided_in, rules)

pub returns : goal.returns
returns c = search (decided_out, rules)
