use Rattle.counting.specs.Counters.{counters}
use Rattle.counting.proofs.CounterLaws.{Raising}
use Rattle.counting.proofs.counters.Counters.raise_all.Given as goal

abbrev pub invariant-loop-e : goal.invariant-loop-e
invariant-loop-e l = Raising l.rules l.from l.end l.initial.self (counters l.self.key l.marks) l.e
