use Rattle.asp.specs.declared.entries.Entry.{Entry}
use Rattle.asp.specs.Cost.{negative_part}
use Rattle.asp.proofs.Paying.{Summing}
use Rattle.asp.proofs.cost.Objective.level_start.Given as goal

abbrev pub invariant-loop-e : goal.invariant-loop-e
invariant-loop-e l = Summing (λ (x : Entry). negative_part x.weight) l.priority l.self.entries.now l.sum l.e-index
