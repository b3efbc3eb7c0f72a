use Rattle.search.proofs.SoftLaws.{Passed}
use Rattle.search.proofs.soft.undecided.Given as goal
use Rattle.std.specs.Prelude.{length}

abbrev pub invariant-loop-l : goal.invariant-loop-l
invariant-loop-l l = Passed l.literals (length l.literals) l.value l.l-index
