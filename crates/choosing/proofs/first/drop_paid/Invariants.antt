use Rattle.choosing.proofs.FirstLaws.{Dropping}
use Rattle.choosing.proofs.first.drop_paid.Given as goal

abbrev pub invariant-loop-e : goal.invariant-loop-e
invariant-loop-e l = Dropping l.objective.entries.now l.initial.tried l.e-index l.tried
