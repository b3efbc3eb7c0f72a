use Rattle.choosing.proofs.FirstLaws.{Marking}
use Rattle.choosing.proofs.first.choose.Given as goal

abbrev pub invariant-loop-l : goal.invariant-loop-l
invariant-loop-l l = Marking l.heads l.initial.tried l.l-index l.tried
