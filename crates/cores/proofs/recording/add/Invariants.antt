use Rattle.cores.proofs.Loops.{Adding}
use Rattle.cores.proofs.recording.add.Given as goal

abbrev pub invariant-loop-i : goal.invariant-loop-i
invariant-loop-i l = Adding l.core l.n l.s l.k l.initial.softs l.softs l.i
