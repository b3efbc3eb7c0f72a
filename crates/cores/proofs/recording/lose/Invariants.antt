use Rattle.cores.proofs.Loops.{Losing}
use Rattle.cores.proofs.recording.lose.Given as goal

abbrev pub invariant-loop-m : goal.invariant-loop-m
invariant-loop-m l = Losing l.s l.members l.initial.softs l.softs l.m-index
