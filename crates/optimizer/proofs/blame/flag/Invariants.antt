use Rattle.optimizer.proofs.Blaming.{Flagging}
use Rattle.optimizer.proofs.blame.flag.Given as goal

abbrev pub invariant-loop-i : goal.invariant-loop-i
invariant-loop-i l = Flagging l.places l.p l.i l.initial.flags l.flags
