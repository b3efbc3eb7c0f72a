use Rattle.optimizer.proofs.Finishing.{Seeking}
use Rattle.optimizer.proofs.finish.next_level.Given as goal

abbrev pub invariant-loop-i : goal.invariant-loop-i
invariant-loop-i l = Seeking l.w.lowers l.w.uppers l.j l.k l.i
