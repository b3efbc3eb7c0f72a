use Rattle.optimizer.proofs.Blaming.{Among}
use Rattle.optimizer.proofs.blame.is_among.Given as goal

abbrev pub invariant-loop-q : goal.invariant-loop-q
invariant-loop-q l = Among l.places l.p l.q-index
