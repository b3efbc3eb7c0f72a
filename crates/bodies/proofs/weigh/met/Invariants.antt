use Rattle.search.specs.Weigh.{met_at}
use Rattle.asp.proofs.Pairs.{PairsLeft}
use Rattle.bodies.proofs.weigh.met.Given as goal

abbrev pub invariant-loop-i : goal.invariant-loop-i
invariant-loop-i l = PairsLeft (met_at l.value) l.body.literals.now l.body.weights.now l.sum l.i
