use Rattle.search.specs.Weigh.{total}
use Rattle.asp.proofs.Pairs.{PairsLeft}
use Rattle.bodies.proofs.weigh.total.Given as goal

abbrev pub invariant-loop-i : goal.invariant-loop-i
invariant-loop-i l = PairsLeft (total l.l) l.body.literals.now l.body.weights.now l.sum l.i
