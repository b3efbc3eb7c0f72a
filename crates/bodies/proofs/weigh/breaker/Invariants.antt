use Rattle.bodies.proofs.WeighCode.{Breaking}
use Rattle.bodies.proofs.weigh.breaker.Given as goal

abbrev pub invariant-loop-i : goal.invariant-loop-i
invariant-loop-i l = Breaking l.mixed l.value l.lack l.body.literals.now l.body.weights.now l.i
