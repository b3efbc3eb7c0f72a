use Rattle.counting.proofs.NumberCode.{plain_all, plain_one, plain_off}
use Rattle.asp.specs.Growth.{pairs_of}
use Rattle.counting.proofs.weigh.plain_number.Goals as goal

pub returns-then-bound-t-clause-value : goal.returns-then-bound-t-clause-value
returns-then-bound-t-clause-value c = plain_all c.args.value.now (pairs_of c.args.body.literals.now c.args.body.weights.now) c.sum-t.ensures.met c.sum-t.ensures.most c.if-bound-t.true

pub returns-then-bound-t-2-clause-value : goal.returns-then-bound-t-2-clause-value
returns-then-bound-t-2-clause-value c = plain_one c.args.value.now (pairs_of c.args.body.literals.now c.args.body.weights.now) c.sum-t.ensures.met c.sum-t.ensures.most c.if-bound-t.false c.if-bound-t-2.true

pub returns-else-bound-t-2-clause-value : goal.returns-else-bound-t-2-clause-value
returns-else-bound-t-2-clause-value c = plain_off c.args.value.now (pairs_of c.args.body.literals.now c.args.body.weights.now) c.sum-t.ensures.met c.sum-t.ensures.most c.if-bound-t.false c.if-bound-t-2.false
