use Rattle.search.specs.Weigh.{met_at}
use Rattle.asp.proofs.Pairs.{PairsLeft}
use Rattle.counting.proofs.NumberCode.{OpenLeft}
use Rattle.counting.proofs.weigh.sum.Given as goal

abbrev pub invariant-loop-i : goal.invariant-loop-i
invariant-loop-i l = record {
  met : PairsLeft (met_at l.value) l.body.literals.now l.body.weights.now l.t.met l.i;
  most : OpenLeft l.value l.body.literals.now l.body.weights.now l.t.most l.i;
}
