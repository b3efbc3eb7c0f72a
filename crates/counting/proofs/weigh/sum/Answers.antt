use borrow.Author.Rules.{rules}
use lib.IntN.{pos}
use lib.ListN.{get_or}
use mir.Syntax.{w32}
use mir.Val.{SFits}
use mir.Facts.{to_z-of_z}
use Rattle.std.proofs.Common.{arith}
use Rattle.asp.proofs.Pairs.{pairs_done}
use Rattle.bodies.proofs.WeighCode.{met_sum}
use Rattle.counting.proofs.NumberCode.{open_more, open_done, met_next}
use Rattle.counting.proofs.weigh.sum.Goals as goal

pub loop-i-preserved : goal.loop-i-preserved
loop-i-preserved c =
    let literal_fits : SFits w32 (get_or c.args.body.literals.now c.loop-i.i (pos 0)) = search rules in
    let weight_fits : SFits w32 (get_or c.args.body.weights.now c.loop-i.i (pos 0)) = search rules in
    let met = simp (to_z-of_z, c.truth.ensures, c.from.ensures, c.unsigned_abs.ensures.value) at c.with-t.ensures.met in
    let most = simp (to_z-of_z, c.truth.ensures, c.from.ensures, c.unsigned_abs.ensures.value) at c.with-t.ensures.most in
    record {
      met = met_next c.args.value.now c.args.body.formed c.loop-i.invariant.met c.loop-i-test.true (omega (arith, simp to_z-of_z at c.unsigned_abs.ensures.value, c.unsigned_abs.type_inv)) met;
      most = open_more c.args.body.formed c.loop-i.invariant.most c.loop-i-test.true most;
    }

pub returns-clause-met : goal.returns-clause-met
returns-clause-met c = pairs_done (met_sum c.args.value.now) c.args.body.formed c.loop-i.invariant.met c.loop-i-test.false

pub returns-clause-most : goal.returns-clause-most
returns-clause-most c = open_done c.args.body.formed c.loop-i.invariant.most c.loop-i-test.false
