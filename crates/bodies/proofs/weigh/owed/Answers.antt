use borrow.Author.Rules.{rules}
use lib.IntN.{pos}
use lib.ListN.{get_or}
use mir.Syntax.{w32}
use mir.Val.{SFits}
use mir.Facts.{to_z-of_z}
use Rattle.asp.proofs.Pairs.{pairs_next, pairs_done}
use Rattle.bodies.proofs.WeighCode.{owed_sum}
use Rattle.bodies.proofs.weigh.owed.Goals as goal

pub loop-i-preserved : goal.loop-i-preserved
loop-i-preserved c =
    let literal_fits : SFits w32 (get_or c.args.body.literals.now c.loop-i.i (pos 0)) = search rules in
    let weight_fits : SFits w32 (get_or c.args.body.weights.now c.loop-i.i (pos 0)) = search rules in
    pairs_next (owed_sum c.args.value.now) c.args.body.formed c.loop-i.invariant c.loop-i-test.true (simp (to_z-of_z, c.after.ensures.literals, c.after.ensures.weights) at c.owed_pair-sum.ensures.value) c.owed_pair-sum.ensures.small

pub returns : goal.returns
returns c = pairs_done (owed_sum c.args.value.now) c.args.body.formed c.loop-i.invariant c.loop-i-test.false
