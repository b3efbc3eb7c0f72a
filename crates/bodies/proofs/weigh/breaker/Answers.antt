use borrow.Author.Rules.{rules}
use lib.IntN.{pos}
use lib.ListN.{get_or}
use mir.Syntax.{w32}
use mir.Val.{SFits}
use mir.Facts.{to_z-of_z}
use Rattle.bodies.proofs.WeighCode.{breaking_one, breaking_next, breaking_done}
use Rattle.bodies.proofs.weigh.breaker.Goals as goal

pub returns-then-breaks : goal.returns-then-breaks
returns-then-breaks c =
    let literal_fits : SFits w32 (get_or c.args.body.literals.now c.loop-i.i (pos 0)) = search rules in
    let weight_fits : SFits w32 (get_or c.args.body.weights.now c.loop-i.i (pos 0)) = search rules in
    rw (to_z-of_z literal_fits) (breaking_one c.args.body.formed c.loop-i.invariant c.loop-i-test.true (simp to_z-of_z at c.breaks.ensures) c.if-breaks.true)

pub loop-i-preserved : goal.loop-i-preserved
loop-i-preserved c =
    let literal_fits : SFits w32 (get_or c.args.body.literals.now c.loop-i.i (pos 0)) = search rules in
    let weight_fits : SFits w32 (get_or c.args.body.weights.now c.loop-i.i (pos 0)) = search rules in
    breaking_next c.args.body.formed c.loop-i.invariant c.loop-i-test.true (simp to_z-of_z at c.breaks.ensures) c.if-breaks.false

pub returns : goal.returns
returns c = breaking_done c.args.body.formed c.loop-i.invariant c.loop-i-test.false
