use borrow.Author.Rules.{rules}
use lib.IntN.{pos}
use lib.ListN.{get_or}
use mir.Syntax.{w32}
use mir.Val.{SFits}
use mir.Facts.{to_z-of_z}
use Rattle.search.proofs.SoftLaws.{seen_met, seen_blamed, seen_new, seen_all}
use Rattle.search.proofs.soft.Wishes.violated.Goals as goal

pub loop-i-preserved-then-truth-ne2 : goal.loop-i-preserved-then-truth-ne2
loop-i-preserved-then-truth-ne2 c =
    let fits : SFits w32 (get_or c.args.self.now.literals.now c.loop-i.i (pos 0)) = search rules in
    seen_met c.loop-i.invariant c.loop-i-test.true (simp to_z-of_z at c.truth.ensures) c.if-truth-ne2.true

pub returns-then-self-i-eq1 : goal.returns-then-self-i-eq1
returns-then-self-i-eq1 c =
    let fits : SFits w32 (get_or c.args.self.now.literals.now c.loop-i.i (pos 0)) = search rules in
    seen_blamed c.loop-i.invariant c.loop-i-test.true (simp to_z-of_z at c.truth.ensures) c.if-truth-ne2.false c.if-self-i-eq1.true

pub loop-i-preserved : goal.loop-i-preserved
loop-i-preserved c =
    let fits : SFits w32 (get_or c.args.self.now.literals.now c.loop-i.i (pos 0)) = search rules in
    seen_new c.loop-i.invariant c.loop-i-test.true (simp to_z-of_z at c.truth.ensures) c.if-truth-ne2.false c.if-self-i-eq1.false c.first_of-found.ensures

pub returns : goal.returns
returns c = search (seen_all, rules)
