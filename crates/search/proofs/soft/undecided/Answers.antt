use borrow.Author.Rules.{rules}
use lib.IntN.{pos}
use lib.ListN.{get_or}
use mir.Syntax.{w32}
use mir.Val.{SFits}
use mir.Facts.{to_z-of_z}
use Rattle.search.proofs.SoftLaws.{passed_next, passed_here, passed_all}
use Rattle.search.proofs.soft.undecided.Goals as goal

pub returns-then-truth-eq0 : goal.returns-then-truth-eq0
returns-then-truth-eq0 c =
    let fits : SFits w32 (get_or c.args.literals.now c.loop-l.l-index (pos 0)) = search rules in
    simp to_z-of_z (passed_here c.loop-l.invariant c.loop-l-test.true (simp to_z-of_z at c.truth.ensures) c.if-truth-eq0.true)

pub loop-l-preserved : goal.loop-l-preserved
loop-l-preserved c =
    let fits : SFits w32 (get_or c.args.literals.now c.loop-l.l-index (pos 0)) = search rules in
    passed_next c.loop-l.invariant c.loop-l-test.true (simp to_z-of_z at c.truth.ensures) c.if-truth-eq0.false

pub returns : goal.returns
returns c = search (passed_all, rules)
