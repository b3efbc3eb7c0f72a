use borrow.Author.Rules.{rules}
use lib.IntN.{pos}
use lib.ListN.{get_or}
use mir.Syntax.{w32}
use mir.Val.{SFits}
use mir.Facts.{to_z-of_z}
use mathlib.Core.Path.{refl}
use Rattle.asp.proofs.Growing.{choosing_next, named_atom, named_small}
use Rattle.stability.proofs.stable.add_choice.Goals as goal

pub atom-requires : goal.atom-requires
atom-requires c =
    let fits : SFits w32 (get_or c.args.heads.now c.loop-l.l-index (pos 0)) = search rules in
    rw (to_z-of_z fits) (named_small c.args.heads.now c.requires c.loop-l-test.true)

pub add_chosen-new-requires : goal.add_chosen-new-requires
add_chosen-new-requires c =
    let fits : SFits w32 (get_or c.args.heads.now c.loop-l.l-index (pos 0)) = search rules in
    let e = simp to_z-of_z at c.atom.ensures in
    (named_atom c.args.heads.now c.requires c.loop-l-test.true e).0

pub loop-l-preserved : goal.loop-l-preserved
loop-l-preserved c =
    let fits : SFits w32 (get_or c.args.heads.now c.loop-l.l-index (pos 0)) = search rules in
    let e = simp to_z-of_z at c.atom.ensures in
    let same = (named_atom c.args.heads.now c.requires c.loop-l-test.true e).1 in
    choosing_next c.loop-l.invariant c.loop-l-test.true (rw same at c.add_chosen-new.ensures) refl
