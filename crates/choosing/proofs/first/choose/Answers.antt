use borrow.Author.Rules.{rules}
use lib.IntN.{pos}
use lib.ListN.{get_or}
use mir.Syntax.{w32}
use mir.Val.{SFits}
use mir.Facts.{to_z-of_z}
use Rattle.std.proofs.Common.{arith}
use Rattle.asp.proofs.Growing.{named_atom, named_small}
use Rattle.choosing.proofs.FirstLaws.{marking_next, marking_done}
use Rattle.choosing.proofs.first.choose.Goals as goal

pub atom-requires : goal.atom-requires
atom-requires c =
    let fits : SFits w32 (get_or c.args.heads.now c.loop-l.l-index (pos 0)) = search rules in
    rw (to_z-of_z fits) (named_small c.args.heads.now c.requires c.loop-l-test.true)

pub bounds-tried-atom : goal.bounds-tried-atom
bounds-tried-atom c =
    let fits : SFits w32 (get_or c.args.heads.now c.loop-l.l-index (pos 0)) = search rules in
    omega (arith, (named_atom c.args.heads.now c.requires c.loop-l-test.true (simp to_z-of_z at c.atom.ensures)).0)

pub loop-l-preserved : goal.loop-l-preserved
loop-l-preserved c =
    let fits : SFits w32 (get_or c.args.heads.now c.loop-l.l-index (pos 0)) = search rules in
    marking_next c.loop-l.invariant c.requires c.loop-l-test.true (simp to_z-of_z at c.atom.ensures)

pub returns : goal.returns
returns c = marking_done c.loop-l.invariant c.loop-l-test.false
