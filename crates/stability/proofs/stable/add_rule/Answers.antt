use borrow.Author.Rules.{rules}
use mathlib.Core.Path.{refl}
use lib.IntN.{pos}
use lib.ListN.{get_or}
use mir.Syntax.{w32}
use mir.Val.{SFits}
use mir.Facts.{to_z-of_z}
use Rattle.std.proofs.Common.{arith}
use Rattle.asp.specs.Sets.{set_of}
use Rattle.asp.specs.Tables.{is_choice}
use Rattle.asp.proofs.RowLaws.{heads_named, heads_long, head_atom, rule_choice, rule_none, rule_plain}
use Rattle.stability.proofs.stable.add_rule.Goals as goal

pub add_choice-requires : goal.add_choice-requires
unfolding is_choice
add_choice-requires c = heads_named c.requires (rw c.in-Choice.is) c.head_atoms-heads.ensures

pub atom-requires : goal.atom-requires
unfolding is_choice
atom-requires c =
    let fits : SFits w32 (get_or c.head_atoms-heads.result.now 0 (pos 0)) = search rules in
    rw (to_z-of_z fits) (head_atom c.requires (rw c.in-Plain.is) c.head_atoms-heads.ensures c.if-row-eq0.false refl).0

pub bounds-heads-0 : goal.bounds-heads-0
bounds-heads-0 c = omega (arith, heads_long c.requires c.head_atoms-heads.ensures)

pub add-requires : goal.add-requires
unfolding is_choice
add-requires c =
    let fits : SFits w32 (get_or c.head_atoms-heads.result.now 0 (pos 0)) = search rules in
    (head_atom c.requires (rw c.in-Plain.is) c.head_atoms-heads.ensures c.if-row-eq0.false (simp to_z-of_z at c.atom.ensures)).0

pub returns-in-Choice : goal.returns-in-Choice
unfolding is_choice
returns-in-Choice c =
    rule_choice (set_of c.args.m.bytes.now) c.args.pool.now c.args.row c.args.x.now c.body_holds.ensures c.if-not-body_holds.false (rw c.in-Choice.is) c.head_atoms-heads.ensures c.add_choice.ensures

pub returns-in-Plain : goal.returns-in-Plain
unfolding is_choice
returns-in-Plain c =
    rule_none (set_of c.args.m.bytes.now) c.args.pool.now c.args.row c.args.x.now c.body_holds.ensures c.if-not-body_holds.false (rw c.in-Plain.is) c.if-row-eq0.true

pub returns-in-Plain-2 : goal.returns-in-Plain-2
unfolding is_choice
returns-in-Plain-2 c =
    let fits : SFits w32 (get_or c.head_atoms-heads.result.now 0 (pos 0)) = search rules in
    let here = head_atom c.requires (rw c.in-Plain.is) c.head_atoms-heads.ensures c.if-row-eq0.false (simp to_z-of_z at c.atom.ensures) in
    rule_plain (set_of c.args.m.bytes.now) c.args.pool.now c.args.row c.args.x.now c.body_holds.ensures c.if-not-body_holds.false (rw c.in-Plain.is) c.if-row-eq0.false here.1 (omega (arith, here.0)) c.add.ensures.added c.add.ensures.new
