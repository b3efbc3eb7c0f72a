use Rattle.std.proofs.Common.{arith}
use mir.Syntax.{w32}
use mir.Val.{SFits}
use mir.Facts.{to_z-of_z}
use Rattle.aspif_fields.proofs.Signs.{back}
use Rattle.aspif_lines.proofs.Pairs.{signs_small, signs_mixed, signs_next, signs_done}
use Rattle.aspif_lines.proofs.weighted.is_one_signed.Goals as goal

pub returns-then-occurs : goal.returns-then-occurs
returns-then-occurs c =
    let small = signs_small c.loop-l.invariant c.in-Some.ensures.cases.0 in
    let f : SFits w32 c.complement.result = record { sfits = c.complement.type_inv } in
    let q = rw (to_z-of_z f, c.complement.ensures, back c.in-Some.l.now (omega (arith, small))) at c.if-occurs.ensures in
    signs_mixed c.loop-l.invariant c.in-Some.ensures.cases.0 q

pub loop-l-preserved : goal.loop-l-preserved
loop-l-preserved c =
    let small = signs_small c.loop-l.invariant c.in-Some.ensures.cases.0 in
    let f : SFits w32 c.complement.result = record { sfits = c.complement.type_inv } in
    let q = rw (to_z-of_z f, c.complement.ensures, back c.in-Some.l.now (omega (arith, small))) at c.if-occurs.ensures in
    signs_next c.loop-l.invariant c.in-Some.ensures.cases.0 q

pub returns : goal.returns
returns c = signs_done _ _ c.loop-l.invariant c.in_default.ensures.cases
