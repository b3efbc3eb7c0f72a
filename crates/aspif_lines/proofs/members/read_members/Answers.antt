use Rattle.std.proofs.Common.{◌≡◌, ◌+◌, ◌<◌, arith, pos, nat_abs, length}
use Rattle.std.proofs.lemmas.Result.{err_from_is_err_and}
use Rattle.asp.specs.Tables.{span, literals_at}
use Rattle.aspif_fields.proofs.Signs.{back}
use Rattle.aspif_lines.proofs.Spans.{literals_at_push, highest_snoc, highest_none, kept_refl, kept_set, more_start, more_next, more_stop, more_done}
use Rattle.aspif_lines.proofs.members.read_members.Goals as goal

pub loop-i-init : goal.loop-i-init
unfolding span
loop-i-init g c = (c.requires.1.1.0, more_start, kept_refl (pos 0) c.args.used c.args.pool.now, highest_none nat_abs c.args.start)

pub returns-in_err-literal-clause-answer : goal.returns-in_err-literal-clause-answer
returns-in_err-literal-clause-answer g c =
    let p = err_from_is_err_and c.from_residual.result c.from_residual.ensures.1 in
    let m = c.requires.1.1.1 _ _ _ c.in_err-literal.ensures in
    rw (p.1, p.2) (more_stop c.loop-i.invariant.1 c.loop-i-test.true m.answer)

pub loop-i-preserved : goal.loop-i-preserved
loop-i-preserved g c =
    let loop = c.loop-i in
    let u = c.args.used in
    let i = loop.i in
    let pool = loop.pool in
    let h : u + i < length pool = omega (arith, loop.invariant.2.long) in
    let m = c.requires.1.1.1 _ _ _ c.in_ok-literal.ensures in
    let z = c.in_ok-literal.literal in
    let b = back z (omega (arith, m.range)) in
    let t = rw b at c.atom.ensures in (
      loop.invariant.0,
      rw (b, literals_at_push pool u i z h) (more_next _ _ loop.invariant.1 c.loop-i-test.true m.answer),
      kept_set (pos 0) u _ pool (u + i) _ loop.invariant.2 (omega arith),
      rw (b, literals_at_push pool u i z h, highest_snoc nat_abs (literals_at pool u i) z) (omega (arith, loop.invariant.3, t, c.max-top.ensures)),
    )

pub returns-clause-answer : goal.returns-clause-answer
returns-clause-answer g c =
    let e : c.loop-i.i ≡ c.args.k = omega arith in
    rw e at (more_done c.loop-i.invariant.1 c.loop-i-test.false)
