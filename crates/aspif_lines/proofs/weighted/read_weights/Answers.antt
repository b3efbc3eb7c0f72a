use Rattle.std.proofs.Common.{◌≡◌, ◌+◌, ◌<◌, ◌≤◌, arith, pos, nat_abs, length, set}
use Rattle.std.proofs.lemmas.Result.{err_from_is_err_and}
use Rattle.asp.specs.Tables.{span, literals_at}
use Rattle.aspif_fields.proofs.Signs.{back}
use Rattle.aspif_lines.proofs.Pairs.{pairs_push, literals_push}
use Rattle.aspif_lines.proofs.Spans.{highest_snoc, highest_none, kept_refl, kept_set, more_start, more_next, more_stop, more_done}
use Rattle.aspif_lines.proofs.weighted.read_weights.Goals as goal

pub loop-i-init : goal.loop-i-init
unfolding span
loop-i-init c = (more_start, kept_refl (pos 0) c.args.used c.args.pool.now, highest_none nat_abs c.args.start)

pub returns-in_err-literal-clause-answer : goal.returns-in_err-literal-clause-answer
returns-in_err-literal-clause-answer c =
    let p = err_from_is_err_and c.from_residual.result c.from_residual.ensures.1 in
    rw (p.1, p.2) (more_stop c.loop-i.invariant.0 c.loop-i-test.true c.in_err-literal.ensures.answer)

pub loop-i-preserved : goal.loop-i-preserved
loop-i-preserved c =
    let loop = c.loop-i in
    let u = c.args.used in
    let k = c.args.k in
    let i = loop.i in
    let pool = loop.pool in
    let h : u + i + k + 1 < length pool = omega (arith, loop.invariant.1.long) in
    let few : i ≤ k = omega arith in
    let pair = c.in_ok-literal.field-0 in
    let range = c.in_ok-literal.ensures.range in
    let b = back pair.literal (omega (arith, range)) in
    let d = back pair.weight (omega (arith, range)) in
    let t = rw b at c.atom.ensures in (
      rw (b, d, pairs_push pool k u i pair.literal pair.weight few h) (more_next _ _ loop.invariant.0 c.loop-i-test.true c.in_ok-literal.ensures.answer),
      kept_set (pos 0) u _ (set pool (u + i) _) (u + i + k + 1) _ (kept_set (pos 0) u _ pool (u + i) _ loop.invariant.1 (omega arith)) (omega arith),
      rw (b, d, literals_push pool k u i pair.literal pair.weight few h, highest_snoc nat_abs (literals_at pool u i) pair.literal) (omega (arith, loop.invariant.2, t, c.max-top.ensures)),
    )

pub returns-clause-answer : goal.returns-clause-answer
returns-clause-answer c =
    let e : c.loop-i.i ≡ c.args.k = omega arith in
    rw e at (more_done c.loop-i.invariant.0 c.loop-i-test.false)
