use Rattle.std.proofs.Common.{◌≡◌, ◌+◌, ◌<◌, arith, length}
use Rattle.std.proofs.lemmas.Result.{err_from_is_err_and}
use Rattle.asp.specs.Tables.{span, no_entry}
use Rattle.aspif_fields.proofs.Signs.{back}
use Rattle.aspif_lines.specs.Seen.{entries_at, entry_atom}
use Rattle.aspif_lines.proofs.Spans.{entries_push, highest_snoc, highest_none, kept_refl, kept_set, more_start, more_next, more_stop, more_done}
use Rattle.aspif_lines.proofs.minimise.read_pairs.Goals as goal

pub loop-i-init : goal.loop-i-init
unfolding span
loop-i-init c = (more_start, kept_refl no_entry c.args.used c.args.entries.now, highest_none entry_atom c.args.start)

pub returns-in_err-literal-clause-answer : goal.returns-in_err-literal-clause-answer
returns-in_err-literal-clause-answer c =
    let p = err_from_is_err_and c.from_residual.result c.from_residual.ensures.1 in
    let b = back c.args.priority (omega arith) in
    let inv = rw b at c.loop-i.invariant.0 in
    rw (p.1, p.2) (more_stop inv c.loop-i-test.true (c.in_err-literal.ensures.answer c.args.priority))

pub loop-i-preserved : goal.loop-i-preserved
loop-i-preserved c =
    let loop = c.loop-i in
    let p = c.args.priority in
    let q = back p (omega arith) in
    let inv = rw q at loop.invariant.0 in
    let pair = c.in_ok-literal.field-0 in
    let range = c.in_ok-literal.ensures.range in
    let b = back pair.literal (omega (arith, range)) in
    let d = back pair.weight (omega (arith, range)) in
    let t = rw b at c.atom.ensures in
    let u = c.args.used in
    let es = loop.entries in
    let i = loop.i in
    let h : u + i < length es = omega (arith, loop.invariant.1.long) in (
      rw (b, d, q, entries_push es u i (record { priority = p; literal = pair.literal; weight = pair.weight }) h) (more_next _ _ inv c.loop-i-test.true (c.in_ok-literal.ensures.answer p)),
      kept_set no_entry u _ es (u + i) _ loop.invariant.1 (omega arith),
      rw (b, d, q, entries_push es u i (record { priority = p; literal = pair.literal; weight = pair.weight }) h, highest_snoc entry_atom (entries_at es u i) (record { priority = p; literal = pair.literal; weight = pair.weight })) (omega (arith, loop.invariant.2, t, c.max-top.ensures)),
    )

pub returns-clause-answer : goal.returns-clause-answer
returns-clause-answer c =
    let b = back c.args.priority (omega arith) in
    let inv = rw b at c.loop-i.invariant.0 in
    let e : c.loop-i.i ≡ c.args.k = omega arith in
    rw e at (more_done inv c.loop-i-test.false)
