use Rattle.std.proofs.Common.{◌≡◌, Ok, Err, rules, arith}
use Rattle.std.proofs.lemmas.Result.{err_from_is_err_and}
use Rattle.aspif_fields.specs.declared.refusal.Refusal.{Refusal}
use Rattle.aspif_tables.specs.Lists.{reading_in}
use Rattle.aspif.proofs.Onwards.{on_stop, onward_leads}
use Rattle.aspif.proofs.text.one_line.Goals as goal

pub returns-in_err-turn-clause-answer : goal.returns-in_err-turn-clause-answer
returns-in_err-turn-clause-answer c =
    let p = err_from_is_err_and c.from_residual.result c.from_residual.ensures.1 in
    let h : (e : Refusal) × (c.take_line.result ≡ Err e) × (c.in_err-turn.field-0.0 ≡ record { refusal = e; line = c.args.line }) = search rules in
    rw (p.1, p.2, h.2) (on_stop c.args.rest.now c.split_line.result.0.now (reading_in c.args.p.now) c.args.line _ c.split_line.ensures.split (rw h.1 at c.take_line.ensures.answer))

pub returns-in_err-turn-clause-after : goal.returns-in_err-turn-clause-after
returns-in_err-turn-clause-after c =
    let p = err_from_is_err_and c.from_residual.result c.from_residual.ensures.1 in
    let h : (e : Refusal) × (c.take_line.result ≡ Err e) × (c.in_err-turn.field-0.0 ≡ record { refusal = e; line = c.args.line }) = search rules in
    rw (p.1, p.2, h.2) (omega arith, omega arith)

pub returns : goal.returns
returns c =
    let r : c.take_line.result ≡ Ok c.in_ok-turn.turn = search rules in
    let after = rw r at c.take_line.ensures.after in
    let led = onward_leads c.args.rest.now c.split_line.result.0.now (reading_in c.args.p.now) c.args.line c.args.p.now.counts.text c.take_line.new.self after.0 after.1 c.in_ok-turn.turn c.split_line.result.1 c.split_line.ensures.split c.split_line.ensures.long (rw r at c.take_line.ensures.answer) in
    rw c.after_line.ensures (record { answer = led.0; after = led.1 })
