use Rattle.std.proofs.Common.{ap, sym, arith}
use Rattle.std.proofs.lemmas.Result.{err_from_is_err_and}
use Rattle.aspif_fields.proofs.Tokens.{number_ending}
use Rattle.aspif_tables.specs.Lists.{lists_of}
use Rattle.aspif_tables.specs.declared.line.LineTurn.TheVariants.{Goes}
use Rattle.aspif_tables.proofs.Lines.{refused_line, symbol_ready, leads_at, rule_goes, rule_stops, minimise_goes, minimise_stops, symbol_goes, symbol_stops, final_leads, final_stops, comment_leads, unread_stops}
use Rattle.aspif_tables.proofs.table.Stored.take_line.Goals as goal

pub returns-in_err-read_number-clause-answer : goal.returns-in_err-read_number-clause-answer
returns-in_err-read_number-clause-answer c =
    let p = err_from_is_err_and c.from_residual.result c.from_residual.ensures.1 in
    rw (p.1, p.2) (refused_line c.requires.sound c.append_line-end.ensures _ (sym c.in_err-read_number.ensures.answer))

pub returns-in_err-add_rule-in-1-clause-answer : goal.returns-in_err-add_rule-in-1-clause-answer
returns-in_err-add_rule-in-1-clause-answer c =
    let p = err_from_is_err_and c.from_residual-in_err-add_rule-in-1.result c.from_residual-in_err-add_rule-in-1.ensures.1 in
    rw (p.1, p.2) (rule_stops c.requires.sound c.append_line-end.ensures (sym c.in_ok-read_number.ensures.answer) c.in-1.is _ c.in_err-add_rule-in-1.ensures.0)

pub returns-in_ok-add_rule-in-1 : goal.returns-in_ok-add_rule-in-1
returns-in_ok-add_rule-in-1 c =
    let num = sym c.in_ok-read_number.ensures.answer in
    let added = c.in_ok-add_rule-in-1.ensures in
    let led = leads_at c.requires.sound c.append_line-end.ensures num _ Goes (ap lists_of added.1) (rule_goes c.requires.sound c.append_line-end.ensures num c.in-1.is _ added.0) in
    record { answer = led.0; after = led.1; stays = tt }

pub returns-in_err-add_minimise-in-2-clause-answer : goal.returns-in_err-add_minimise-in-2-clause-answer
returns-in_err-add_minimise-in-2-clause-answer c =
    let p = err_from_is_err_and c.from_residual-in_err-add_minimise-in-2.result c.from_residual-in_err-add_minimise-in-2.ensures.1 in
    rw (p.1, p.2) (minimise_stops c.requires.sound c.append_line-end.ensures (sym c.in_ok-read_number.ensures.answer) c.in-2.is _ c.in_err-add_minimise-in-2.ensures.0)

pub returns-in_ok-add_minimise-in-2 : goal.returns-in_ok-add_minimise-in-2
returns-in_ok-add_minimise-in-2 c =
    let num = sym c.in_ok-read_number.ensures.answer in
    let added = c.in_ok-add_minimise-in-2.ensures in
    let led = leads_at c.requires.sound c.append_line-end.ensures num _ Goes (ap lists_of added.1) (minimise_goes c.requires.sound c.append_line-end.ensures num c.in-2.is _ added.0) in
    record { answer = led.0; after = led.1; stays = tt }

pub returns-in_err-add_symbol-in-4-clause-answer : goal.returns-in_err-add_symbol-in-4-clause-answer
returns-in_err-add_symbol-in-4-clause-answer c =
    let p = err_from_is_err_and c.from_residual-in_err-add_symbol-in-4.result c.from_residual-in_err-add_symbol-in-4.ensures.1 in
    rw (p.1, p.2) (symbol_stops c.requires.sound c.append_line-end.ensures (sym c.in_ok-read_number.ensures.answer) c.in-4.is _ c.in_err-add_symbol-in-4.ensures.0)

pub returns-in_ok-add_symbol-in-4 : goal.returns-in_ok-add_symbol-in-4
returns-in_ok-add_symbol-in-4 c =
    let num = sym c.in_ok-read_number.ensures.answer in
    let added = c.in_ok-add_symbol-in-4.ensures in
    let led = leads_at c.requires.sound c.append_line-end.ensures num _ Goes (ap lists_of added.1) (symbol_goes c.requires.sound c.append_line-end.ensures num c.in-4.is _ added.0) in
    record { answer = led.0; after = led.1; stays = tt }

pub add_symbol-requires-clause-sound : goal.add_symbol-requires-clause-sound
add_symbol-requires-clause-sound c = symbol_ready c.requires.sound c.append_line-end.ensures

pub add_symbol-requires-clause-part : goal.add_symbol-requires-clause-part
add_symbol-requires-clause-part c = number_ending 0 10 _ _ _ c.in_ok-read_number.ensures.answer

pub returns-in_err-read_end-in-0-clause-answer : goal.returns-in_err-read_end-in-0-clause-answer
returns-in_err-read_end-in-0-clause-answer c =
    let p = err_from_is_err_and c.from_residual-in_err-read_end-in-0.result c.from_residual-in_err-read_end-in-0.ensures.1 in
    let e = c.in_err-read_end-in-0.ensures in
    rw (p.1, p.2, e.1) (final_stops c.requires.sound c.append_line-end.ensures (sym c.in_ok-read_number.ensures.answer) c.in-0.is e.0)

pub returns-in-0 : goal.returns-in-0
returns-in-0 c =
    let led = final_leads c.requires.sound c.append_line-end.ensures (sym c.in_ok-read_number.ensures.answer) c.in-0.is c.in_ok-read_end-in-0.ensures in
    record { answer = led.0; after = led.1; stays = tt }

pub returns-in-10 : goal.returns-in-10
returns-in-10 c =
    let led = comment_leads c.requires.sound c.append_line-end.ensures (sym c.in_ok-read_number.ensures.answer) c.in-10.is in
    record { answer = led.0; after = led.1; stays = tt }

pub returns-in_default-clause-answer : goal.returns-in_default-clause-answer
returns-in_default-clause-answer c = unread_stops c.requires.sound c.append_line-end.ensures (sym c.in_ok-read_number.ensures.answer) (λ e. omega arith) (λ e. omega arith) (λ e. omega arith) (λ e. omega arith) (λ e. omega arith)
