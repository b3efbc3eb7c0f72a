use Rattle.std.proofs.Common.{ap, sym, ◌∙◌, subst}
use Rattle.aspif_lines.specs.Text.{lines, pieces, header, Reading}
use Rattle.aspif_tables.specs.Lists.{lists, Sized, SoundLists, reading_of}
use Rattle.aspif_tables.specs.declared.table.Counts.{Counts}
use Rattle.aspif.proofs.Texts.{same_true, text_lines, none_sound, none_opened}
use Rattle.aspif.proofs.text.read_text.Goals as goal

pub read_lines-requires-clause-sound : goal.read_lines-requires-clause-sound
read_lines-requires-clause-sound c =
    let p = c.args.p.now in
    let append = c.append_line-p in
    let t = lists append.new.text p.pool p.rules p.entries p.levels p.conditions p.symbols in
    let z = c.requires.sized in
    let sized : Sized t = record { text = append.ensures.kept.long ∙ z.text; pool = z.pool; rules = z.rules; entries = z.entries; levels = z.levels; conditions = z.conditions; symbols = z.symbols } in
    subst (λ (n : Counts). SoundLists t (record n { text = append.result })) (sym c.requires.counts) (none_sound t append.result sized)

pub returns-clause-answer : goal.returns-clause-answer
returns-clause-answer c =
    let p = c.args.p.now in
    let append = c.append_line-p in
    let t = lists append.new.text p.pool p.rules p.entries p.levels p.conditions p.symbols in
    let same = sym c.is_header.ensures ∙ c.if-not-is_header.false in
    let opened = none_opened t append.result p.text _ (same_true _ header same) append.ensures.whole in
    let first = ap (λ (n : Counts). reading_of t (record n { text = append.result })) c.requires.counts ∙ opened in
    c.read_lines.ensures.answer ∙ ap (λ (q : Reading). lines 2 q (pieces c.in-Some.next.now)) first ∙ text_lines _ _ c.if-s-gt-MOST_BYTES.false _ (rw c.in-Some.is at c.split_line.ensures.split) same
