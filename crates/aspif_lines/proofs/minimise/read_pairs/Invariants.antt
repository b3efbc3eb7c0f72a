use Rattle.std.proofs.Common.{◌≡◌, max}
use Rattle.asp.specs.Program.{highest}
use Rattle.asp.specs.Tables.{no_entry}
use Rattle.aspif_fields.specs.Fields.{pair}
use Rattle.aspif_lines.specs.Seen.{entries_at, entry_atom, Kept}
use Rattle.aspif_lines.proofs.Spans.{MoreLeft}
use Rattle.aspif_lines.proofs.minimise.read_pairs.Given as goal

abbrev pub invariant-loop-i : goal.invariant-loop-i
invariant-loop-i l = MoreLeft (pair (l.priority)) l.k l.i (entries_at l.entries l.used l.i) l.rest.bytes.now l.fn.rest.bytes.now
    × Kept no_entry l.used l.initial.entries l.entries
    × (l.top ≡ max l.start (highest entry_atom (entries_at l.entries l.used l.i)))
