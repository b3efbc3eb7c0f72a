use Rattle.std.proofs.Common.{◌≡◌, ◌+◌, max, pos, nat_abs}
use Rattle.asp.specs.Program.{highest}
use Rattle.asp.specs.Tables.{literals_at, pairs_at}
use Rattle.aspif_fields.specs.Fields.{weighed_field}
use Rattle.aspif_lines.specs.Seen.{Kept}
use Rattle.aspif_lines.proofs.Spans.{MoreLeft}
use Rattle.aspif_lines.proofs.weighted.read_weights.Given as goal

abbrev pub invariant-loop-i : goal.invariant-loop-i
invariant-loop-i l = MoreLeft weighed_field l.k l.i (pairs_at l.pool (l.k + 1) l.used l.i) l.rest.bytes.now l.fn.rest.bytes.now
    × Kept (pos 0) l.used l.initial.pool l.pool
    × (l.top ≡ max l.start (highest nat_abs (literals_at l.pool l.used l.i)))
