use Rattle.std.proofs.Common.{◌≡◌, max, pos, nat_abs}
use Rattle.asp.specs.Program.{highest}
use Rattle.asp.specs.Tables.{literals_at}
use Rattle.aspif_lines.specs.Text.{member_field}
use Rattle.aspif_lines.specs.Seen.{Kept}
use Rattle.aspif_lines.proofs.Spans.{MoreLeft}
use Rattle.aspif_lines.proofs.members.read_members.Given as goal

abbrev pub invariant-loop-i : goal.invariant-loop-i
invariant-loop-i g l = goal.F-IsAlwaysCallable g l.member
    × MoreLeft (member_field g.head) l.k l.i (literals_at l.pool l.used l.i) l.rest.bytes.now l.fn.rest.bytes.now
    × Kept (pos 0) l.used l.initial.pool l.pool
    × (l.top ≡ max l.start (highest nat_abs (literals_at l.pool l.used l.i)))
