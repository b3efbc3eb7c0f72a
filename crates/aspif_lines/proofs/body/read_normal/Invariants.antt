use Rattle.std.proofs.Common.{false}
use Rattle.aspif_lines.proofs.body.read_normal.Given as goal

abbrev pub ghost-read_members : goal.ghost-read_members
ghost-read_members a = false
