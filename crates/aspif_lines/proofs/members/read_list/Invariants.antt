use Rattle.std.proofs.Common.{true, false}
use Rattle.aspif_lines.proofs.members.read_list.Given as goal

abbrev pub ghost-read_members : goal.ghost-read_members
ghost-read_members a = true

abbrev pub ghost-read_members-2 : goal.ghost-read_members-2
ghost-read_members-2 a = false
