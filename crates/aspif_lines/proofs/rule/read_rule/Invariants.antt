use Rattle.std.proofs.Common.{true}
use Rattle.aspif_lines.proofs.rule.read_rule.Given as goal

abbrev pub ghost-read_members : goal.ghost-read_members
ghost-read_members a = true
