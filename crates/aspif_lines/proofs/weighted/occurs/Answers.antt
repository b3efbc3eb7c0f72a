use mir.Facts.{to_z-of_z}
use Rattle.std.proofs.Common.{◌∙◌}
use Rattle.aspif_lines.proofs.Pairs.{occurs_any}
use Rattle.aspif_lines.proofs.weighted.occurs.Goals as goal

pub returns : goal.returns
returns c = rw (to_z-of_z c.ranges.l) at c.contains.ensures.value ∙ occurs_any c.args.l c.args.literals.now
