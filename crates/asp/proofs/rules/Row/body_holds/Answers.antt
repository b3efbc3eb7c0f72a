use mathlib.Core.Path.{sym, ◌∙◌}
use Rattle.asp.proofs.RowLaws.{row_paired}
use Rattle.asp.proofs.rules.Row.body_holds.Goals as goal

pub pairs-requires : goal.pairs-requires
pairs-requires c = row_paired c.requires (sym c.is_weighted.ensures ∙ c.if-is_weighted.true)
