-- A load's refusal in print. Assumes nothing: these are definitions.
use Rattle.std.specs.Prelude.{List, ℕ, ◌++◌, codes}
use Rattle.std.specs.Fmt.{decimal}
use Rattle.aspif_fields.specs.Refusals.{refusal_number}
use Rattle.aspif.specs.declared.text.RefusedAt.{RefusedAt}

abbrev pub refused_text : RefusedAt → List ℕ
refused_text e = codes "refused " ++ decimal (refusal_number e.refusal) ++ codes " at line " ++ decimal e.line
