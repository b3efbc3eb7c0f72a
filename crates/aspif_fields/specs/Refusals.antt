-- The numbers of the refusals. Assumes nothing: these are definitions.
use Rattle.std.specs.Prelude.{ℕ}
use Rattle.aspif_fields.specs.declared.refusal.Refusal.{Refusal}
use Rattle.aspif_fields.specs.declared.refusal.Refusal.TheVariants.{Header, Malformed, Unread, OutOfRange, PastLimit}

-- document 01: "1: line 1 is missing or differs", "A place where a number is due and none stands is refusal 2", "3: .. not read", "4: a number out of range", "5: a table limit passed"
abbrev pub refusal_number : Refusal → ℕ
refusal_number Header = 1
refusal_number Malformed = 2
refusal_number Unread = 3
refusal_number OutOfRange = 4
refusal_number PastLimit = 5
