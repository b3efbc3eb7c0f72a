-- What the answers of the readers of fields mean, with what they leave of the line. Assumes nothing: these are definitions.
use Rattle.std.specs.Prelude.{◌≡◌, List, ℕ, ◌-◌, ◌≤◌, min, ℤ, pos, negsuc, nat_abs, length, drop, Option, Some, None, Result, Ok, Err}
use Rattle.asp.specs.declared.entries.Entry.{Entry}
use Rattle.asp.specs.Program.{Weighed}
use Rattle.asp.specs.Tables.{is_choice}
use Rattle.aspif_fields.specs.Fields.{Read, got, bad, Opening}
use Rattle.aspif_fields.specs.Refusals.{refusal_number}
use Rattle.aspif_fields.specs.declared.refusal.Refusal.{Refusal}
use Rattle.aspif_fields.specs.declared.opening.Opens.{Opens}
use Rattle.aspif_fields.specs.declared.pair.Pair.{Pair}

-- what a value means, and what is left of the line; or the refusal's number
abbrev pub read_as : {A B : Type 0} → (A → B) → Result A Refusal → List ℕ → Read B
read_as f (Ok a) rest = got (f a) rest
read_as f (Err e) rest = bad (refusal_number e)

-- a value that means itself
abbrev pub read : {A : Type 0} → Result A Refusal → List ℕ → Read A
read r rest = read_as (λ a. a) r rest

-- what stands in the tables once it is read, and what is left of the line; or the refusal's number
abbrev pub read_into : {A B : Type 0} → Result A Refusal → B → List ℕ → Read B
read_into (Ok a) b rest = got b rest
read_into (Err e) b rest = bad (refusal_number e)

-- r is the end of the line l
pub record Ending (r l : List ℕ) : Type 0 where
  pub less : length r ≤ length l
  pub is : r ≡ drop (length l - length r) l

-- ---- numbers by their form

-- "A place where a number is due and none stands is refusal 2."
abbrev pub due : {A : Type 0} → Option A → List ℕ → Read A
due (Some a) rest = got a rest
due None rest = bad 2

-- a token's value stops at 1,000,000,001, which is above every range
abbrev pub capped : Read ℕ → Read ℕ
capped (got v l) = got (min 1000000001 v) l
capped (bad c) = bad c

-- the same with a minus
abbrev pub cut_signed : ℤ → ℤ
cut_signed (pos n) = pos (min 1000000001 n)
cut_signed (negsuc n) = negsuc (min 1000000000 n)

abbrev pub capped_signed : Read ℤ → Read ℤ
capped_signed (got z l) = got (cut_signed z) l
capped_signed (bad c) = bad c

-- ---- how a rule opens, pairs

abbrev pub opening_of : Opens → Opening
opening_of o = record { choice = is_choice o.head; count = o.count }

abbrev pub entry_of : ℤ → Pair → Entry
entry_of p q = record { priority = p; literal = q.literal; weight = q.weight }

-- order 2: a pair of a body
abbrev pub weighed_of : Pair → Weighed
weighed_of q = record { literal = q.literal; weight = nat_abs q.weight }
