-- A number that a user writes: decimal, with no leading zero, from 0 to 4,294,967,295. Assumes nothing: these are definitions.
use Rattle.std.specs.Prelude.{Bool, true, ◌&&◌, List, [], ◌∷◌, ℕ, ◌+◌, ◌-◌, ◌*◌, eqb, ltb, length, Option, Some, None}
use Rattle.asp.specs.Sets.{pick}
use Rattle.aspif_fields.specs.Fields.{next, is_digit}

unfoldable pub all_digits : List ℕ → Bool
all_digits [] = true
all_digits (b ∷ s) = is_digit b && all_digits s

-- the value of the digits s after those of value v
unfoldable pub value_from : ℕ → List ℕ → ℕ
value_from v [] = v
value_from v (b ∷ s) = value_from (v * 10 + (b - 48)) s

abbrev pub value_of : List ℕ → ℕ
value_of s = value_from 0 s

abbrev pub in_range : ℕ → Option ℕ
in_range v = pick (ltb 4294967295 v) None (Some v)

-- of digits alone
abbrev pub digits_of : List ℕ → Option ℕ
digits_of s = pick (all_digits s) (in_range (value_of s)) None

-- digits, one at least, and no 0 before others
abbrev pub number_of : List ℕ → Option ℕ
number_of s =
    pick (eqb (length s) 0) None
    (pick (all_digits s) (pick (eqb (length s) 1) (in_range (value_of s)) (pick (eqb (next s) 48) None (in_range (value_of s)))) None)
