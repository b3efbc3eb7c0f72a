-- Tests on literals and priorities, as signed numbers. Assumes nothing: these are definitions.
use Rattle.std.specs.Prelude.{Bool, true, false, not, ◌&&◌, ◌||◌, List, [], ◌∷◌, eqb, ℤ, pos, negsuc, neg_ℤ}

abbrev pub is_negative : ℤ → Bool
is_negative (pos n) = false
is_negative (negsuc n) = true

abbrev pub same_ℤ : ℤ → ℤ → Bool
same_ℤ (pos m) (pos n) = eqb m n
same_ℤ (pos m) (negsuc n) = false
same_ℤ (negsuc m) (pos n) = false
same_ℤ (negsuc m) (negsuc n) = eqb m n

-- l is one of the literals
unfoldable pub occurs_among : ℤ → List ℤ → Bool
occurs_among l [] = false
occurs_among l (k ∷ ks) = same_ℤ l k || occurs_among l ks

-- no literal is followed by its complement: each atom stands with one sign only
unfoldable pub one_signed : List ℤ → Bool
one_signed [] = true
one_signed (l ∷ ls) = not (occurs_among (neg_ℤ l) ls) && one_signed ls
