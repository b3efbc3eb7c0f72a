-- When a literal holds, by its sign. Assumes nothing.
use mathlib.Core.Path.{◌≡◌, refl, sym}
use mathlib.Core.Bool.{Bool, true, false, not}
use Prim.Native.Nat.{zero, suc, ◌≤◌}
use native.Mathlib.Omega.{arith}
use lib.IntN.{ℤ, pos, negsuc, neg_ℤ, nat_abs}
use Rattle.asp.specs.Literal.{is_negative}
use Rattle.asp.specs.Sets.{Set}
use Rattle.asp.specs.Stable.{holds_in, holds}
use Rattle.asp.proofs.Signed.{clash}

pub holds_negative : (M X : Set) (l : ℤ) → is_negative l ≡ true → holds_in M X l ≡ not (M (nat_abs l))
holds_negative M X (pos a) q = absurd (clash q)
holds_negative M X (negsuc a) q = refl

pub holds_positive : (M X : Set) (l : ℤ) → is_negative l ≡ false → holds_in M X l ≡ X (nat_abs l)
holds_positive M X (pos a) q = refl
holds_positive M X (negsuc a) q = absurd (clash (sym q))

not_not : (b : Bool) → not (not b) ≡ b
not_not true = refl
not_not false = refl

-- the complement holds where the literal does not; a literal has an atom, so it is not 0
pub holds_complement : (M : Set) (l : ℤ) → 1 ≤ nat_abs l → holds M (neg_ℤ l) ≡ not (holds M l)
holds_complement M (pos zero) h = absurd (omega arith)
holds_complement M (pos (suc a)) h = refl
holds_complement M (negsuc a) h = sym (not_not (M (suc a)))
