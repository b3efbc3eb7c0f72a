-- The loop that compares two sets atom by atom. Assumes nothing.
use mathlib.Core.Path.{◌≡◌, refl, sym, ◌∙◌}
use mathlib.Core.Bool.{Bool, true, false, ◌&&◌, beq}
use mathlib.Core.Logic.{◌⊎◌, inl, inr}
use Prim.Native.Nat.{ℕ, zero, suc, ◌+◌, ◌≤◌, ◌<◌}
use native.Mathlib.Nat.{eq-or-lt_of_le}
use native.Mathlib.Omega.{arith}
use Rattle.asp.specs.Sets.{Set, same}

-- the atoms from 1 to a, without a, agree
pub record Alike (M X : Set) (a : ℕ) : Type 0 where
  pub alike : (k : ℕ) → 1 ≤ k → k < a → beq (M k) (X k) ≡ true

pub alike_start : (M X : Set) → Alike M X 1
alike_start M X = record { alike = λ k h l. absurd (omega arith) }

pub alike_next : {M X : Set} {a : ℕ} → Alike M X a → {b : Bool} → b ≡ beq (M a) (X a) → b ≡ true → Alike M X (a + 1)
alike_next {M} {X} {a} s e q = record { alike = λ k h l. go k h (split k l) }
  where
    go : (k : ℕ) → 1 ≤ k → (k ≡ a) ⊎ (k < a) → beq (M k) (X k) ≡ true
    go k h (inl r) = rw r (sym e ∙ q)
    go k h (inr r) = s.alike k h r

    split : (k : ℕ) → k < a + 1 → (k ≡ a) ⊎ (k < a)
    split k l = let g : k ≤ a = omega arith in eq-or-lt_of_le g

pub alike_same : (n : ℕ) {M X : Set} {a : ℕ} → Alike M X a → n < a → true ≡ same n M X
unfolding same
alike_same zero s h = refl
alike_same (suc n) s h = rw (s.alike (suc n) (omega arith) h) (alike_same n s (omega arith))

pub other_same : (M X : Set) (n : ℕ) {a : ℕ} → 1 ≤ a → a ≤ n → {b : Bool} → b ≡ beq (M a) (X a) → b ≡ false → false ≡ same n M X
unfolding same
other_same M X zero h l e q = absurd (omega arith)
other_same M X (suc n) {a} h l e q = go (eq-or-lt_of_le l) (λ r. other_same M X n h (omega arith) e q)
  where
    and_false : (x : Bool) → false ≡ (x && false)
    and_false true = refl
    and_false false = refl

    go : (a ≡ suc n) ⊎ (a < suc n) → (a < suc n → false ≡ same n M X) → false ≡ (beq (M (suc n)) (X (suc n)) && same n M X)
    go (inl r) f = rw (← r, ← e, q)
    go (inr r) f = rw (← f r) (and_false (beq (M (suc n)) (X (suc n))))
