-- What a code's `-l`, `l as usize`, `l < 0`, `a + b` and `a == b` come to, for signed values. In a goal a signed value stands as `to_z w (of_z w z)`, its bits read
-- back.
-- Assumes nothing.
use mathlib.Core.Path.{◌≡◌, refl, sym, ap, ap₂, ◌∙◌}
use mathlib.Core.Bool.{Bool, true, false, cond}
use Prim.Native.Nat.{ℕ, zero, suc, ◌+◌, ◌-◌, ◌≤◌}
use native.Mathlib.Omega.{arith}
use lib.Dec.{T, eqb, ltb}
use lib.IntN.{ℤ, pos, negsuc, neg_ℤ, nat_abs, sub_ℕ, ◌+ℤ◌, ◌-ℤ◌, +ℤ_idl}
use lib.Signed.{lt_z, non_neg}
use mir.Syntax.{Width, w32, w64}
use mir.Val.{SFits, Fits, to_z, of_z}
use mir.Facts.{to_z-of_z}
use borrow.Author.Tests.{eq-eqb, eqb-true, eqb-false, ltb-true, le-ltb}
use Rattle.asp.specs.Literal.{same_ℤ, is_negative}

pub clash : false ≡ true → ⊥
clash q = let z : ◌≡◌ {A = ℕ} 0 1 = cc in omega arith

pub small_fits : (z : ℤ) → nat_abs z ≤ 1024 → SFits w32 z
small_fits (pos n) h = record { sfits = omega arith }
small_fits (negsuc n) h = record { sfits = omega arith }

-- figures of up to 2 * 10^18 fit in 64 bits
pub figure_fits : (z : ℤ) → nat_abs z ≤ 2000000000000000000 → SFits w64 z
figure_fits (pos n) h = record { sfits = omega arith }
figure_fits (negsuc n) h = record { sfits = omega arith }

-- an i32 is at most 2^31, with either sign
pub weight_size : (z : ℤ) → SFits w32 z → nat_abs z ≤ 2147483648
weight_size (pos n) f = omega (arith, f.sfits)
weight_size (negsuc n) f = omega (arith, f.sfits)

pub abs_neg : (z : ℤ) → nat_abs (neg_ℤ z) ≡ nat_abs z
abs_neg (pos zero) = refl
abs_neg (pos (suc n)) = refl
abs_neg (negsuc n) = refl

-- the code's `-l`
pub negated : {w : Width} (z : ℤ) → SFits w z → pos 0 -ℤ to_z w (of_z w z) ≡ neg_ℤ z
negated z f = rw (to_z-of_z f) (+ℤ_idl (neg_ℤ z))

pub negated_fits : {w : Width} (z : ℤ) → SFits w z → SFits w (neg_ℤ z) → SFits w (pos 0 -ℤ to_z w (of_z w z))
negated_fits z f g = rw (negated z f) g

pub negated_back : {w : Width} (z : ℤ) → SFits w z → SFits w (neg_ℤ z) → to_z w (of_z w (pos 0 -ℤ to_z w (of_z w z))) ≡ neg_ℤ z
negated_back z f g = to_z-of_z (negated_fits z f g) ∙ negated z f

pub small_neg : (z : ℤ) → nat_abs z ≤ 1024 → SFits w32 (neg_ℤ z)
small_neg z h = small_fits (neg_ℤ z) (rw abs_neg h)

-- what a cast to an unsigned number asks
pub cast : {w : Width} (z : ℤ) → Fits w (nat_abs z) → lt_z z (pos 0) ≡ false → T (non_neg z) × Fits w (nat_abs z)
cast (pos n) h q = (tt, h)
cast (negsuc n) h q = absurd (clash (sym q))

pub cast_negated : {w : Width} (z : ℤ) → Fits w (nat_abs z) → lt_z z (pos 0) ≡ true → T (non_neg (neg_ℤ z)) × Fits w (nat_abs (neg_ℤ z))
cast_negated (pos n) h q = absurd (omega (arith, ltb-true n 0 q))
cast_negated (negsuc n) h q = (tt, h)

pub is_neg : (z : ℤ) → lt_z z (pos 0) ≡ is_negative z
is_neg (pos n) = le-ltb n 0 (omega arith)
is_neg (negsuc n) = refl

-- `a == b` compares the bits
pub same_refl : (z : ℤ) → same_ℤ z z ≡ true
same_refl (pos n) = eq-eqb n n refl
same_refl (negsuc n) = eq-eqb n n refl

pub same_true : (a b : ℤ) → same_ℤ a b ≡ true → a ≡ b
same_true (pos m) (pos n) q = ap pos (eqb-true m n q)
same_true (pos m) (negsuc n) q = absurd (clash q)
same_true (negsuc m) (pos n) q = absurd (clash q)
same_true (negsuc m) (negsuc n) q = ap negsuc (eqb-true m n q)

pub compared : {w : Width} (a b : ℤ) → SFits w a → SFits w b → eqb (of_z w a) (of_z w b) ≡ same_ℤ a b
compared {w} a b f g = go (eqb (of_z w a) (of_z w b)) (same_ℤ a b) refl refl
  where
    go : (x y : Bool) → eqb (of_z w a) (of_z w b) ≡ x → same_ℤ a b ≡ y → x ≡ y
    go true true p q = refl
    go false false p q = refl
    go true false p q =
        let e : a ≡ b = sym (to_z-of_z f) ∙ ap (to_z w) (eqb-true (of_z w a) (of_z w b) p) ∙ to_z-of_z g in
        sym (same_refl b) ∙ ap (λ (z : ℤ). same_ℤ z b) (sym e) ∙ q
    go false true p q = absurd (eqb-false (of_z w a) (of_z w b) p (ap (of_z w) (same_true a b q)))

-- ---- sums, of figures up to 10^18

-- a difference is at most the greater of the two
sub_size : (a b : ℕ) → nat_abs (sub_ℕ a b) ≤ a + b
sub_size a b = go (ltb a b) refl
  where
    go : (x : Bool) → ltb a b ≡ x → nat_abs (cond x (negsuc (b - suc a)) (pos (a - b))) ≤ a + b
    go true q = omega (arith, ltb-true a b q)
    go false q = omega arith

pub sum_size : (a b : ℤ) → nat_abs (a +ℤ b) ≤ nat_abs a + nat_abs b
sum_size (pos a) (pos b) = omega arith
sum_size (pos a) (negsuc b) = sub_size a (suc b)
sum_size (negsuc a) (pos b) = omega (arith, sub_size b (suc a))
sum_size (negsuc a) (negsuc b) = omega arith

pub added : (a b : ℤ) → SFits w64 a → SFits w64 b → nat_abs a ≤ 1000000000000000000 → nat_abs b ≤ 1000000000000000000 → SFits w64 (to_z w64 (of_z w64 a) +ℤ to_z w64 (of_z w64 b))
added a b f g h k = rw (to_z-of_z f, to_z-of_z g) (figure_fits (a +ℤ b) (omega (arith, sum_size a b)))

pub added_back : (a b : ℤ) → SFits w64 a → SFits w64 b → nat_abs a ≤ 1000000000000000000 → nat_abs b ≤ 1000000000000000000
    → to_z w64 (of_z w64 (to_z w64 (of_z w64 a) +ℤ to_z w64 (of_z w64 b))) ≡ a +ℤ b
added_back a b f g h k = to_z-of_z (added a b f g h k) ∙ ap₂ (λ (x y : ℤ). x +ℤ y) (to_z-of_z f) (to_z-of_z g)
