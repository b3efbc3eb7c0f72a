-- A monotone step on sets of the atoms 1 to n, iterated from the empty set, comes to rest within n + 1 rounds, at the least closed set.
-- Over any step: what a program's rules add is one. Assumes nothing.
use mathlib.Core.Path.{◌≡◌}
use mathlib.Core.Bool.{Bool, true, false}
use mathlib.Core.Logic.{◌⊎◌, inl, inr}
use Prim.Native.Nat.{ℕ, zero, suc, ◌+◌, ◌≤◌, ◌<◌}
use native.Mathlib.Nat.{eq-or-lt_of_le}
use native.Mathlib.Omega.{arith}
use lib.Dec.{T}
use Rattle.asp.specs.Sets.{Set, Sub, In, Only, iterate}

-- ---- subsets, and subsets as far as the atoms 1 to n go

pub sub_refl : {X : Set} → Sub X X
sub_refl = record { sub = λ a t. t }

pub sub_trans : {X Y Z : Set} → Sub X Y → Sub Y Z → Sub X Z
sub_trans h k = record { sub = λ a t. k.sub a (h.sub a t) }

pub record Upto (n : ℕ) (X Y : Set) : Type 0 where
  pub upto : (a : ℕ) → In n a → T (X a) → T (Y a)

pub upto_sub : {n : ℕ} {X Y : Set} → Sub X Y → Upto n X Y
upto_sub h = record { upto = λ a i t. h.sub a t }

pub sub_upto : {n : ℕ} {X Y : Set} → Only n X → Upto n X Y → Sub X Y
sub_upto o h = record { sub = λ a t. h.upto a (o.only a t) t }

upto_zero : {X Y : Set} → Upto 0 X Y
upto_zero = record { upto = λ a i t. absurd (omega arith) }

upto_pred : {n : ℕ} {X Y : Set} → Upto (suc n) X Y → Upto n X Y
upto_pred h = record { upto = λ a i t. h.upto a (omega arith) t }

pub upto_suc : {n : ℕ} {X Y : Set} → Upto n X Y → (T (X (suc n)) → T (Y (suc n))) → Upto (suc n) X Y
upto_suc {n} {X} {Y} h l = record { upto = λ a i t. go a i t (eq-or-lt_of_le i.1) }
  where
    go : (a : ℕ) → In (suc n) a → T (X a) → (a ≡ suc n) ⊎ (a < suc n) → T (Y a)
    go a i t (inl e) = rw e (l (rw e at t))
    go a i t (inr k) = h.upto a (omega arith) t

-- ---- the number of the atoms 1 to n in a set

abbrev pub bit : Bool → ℕ
bit true = 1
bit false = 0

abbrev pub size : ℕ → Set → ℕ
size zero X = 0
size (suc n) X = bit (X (suc n)) + size n X

bit_le_one : (b : Bool) → bit b ≤ 1
bit_le_one true = omega arith
bit_le_one false = omega arith

bit_le : (x y : Bool) → (T x → T y) → bit x ≤ bit y
bit_le true true f = omega arith
bit_le true false f = absurd (f tt)
bit_le false y f = omega arith

bit_or : (x y : Bool) → (T y → T x) ⊎ (bit x < bit y)
bit_or true y = inl (λ t. tt)
bit_or false true = inr (omega arith)
bit_or false false = inl (λ t. t)

pub size_le : (n : ℕ) (X : Set) → size n X ≤ n
size_le zero X = omega arith
size_le (suc n) X = omega (arith, bit_le_one (X (suc n)), size_le n X)

pub size_mono : (n : ℕ) (X Y : Set) → Upto n X Y → size n X ≤ size n Y
size_mono zero X Y h = omega arith
size_mono (suc n) X Y h = omega (arith, bit_le (X (suc n)) (Y (suc n)) (h.upto (suc n) (omega arith)), size_mono n X Y (upto_pred h))

-- a larger set is the same set or has more atoms
pub grows : (n : ℕ) (X Y : Set) → Upto n X Y → Upto n Y X ⊎ (size n X < size n Y)
grows zero X Y h = inl upto_zero
grows (suc n) X Y h = go (bit_or (X (suc n)) (Y (suc n))) (grows n X Y (upto_pred h))
  where
    bits : bit (X (suc n)) ≤ bit (Y (suc n))
    bits = bit_le (X (suc n)) (Y (suc n)) (h.upto (suc n) (omega arith))

    sizes : size n X ≤ size n Y
    sizes = size_mono n X Y (upto_pred h)

    go : (T (Y (suc n)) → T (X (suc n))) ⊎ (bit (X (suc n)) < bit (Y (suc n))) → Upto n Y X ⊎ (size n X < size n Y)
        → Upto (suc n) Y X ⊎ (size (suc n) X < size (suc n) Y)
    go (inl f) (inl s) = inl (upto_suc s f)
    go (inl f) (inr l) = inr (omega (arith, bits))
    go (inr b) (inl s) = inr (omega (arith, sizes))
    go (inr b) (inr l) = inr (omega arith)

-- an atom of 1 to n that is in Y alone makes Y the larger
pub size_more : (n : ℕ) (X Y : Set) → Upto n X Y → (a : ℕ) → In n a → T (Y a) → (T (X a) → ⊥) → size n X < size n Y
size_more n X Y h a i t f = go (grows n X Y h)
  where
    go : Upto n Y X ⊎ (size n X < size n Y) → size n X < size n Y
    go (inl s) = absurd (f (s.upto a i t))
    go (inr l) = l

-- ---- the iteration

module _ (F : Set → Set) (mono : (X Y : Set) → Sub X Y → Sub (F X) (F Y)) where
  pub rising : (k : ℕ) → Sub (iterate F k) (iterate F (suc k))
  unfolding iterate
  rising zero = record { sub = λ a t. absurd t }
  rising (suc k) = mono _ _ (rising k)

  -- it is in every set that the step keeps
  pub inside : (Y : Set) → Sub (F Y) Y → (k : ℕ) → Sub (iterate F k) Y
  unfolding iterate
  inside Y h zero = record { sub = λ a t. absurd t }
  inside Y h (suc k) = sub_trans (mono _ _ (inside Y h k)) h

  module _ (n : ℕ) (bounded : (X : Set) → Only n (F X)) where
    pub iterate_only : (k : ℕ) → Only n (iterate F k)
    unfolding iterate
    iterate_only zero = record { only = λ a t. absurd t }
    iterate_only (suc k) = bounded (iterate F k)

    -- each round adds an atom, or none adds any more
    at_rest_or : (k : ℕ) → Sub (F (iterate F k)) (iterate F k) ⊎ (k ≤ size n (iterate F k))
    unfolding iterate
    at_rest_or zero = inr (omega arith)
    at_rest_or (suc k) = go (at_rest_or k) (grows n (iterate F k) (iterate F (suc k)) (upto_sub (rising k)))
      where
        go : Sub (F (iterate F k)) (iterate F k) ⊎ (k ≤ size n (iterate F k))
            → Upto n (iterate F (suc k)) (iterate F k) ⊎ (size n (iterate F k) < size n (iterate F (suc k)))
            → Sub (F (iterate F (suc k))) (iterate F (suc k)) ⊎ (suc k ≤ size n (iterate F (suc k)))
        go (inl r) g = inl (mono _ _ r)
        go (inr c) (inl r) = inl (mono _ _ (sub_upto (iterate_only (suc k)) r))
        go (inr c) (inr l) = inr (omega arith)

    pub at_rest : Sub (F (iterate F (suc n))) (iterate F (suc n))
    at_rest = go (at_rest_or (suc n))
      where
        go : Sub (F (iterate F (suc n))) (iterate F (suc n)) ⊎ (suc n ≤ size n (iterate F (suc n)))
            → Sub (F (iterate F (suc n))) (iterate F (suc n))
        go (inl r) = r
        go (inr c) = absurd (omega (arith, size_le n (iterate F (suc n))))
