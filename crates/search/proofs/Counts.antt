-- How many of the atoms 1 to n are in a set, and on a trail. Assumes nothing.
use mathlib.Core.Path.{◌≡◌, refl, sym}
use mathlib.Core.Bool.{Bool, true, false, ◌||◌}
use mathlib.Core.List.{[], ◌∷◌}
use mathlib.Core.Logic.{◌⊎◌, inl, inr, ⊎_elim}
use Prim.Native.Nat.{ℕ, zero, suc, ◌+◌, ◌≤◌, ◌<◌}
use native.Mathlib.Nat.{eq-or-lt_of_le}
use native.Mathlib.Omega.{arith}
use lib.Dec.{T, eqb}
use lib.IntN.{nat_abs}
use lib.ListN.{length}
use mir.Facts.{or_yes, eqb_yes, yes_eqb}
use borrow.Author.Tests.{ne_eqb, eqb-true, eqb-false}
use Rattle.asp.specs.Sets.{Set, In}
use Rattle.search.specs.Trail.{Trail, literal_of, on, NotOn, FormedTrail}

abbrev bit : Bool → ℕ
bit true = 1
bit false = 0

-- how many of the atoms 1 to n are in X
abbrev count : ℕ → Set → ℕ
count zero X = 0
count (suc n) X = bit (X (suc n)) + count n X

bit_le : (b : Bool) → bit b ≤ 1
bit_le true = omega arith
bit_le false = omega arith

bit_true : (b : Bool) → T b → bit b ≡ 1
bit_true true t = refl
bit_true false t = absurd t

count_le : (n : ℕ) (X : Set) → count n X ≤ n
count_le zero X = omega arith
count_le (suc n) X = omega (arith, bit_le (X (suc n)), count_le n X)

count_all : (n : ℕ) (X : Set) → ((a : ℕ) → In n a → T (X a)) → n ≤ count n X
count_all zero X h = omega arith
count_all (suc n) X h = omega (arith, bit_true (X (suc n)) (h (suc n) (omega arith)), count_all n X (λ a i. h a (omega arith)))

-- ---- one atom more

abbrev more : ℕ → Set → Set
more x X a = eqb a x || X a

count_above : (n x : ℕ) (X : Set) → n < x → count n (more x X) ≡ count n X
count_above zero x X h = refl
count_above (suc n) x X h = rw (ne_eqb (suc n) x (λ e. omega arith)) (omega (arith, count_above n x X (omega arith)))

-- it counts at most one
count_more : (n x : ℕ) (X : Set) → count n (more x X) ≤ suc (count n X)
count_more zero x X = omega arith
count_more (suc n) x X = go (eqb (suc n) x) refl (count_more n x X)
  where
    go : (b : Bool) → eqb (suc n) x ≡ b → count n (more x X) ≤ suc (count n X) → bit (b || X (suc n)) + count n (more x X) ≤ suc (bit (X (suc n)) + count n X)
    go true e h = let z : suc n ≡ x = eqb-true (suc n) x e in omega (arith, count_above n x X (omega arith))
    go false e h = omega arith

-- and one if it is new
count_new : (n x : ℕ) (X : Set) → In n x → (¬ T (X x)) → suc (count n X) ≤ count n (more x X)
count_new zero x X i h = absurd (omega arith)
count_new (suc n) x X i h = go (eqb (suc n) x) refl (λ k. count_new n x X k h)
  where
    off : (b : Bool) → (¬ T b) → bit b ≡ 0
    off true k = absurd (k tt)
    off false k = refl

    below : eqb (suc n) x ≡ false → (x ≡ suc n) ⊎ (x < suc n) → x ≤ n
    below e (inl q) = absurd (eqb-false (suc n) x e (sym q))
    below e (inr q) = omega arith

    go : (b : Bool) → eqb (suc n) x ≡ b → (In n x → suc (count n X) ≤ count n (more x X)) → suc (bit (X (suc n)) + count n X) ≤ bit (b || X (suc n)) + count n (more x X)
    go true e r =
        let z : suc n ≡ x = eqb-true (suc n) x e in
        omega (arith, count_above n x X (omega arith), off (X (suc n)) (rw z h))
    go false e r = omega (arith, r (i.0, below e (eq-or-lt_of_le i.1)))

-- ---- a trail

pub yes_or_left : (x y : Bool) → T x → T (x || y)
yes_or_left true y t = tt
yes_or_left false y t = absurd t

pub yes_or_right : (x y : Bool) → T y → T (x || y)
yes_or_right true y t = tt
yes_or_right false y t = t

pub not_on : (t : Trail) (a : ℕ) → (¬ T (on t a)) → NotOn a t
not_on [] a h = tt
not_on (s ∷ t) a h = (
  λ e. h (yes_or_left (eqb a (nat_abs (literal_of s))) (on t a) (yes_eqb e)),
  not_on t a (λ x. h (yes_or_right (eqb a (nat_abs (literal_of s))) (on t a) x)),
)

pub on_not : (t : Trail) (a : ℕ) → NotOn a t → ¬ T (on t a)
on_not [] a h x = x
on_not (s ∷ t) a h x = ⊎_elim (λ e. h.0 (eqb_yes e)) (on_not t a h.1) (or_yes (eqb a (nat_abs (literal_of s))) (on t a) x)

on_le : (n : ℕ) (t : Trail) → count n (on t) ≤ length t
on_le n [] = none_on n
  where
    none_on : (n : ℕ) → count n (on []) ≤ 0
    none_on zero = omega arith
    none_on (suc n) = omega (arith, none_on n)
on_le n (s ∷ t) = omega (arith, count_more n (nat_abs (literal_of s)) (on t), on_le n t)

on_count : (n : ℕ) (t : Trail) → FormedTrail n t → length t ≤ count n (on t)
on_count n [] w = omega arith
on_count n (s ∷ t) w = omega (arith, on_count n t w.2, count_new n (nat_abs (literal_of s)) (on t) w.0 (on_not t (nat_abs (literal_of s)) w.1))

-- a well-formed trail has at most n literals, and fewer if an atom is not on it
pub short : (n : ℕ) (t : Trail) → FormedTrail n t → length t ≤ n
short n t w = omega (arith, on_count n t w, count_le n (on t))

pub off_short : (n : ℕ) (t : Trail) (a : ℕ) → FormedTrail n t → In n a → (¬ T (on t a)) → length t < n
off_short n t a w i h = omega (arith, on_count n t w, count_new n a (on t) i h, count_le n (more a (on t)))

-- one with fewer than n literals does not hold all n atoms
pub short_off : (n : ℕ) (t : Trail) → length t < n → ((a : ℕ) → In n a → T (on t a)) → ⊥
short_off n t h f = omega (arith, count_all n (on t) f, on_le n t)

-- and one with n does
pub all_on : (n : ℕ) (t : Trail) → FormedTrail n t → n ≤ length t → (a : ℕ) → In n a → T (on t a)
all_on n t w h a i = go (on t a) refl
  where
    go : (b : Bool) → on t a ≡ b → T b
    go true e = tt
    go false e = absurd (omega (arith, off_short n t a w i (λ x. rw e at x)))
