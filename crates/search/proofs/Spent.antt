-- What a trail has cost: each step of the machine makes it dearer, and no trail of at most n literals costs more than
-- 2 ^ (n + 1) - 2. Assumes nothing.
use mathlib.Core.Path.{◌≡◌, ap}
use mathlib.Core.List.{[], ◌∷◌}
use mathlib.Core.Option.{Option, none, some}
use Prim.Native.Nat.{ℕ, suc, ◌+◌, ◌-◌, ◌^◌, ◌≤◌, ◌<◌}
use native.Mathlib.Nat.{suc-sub-suc, sub-zero}
use native.Mathlib.Omega.{arith}
use lib.ListN.{length}
use lib.Pow.{pow_pos}
use Rattle.search.specs.Trail.{Marked, decision, flipped, Trail, flip}

-- a decision costs 1, and a flipped literal at position i costs 2 ^ (n - i)
abbrev pub weight : ℕ → Marked → ℕ → ℕ
weight n (decision l) i = 1
weight n (flipped l) i = 2 ^ (n - i)

abbrev pub spent : ℕ → Trail → ℕ
spent n [] = 0
spent n (s ∷ p) = weight n s (length p) + spent n p

-- the power halves from one position to the next
pub halve : (n k : ℕ) → k ≤ n → 2 ^ (suc n - k) ≡ 2 ^ (n - k) + 2 ^ (n - k)
halve n k h =
    let e : suc n - k ≡ suc (n - k) = omega arith in
    rw e (omega arith)

pub weight_le : (n i : ℕ) (s : Marked) → weight n s i ≤ 2 ^ (n - i)
weight_le n i (decision l) = omega (arith, pow_pos (n - i))
weight_le n i (flipped l) = omega arith

-- spent n p ≤ 2 ^ (n + 1) - 2 ^ (n + 1 - length p), said with no difference
pub spent_room : (n : ℕ) (p : Trail) → length p ≤ n → spent n p + 2 ^ (suc n - length p) ≤ 2 ^ suc n
spent_room n [] h = rw sub-zero (omega arith)
spent_room n (s ∷ p) h =
    rw suc-sub-suc
    (omega (arith, spent_room n p (omega arith), weight_le n (length p) s, halve n (length p) (omega arith)))

pub spent_le : (n : ℕ) (p : Trail) → length p ≤ n → spent n p + 2 ≤ 2 ^ suc n
spent_le n p h = omega (arith, spent_room n p h, halve n (length p) h, pow_pos (n - length p))

-- the trail after a cut, where there is one, costs more than b
abbrev pub Dearer : ℕ → ℕ → Option Trail → Type 0
Dearer n b none = Unit {0}
Dearer n b (some q) = b < spent n q

-- k is what the literals cost that stood above p and are cut off
flip_above : (n k b : ℕ) (p : Trail) → length p ≤ n → k + 2 ≤ 2 ^ (suc n - length p) → b ≡ spent n p + k → Dearer n b (flip p)
flip_above n k b [] h room e = tt
flip_above n k b (decision l ∷ p) h room e =
    omega (arith, ap (λ (x : ℕ). 2 ^ x) (suc-sub-suc n (length p)))
flip_above n k b (flipped l ∷ p) h room e =
    flip_above n (k + 2 ^ (n - length p)) b p (omega arith)
    (omega (arith, halve n (length p) (omega arith), ap (λ (x : ℕ). 2 ^ x) (suc-sub-suc n (length p))))
    (omega arith)

pub flip_dearer : (n : ℕ) (p : Trail) → length p ≤ n → Dearer n (spent n p) (flip p)
flip_dearer n p h = flip_above n 0 (spent n p) p h (omega (arith, halve n (length p) h, pow_pos (n - length p))) (omega arith)
