-- The search for the lowest undecided atom, and what the literal to branch on keeps to. Assumes nothing.
use mathlib.Core.Path.{◌≡◌, refl, sym, ◌∙◌}
use mathlib.Core.Bool.{Bool, true, false}
use mathlib.Core.List.{List}
use Prim.Native.Nat.{ℕ, zero, suc, ◌+◌, ◌-◌, ◌≤◌, ◌<◌, max}
use native.Mathlib.Omega.{arith}
use lib.Dec.{eqb}
use lib.IntN.{pos, neg_ℤ}
use lib.ListN.{get_or}
use borrow.Author.Tests.{eqb-true, eqb-false, eq-eqb, ne_eqb}
use Rattle.asp.specs.Sets.{set_of, pick}
use Rattle.search.specs.Branch.{DecidedBelow, LowestIs, lowest_from, lowest_of, free_literal}

module _ (v : List ℕ) (a n : ℕ) where
  low_here : a < n → get_or v a 0 ≡ 0 → lowest_from v a (n - a) ≡ a
  unfolding lowest_from
  low_here h q = let e : n - a ≡ suc (n - (a + 1)) = omega arith in rw (e, eq-eqb (get_or v a 0) 0 q)

  low_next : a < n → (get_or v a 0 ≡ 0 → ⊥) → lowest_from v a (n - a) ≡ lowest_from v (a + 1) (n - (a + 1))
  unfolding lowest_from
  low_next h q = let e : n - a ≡ suc (n - (a + 1)) = omega arith in rw (e, ne_eqb (get_or v a 0) 0 q)

  low_none : n ≤ a → lowest_from v a (n - a) ≡ a
  unfolding lowest_from
  low_none h = let e : n - a ≡ 0 = omega arith in rw e

-- the search may go on from an atom below which all are decided
low_from : (v : List ℕ) (n a k : ℕ) → a + k ≤ n → DecidedBelow v (a + k) → 1 ≤ a → lowest_from v (a + k) (n - (a + k)) ≡ lowest_from v a (n - a)
low_from v n a zero h d l = let e : a + 0 ≡ a = omega arith in rw e
low_from v n a (suc k) h d l =
    let e : a + suc k ≡ a + 1 + k = omega arith in
    rw e (low_from v n (a + 1) k (omega arith) (rw e at d) (omega arith)) ∙ sym (low_next v a n (omega arith) (d.decided a l (omega arith)))

-- the search has come to a
pub record Low (v : List ℕ) (n a : ℕ) : Type 0 where
  pub low : 1 ≤ a
  pub below : DecidedBelow v a

pub low_start : (v : List ℕ) (n start : ℕ) → DecidedBelow v start → {a : ℕ} → a ≡ max start 1 → Low v n a
low_start v n start d e = record { low = omega (arith, e); below = record { decided = λ j l h. d.decided j l (omega (arith, e)) } }

pub low_on : {v : List ℕ} {n a : ℕ} → Low v n a → a < n → (get_or v a 0 ≡ 0 → ⊥) → Low v n (a + 1)
low_on {v} {n} {a} i h q = record { low = omega arith; below = record { decided = λ j l k. go j l k (eqb j a) refl } }
  where
    go : (j : ℕ) → 1 ≤ j → j < a + 1 → (b : Bool) → eqb j a ≡ b → get_or v j 0 ≡ 0 → ⊥
    go j l k true e = let z : j ≡ a = eqb-true j a e in rw z q
    go j l k false e = let z = eqb-false j a e in i.below.decided j l (omega arith)

module _ {v : List ℕ} {n a : ℕ} (i : Low v n a) where
  below_is : a ≤ n → lowest_from v a (n - a) ≡ lowest_of v n
  below_is h =
      let e : 1 + (a - 1) ≡ a = omega (arith, i.low) in
      rw e at (low_from v n 1 (a - 1) (omega (arith, i.low)) (rw e i.below) (omega arith))

  pub low_found : a < n → get_or v a 0 ≡ 0 → LowestIs v n a
  low_found h q = record { is = λ l. sym (low_here v a n h q) ∙ below_is (omega arith); below = i.below }

  cut_below : n ≤ a → DecidedBelow v n
  cut_below h = record { decided = λ j l k. i.below.decided j l (omega arith) }

  pub low_last : n ≤ a → LowestIs v n n
  low_last h = record {
    is = λ l. let e : 1 + (n - 1) ≡ n = omega arith in sym (low_none v n n (omega arith)) ∙ rw e at (low_from v n 1 (n - 1) (omega arith) (rw e (cut_below h)) (omega arith));
    below = cut_below h;
  }

from_le : (v : List ℕ) (a k : ℕ) → lowest_from v a k ≤ a + k
unfolding lowest_from
from_le v a zero = omega arith
from_le v a (suc k) = go (eqb (get_or v a 0) 0) (from_le v (a + 1) k)
  where
    go : (b : Bool) → lowest_from v (a + 1) k ≤ a + 1 + k → pick b a (lowest_from v (a + 1) k) ≤ a + suc k
    go true h = omega arith
    go false h = omega arith

pub lowest_le : (v : List ℕ) (n : ℕ) → 1 ≤ n → lowest_of v n ≤ n
lowest_le v n h = omega (arith, from_le v 1 (n - 1))

-- ---- the literal that a free branch tries first

pub free_in : (t : List ℕ) (a : ℕ) → get_or t a 0 ≡ 1 → pos a ≡ free_literal (set_of t) a
free_in t a h = rw (eq-eqb (get_or t a 0) 1 h)

pub free_out : (t : List ℕ) (a : ℕ) → (get_or t a 0 ≡ 1 → ⊥) → neg_ℤ (pos a) ≡ free_literal (set_of t) a
free_out t a h = rw (ne_eqb (get_or t a 0) 1 h)
