-- The pairs of a weighted body: the loop that sums them, for any sum over them. Assumes nothing.
use mathlib.Core.Path.{◌≡◌, refl, ap}
use mathlib.Core.List.{List, [], ◌∷◌}
use Prim.Native.Nat.{ℕ, zero, suc, ◌+◌, ◌*◌, ◌≤◌, ◌<◌}
use native.Mathlib.Numerals.{add-one}
use native.Mathlib.Omega.{arith}
use lib.IntN.{ℤ, pos}
use lib.ListN.{length, get_or, drop, length-drop}
use lib.Seq.{drop-cons}
use Rattle.std.proofs.lemmas.List.{at_drop_all, get_or-drop}
use Rattle.asp.specs.Sets.{Set}
use Rattle.asp.specs.Program.{Weighed}
use Rattle.asp.specs.Stable.{pair_counts, counts}
use Rattle.asp.specs.Tables.{span, literals_at, pair_at, pairs_at}
use Rattle.asp.specs.Growth.{PairsFormed, weighed, pairs_of}

-- ---- pairs in two lists

-- the pair at a place
abbrev pub pair_of : List ℤ → List ℤ → ℕ → Weighed
pair_of ls ws i = weighed (get_or ls i (pos 0)) (get_or ws i (pos 0))

pub pairs_more : (ls ws : List ℤ) (i : ℕ) → i < length ls → length ws ≡ length ls → pairs_of (drop i ls) (drop i ws) ≡ pair_of ls ws i ∷ pairs_of (drop (i + 1) ls) (drop (i + 1) ws)
unfolding pairs_of
pairs_more ls ws i h e = rw (add-one, drop-cons ls i (pos 0) h, drop-cons ws i (pos 0) (omega arith))

pub pairs_none : (ls ws : List ℤ) (i : ℕ) → length ls ≤ i → pairs_of (drop i ls) (drop i ws) ≡ []
unfolding pairs_of
pairs_none ls ws i h = at_drop_all (λ (xs : List ℤ). pairs_of xs (drop i ws)) ls i h

-- those from a place on
pub pairs_after : {ls ws : List ℤ} {i : ℕ} → PairsFormed ls ws → i ≤ length ls → PairsFormed (drop i ls) (drop i ws)
pairs_after {ls} {ws} {i} w h = record {
  few = omega (arith, length-drop i ls, w.few);
  even = omega (arith, length-drop i ls, length-drop i ws, w.even);
  small = λ j l. rw (get_or-drop i ls j (pos 0)) (w.small (i + j) (omega (arith, length-drop i ls, l)));
}

-- the pairs of a pool, whose weights stand `gap` places further on, are those of two parts of it
pub pairs_parts : (pool : List ℤ) (gap i k : ℕ) → pairs_of (literals_at pool i k) (literals_at pool (i + gap) k) ≡ pairs_at pool gap i k
unfolding pairs_of span
pairs_parts pool gap i zero = refl
pairs_parts pool gap i (suc k) =
    let e : i + gap + 1 ≡ i + 1 + gap = omega arith in
    rw e (ap (λ (ps : List Weighed). pair_at pool gap i ∷ ps) (pairs_parts pool gap (i + 1) k))

-- ---- the loop over the pairs, for any sum F over them: what those from i on give is still to come

-- F is a sum over the pairs: f of each, and of those after it
pub record SumOf (F : List Weighed → ℕ) (f : Weighed → List Weighed → ℕ) : Type 0 where
  pub none : F [] ≡ 0
  pub more : (p : Weighed) (ps : List Weighed) → F (p ∷ ps) ≡ f p ps + F ps

pub record PairsLeft (F : List Weighed → ℕ) (ls ws : List ℤ) (sum i : ℕ) : Type 0 where
  pub small : sum ≤ i * 4294967296
  pub rest : sum + F (pairs_of (drop i ls) (drop i ws)) ≡ F (pairs_of ls ws)

pub pairs_start : (F : List Weighed → ℕ) (ls ws : List ℤ) → PairsLeft F ls ws 0 0
pairs_start F ls ws = record { small = omega arith; rest = omega arith }

module _ {F : List Weighed → ℕ} {f : Weighed → List Weighed → ℕ} {ls ws : List ℤ} {sum i : ℕ} (s : SumOf F f) (w : PairsFormed ls ws) (c : PairsLeft F ls ws sum i) where
  pub pairs_next : i < length ls → {v : ℕ} → v ≡ f (pair_of ls ws i) (pairs_of (drop (i + 1) ls) (drop (i + 1) ws)) → v < 4294967296 → PairsLeft F ls ws (sum + v) (i + 1)
  pairs_next h {v} e l = record {
    small = omega (arith, c.small);
    rest = let r = rw (pairs_more ls ws i h w.even, s.more (pair_of ls ws i) (pairs_of (drop (i + 1) ls) (drop (i + 1) ws)), ← e) at c.rest in omega (arith, r);
  }

  pub pairs_done : length ls ≤ i → sum ≡ F (pairs_of ls ws)
  pairs_done h = let r = rw (pairs_none ls ws i h, s.none) at c.rest in omega (arith, r)

module _ {F : List Weighed → ℕ} {ls ws : List ℤ} {sum i : ℕ} (w : PairsFormed ls ws) (c : PairsLeft F ls ws sum i) where
  pub pairs_fits : i < length ls → {v : ℕ} → v < 4294967296 → sum + v < 18446744073709551616
  pairs_fits h l = omega (arith, c.small, w.few)

-- ---- what a body counts

pub counts_sum : (M X : Set) → SumOf (counts M X) (λ p ps. pair_counts M X p)
unfolding counts
counts_sum M X = record { none = refl; more = λ p ps. refl }

module _ (M X : Set) {ls ws : List ℤ} {sum i : ℕ} (w : PairsFormed ls ws) (c : PairsLeft (counts M X) ls ws sum i) where
  pub counts_next : i < length ls → {v : ℕ} → v ≡ pair_counts M X (pair_of ls ws i) → v < 4294967296 → PairsLeft (counts M X) ls ws (sum + v) (i + 1)
  counts_next = pairs_next (counts_sum M X) w c

  pub counts_done : length ls ≤ i → sum ≡ counts M X (pairs_of ls ws)
  counts_done = pairs_done (counts_sum M X) w c
