-- The loops over the pairs of a weighted body, under the values of a trail. Assumes nothing.
use mathlib.Core.Path.{◌≡◌, refl}
use mathlib.Core.Bool.{Bool, true, false}
use mathlib.Core.List.{List}
use Prim.Native.Nat.{ℕ, ◌+◌, ◌-◌, ◌≤◌, ◌<◌}
use lib.IntN.{ℤ, pos}
use lib.ListN.{length, get_or, drop}
use borrow.Author.Tests.{le-leb, lt-leb}
use Rattle.asp.specs.Sets.{pick}
use Rattle.asp.specs.Literal.{same_ℤ}
use Rattle.asp.specs.Program.{Weighed}
use Rattle.asp.specs.Growth.{PairsFormed, pairs_of}
use Rattle.asp.proofs.Pairs.{SumOf, pair_of, pairs_more, pairs_none}
use Rattle.search.specs.declared.scan.Rest.{Rest}
use Rattle.search.specs.declared.scan.Rest.TheVariants.{All, One, Off}
use Rattle.search.specs.Weigh.{total, owed_pair, owed_at, pair_met, met_at, least_at, breaks, breaker_of, body_rest}

-- ---- the sums

pub met_sum : (v : List ℕ) → SumOf (met_at v) (λ p ps. pair_met v p)
unfolding met_at
met_sum v = record { none = refl; more = λ p ps. refl }

pub total_sum : (l : ℤ) → SumOf (total l) (λ p ps. pick (same_ℤ l p.literal) p.weight 0)
unfolding total
total_sum l = record { none = refl; more = λ p ps. refl }

pub owed_sum : (v : List ℕ) → SumOf (owed_at v) (owed_pair v)
unfolding owed_at
owed_sum v = record { none = refl; more = λ p ps. refl }

-- ---- the literal to note

pub record Breaking (mixed : Bool) (v : List ℕ) (lack : ℕ) (ls ws : List ℤ) (i : ℕ) : Type 0 where
  pub rest : breaker_of mixed v lack (pairs_of ls ws) (pairs_of (drop i ls) (drop i ws)) ≡ breaker_of mixed v lack (pairs_of ls ws) (pairs_of ls ws)

pub breaking_start : (mixed : Bool) (v : List ℕ) (lack : ℕ) (ls ws : List ℤ) → Breaking mixed v lack ls ws 0
breaking_start mixed v lack ls ws = record { rest = refl }

module _ {mixed : Bool} {v : List ℕ} {lack : ℕ} {ls ws : List ℤ} {i : ℕ} (w : PairsFormed ls ws) (c : Breaking mixed v lack ls ws i) where
  pub breaking_one : i < length ls → {b : Bool} → b ≡ breaks mixed v lack (pairs_of ls ws) (pair_of ls ws i) → b ≡ true → One (get_or ls i (pos 0)) ≡ breaker_of mixed v lack (pairs_of ls ws) (pairs_of ls ws)
  unfolding breaker_of
  breaking_one h e q = rw (pairs_more ls ws i h w.even, ← e, q) at c.rest

  pub breaking_next : i < length ls → {b : Bool} → b ≡ breaks mixed v lack (pairs_of ls ws) (pair_of ls ws i) → b ≡ false → Breaking mixed v lack ls ws (i + 1)
  unfolding breaker_of
  breaking_next h e q = record { rest = rw (pairs_more ls ws i h w.even, ← e, q) at c.rest }

  pub breaking_done : length ls ≤ i → Off ≡ breaker_of mixed v lack (pairs_of ls ws) (pairs_of ls ws)
  unfolding breaker_of
  breaking_done h = rw (pairs_none ls ws i h) at c.rest

-- ---- the whole body

module _ (mixed : Bool) (v : List ℕ) (ps : List Weighed) {b s : ℕ} (es : s ≡ least_at mixed v ps) where
  pub body_reached : b ≤ s → All ≡ body_rest mixed v b ps
  unfolding body_rest
  body_reached h = rw (← es, le-leb b s h)

  pub body_lacks : s < b → {r : Rest} → r ≡ breaker_of mixed v (b - s) ps ps → r ≡ body_rest mixed v b ps
  unfolding body_rest
  body_lacks h e = rw (← es, lt-leb b s h) e
