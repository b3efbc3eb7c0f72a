-- The stratum: the greatest remaining weight, and the greatest below a number; the places that reach it. Assumes nothing.
use mathlib.Core.Path.{◌≡◌, refl, sym, subst}
use mathlib.Core.Bool.{Bool, true, false}
use mathlib.Core.List.{List, [], ◌∷◌}
use Prim.Native.Nat.{ℕ, zero, suc, ◌+◌, ◌-◌, ◌≤◌, ◌<◌, max, zero-le, suc-le-suc}
use native.Mathlib.Nat.{not-suc-le-zero, le_of_suc-le-suc}
use native.Mathlib.Omega.{arith}
use lib.Dec.{ltb, leb, ltb→lt, nltb→le}
use borrow.Author.Tests.{leb-true, leb-false, lt-ltb, le-leb, lt-leb}
use lib.ListN.{length, get_or}
use Rattle.asp.specs.Sets.{pick}
use Rattle.asp.specs.Program.{All, Out, Distinct}
use Rattle.cores.specs.Sums.{wsum, Holds}
use Rattle.cores.specs.Level.{greatest, under, assumed_from}
use Rattle.cores.proofs.Judgements.{all_map}

pub greatest_le : (ws : List ℕ) → greatest ws ≤ wsum (λ p. 1) ws
unfolding greatest
greatest_le [] = zero-le
greatest_le (w ∷ ws) = omega (arith, greatest_le ws)

pub greatest_none : (ws : List ℕ) → greatest ws ≡ 0 → wsum (λ p. 1) ws ≡ 0
unfolding greatest
greatest_none [] e = refl
greatest_none (w ∷ ws) e = omega (arith, greatest_none ws (omega arith))

-- the test's value and what it means at once
pub data Order (m n : ℕ) : Bool → Type 0 where
  below : m < n → Order m n true
  above : n ≤ m → Order m n false

pub order : (m n : ℕ) → Order m n (ltb m n)
order m n = go (ltb m n) refl
  where
    go : (b : Bool) → ltb m n ≡ b → Order m n b
    go true e = below (ltb→lt m n (rw e tt))
    go false e = above (nltb→le m n (rw e tt))

-- THE STRATUM FALLS
pub under_lt : (s : ℕ) (ws : List ℕ) → 1 ≤ s → under s ws < s
unfolding under
under_lt s [] h = h
under_lt s (w ∷ ws) h = go (order w s) (under_lt s ws h)
  where
    go : {b : Bool} → Order w s b → under s ws < s → pick b (max w (under s ws)) (under s ws) < s
    go (below l) r = omega arith
    go (above l) r = r

-- if none but 0 is below s, then what is not 0 is s at least
pub under_none : (s : ℕ) (ws : List ℕ) → under s ws ≡ 0 → (p : ℕ) → p < length ws → 0 < get_or ws p 0 → s ≤ get_or ws p 0
unfolding under
under_none s [] e p h w = absurd (not-suc-le-zero h)
under_none s (w ∷ ws) e p h k = go (order w s) e p h k (under_none s ws)
  where
    go : {b : Bool} → Order w s b → pick b (max w (under s ws)) (under s ws) ≡ 0 → (p : ℕ) → p < length (w ∷ ws) → 0 < get_or (w ∷ ws) p 0
        → (under s ws ≡ 0 → (p : ℕ) → p < length ws → 0 < get_or ws p 0 → s ≤ get_or ws p 0) → s ≤ get_or (w ∷ ws) p 0
    go (below l) e zero h k f = absurd (omega arith)
    go (below l) e (suc p) h k f = f (omega arith) p (le_of_suc-le-suc h) k
    go (above l) e zero h k f = l
    go (above l) e (suc p) h k f = f e p (le_of_suc-le-suc h) k

-- the greatest is the greatest below a number that all are below: how a level's first stratum is found
pub under_all : (s : ℕ) (ws : List ℕ) → All (λ w. w < s) ws → under s ws ≡ greatest ws
unfolding under greatest
under_all s [] h = refl
under_all s (w ∷ ws) h = rw (lt-ltb w s h.0, under_all s ws h.1)

-- ---- the assumed places

module _ (s : ℕ) where
  pub assumed_yes : (p w : ℕ) (ws : List ℕ) → s ≤ w → assumed_from s p (w ∷ ws) ≡ p ∷ assumed_from s (p + 1) ws
  unfolding assumed_from
  assumed_yes p w ws h = rw (le-leb s w h)

  pub assumed_no : (p w : ℕ) (ws : List ℕ) → w < s → assumed_from s p (w ∷ ws) ≡ assumed_from s (p + 1) ws
  unfolding assumed_from
  assumed_no p w ws h = rw (lt-leb s w h)

  by_stratum : (p w : ℕ) (ws : List ℕ) (P : List ℕ → Type 0) → (s ≤ w → P (p ∷ assumed_from s (p + 1) ws)) → (w < s → P (assumed_from s (p + 1) ws)) → P (assumed_from s p (w ∷ ws))
  by_stratum p w ws P f g = go (leb s w) refl
    where
      go : (b : Bool) → leb s w ≡ b → P (assumed_from s p (w ∷ ws))
      go true e = let h : s ≤ w = leb-true s w e in subst P (sym (assumed_yes p w ws h)) (f h)
      go false e = let h : w < s = leb-false s w e in subst P (sym (assumed_no p w ws h)) (g h)

  -- as many at most as there are
  pub assumed_length : (p : ℕ) (ws : List ℕ) → length (assumed_from s p ws) ≤ length ws
  unfolding assumed_from
  assumed_length p [] = zero-le
  assumed_length p (w ∷ ws) =
      by_stratum p w ws (λ xs. length xs ≤ suc (length ws)) (λ h. omega (arith, assumed_length (p + 1) ws)) (λ h. omega (arith, assumed_length (p + 1) ws))

  -- each has the stratum at least
  heavy_from : (p : ℕ) (ws : List ℕ) → All (λ m. (p ≤ m) × Holds s ws (m - p)) (assumed_from s p ws)
  unfolding assumed_from
  heavy_from p [] = tt
  heavy_from p (w ∷ ws) =
      by_stratum p w ws (All (λ m. (p ≤ m) × Holds s (w ∷ ws) (m - p)))
      (λ h. ((omega arith, here h (p - p) (omega arith)), later (heavy_from (p + 1) ws))) (λ h. later (heavy_from (p + 1) ws))
    where
      here : s ≤ w → (i : ℕ) → i ≡ 0 → Holds s (w ∷ ws) i
      here h i e = rw e (suc-le-suc zero-le, h)

      there : (m i : ℕ) → i ≡ suc (m - (p + 1)) → Holds s ws (m - (p + 1)) → Holds s (w ∷ ws) i
      there m i e h = rw e (suc-le-suc h.0, h.1)

      later : All (λ m. (p + 1 ≤ m) × Holds s ws (m - (p + 1))) (assumed_from s (p + 1) ws) → All (λ m. (p ≤ m) × Holds s (w ∷ ws) (m - p)) (assumed_from s (p + 1) ws)
      later a = all_map (assumed_from s (p + 1) ws) (λ m h. (omega (arith, h.0), there m (m - p) (omega (arith, h.0)) h.1)) a

  -- what lies before p is none of them
  out_from : (x p : ℕ) (ws : List ℕ) → x < p → Out x (assumed_from s p ws)
  unfolding assumed_from
  out_from x p [] h = tt
  out_from x p (w ∷ ws) h = by_stratum p w ws (Out x) (λ l. (λ e. absurd (omega arith), out_from x (p + 1) ws (omega arith))) (λ l. out_from x (p + 1) ws (omega arith))

  -- none twice
  pub assumed_distinct : (p : ℕ) (ws : List ℕ) → Distinct (assumed_from s p ws)
  unfolding assumed_from
  assumed_distinct p [] = tt
  assumed_distinct p (w ∷ ws) =
      by_stratum p w ws Distinct (λ l. (out_from p (p + 1) ws (omega arith), assumed_distinct (p + 1) ws)) (λ l. assumed_distinct (p + 1) ws)

  pub assumed_heavy : (ws : List ℕ) → All (Holds s ws) (assumed_from s 0 ws)
  assumed_heavy ws = all_map (assumed_from s 0 ws) (λ m h. same m (m - 0) (omega arith) h.1) (heavy_from 0 ws)
    where
      same : (m i : ℕ) → i ≡ m → Holds s ws i → Holds s ws m
      same m i e h = rw e at h

  -- and each with the stratum at least is one of them: what holds of all of them holds of it
  every_from : (P : ℕ → Type 0) (p : ℕ) (ws : List ℕ) → All P (assumed_from s p ws) → (i : ℕ) → Holds s ws i → P (p + i)
  unfolding assumed_from
  every_from P p [] a i h = absurd (not-suc-le-zero h.0)
  every_from P p (w ∷ ws) a i h =
      by_stratum p w ws (λ xs. All P xs → P (p + i))
      (λ l b. first i h b.0 (every_from P (p + 1) ws b.1))
      (λ l b. none i h l (every_from P (p + 1) ws b)) a
    where
      first : (i : ℕ) → Holds s (w ∷ ws) i → P p → ((i : ℕ) → Holds s ws i → P (p + 1 + i)) → P (p + i)
      first zero h b f = subst P (omega arith) b
      first (suc i) h b f = subst P (omega arith) (f i (le_of_suc-le-suc h.0, h.1))

      none : (i : ℕ) → Holds s (w ∷ ws) i → w < s → ((i : ℕ) → Holds s ws i → P (p + 1 + i)) → P (p + i)
      none zero h l f = absurd (omega (arith, h.1))
      none (suc i) h l f = subst P (omega arith) (f i (le_of_suc-le-suc h.0, h.1))

  pub every_assumed : (P : ℕ → Type 0) (ws : List ℕ) → All P (assumed_from s 0 ws) → (i : ℕ) → Holds s ws i → P i
  every_assumed P ws a i h = subst P (omega arith) (every_from P 0 ws a i h)
