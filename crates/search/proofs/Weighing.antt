-- Order 2. How the least weight of a weighted body rises when a literal is added to the trail, so which literal would break the rule; and the cheap form for
-- bodies in which no atom has both signs. Assumes nothing.
use mathlib.Core.Path.{◌≡◌, refl, sym, ap, ◌∙◌}
use mathlib.Core.Bool.{Bool, true, false, not, ◌&&◌, ◌||◌}
use mathlib.Core.List.{List, [], ◌∷◌}
use Prim.Native.Nat.{ℕ, zero, suc, ◌+◌, ◌-◌, min}
use native.Mathlib.Omega.{arith}
use lib.Dec.{T, eqb, leb}
use lib.IntN.{ℤ, pos, negsuc, neg_ℤ, nat_abs}
use mir.Facts.{and_yes}
use borrow.Author.Tests.{eq-eqb, ne_eqb, eqb-true}
use Rattle.asp.specs.Sets.{pick}
use Rattle.asp.specs.Literal.{same_ℤ, occurs_among, one_signed}
use Rattle.asp.specs.Program.{Weighed, weighted, LiteralIn}
use Rattle.asp.specs.Stable.{holds}
use Rattle.search.specs.Trail.{decision, Trail, on, NotOn, trail_set}
use Rattle.search.specs.Weigh.{total, gain, literals_of}
use Rattle.search.proofs.Counts.{on_not}
use Rattle.search.proofs.Totals.{PairsIn, sum_at}
use Rattle.search.proofs.Agree.{owed, pair_owed, side_on, owed_by, body_on}

-- ---- a literal is added

module _ (n : ℕ) (t : Trail) (l : ℤ) (i : LiteralIn n l) (o : NotOn (nat_abs l) t) where
  off : on t (nat_abs l) ≡ false
  off = go (on t (nat_abs l)) refl
    where
      go : (b : Bool) → on t (nat_abs l) ≡ b → b ≡ false
      go true e = absurd (on_not t (nat_abs l) o (rw e tt))
      go false e = refl

  pub owed_rises : (ps : List Weighed) → PairsIn n ps → owed (decision l ∷ t) ps ≡ gain l ps + owed t ps
  owed_rises ps q =
      owed_by n (decision l ∷ t) ps q
      ∙ sum_at n (nat_abs l) (gain l ps) _ _ i (λ x k. other x (total (pos x) ps) (total (neg_ℤ (pos x)) ps) k) (here l i off)
      ∙ ap (λ (x : ℕ). gain l ps + x) (sym (owed_by n t ps q))
    where
      other : (x P N : ℕ) → (¬ (x ≡ nat_abs l)) → side_on (decision l ∷ t) x P N ≡ side_on t x P N
      other x P N k = rw (ne_eqb x (nat_abs l) k)

      here : (m : ℤ) → LiteralIn n m → on t (nat_abs m) ≡ false
          → side_on (decision m ∷ t) (nat_abs m) (total (pos (nat_abs m)) ps) (total (neg_ℤ (pos (nat_abs m))) ps)
          ≡ gain m ps + side_on t (nat_abs m) (total (pos (nat_abs m)) ps) (total (neg_ℤ (pos (nat_abs m))) ps)
      here (pos zero) j e = absurd (omega arith)
      here (pos (suc a)) j e = rw (eq-eqb (suc a) (suc a) refl, e) (omega arith)
      here (negsuc a) j e = rw (eq-eqb (suc a) (suc a) refl, e) (omega arith)

  -- THE LITERAL TO NOTE: the body holds in every set that agrees with the trail and l just if the least weight and the gain reach the bound
  pub body_noted : (b : ℕ) (ps : List Weighed) → PairsIn n ps → body_on (decision l ∷ t) (weighted b ps) ≡ leb b (gain l ps + owed t ps)
  body_noted b ps q = ap (leb b) (owed_rises ps q)

-- ---- no atom with both signs

-- no pair is followed by weights of its complement
unfoldable pub unmixed : List Weighed → Bool
unmixed [] = true
unmixed (p ∷ ps) = eqb (total (neg_ℤ p.literal) ps) 0 && unmixed ps

absent_none : (l : ℤ) (ps : List Weighed) → T (not (occurs_among l (literals_of ps))) → total l ps ≡ 0
unfolding occurs_among total
absent_none l [] h = refl
absent_none l (p ∷ ps) h = go (same_ℤ l p.literal) h (absent_none l ps)
  where
    go : (b : Bool) → T (not (b || occurs_among l (literals_of ps))) → (T (not (occurs_among l (literals_of ps))) → total l ps ≡ 0) → pick b p.weight 0 + total l ps ≡ 0
    go true h r = absurd h
    go false h r = omega (arith, r h)

pub signed_unmixed : (ps : List Weighed) → T (one_signed (literals_of ps)) → T (unmixed ps)
unfolding one_signed unmixed
signed_unmixed [] h = tt
signed_unmixed (p ∷ ps) h =
    let y = and_yes (not (occurs_among (neg_ℤ p.literal) (literals_of ps))) (one_signed (literals_of ps)) h in
    rw (eq-eqb (total (neg_ℤ p.literal) ps) 0 (absent_none (neg_ℤ p.literal) ps y.0)) (signed_unmixed ps y.1)

-- the weights of the pairs that are on the trail
unfoldable pub met : Trail → List Weighed → ℕ
met t [] = 0
met t (p ∷ ps) = pick (on t (nat_abs p.literal) && holds (trail_set t) p.literal) p.weight 0 + met t ps

-- then the least weight is that of the pairs on the trail, and a pair's literal is worth its weight at least
pub owed_unmixed : (t : Trail) (ps : List Weighed) → T (unmixed ps) → owed t ps ≡ met t ps
unfolding owed unmixed met
owed_unmixed t [] u = refl
owed_unmixed t (p ∷ ps) u = go (eqb (total (neg_ℤ p.literal) ps) 0) refl u (owed_unmixed t ps)
  where
    free : (a b : Bool) (w T N : ℕ) → N ≡ 0 → pick a (pick b w 0) (min w (N - T)) ≡ pick (a && b) w 0
    free true b w T N e = refl
    free false b w T N e = omega arith

    go : (x : Bool) → eqb (total (neg_ℤ p.literal) ps) 0 ≡ x → T (x && unmixed ps) → (T (unmixed ps) → owed t ps ≡ met t ps)
        → pair_owed t p ps + owed t ps ≡ pick (on t (nat_abs p.literal) && holds (trail_set t) p.literal) p.weight 0 + met t ps
    go true e u r =
        let z = free (on t (nat_abs p.literal)) (holds (trail_set t) p.literal) p.weight (total p.literal ps) (total (neg_ℤ p.literal) ps) (eqb-true _ 0 e) in
        omega (arith, z, r u)
    go false e u r = absurd u
