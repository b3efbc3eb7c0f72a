-- Order 2: what is left of a weighted body, under the values of a trail, is right: nothing just if the body holds in every set that agrees with the trail; one
-- literal only if it holds in every set that agrees with the trail and that literal. Assumes nothing.
use mathlib.Core.Path.{◌≡◌, refl, sym, ap, ap₂, ◌∙◌}
use mathlib.Core.Bool.{Bool, true, false, not, ◌&&◌}
use mathlib.Core.List.{List, [], ◌∷◌}
use mathlib.Core.Logic.{◌⊎◌, inl, inr}
use Prim.Native.Nat.{ℕ, zero, suc, ◌+◌, ◌-◌, ◌≤◌, min}
use native.Mathlib.Omega.{arith}
use lib.Dec.{T, eqb, leb, leb→le, le→leb}
use lib.IntN.{ℤ, pos, negsuc, neg_ℤ, nat_abs, neg_ℤ-neg_ℤ}
use mir.Facts.{and_yes}
use borrow.Author.Tests.{eq-eqb, eqb-true}
use Rattle.asp.specs.declared.rules.Row.{Row}
use Rattle.asp.specs.Sets.{pick}
use Rattle.asp.specs.Literal.{same_ℤ, one_signed}
use Rattle.asp.specs.Program.{Weighed, weighted, LiteralIn, RuleIn}
use Rattle.asp.specs.Stable.{holds}
use Rattle.asp.specs.Tables.{literals_at, is_weighted, is_mixed, pair_at, pairs_at, rule_at, RowIn}
use Rattle.asp.proofs.RowLaws.{body_weighted}
use Rattle.asp.proofs.Spans.{map_span}
use Rattle.asp.proofs.Signed.{clash}
use Rattle.search.specs.declared.scan.Rest.{Rest}
use Rattle.search.specs.declared.scan.Rest.TheVariants.{All, One, Off}
use Rattle.search.specs.Trail.{decision, Trail, on, NotOn, trail_set}
use Rattle.search.specs.Places.{truth_of, truth_at, side_of}
use Rattle.search.specs.Scan.{is_all}
use Rattle.search.specs.Weigh.{total, gain, literals_of, owed_pair, owed_at, met_at, least_at, worth, breaker_of, body_rest, both_rest}
use Rattle.search.proofs.TrailTables.{Valued, value_off}
use Rattle.search.proofs.Opens.{zero_off}
use Rattle.search.proofs.Counts.{not_on, on_not}
use Rattle.search.proofs.Totals.{PairsIn}
use Rattle.search.proofs.Agree.{owed, pair_owed, body_on}
use Rattle.search.proofs.Weighing.{unmixed, signed_unmixed, met, owed_unmixed, owed_rises}
use Rattle.search.proofs.Conditions.{true_on, same_is}

-- ---- the least weight by values

module _ (v : List ℕ) (t : Trail) (w : Valued v t) where
  -- an atom on the trail has a value, and one that has none is off it
  decided : (l : ℤ) → on t (nat_abs l) ≡ true → eqb (truth_at v l) 0 ≡ false
  decided l e = go (eqb (truth_at v l) 0) refl
    where
      none : (x : ℕ) → truth_of l x ≡ 0 → x ≡ 0
      none x q = by (eqb x 0) refl q
        where
          by : (b : Bool) → eqb x 0 ≡ b → ◌≡◌ {A = ℕ} (pick b 0 (pick (eqb (side_of l) x) 1 2)) 0 → x ≡ 0
          by true z q = eqb-true x 0 z
          by false z q = absurd (side (eqb (side_of l) x) q)
            where
              side : (b : Bool) → ◌≡◌ {A = ℕ} (pick b 1 2) 0 → ⊥
              side true q = omega arith
              side false q = omega arith

      go : (b : Bool) → eqb (truth_at v l) 0 ≡ b → b ≡ false
      go false q = refl
      go true q = absurd (on_not t (nat_abs l) (zero_off t (nat_abs l) (sym (w (nat_abs l)) ∙ none _ (eqb-true (truth_at v l) 0 q))) (rw e tt))

  undecided : (l : ℤ) → on t (nat_abs l) ≡ false → truth_at v l ≡ 0
  undecided l e = rw (w (nat_abs l), value_off t (nat_abs l) (not_on t (nat_abs l) (λ x. rw e at x)))

  pub zero_free : (l : ℤ) → T (eqb (truth_at v l) 0) → NotOn (nat_abs l) t
  zero_free l h = not_on t (nat_abs l) (λ x. off (on t (nat_abs l)) refl x)
    where
      off : (b : Bool) → on t (nat_abs l) ≡ b → T b → ⊥
      off true e x = rw (decided l e) at h
      off false e x = x

  pair_at_lem : (p : Weighed) (ps : List Weighed) → owed_pair v p ps ≡ pair_owed t p ps
  pair_at_lem p ps = go (on t (nat_abs p.literal)) refl
    where
      go : (b : Bool) → on t (nat_abs p.literal) ≡ b
          → owed_pair v p ps ≡ pick b (pick (holds (trail_set t) p.literal) p.weight 0) (min p.weight (total (neg_ℤ p.literal) ps - total p.literal ps))
      go true e = rw (true_on v t w p.literal, decided p.literal e, e)
      go false e = rw (undecided p.literal e)

  pub owed_at_lem : (ps : List Weighed) → owed_at v ps ≡ owed t ps
  unfolding owed_at owed
  owed_at_lem [] = refl
  owed_at_lem (p ∷ ps) = ap₂ (λ (x y : ℕ). x + y) (pair_at_lem p ps) (owed_at_lem ps)

  met_at_lem : (ps : List Weighed) → met_at v ps ≡ met t ps
  unfolding met_at met
  met_at_lem [] = refl
  met_at_lem (p ∷ ps) = ap₂ (λ (b : Bool) (y : ℕ). pick b p.weight 0 + y) (true_on v t w p.literal) (met_at_lem ps)

  pub least_at_lem : (mixed : Bool) (ps : List Weighed) → (mixed ≡ false → T (unmixed ps)) → least_at mixed v ps ≡ owed t ps
  least_at_lem true ps u = owed_at_lem ps
  least_at_lem false ps u = met_at_lem ps ∙ sym (owed_unmixed t ps (u refl))

-- ---- what a pair is worth

abbrev At : Weighed → List Weighed → Type 0
At p [] = ⊥
At p (q ∷ ps) = (p ≡ q) ⊎ At p ps

same_self : (l : ℤ) → same_ℤ l l ≡ true
same_self (pos a) = eq-eqb a a refl
same_self (negsuc a) = eq-eqb a a refl

not_own : (l : ℤ) → 1 ≤ nat_abs l → same_ℤ (neg_ℤ l) l ≡ false
not_own (pos zero) h = absurd (omega arith)
not_own (pos (suc a)) h = refl
not_own (negsuc a) h = refl

weight_gain : (n : ℕ) (p : Weighed) (ps : List Weighed) → PairsIn n ps → T (unmixed ps) → At p ps → p.weight ≤ gain p.literal ps
unfolding unmixed total
weight_gain n p [] i u a = absurd a
weight_gain n p (q ∷ ps) i u (inl e) =
    let y = and_yes (eqb (total (neg_ℤ q.literal) ps) 0) (unmixed ps) u in
    let k : total (neg_ℤ p.literal) ps ≡ 0 = ap (λ (x : Weighed). total (neg_ℤ x.literal) ps) e ∙ eqb-true (total (neg_ℤ q.literal) ps) 0 (is_true _ y.0) in
    rw (e, same_self q.literal, not_own q.literal i.0.0) (omega (arith, k))
  where
    is_true : (b : Bool) → T b → b ≡ true
    is_true true t = refl
    is_true false t = absurd t
weight_gain n p (q ∷ ps) i u (inr a) = go (same_ℤ (neg_ℤ p.literal) q.literal) refl (weight_gain n p ps i.1 y.1 a)
  where
    y : T (eqb (total (neg_ℤ q.literal) ps) 0) × T (unmixed ps)
    y = and_yes (eqb (total (neg_ℤ q.literal) ps) 0) (unmixed ps) u

    is_true : (b : Bool) → T b → b ≡ true
    is_true true t = refl
    is_true false t = absurd t

    go : (b : Bool) → same_ℤ (neg_ℤ p.literal) q.literal ≡ b → p.weight ≤ total p.literal ps - total (neg_ℤ p.literal) ps
        → p.weight ≤ (pick (same_ℤ p.literal q.literal) q.weight 0 + total p.literal ps) - (pick b q.weight 0 + total (neg_ℤ p.literal) ps)
    go false e h = omega (arith, h)
    go true e h =
        let z : p.literal ≡ neg_ℤ q.literal = sym (neg_ℤ-neg_ℤ p.literal) ∙ ap neg_ℤ (same_is (neg_ℤ p.literal) q.literal e) in
        let k : total p.literal ps ≡ 0 = ap (λ (l : ℤ). total l ps) z ∙ eqb-true (total (neg_ℤ q.literal) ps) 0 (is_true _ y.0) in
        omega (arith, h, k)

-- ---- what is left

module _ (n : ℕ) (v : List ℕ) (t : Trail) (w : Valued v t) (mixed : Bool) (all : List Weighed) (i : PairsIn n all) (um : mixed ≡ false → T (unmixed all)) where
  worth_le : (p : Weighed) → At p all → worth mixed all p ≤ gain p.literal all
  worth_le p a = go mixed refl
    where
      go : (b : Bool) → mixed ≡ b → pick b (gain p.literal all) p.weight ≤ gain p.literal all
      go true e = omega arith
      go false e = weight_gain n p all i (um e) a

  literal_of_lem : (p : Weighed) (ps : List Weighed) → PairsIn n ps → At p ps → LiteralIn n p.literal
  literal_of_lem p [] j a = absurd a
  literal_of_lem p (q ∷ ps) j (inl e) = rw e j.0
  literal_of_lem p (q ∷ ps) j (inr a) = literal_of_lem p ps j.1 a

  -- the literal that is found is undecided, and with it the body holds
  breaker_one : (b : ℕ) (ps : List Weighed) → ((p : Weighed) → At p ps → At p all) → (l : ℤ) → breaker_of mixed v (b - least_at mixed v all) all ps ≡ One l
      → LiteralIn n l × NotOn (nat_abs l) t × T (body_on (decision l ∷ t) (weighted b all))
  unfolding breaker_of
  breaker_one b [] f l e = absurd (let z : ◌≡◌ {A = ℕ} 0 1 = cc in omega arith)
  breaker_one b (p ∷ ps) f l e = go (eqb (truth_at v p.literal) 0) refl (leb (b - least_at mixed v all) (worth mixed all p)) refl e (breaker_one b ps (λ q a. f q (inr a)) l)
    where
      found : T (eqb (truth_at v p.literal) 0) → T (leb (b - least_at mixed v all) (worth mixed all p)) → LiteralIn n p.literal × NotOn (nat_abs p.literal) t × T (body_on (decision p.literal ∷ t) (weighted b all))
      found x y =
          let j = literal_of_lem p all i (f p (inl refl)) in
          let o = zero_free v t w p.literal x in (
            j,
            o,
            le→leb b (owed (decision p.literal ∷ t) all)
                (omega (arith, owed_rises n t p.literal j o all i, least_at_lem v t w mixed all um, worth_le p (f p (inl refl)), leb→le (b - least_at mixed v all) (worth mixed all p) y)),
          )

      go : (x : Bool) → eqb (truth_at v p.literal) 0 ≡ x → (y : Bool) → leb (b - least_at mixed v all) (worth mixed all p) ≡ y
          → pick (x && y) (One p.literal) (breaker_of mixed v (b - least_at mixed v all) all ps) ≡ One l
          → (breaker_of mixed v (b - least_at mixed v all) all ps ≡ One l → LiteralIn n l × NotOn (nat_abs l) t × T (body_on (decision l ∷ t) (weighted b all)))
          → LiteralIn n l × NotOn (nat_abs l) t × T (body_on (decision l ∷ t) (weighted b all))
      go true ex true ey e r = let z : p.literal ≡ l = cc in rw z at (found (rw ex tt) (rw ey tt))
      go true ex false ey e r = r e
      go false ex y ey e r = r e

  breaker_not_all : (b : ℕ) (ps : List Weighed) → is_all (breaker_of mixed v b all ps) ≡ false
  unfolding breaker_of
  breaker_not_all b [] = refl
  breaker_not_all b (p ∷ ps) = go (eqb (truth_at v p.literal) 0) (leb b (worth mixed all p)) (breaker_not_all b ps)
    where
      go : (x y : Bool) → is_all (breaker_of mixed v b all ps) ≡ false → is_all (pick (x && y) (One p.literal) (breaker_of mixed v b all ps)) ≡ false
      go true true r = refl
      go true false r = r
      go false y r = r

  pub body_all : (b : ℕ) → is_all (body_rest mixed v b all) ≡ body_on t (weighted b all)
  unfolding body_rest
  body_all b = go (leb b (least_at mixed v all)) refl ∙ ap (leb b) (least_at_lem v t w mixed all um)
    where
      go : (x : Bool) → leb b (least_at mixed v all) ≡ x → is_all (pick x All (breaker_of mixed v (b - least_at mixed v all) all all)) ≡ leb b (least_at mixed v all)
      go true e = sym e
      go false e = breaker_not_all (b - least_at mixed v all) all ∙ sym e

  pub body_one : (b : ℕ) (l : ℤ) → body_rest mixed v b all ≡ One l → LiteralIn n l × NotOn (nat_abs l) t × T (body_on (decision l ∷ t) (weighted b all))
  unfolding body_rest
  body_one b l e = go (leb b (least_at mixed v all)) e
    where
      go : (x : Bool) → pick x All (breaker_of mixed v (b - least_at mixed v all) all all) ≡ One l → LiteralIn n l × NotOn (nat_abs l) t × T (body_on (decision l ∷ t) (weighted b all))
      go true e = absurd (let z : ◌≡◌ {A = ℕ} 0 1 = cc in omega arith)
      go false e = breaker_one b all (λ p a. a) l e

-- ---- a head and a body

pub both_all : (r s : Rest) → is_all (both_rest r s) ≡ (is_all r && is_all s)
both_all All s = refl
both_all (One f) All = refl
both_all (One f) (One l) = refl
both_all (One f) Off = refl
both_all Off s = refl

-- ---- the pairs of a row

pub row_pairs : (n : ℕ) (pool : List ℤ) (x : Row) → RuleIn n (rule_at pool x) → is_weighted x.body ≡ true → PairsIn n (pairs_at pool (x.literals + 1) (x.first + x.heads) x.literals)
row_pairs n pool x i e = rw (body_weighted pool x e) at i.1

pub row_literals : (pool : List ℤ) (gap i k : ℕ) → literals_of (pairs_at pool gap i k) ≡ literals_at pool i k
row_literals pool gap i k = map_span (λ (p : Weighed). p.literal) (pair_at pool gap) i k

pub row_signed : (pool : List ℤ) (x : Row) → RowIn pool x → is_weighted x.body ≡ true → is_mixed x.body ≡ false → T (unmixed (pairs_at pool (x.literals + 1) (x.first + x.heads) x.literals))
row_signed pool x r e f =
    signed_unmixed (pairs_at pool (x.literals + 1) (x.first + x.heads) x.literals) (rw (row_literals pool (x.literals + 1) (x.first + x.heads) x.literals) (unflip (one_signed (literals_at pool (x.first + x.heads) x.literals)) (sym (r.signed e) ∙ f)))
  where
    unflip : (b : Bool) → not b ≡ false → T b
    unflip true q = tt
    unflip false q = absurd (clash (sym q))
