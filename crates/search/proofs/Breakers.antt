-- The literal that the scan notes would break a rule if added: said by sets, as the rule is broken in every set that agrees with the trail and that literal.
-- Where none is noted, there is none but of weighted bodies. Assumes nothing.
use mathlib.Core.Path.{◌≡◌, refl, sym, ap, ◌∙◌}
use mathlib.Core.Bool.{Bool, true, false, not, ◌&&◌, ◌||◌}
use mathlib.Core.List.{List, [], ◌∷◌}
use mathlib.Core.Logic.{◌⊎◌, inl, inr, ⊎_elim}
use Prim.Native.Nat.{ℕ, zero, suc, ◌+◌, ◌<◌}
use native.Mathlib.Omega.{arith}
use lib.Dec.{T, eqb, leb→le, le→leb}
use lib.IntN.{ℤ, pos, negsuc, nat_abs}
use mir.Facts.{and_yes, yes_and}
use borrow.Author.Tests.{eq-eqb, ne_eqb, eqb-true, eqb-false}
use Rattle.asp.specs.declared.rules.Row.{Row}
use Rattle.asp.specs.Sets.{In, pick}
use Rattle.asp.specs.Literal.{same_ℤ, is_negative}
use Rattle.asp.specs.Program.{Weighed, weighted, RuleIn}
use Rattle.asp.specs.Stable.{holds}
use Rattle.asp.specs.Tables.{is_choice, is_weighted, is_mixed, pairs_at, bound_at, head_at, row_at, rule_at, RowIn, Formed}
use Rattle.asp.proofs.Signed.{clash}
use Rattle.search.specs.declared.scan.Rest.{Rest}
use Rattle.search.specs.declared.scan.Rest.TheVariants.{All, One, Off}
use Rattle.search.specs.declared.scan.Found.{Found}
use Rattle.search.specs.declared.scan.Found.TheVariants.{Broken, Breaker, Clear}
use Rattle.search.specs.Trail.{decision, Trail, on, NotOn, FormedTrail, InAll, trail_set}
use Rattle.search.specs.Query.{broken_in}
use Rattle.search.specs.Places.{truth_at}
use Rattle.search.specs.Scan.{rules, conditions, head_conditions, head_rest, weighted_rest, row_rest, free_of, meet_of, meets, begins, rest_of, is_all, note_of, scan_from, scan_of}
use Rattle.search.proofs.ScanLaws.{off_stays}
use Rattle.search.proofs.Counts.{on_not}
use Rattle.search.proofs.Agree.{lit_on, lits_on, head_on, body_on, owed, rule_on, rule_all, all_rule}
use Rattle.search.specs.Weigh.{both_rest}
use Rattle.search.proofs.Weighing.{owed_rises}
use Rattle.search.proofs.TrailTables.{Valued, value_off}
use Rattle.search.specs.Soft.{AssumedEntries, FormedSoft}
use Rattle.search.specs.Branch.{NotedAs}
use Rattle.search.proofs.Formed.{rule_in}
use Rattle.search.proofs.Opens.{Undecided, zero_off, scan_undecided}
use Rattle.search.proofs.Conditions.{same_is, by, holds_by, true_on, conds_on, heads_on, meets_all}
use Rattle.search.proofs.WeighLaws.{body_all, body_one, row_pairs, row_signed}
use Rattle.search.proofs.Scans.{rule_on_lem, ScanSays, scan_says}

is_true : (b : Bool) → T b → b ≡ true
is_true true t = refl
is_true false t = absurd t

same_self : (a : ℤ) → same_ℤ a a ≡ true
same_self (pos n) = eq-eqb n n refl
same_self (negsuc n) = eq-eqb n n refl

suc_same : (m n : ℕ) → suc m ≡ suc n → m ≡ n
suc_same m n e = omega arith

-- two literals of one atom of which the first holds where the second is put are the same
sign_same : (l f : ℤ) → nat_abs l ≡ nat_abs f → T (by (not (is_negative f)) l) → l ≡ f
sign_same (pos a) (pos b) e h = ap pos e
sign_same (pos a) (negsuc b) e h = absurd h
sign_same (negsuc a) (pos b) e h = absurd h
sign_same (negsuc a) (negsuc b) e h = ap negsuc (suc_same a b e)

sign_own : (f : ℤ) → T (by (not (is_negative f)) f)
sign_own (pos a) = tt
sign_own (negsuc a) = tt

-- ---- a literal on the trail with f added

module _ (t : Trail) (f : ℤ) where
  abbrev u : Trail
  u = decision f ∷ t

  lit_on_by : (l : ℤ) → lit_on u l ≡ ((eqb (nat_abs l) (nat_abs f) || on t (nat_abs l)) && by (pick (eqb (nat_abs l) (nat_abs f)) (not (is_negative f)) (trail_set t (nat_abs l))) l)
  lit_on_by l = ap (λ (b : Bool). (eqb (nat_abs l) (nat_abs f) || on t (nat_abs l)) && b) (sym (holds_by (trail_set u) l))

  own_on : T (lit_on u f)
  own_on = rw (lit_on_by f, eq-eqb (nat_abs f) (nat_abs f) refl) (sign_own f)

  pub more_on : (l : ℤ) → (¬ (nat_abs l ≡ nat_abs f)) → lit_on u l ≡ lit_on t l
  more_on l k = lit_on_by l ∙ rw (ne_eqb (nat_abs l) (nat_abs f) k, holds_by (trail_set t) l)

  -- what is on it was on the trail, or is f
  was_on : (l : ℤ) → T (lit_on u l) → T (lit_on t l) ⊎ (l ≡ f)
  was_on l h = go (eqb (nat_abs l) (nat_abs f)) refl
    where
      go : (b : Bool) → eqb (nat_abs l) (nat_abs f) ≡ b → T (lit_on t l) ⊎ (l ≡ f)
      go true e = inr (sign_same l f (eqb-true (nat_abs l) (nat_abs f) e) (rw (lit_on_by l, e) at h))
      go false e = inl (rw (more_on l (eqb-false (nat_abs l) (nat_abs f) e)) at h)

-- ---- the conditions of a rule

module _ (v : List ℕ) (t : Trail) (w : Valued v t) (f : ℤ) (o : NotOn (nat_abs f) t) where
  free_f : truth_at v f ≡ 0
  free_f = rw (w (nat_abs f), value_off t (nat_abs f) o)

  pub on_apart : (l : ℤ) → T (lit_on t l) → ¬ (nat_abs l ≡ nat_abs f)
  on_apart l h e = on_not t (nat_abs f) o (rw e at (and_yes (on t (nat_abs l)) (holds (trail_set t) l) h).0)

  true_lit : (l : ℤ) → eqb (truth_at v l) 1 ≡ true → T (lit_on t l)
  true_lit l e = rw (sym (true_on v t w l) ∙ e) tt

  -- one literal stays the one
  one_stays : (g : ℤ) (ls : List ℤ) → meets v (One g) ls ≡ One f → g ≡ f
  unfolding meets
  one_stays g [] e = cc
  one_stays g (l ∷ ls) e = go (eqb (truth_at v l) 1) (eqb (truth_at v l) 0) (same_ℤ g l) e (one_stays g ls)
    where
      go : (a b c : Bool) → meets v (pick a (One g) (pick b (pick c (One g) Off) Off)) ls ≡ One f → (meets v (One g) ls ≡ One f → g ≡ f) → g ≡ f
      go true b c e r = r e
      go false true true e r = r e
      go false true false e r = absurd (off_one (sym (off_stays v ls) ∙ e))
        where
          off_one : Off ≡ One f → ⊥
          off_one q = let z : ◌≡◌ {A = ℕ} 0 1 = cc in omega arith
      go false false c e r = absurd (off_one (sym (off_stays v ls) ∙ e))
        where
          off_one : Off ≡ One f → ⊥
          off_one q = let z : ◌≡◌ {A = ℕ} 0 1 = cc in omega arith

  not_off : (ls : List ℤ) → meets v Off ls ≡ One f → ⊥
  not_off ls e = let q : Off ≡ One f = sym (off_stays v ls) ∙ e in let z : ◌≡◌ {A = ℕ} 0 1 = cc in omega arith

  -- where f alone is left, all conditions are on the trail with f added
  pub one_on : (s : Rest) (ls : List ℤ) → meets v s ls ≡ One f → T (lits_on (decision f ∷ t) ls)
  unfolding meets lits_on
  one_on s [] e = tt
  one_on s (l ∷ ls) e = yes_and (lit_on (decision f ∷ t) l) (lits_on (decision f ∷ t) ls) (here (eqb (truth_at v l) 1) refl (eqb (truth_at v l) 0) s e) (one_on (meet_of v s l) ls e)
    where
      is_f : l ≡ f → T (lit_on (decision f ∷ t) l)
      is_f q = rw q (own_on t f)

      alone : (b : Bool) (s : Rest) → meets v (pick b (free_of s l) Off) ls ≡ One f → T (lit_on (decision f ∷ t) l)
      alone false s e = absurd (not_off ls e)
      alone true All e = is_f (one_stays l ls e)
      alone true Off e = absurd (not_off ls e)
      alone true (One g) e = by_same (same_ℤ g l) refl e
        where
          by_same : (c : Bool) → same_ℤ g l ≡ c → meets v (pick c (One g) Off) ls ≡ One f → T (lit_on (decision f ∷ t) l)
          by_same true q e = is_f (sym (same_is g l q) ∙ one_stays g ls e)
          by_same false q e = absurd (not_off ls e)

      here : (a : Bool) → eqb (truth_at v l) 1 ≡ a → (b : Bool) (s : Rest) → meets v (pick a s (pick b (free_of s l) Off)) ls ≡ One f → T (lit_on (decision f ∷ t) l)
      here true q b s e = let h = true_lit l q in rw (more_on t f l (on_apart l h)) h
      here false q b s e = alone b s e

  -- where all are on the trail with f added, nothing is left or f alone
  abbrev Fine : Rest → Type 0
  Fine s = (s ≡ All) ⊎ (s ≡ One f)

  meet_fine : (s : Rest) (l : ℤ) → Fine s → T (lit_on (decision f ∷ t) l) → Fine (meet_of v s l)
  meet_fine s l p h = go (was_on t f l h)
    where
      free_fine : Fine s → Fine (free_of s f)
      free_fine (inl q) = inr (rw q)
      free_fine (inr q) = inr (rw (q, same_self f))

      go : T (lit_on t l) ⊎ (l ≡ f) → Fine (meet_of v s l)
      go (inl k) = let q : eqb (truth_at v l) 1 ≡ true = true_on v t w l ∙ is_true (lit_on t l) k in rw q p
      go (inr q) = rw (q, free_f) (free_fine p)

  on_fine : (s : Rest) (ls : List ℤ) → Fine s → T (lits_on (decision f ∷ t) ls) → Fine (meets v s ls)
  unfolding meets lits_on
  on_fine s [] p h = p
  on_fine s (l ∷ ls) p h =
      let k = and_yes (lit_on (decision f ∷ t) l) (lits_on (decision f ∷ t) ls) h in
      on_fine (meet_of v s l) ls (meet_fine s l p k.0) k.1

-- ---- one rule of the tables

module _ (n : ℕ) (pool : List ℤ) (x : Row) (r : RowIn pool x) (i : RuleIn n (rule_at pool x)) (v : List ℕ) (t : Trail) (w : Valued v t) (f : ℤ) (o : NotOn (nat_abs f) t) where
  -- ---- no weighted body

  module _ (u : is_weighted x.body ≡ false) where
    one_normal : meets v (begins x.head) (conditions pool x) ≡ One f → T (rule_on (decision f ∷ t) (rule_at pool x))
    one_normal e = go (is_choice x.head) refl e
      where
        go : (b : Bool) → is_choice x.head ≡ b → meets v (pick b Off All) (conditions pool x) ≡ One f → T (rule_on (decision f ∷ t) (rule_at pool x))
        go true q e = absurd (not_off v t w f o (conditions pool x) e)
        go false q e = rw (← conds_on (decision f ∷ t) n pool x r i q u) (one_on v t w f o All (conditions pool x) e)

    rule_one : T (rule_on (decision f ∷ t) (rule_at pool x)) → rule_on t (rule_at pool x) ≡ false → row_rest pool v x ≡ One f
    rule_one h k = rw u (go (is_choice x.head) refl)
      where
        fine : Fine v t w f o (meets v All (conditions pool x)) → is_choice x.head ≡ false → meets v All (conditions pool x) ≡ One f
        fine (inr e) q = e
        fine (inl e) q = absurd (clash (sym k ∙ sym (rule_on_lem v t w n pool x r i) ∙ rw (u, q, e)))

        go : (b : Bool) → is_choice x.head ≡ b → meets v (pick b Off All) (conditions pool x) ≡ One f
        go true q = absurd (rw q at h)
        go false q = fine (on_fine v t w f o All (conditions pool x) (inl refl) (rw (conds_on (decision f ∷ t) n pool x r i q u) h)) q

  -- ---- order 2: a weighted body. What was on the trail stays there.

  lits_more : (ls : List ℤ) → T (lits_on t ls) → T (lits_on (decision f ∷ t) ls)
  unfolding lits_on
  lits_more [] h = tt
  lits_more (l ∷ ls) h =
      let y = and_yes (lit_on t l) (lits_on t ls) h in
      yes_and (lit_on (decision f ∷ t) l) (lits_on (decision f ∷ t) ls) (rw (more_on t f l (on_apart v t w f o l y.0)) y.0) (lits_more ls y.1)

  module _ (u : is_weighted x.body ≡ true) where
    abbrev pairs : List Weighed
    pairs = pairs_at pool (x.literals + 1) (x.first + x.heads) x.literals

    head_stays : head_rest pool v x ≡ All → T (head_on (decision f ∷ t) (head_at pool x))
    head_stays e = go (is_choice x.head) refl e
      where
        go : (b : Bool) → is_choice x.head ≡ b → meets v (pick b Off All) (head_conditions pool x) ≡ All → T (head_on (decision f ∷ t) (head_at pool x))
        go true q e = absurd (let z : ◌≡◌ {A = Rest} Off All = sym (off_stays v (head_conditions pool x)) ∙ e in let y : ◌≡◌ {A = ℕ} 0 1 = cc in omega arith)
        go false q e = rw (← heads_on (decision f ∷ t) n pool x r i q) (lits_more (head_conditions pool x) (rw (← meets_all v t w All (head_conditions pool x), e) tt))

    head_one : head_rest pool v x ≡ One f → T (head_on (decision f ∷ t) (head_at pool x))
    head_one e = go (is_choice x.head) refl e
      where
        go : (b : Bool) → is_choice x.head ≡ b → meets v (pick b Off All) (head_conditions pool x) ≡ One f → T (head_on (decision f ∷ t) (head_at pool x))
        go true q e = absurd (not_off v t w f o (head_conditions pool x) e)
        go false q e = rw (← heads_on (decision f ∷ t) n pool x r i q) (one_on v t w f o All (head_conditions pool x) e)

    abbrev body_on' : Type 0
    body_on' = T (body_on (decision f ∷ t) (weighted (bound_at pool x) pairs))

    body_one' : In n (nat_abs f) → weighted_rest pool v x ≡ One f → body_on'
    body_one' j e = (body_one n v t w (is_mixed x.body) pairs (row_pairs n pool x i u) (row_signed pool x r u) (bound_at pool x) f e).2

    body_stays : In n (nat_abs f) → weighted_rest pool v x ≡ All → body_on'
    body_stays j e =
        le→leb (bound_at pool x) (owed (decision f ∷ t) pairs)
        (omega (arith, owed_rises n t f j o pairs (row_pairs n pool x i u), leb→le (bound_at pool x) (owed t pairs) (rw (← body_all n v t w (is_mixed x.body) pairs (row_pairs n pool x i u) (row_signed pool x r u) (bound_at pool x), e) tt)))

    one_weighted : In n (nat_abs f) → both_rest (head_rest pool v x) (weighted_rest pool v x) ≡ One f → T (rule_on (decision f ∷ t) (rule_at pool x))
    one_weighted j e = rw u (go (head_rest pool v x) refl (weighted_rest pool v x) refl e)
      where
        clashes : {s : Rest} → s ≡ One f → s ≡ Off → ⊥
        clashes e f = let z : ◌≡◌ {A = ℕ} 0 1 = cc in omega arith

        on_it : T (head_on (decision f ∷ t) (head_at pool x)) → body_on' → T (head_on (decision f ∷ t) (head_at pool x) && body_on (decision f ∷ t) (weighted (bound_at pool x) pairs))
        on_it = yes_and (head_on (decision f ∷ t) (head_at pool x)) (body_on (decision f ∷ t) (weighted (bound_at pool x) pairs))

        go : (a : Rest) → head_rest pool v x ≡ a → (b : Rest) → weighted_rest pool v x ≡ b → both_rest a b ≡ One f
            → T (head_on (decision f ∷ t) (head_at pool x) && body_on (decision f ∷ t) (weighted (bound_at pool x) pairs))
        go All p b q e = on_it (head_stays p) (body_one' j (q ∙ e))
        go (One k) p All q e = on_it (head_one (p ∙ e)) (body_stays j q)
        go (One k) p (One m) q e = absurd (clashes e refl)
        go (One k) p Off q e = absurd (clashes e refl)
        go Off p b q e = absurd (clashes e refl)

  one_rule : In n (nat_abs f) → row_rest pool v x ≡ One f → T (rule_on (decision f ∷ t) (rule_at pool x))
  one_rule j e = go (is_weighted x.body) refl e
    where
      go : (b : Bool) → is_weighted x.body ≡ b → pick b (both_rest (head_rest pool v x) (weighted_rest pool v x)) (meets v (begins x.head) (conditions pool x)) ≡ One f
          → T (rule_on (decision f ∷ t) (rule_at pool x))
      go true u e = one_weighted u j e
      go false u e = one_normal u e

-- ---- the scan

-- what is noted, where q tells what is left of each of k rules: what is left alone of the first rule that leaves one literal
abbrev LeftSays : (ℕ → Rest) → ℕ → Found → Type 0
LeftSays q k (Broken r) = Unit {0}
LeftSays q k (Breaker l) = (r : ℕ) × (r < k) × (q r ≡ One l) × ((j : ℕ) → j < r → (f : ℤ) → ¬ (q j ≡ One f))
LeftSays q k Clear = (j : ℕ) → j < k → (f : ℤ) → ¬ (q j ≡ One f)

module _ (q : ℕ → Rest) where
  below : (i j : ℕ) → j < i + 1 → (j ≡ i) ⊎ (j < i)
  below i j h = go (eqb j i) refl
    where
      go : (x : Bool) → eqb j i ≡ x → (j ≡ i) ⊎ (j < i)
      go true e = inl (eqb-true j i e)
      go false e = let z = eqb-false j i e in inr (omega arith)

  none_more : (i : ℕ) → ((f : ℤ) → ¬ (q i ≡ One f)) → LeftSays q i Clear → LeftSays q (i + 1) Clear
  none_more i k h j l f e = ⊎_elim (λ z. k f (ap q (sym z) ∙ e)) (λ z. h j z f e) (below i j l)

  note_left : (i : ℕ) (a : Found) → LeftSays q i a → LeftSays q (i + 1) (note_of a (q i))
  note_left i (Broken r) h = tt
  note_left i (Breaker l) h = (h.0, omega (arith, h.1), h.2, h.3)
  note_left i Clear h = go (q i) refl
    where
      all_one : (f : ℤ) → All ≡ One f → ⊥
      all_one f e = let z : ◌≡◌ {A = ℕ} 0 1 = cc in omega arith

      off_one : (f : ℤ) → Off ≡ One f → ⊥
      off_one f e = let z : ◌≡◌ {A = ℕ} 0 1 = cc in omega arith

      go : (s : Rest) → q i ≡ s → LeftSays q (i + 1) (note_of Clear s)
      go All e = none_more i (λ f k. all_one f (sym e ∙ k)) h
      go (One l) e = (i, omega arith, e, h)
      go Off e = none_more i (λ f k. off_one f (sym e ∙ k)) h

  from_left : (a : Found) (r k : ℕ) → LeftSays q r a → LeftSays q (r + k) (scan_from q a r k)
  unfolding scan_from
  from_left a r zero h = let z : r + 0 ≡ r = omega arith in rw z h
  from_left a r (suc k) h = go (is_all (q r)) (from_left (note_of a (q r)) (r + 1) k (note_left r a h))
    where
      go : (x : Bool) → LeftSays q (r + 1 + k) (scan_from q (note_of a (q r)) (r + 1) k) → LeftSays q (r + suc k) (pick x (Broken r) (scan_from q (note_of a (q r)) (r + 1) k))
      go true c = tt
      go false c = let z : r + 1 + k ≡ r + suc k = omega arith in rw z at c

module _ (n : ℕ) (pool : List ℤ) (rows : List Row) (count : ℕ) (f : Formed n pool rows count) (v : List ℕ) (t : Trail) (w : Valued v t) (wf : FormedTrail n t) where
  -- rule r is broken in every set that agrees with the trail and l
  abbrev pub Breaks : ℤ → ℕ → Type 0
  Breaks l r = InAll (decision l ∷ t) (λ M. T (broken_in M (rule_at pool (row_at rows r))))

  -- no undecided literal would break rule j, if its body is not weighted (of a weighted body a literal that stands twice may go unnoted)
  abbrev pub NoBreaker : ℕ → Type 0
  NoBreaker j = is_weighted (row_at rows j).body ≡ false → (l : ℤ) → In n (nat_abs l) → NotOn (nat_abs l) t → ¬ Breaks l j

  abbrev pub NotedSays : Found → Type 0
  NotedSays (Broken r) = Unit {0}
  NotedSays (Breaker l) = (r : ℕ) × (r < count) × In n (nat_abs l) × NotOn (nat_abs l) t × Breaks l r × ((j : ℕ) → j < r → NoBreaker j)
  NotedSays Clear = (j : ℕ) → j < count → NoBreaker j

  -- a rule that is not broken, and leaves no literal alone
  no_breaker : (j : ℕ) → j < count → rule_on t (rule_at pool (row_at rows j)) ≡ false → ((l : ℤ) → ¬ (rest_of (rules pool rows count) v j ≡ One l)) → NoBreaker j
  no_breaker j h b k u l i o c =
      k l (rule_one n pool (row_at rows j) (f.row j h) (rule_in n pool rows count f j h) v t w l o u
      (all_rule n (decision l ∷ t) (i, o, wf) (rule_at pool (row_at rows j)) (rule_in n pool rows count f j h) c) b)

  says_noted : (y : Found) → NotedAs (Undecided n v) y → ScanSays (λ (r : ℕ). rule_on t (rule_at pool (row_at rows r))) count y → LeftSays (rest_of (rules pool rows count) v) count y → NotedSays y
  says_noted (Broken r) u b h = tt
  says_noted (Breaker l) u b h =
      let o : NotOn (nat_abs l) t = zero_off t (nat_abs l) (sym (w (nat_abs l)) ∙ u.1) in
      let e = one_rule n pool (row_at rows h.0) (f.row h.0 h.1) (rule_in n pool rows count f h.0 h.1) v t w l o u.0 h.2 in (
        h.0,
        h.1,
        u.0,
        o,
        rule_all n (decision l ∷ t) (rule_at pool (row_at rows h.0)) (rule_in n pool rows count f h.0 h.1) e,
        λ j k. no_breaker j (omega (arith, h.1)) (b j (omega (arith, h.1))) (h.3 j k),
      )
  says_noted Clear u b h = λ j k. no_breaker j k (b j k) (h j k)

  -- The scan notes the first literal that would break a rule if added.
  pub noted_says : (s : AssumedEntries) → FormedSoft n s → NotedSays (scan_of (rules pool rows count) v)
  noted_says s q =
      says_noted (scan_of (rules pool rows count) v) (scan_undecided n pool rows count f s q v) (scan_says n pool rows count f v t w)
      (let z : 0 + count ≡ count = omega arith in rw z at (from_left (rest_of (rules pool rows count) v) Clear 0 count (λ j k. absurd (omega arith))))
