-- What the scans find: the first broken rule, or that no rule is broken; a violated soft literal, one blamed already before a new one, or that none is violated.
-- Said of the trail that the values are of. Assumes nothing.
use Rattle.std.specs.Prelude.{Option, Some, None}
use mathlib.Core.Path.{◌≡◌, refl, sym, ap, ap₂, ◌∙◌}
use mathlib.Core.Bool.{Bool, true, false, ◌&&◌}
use mathlib.Core.List.{List}
use mathlib.Core.Logic.{◌⊎◌, inl, inr}
use Prim.Native.Nat.{ℕ, zero, suc, ◌+◌, ◌<◌}
use native.Mathlib.Omega.{arith}
use lib.Dec.{eqb}
use lib.IntN.{ℤ}
use lib.ListN.{get_or}
use borrow.Author.Tests.{eqb-true, eqb-false}
use Rattle.asp.specs.declared.rules.Row.{Row}
use Rattle.asp.specs.Sets.{pick}
use Rattle.asp.specs.Program.{RuleIn}
use Rattle.asp.specs.Tables.{is_choice, is_weighted, is_mixed, pairs_at, bound_at, row_at, head_at, rule_at, RowIn, Formed}
use Rattle.asp.proofs.Signed.{clash}
use Rattle.search.specs.declared.scan.Rest.{Rest}
use Rattle.search.specs.declared.scan.Rest.TheVariants.{All, One, Off}
use Rattle.search.specs.declared.scan.Found.{Found}
use Rattle.search.specs.declared.scan.Found.TheVariants.{Broken, Breaker, Clear}
use Rattle.search.specs.Trail.{Trail}
use Rattle.search.specs.Scan.{rules, conditions, head_conditions, head_rest, weighted_rest, row_rest, meets, begins, rest_of, is_all, note_of, scan_from, scan_of}
use Rattle.search.specs.Soft.{AssumedEntries, wished_at, judged_at, first_of, violated_from, violated_of, FormedSoft}
use Rattle.search.proofs.ScanLaws.{off_stays}
use Rattle.search.proofs.StepLaws.{NotBroken}
use Rattle.search.proofs.Agree.{head_on, rule_on, soft_on}
use Rattle.search.proofs.TrailTables.{Valued}
use Rattle.search.proofs.Formed.{rule_in}
use Rattle.search.specs.Weigh.{both_rest}
use Rattle.search.proofs.Conditions.{false_on, meets_all, conds_on, heads_on}
use Rattle.search.proofs.WeighLaws.{body_all, both_all, row_pairs, row_signed}

module _ (v : List ℕ) (t : Trail) (w : Valued v t) where
  -- ---- one rule: all its conditions are on the trail

  head_all : (n : ℕ) (pool : List ℤ) (x : Row) → RowIn pool x → RuleIn n (rule_at pool x) → is_all (head_rest pool v x) ≡ head_on t (head_at pool x)
  head_all n pool x r i = go (is_choice x.head) refl
    where
      go : (b : Bool) → is_choice x.head ≡ b → is_all (meets v (pick b Off All) (head_conditions pool x)) ≡ head_on t (head_at pool x)
      go true e = ap is_all (off_stays v (head_conditions pool x)) ∙ rw e
      go false e = meets_all v t w All (head_conditions pool x) ∙ heads_on t n pool x r i e

  normal_on : (n : ℕ) (pool : List ℤ) (x : Row) → RowIn pool x → RuleIn n (rule_at pool x) → is_weighted x.body ≡ false → is_all (meets v (begins x.head) (conditions pool x)) ≡ rule_on t (rule_at pool x)
  normal_on n pool x r i q = go (is_choice x.head) refl
    where
      go : (b : Bool) → is_choice x.head ≡ b → is_all (meets v (pick b Off All) (conditions pool x)) ≡ rule_on t (rule_at pool x)
      go true e = rw e (ap is_all (off_stays v (conditions pool x)))
      go false e = meets_all v t w All (conditions pool x) ∙ conds_on t n pool x r i e q

  pub rule_on_lem : (n : ℕ) (pool : List ℤ) (x : Row) → RowIn pool x → RuleIn n (rule_at pool x) → is_all (row_rest pool v x) ≡ rule_on t (rule_at pool x)
  rule_on_lem n pool x r i = go (is_weighted x.body) refl
    where
      go : (b : Bool) → is_weighted x.body ≡ b → is_all (pick b (both_rest (head_rest pool v x) (weighted_rest pool v x)) (meets v (begins x.head) (conditions pool x))) ≡ rule_on t (rule_at pool x)
      go true e =
          both_all (head_rest pool v x) (weighted_rest pool v x)
          ∙ ap₂ (λ (a b : Bool). a && b) (head_all n pool x r i) (body_all n v t w (is_mixed x.body) (pairs_at pool (x.literals + 1) (x.first + x.heads) x.literals) (row_pairs n pool x i e) (row_signed pool x r e) (bound_at pool x) ∙ rw e)
      go false e = normal_on n pool x r i e

-- ---- the scan of the rules

-- what the answer says, where p tells of each of k rules whether it is broken: the first that is, or that none is
abbrev pub ScanSays : (ℕ → Bool) → ℕ → Found → Type 0
ScanSays p k (Broken r) = (r < k) × (p r ≡ true) × ((j : ℕ) → j < r → p j ≡ false)
ScanSays p k (Breaker l) = (j : ℕ) → j < k → p j ≡ false
ScanSays p k Clear = (j : ℕ) → j < k → p j ≡ false

note_not : (a : Found) (s : Rest) → NotBroken a → NotBroken (note_of a s)
note_not (Broken r) s h = absurd h
note_not (Breaker l) s h = tt
note_not Clear All h = tt
note_not Clear (One l) h = tt
note_not Clear Off h = tt

one_more_lem : (p : ℕ → Bool) (r : ℕ) → ((j : ℕ) → j < r → p j ≡ false) → p r ≡ false → (j : ℕ) → j < r + 1 → p j ≡ false
one_more_lem p r h e j l = go (eqb j r) refl
  where
    go : (b : Bool) → eqb j r ≡ b → p j ≡ false
    go true q = let z : j ≡ r = eqb-true j r q in rw z e
    go false q = let z = eqb-false j r q in h j (omega arith)

module _ (q : ℕ → Rest) where
  from_says : (a : Found) (r k : ℕ) → NotBroken a → ((j : ℕ) → j < r → is_all (q j) ≡ false) → ScanSays (λ (j : ℕ). is_all (q j)) (r + k) (scan_from q a r k)
  unfolding scan_from
  from_says a r zero b h = none_left a b
    where
      none_left : (a : Found) → NotBroken a → ScanSays (λ (j : ℕ). is_all (q j)) (r + 0) a
      none_left (Broken x) b = absurd b
      none_left (Breaker l) b = λ j l. h j (omega arith)
      none_left Clear b = λ j l. h j (omega arith)
  from_says a r (suc k) b h = go (is_all (q r)) refl (λ e. from_says (note_of a (q r)) (r + 1) k (note_not a (q r) b) (one_more_lem (λ (j : ℕ). is_all (q j)) r h e))
    where
      go : (x : Bool) → is_all (q r) ≡ x → (is_all (q r) ≡ false → ScanSays (λ (j : ℕ). is_all (q j)) (r + 1 + k) (scan_from q (note_of a (q r)) (r + 1) k))
          → ScanSays (λ (j : ℕ). is_all (q j)) (r + suc k) (pick x (Broken r) (scan_from q (note_of a (q r)) (r + 1) k))
      go true e c = (omega arith, e, h)
      go false e c = let z : r + 1 + k ≡ r + suc k = omega arith in rw z at (c e)

-- the same of another p that agrees
says_as : (p q : ℕ → Bool) (k : ℕ) (f : Found) → ((j : ℕ) → j < k → p j ≡ q j) → ScanSays p k f → ScanSays q k f
says_as p q k (Broken r) e h = (h.0, sym (e r h.0) ∙ h.1, λ j l. sym (e j (omega (arith, h.0))) ∙ h.2 j l)
says_as p q k (Breaker x) e h = λ j l. sym (e j l) ∙ h j l
says_as p q k Clear e h = λ j l. sym (e j l) ∙ h j l

module _ (n : ℕ) (pool : List ℤ) (rows : List Row) (count : ℕ) (f : Formed n pool rows count) (v : List ℕ) (t : Trail) (w : Valued v t) where
  -- The scan finds the first rule whose conditions are all on the trail, or that there is none.
  pub scan_says : ScanSays (λ (r : ℕ). rule_on t (rule_at pool (row_at rows r))) count (scan_of (rules pool rows count) v)
  scan_says =
      says_as (λ (j : ℕ). is_all (rest_of (rules pool rows count) v j)) (λ (r : ℕ). rule_on t (rule_at pool (row_at rows r))) count (scan_of (rules pool rows count) v)
      (λ j l. rule_on_lem v t w n pool (row_at rows j) (f.row j l) (rule_in n pool rows count f j l))
      (let z : 0 + count ≡ count = omega arith in rw z at (from_says (rest_of (rules pool rows count) v) Clear 0 count tt (λ j l. absurd (omega arith))))

-- ---- the scan of the soft literals

-- f tells whether one is violated, b whether it is blamed already
abbrev pub ViolatedSays : (ℕ → Bool) → (ℕ → Bool) → ℕ → Option ℕ → Type 0
ViolatedSays f b k (Some i) = (i < k) × (f i ≡ true) × ((b i ≡ true) ⊎ ((j : ℕ) → j < k → f j ≡ true → b j ≡ false))
ViolatedSays f b k None = (j : ℕ) → j < k → f j ≡ false

-- what was seen below i, none of it violated and blamed
abbrev SoFar : (ℕ → Bool) → (ℕ → Bool) → ℕ → Option ℕ → Type 0
SoFar f b i (Some m) = (m < i) × (f m ≡ true) × ((j : ℕ) → j < i → f j ≡ true → b j ≡ false)
SoFar f b i None = (j : ℕ) → j < i → f j ≡ false

module _ (s : AssumedEntries) (v : List ℕ) where
  abbrev is_violated : ℕ → Bool
  is_violated i = eqb (judged_at s v i) 2

  abbrev is_blamed : ℕ → Bool
  is_blamed i = eqb (get_or s.blamed i 0) 1

  far_end : (i : ℕ) (a : Option ℕ) → SoFar is_violated is_blamed i a → ViolatedSays is_violated is_blamed (i + 0) a
  far_end i (Some m) h = (omega (arith, h.0), h.1, inr (λ j l. h.2 j (omega arith)))
  far_end i None h = λ j l. h j (omega arith)

  below : (i j : ℕ) → j < i + 1 → (j ≡ i) ⊎ (j < i)
  below i j h = go (eqb j i) refl
    where
      go : (x : Bool) → eqb j i ≡ x → (j ≡ i) ⊎ (j < i)
      go true e = inl (eqb-true j i e)
      go false e = let z = eqb-false j i e in inr (omega arith)

  far_met : (i : ℕ) (a : Option ℕ) → is_violated i ≡ false → SoFar is_violated is_blamed i a → SoFar is_violated is_blamed (i + 1) a
  far_met i (Some m) e h = (omega (arith, h.0), h.1, λ j l q. go j q (below i j l))
    where
      go : (j : ℕ) → is_violated j ≡ true → (j ≡ i) ⊎ (j < i) → is_blamed j ≡ false
      go j q (inl z) = absurd (clash (sym e ∙ ap is_violated (sym z) ∙ q))
      go j q (inr z) = h.2 j z q
  far_met i None e h = λ j l. go j (below i j l)
    where
      go : (j : ℕ) → (j ≡ i) ⊎ (j < i) → is_violated j ≡ false
      go j (inl z) = rw z e
      go j (inr z) = h j z

  far_new : (i : ℕ) (a : Option ℕ) → is_violated i ≡ true → is_blamed i ≡ false → SoFar is_violated is_blamed i a → SoFar is_violated is_blamed (i + 1) (first_of a i)
  far_new i (Some m) e b h = (omega (arith, h.0), h.1, λ j l q. go j q (below i j l))
    where
      go : (j : ℕ) → is_violated j ≡ true → (j ≡ i) ⊎ (j < i) → is_blamed j ≡ false
      go j q (inl z) = rw z b
      go j q (inr z) = h.2 j z q
  far_new i None e b h = (omega arith, e, λ j l q. go j q (below i j l))
    where
      go : (j : ℕ) → is_violated j ≡ true → (j ≡ i) ⊎ (j < i) → is_blamed j ≡ false
      go j q (inl z) = rw z b
      go j q (inr z) = absurd (clash (sym (h j z) ∙ q))

  violated_from_lem : (a : Option ℕ) (i k : ℕ) → SoFar is_violated is_blamed i a → ViolatedSays is_violated is_blamed (i + k) (violated_from s v a i k)
  unfolding violated_from
  violated_from_lem a i zero h = far_end i a h
  violated_from_lem a i (suc k) h =
      go (is_violated i) refl (is_blamed i) refl
      (λ e. violated_from_lem a (i + 1) k (far_met i a e h))
      (λ e b. violated_from_lem (first_of a i) (i + 1) k (far_new i a e b h))
    where
      go : (x : Bool) → is_violated i ≡ x → (y : Bool) → is_blamed i ≡ y
          → (is_violated i ≡ false → ViolatedSays is_violated is_blamed (i + 1 + k) (violated_from s v a (i + 1) k))
          → (is_violated i ≡ true → is_blamed i ≡ false → ViolatedSays is_violated is_blamed (i + 1 + k) (violated_from s v (first_of a i) (i + 1) k))
          → ViolatedSays is_violated is_blamed (i + suc k) (pick x (pick y (Some i) (violated_from s v (first_of a i) (i + 1) k)) (violated_from s v a (i + 1) k))
      go true e true b p q = (omega arith, e, inl b)
      go true e false b p q = let z : i + 1 + k ≡ i + suc k = omega arith in rw z at (q e b)
      go false e y b p q = let z : i + 1 + k ≡ i + suc k = omega arith in rw z at (p e)

violated_as : (f g b : ℕ → Bool) (k : ℕ) (x : Option ℕ) → ((j : ℕ) → j < k → f j ≡ g j) → ViolatedSays f b k x → ViolatedSays g b k x
violated_as f g b k (Some i) e h = (h.0, sym (e i h.0) ∙ h.1, go h.2)
  where
    go : (b i ≡ true) ⊎ ((j : ℕ) → j < k → f j ≡ true → b j ≡ false) → (b i ≡ true) ⊎ ((j : ℕ) → j < k → g j ≡ true → b j ≡ false)
    go (inl q) = inl q
    go (inr q) = inr (λ j l z. q j l (e j l ∙ z))
violated_as f g b k None e h = λ j l. sym (e j l) ∙ h j l

module _ (n : ℕ) (s : AssumedEntries) (f : FormedSoft n s) (v : List ℕ) (t : Trail) (w : Valued v t) where
  -- The scan finds one that fails on the trail, blamed already if there is such a one; or that none fails.
  pub violated_says : ViolatedSays (λ (i : ℕ). soft_on t (wished_at s i)) (λ (i : ℕ). eqb (get_or s.blamed i 0) 1) s.count (violated_of s v)
  violated_says =
      violated_as (λ (i : ℕ). eqb (judged_at s v i) 2) (λ (i : ℕ). soft_on t (wished_at s i)) (λ (i : ℕ). eqb (get_or s.blamed i 0) 1) s.count (violated_of s v)
      (λ j l. false_on v t w (wished_at s j) (f.atoms j l).0)
      (let z : 0 + s.count ≡ s.count = omega arith in rw z at (violated_from_lem s v None 0 s.count (λ j l. absurd (omega arith))))
