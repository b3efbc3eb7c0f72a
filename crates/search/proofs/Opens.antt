-- The literal to branch on, on an open trail: of an atom from 1 to n that is undecided. Assumes nothing.
use mathlib.Core.Path.{◌≡◌, refl, ◌∙◌}
use mathlib.Core.Bool.{Bool, true, false}
use mathlib.Core.List.{List, [], ◌∷◌}
use mathlib.Core.Logic.{◌⊎◌, inl, inr}
use Prim.Native.Nat.{ℕ, zero, suc, ◌+◌, ◌-◌, ◌<◌, ◌≤◌}
use native.Mathlib.Omega.{arith}
use lib.Dec.{T, eqb, ltb}
use lib.IntN.{ℤ, pos, neg_ℤ, nat_abs}
use lib.ListN.{length, get_or}
use borrow.Author.Tests.{eqb-true, eqb-false}
use Rattle.asp.specs.declared.rules.Row.{Row}
use Rattle.asp.specs.Sets.{Set, In, pick}
use Rattle.asp.specs.Literal.{is_negative}
use Rattle.asp.specs.Tables.{Formed}
use Rattle.asp.proofs.Signed.{abs_neg}
use Rattle.search.specs.declared.scan.Found.{Found}
use Rattle.search.specs.declared.scan.Found.TheVariants.{Broken, Breaker, Clear}
use Rattle.search.specs.Trail.{Trail, literal_of, on, NotOn}
use Rattle.search.specs.Places.{side_of, truth_of, value_on}
use Rattle.search.specs.Scan.{Rules, rules, row_of, cond_at, scan_of}
use Rattle.search.specs.Soft.{AssumedEntries, wished_at, wish_of, FormedSoft}
use Rattle.search.specs.Branch.{lowest_from, lowest_of, free_literal, free_branch, branch_of, NotedAs}
use Rattle.search.proofs.BranchLaws.{lowest_le}
use Rattle.search.proofs.NotedLaws.{noted_as}
use Rattle.search.proofs.StepLaws.{wish_as, wished_or_as, free_as}
use Rattle.search.proofs.Counts.{not_on, short_off}
use Rattle.search.proofs.Formed.{atom_in_lem}
use Rattle.search.proofs.TrailTables.{Valued, value_off}

-- of an atom from 1 to n that is undecided
abbrev pub Undecided : ℕ → List ℕ → ℤ → Type 0
Undecided n v l = In n (nat_abs l) × (get_or v (nat_abs l) 0 ≡ 0)

-- ---- an undecided atom is not on the trail

side_some : (l : ℤ) → side_of l ≡ 0 → ⊥
side_some l = go (is_negative l)
  where
    go : (b : Bool) → ◌≡◌ {A = ℕ} (pick b 2 1) 0 → ⊥
    go true h = omega arith
    go false h = omega arith

pub zero_off : (t : Trail) (a : ℕ) → value_on t a ≡ 0 → NotOn a t
zero_off [] a h = tt
zero_off (s ∷ t) a h = go (eqb a (nat_abs (literal_of s))) refl h (zero_off t a)
  where
    go : (b : Bool) → eqb a (nat_abs (literal_of s)) ≡ b → pick b (side_of (literal_of s)) (value_on t a) ≡ 0 → (value_on t a ≡ 0 → NotOn a t) → (¬ (a ≡ nat_abs (literal_of s))) × NotOn a t
    go true e h r = absurd (side_some (literal_of s) h)
    go false e h r = (eqb-false a (nat_abs (literal_of s)) e, r h)

decided_on : (t : Trail) (a : ℕ) → (¬ (value_on t a ≡ 0)) → T (on t a)
decided_on t a h = go (on t a) refl
  where
    go : (b : Bool) → on t a ≡ b → T b
    go true e = tt
    go false e = absurd (h (value_off t a (not_on t a (λ x. rw e at x))))

truth_zero : (l : ℤ) (x : ℕ) → truth_of l x ≡ 0 → x ≡ 0
truth_zero l x = go (eqb x 0) (eqb (side_of l) x) refl
  where
    go : (b d : Bool) → eqb x 0 ≡ b → ◌≡◌ {A = ℕ} (pick b 0 (pick d 1 2)) 0 → x ≡ 0
    go true d e h = eqb-true x 0 e
    go false true e h = absurd (omega arith)
    go false false e h = absurd (omega arith)

-- ---- the lowest

low_ge : (v : List ℕ) (a k : ℕ) → a ≤ lowest_from v a k
unfolding lowest_from
low_ge v a zero = omega arith
low_ge v a (suc k) = go (eqb (get_or v a 0) 0) (low_ge v (a + 1) k)
  where
    go : (b : Bool) → a + 1 ≤ lowest_from v (a + 1) k → a ≤ pick b a (lowest_from v (a + 1) k)
    go true h = omega arith
    go false h = omega arith

-- it is undecided, or all are decided
low_or : (v : List ℕ) (a k : ℕ) → (get_or v (lowest_from v a k) 0 ≡ 0) ⊎ ((c : ℕ) → a ≤ c → c ≤ a + k → ¬ (get_or v c 0 ≡ 0))
unfolding lowest_from
low_or v a zero = go (eqb (get_or v a 0) 0) refl
  where
    go : (b : Bool) → eqb (get_or v a 0) 0 ≡ b → (get_or v a 0 ≡ 0) ⊎ ((c : ℕ) → a ≤ c → c ≤ a + 0 → ¬ (get_or v c 0 ≡ 0))
    go true e = inl (eqb-true (get_or v a 0) 0 e)
    go false e = inr (λ c h l. let z : c ≡ a = omega arith in rw z (eqb-false (get_or v a 0) 0 e))
low_or v a (suc k) = go (eqb (get_or v a 0) 0) refl (low_or v (a + 1) k)
  where
    step : eqb (get_or v a 0) 0 ≡ false → ((c : ℕ) → a + 1 ≤ c → c ≤ a + 1 + k → ¬ (get_or v c 0 ≡ 0)) → (c : ℕ) → a ≤ c → c ≤ a + suc k → ¬ (get_or v c 0 ≡ 0)
    step e r c h l = at (eqb c a) refl
      where
        at : (x : Bool) → eqb c a ≡ x → ¬ (get_or v c 0 ≡ 0)
        at true q = let z : c ≡ a = eqb-true c a q in rw z (eqb-false (get_or v a 0) 0 e)
        at false q = let z = eqb-false c a q in r c (omega arith) (omega arith)

    go : (b : Bool) → eqb (get_or v a 0) 0 ≡ b → (get_or v (lowest_from v (a + 1) k) 0 ≡ 0) ⊎ ((c : ℕ) → a + 1 ≤ c → c ≤ a + 1 + k → ¬ (get_or v c 0 ≡ 0))
        → (get_or v (pick b a (lowest_from v (a + 1) k)) 0 ≡ 0) ⊎ ((c : ℕ) → a ≤ c → c ≤ a + suc k → ¬ (get_or v c 0 ≡ 0))
    go true e r = inl (eqb-true (get_or v a 0) 0 e)
    go false e (inl r) = inl r
    go false e (inr r) = inr (step e r)

lowest_undecided : (f : Set) (n : ℕ) (v : List ℕ) (t : Trail) → Valued v t → length t < n → Undecided n v (free_literal f (lowest_of v n))
lowest_undecided f n v t w h = free_as (λ a. In n a × (get_or v a 0 ≡ 0)) (f (lowest_of v n)) (lowest_of v n) ((low_ge v 1 (n - 1), lowest_le v n (omega arith)), go (low_or v 1 (n - 1)))
  where
    go : (get_or v (lowest_of v n) 0 ≡ 0) ⊎ ((c : ℕ) → 1 ≤ c → c ≤ 1 + (n - 1) → ¬ (get_or v c 0 ≡ 0)) → get_or v (lowest_of v n) 0 ≡ 0
    go (inl r) = r
    go (inr r) = absurd (short_off n t h (λ a i. decided_on t a (λ q. r a i.0 (omega (arith, i.1)) (w a ∙ q))))

-- ---- the literal to branch on

cond_in : (n : ℕ) (b : Bool) (z : ℤ) → In n (nat_abs z) → In n (nat_abs (pick b (neg_ℤ z) z))
cond_in n true z h = rw abs_neg h
cond_in n false z h = h

module _ (n : ℕ) (pool : List ℤ) (rows : List Row) (count : ℕ) (f : Formed n pool rows count) (s : AssumedEntries) (q : FormedSoft n s) (v : List ℕ) where
  pub scan_undecided : NotedAs (Undecided n v) (scan_of (rules pool rows count) v)
  scan_undecided = noted_as (Undecided n v) (rules pool rows count) v (λ r b k x y z.
      let g : Rules = rules pool rows count in
      (cond_in n (ltb k ((row_of g r).first + (row_of g r).heads)) (get_or pool k (pos 0)) (atom_in_lem n pool rows count f r b k x y), truth_zero (cond_at pool ((row_of g r).first + (row_of g r).heads) k) _ z))

  free_undecided : (t : Trail) → Valued v t → length t < n → Undecided n v (free_branch s.first s.wished s.count v n)
  free_undecided t w h =
      wished_or_as (Undecided n v) (free_literal s.first (lowest_of v n)) (wish_of s.wished s.count v) (lowest_undecided s.first n v t w h)
      (wish_as (Undecided n v) s.wished v 0 s.count (λ j a b z. (q.atoms j (omega arith), truth_zero (wished_at s j) _ z)))

  branch_by : (t : Trail) → Valued v t → length t < n → (x : Found) → NotedAs (Undecided n v) x → Undecided n v (branch_of s.first s.wished s.count v n x)
  branch_by t w h (Breaker l) u = rw abs_neg u
  branch_by t w h (Broken r) u = free_undecided t w h
  branch_by t w h Clear u = free_undecided t w h

  pub branch_undecided : (t : Trail) → Valued v t → length t < n → Undecided n v (branch_of s.first s.wished s.count v n (scan_of (rules pool rows count) v))
  branch_undecided t w h = branch_by t w h (scan_of (rules pool rows count) v) scan_undecided
