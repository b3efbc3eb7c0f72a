-- The ways that a test and a step go, from what their calls say. Assumes nothing.
use Rattle.std.specs.Prelude.{Option, Some, None}
use mathlib.Core.Path.{◌≡◌, refl, sym, ◌∙◌}
use mathlib.Core.Bool.{Bool, true, false}
use mathlib.Core.List.{List}
use Prim.Native.Nat.{ℕ, zero, suc, ◌+◌, ◌≤◌, ◌<◌}
use native.Mathlib.Omega.{arith}
use lib.Dec.{leb}
use lib.IntN.{ℤ, pos, neg_ℤ, nat_abs}
use lib.ListN.{get_or}
use mir.Syntax.{w32}
use mir.Val.{to_z, of_z}
use mir.Facts.{to_z-of_z}
use borrow.Author.Tests.{le-leb, lt-leb, leb-true, leb-false, eqb-true}
use Rattle.asp.specs.declared.rules.Row.{Row}
use Rattle.asp.specs.Sets.{Set, pick}
use Rattle.asp.specs.Tables.{Formed}
use Rattle.asp.proofs.Signed.{abs_neg, small_fits}
use Rattle.search.specs.declared.scan.Found.{Found}
use Rattle.search.specs.declared.scan.Found.TheVariants.{Broken, Breaker, Clear}
use Rattle.search.specs.declared.step.Tested.{Tested}
use Rattle.search.specs.declared.step.Tested.TheVariants.{RuleBroken, Full, SoftViolated, Open}
use Rattle.search.specs.declared.trail.Places.{Places}
use Rattle.search.specs.Places.{truth_at, push_of, back_of}
use Rattle.search.specs.Scan.{Rules, rules, Readable, scan_of}
use Rattle.search.specs.Soft.{AssumedEntries, wish_from, wish_of, violated_of, ReadableWishes, ReadableSoft, FormedSoft}
use Rattle.search.specs.Branch.{lowest_of, wished_or, free_literal, free_branch, branch_of, Noted}
use Rattle.search.specs.Step.{open_or, unbroken, test_by, test_of, stepped, step_of}
use Rattle.search.proofs.NotedLaws.{noted}
use Rattle.search.proofs.BranchLaws.{lowest_le}
use Rattle.search.proofs.Formed.{readable, readable_soft}
use lib.Dec.{eqb}

-- ---- the literal to branch on is of an atom up to 1,024

-- P holds of the wished literal, if there is one
abbrev WishAs : (ℤ → Type 0) → Option ℤ → Type 0
WishAs P (Some l) = P l
WishAs P None = Unit {0}

pub wish_as : (P : ℤ → Type 0) (w : List ℤ) (v : List ℕ) (i k : ℕ) → ((j : ℕ) → i ≤ j → j < i + k → truth_at v (get_or w j (pos 0)) ≡ 0 → P (get_or w j (pos 0))) → WishAs P (wish_from w v i k)
unfolding wish_from
wish_as P w v i zero h = tt
wish_as P w v i (suc k) h = go (eqb (truth_at v (get_or w i (pos 0))) 0) refl (wish_as P w v (i + 1) k (λ j a b. h j (omega arith) (omega arith)))
  where
    go : (b : Bool) → eqb (truth_at v (get_or w i (pos 0))) 0 ≡ b → WishAs P (wish_from w v (i + 1) k) → WishAs P (pick b (Some (get_or w i (pos 0))) (wish_from w v (i + 1) k))
    go true e r = h i (omega arith) (omega arith) (eqb-true (truth_at v (get_or w i (pos 0))) 0 e)
    go false e r = r

pub wished_or_as : (P : ℤ → Type 0) (l : ℤ) (x : Option ℤ) → P l → WishAs P x → P (wished_or l x)
wished_or_as P l (Some w) p q = q
wished_or_as P l None p q = p

-- in or out, the literal is of the same atom
pub free_as : (P : ℕ → Type 0) (b : Bool) (a : ℕ) → P a → P (nat_abs (pick b (pos a) (neg_ℤ (pos a))))
free_as P true a p = p
free_as P false a p = rw abs_neg p

free_small : (g : Set) (w : List ℤ) (k : ℕ) (v : List ℕ) (n : ℕ) → ReadableWishes w k → 1 ≤ n → n ≤ 1024 → nat_abs (free_branch g w k v n) ≤ 1024
free_small g w k v n f h m =
    wished_or_as (λ l. nat_abs l ≤ 1024) (free_literal g (lowest_of v n)) (wish_of w k v) (free_as (λ a. a ≤ 1024) (g (lowest_of v n)) (lowest_of v n) (omega (arith, lowest_le v n h)))
    (wish_as (λ l. nat_abs l ≤ 1024) w v 0 k (λ j a b z. f.small j (omega arith)))

pub branch_small : (g : Set) (w : List ℤ) (k : ℕ) (v : List ℕ) (n : ℕ) (f : Found) → ReadableWishes w k → 1 ≤ n → n ≤ 1024 → Noted f → nat_abs (branch_of g w k v n f) ≤ 1024
branch_small g w k v n (Breaker l) r h m p = rw abs_neg p
branch_small g w k v n (Broken x) r h m p = free_small g w k v n r h m
branch_small g w k v n Clear r h m p = free_small g w k v n r h m

-- ---- the test where no rule is broken

module _ (n : ℕ) (s : AssumedEntries) (v : List ℕ) (len : ℕ) (f : Found) where
  pub test_full : n ≤ len → Full ≡ unbroken n s v len f
  unfolding unbroken
  test_full h = rw (le-leb n len h)

  pub test_violated : len < n → {x : Option ℕ} {i : ℕ} → x ≡ violated_of s v → x ≡ Some i → SoftViolated i ≡ unbroken n s v len f
  unfolding unbroken
  test_violated h e q = rw (lt-leb n len h, ← e, q)

  test_is_open : len < n → {x : Option ℕ} → x ≡ violated_of s v → x ≡ None → Open (branch_of s.first s.wished s.count v n f) ≡ unbroken n s v len f
  unfolding unbroken
  test_is_open h e q = rw (lt-leb n len h, ← e, q)

  -- the literal comes from a call as its bits, read back
  pub test_open : len < n → n ≤ 1024 → ReadableSoft s → Noted f → {x : Option ℕ} → x ≡ violated_of s v → x ≡ None
      → {l : ℤ} → l ≡ branch_of s.first s.wished s.count v n f → Open (to_z w32 (of_z w32 l)) ≡ unbroken n s v len f
  test_open h m r p e q z =
      rw (z, to_z-of_z (small_fits (branch_of s.first s.wished s.count v n f) (branch_small s.first s.wished s.count v n f r.wishes (omega arith) m p))) (test_is_open h e q)

-- ---- what an open trail says

abbrev pub NotBroken : Found → Type 0
NotBroken (Broken r) = ⊥
NotBroken (Breaker l) = Unit {0}
NotBroken Clear = Unit {0}

-- what the answer of the test says, where the scan found f
abbrev pub Told : ℕ → AssumedEntries → List ℕ → ℕ → Found → Tested → Type 0
Told n s v len f (RuleBroken r) = f ≡ Broken r
Told n s v len f Full = NotBroken f × (n ≤ len)
Told n s v len f (SoftViolated i) = NotBroken f × (len < n) × (violated_of s v ≡ Some i)
Told n s v len f (Open l) = NotBroken f × (len < n) × (violated_of s v ≡ None) × (l ≡ branch_of s.first s.wished s.count v n f)

told_unbroken : (n : ℕ) (s : AssumedEntries) (v : List ℕ) (len : ℕ) (f : Found) → NotBroken f → Told n s v len f (unbroken n s v len f)
unfolding unbroken
told_unbroken n s v len f b = go (leb n len) refl (violated_of s v) refl
  where
    go : (y : Bool) → leb n len ≡ y → (x : Option ℕ) → violated_of s v ≡ x → Told n s v len f (pick y Full (open_or (branch_of s.first s.wished s.count v n f) x))
    go true e x q = (b, leb-true n len e)
    go false e (Some i) q = (b, leb-false n len e, q)
    go false e None q = (b, leb-false n len e, q, refl)

told_by : (n : ℕ) (s : AssumedEntries) (v : List ℕ) (len : ℕ) (f : Found) → Told n s v len f (test_by n s v len f)
told_by n s v len (Broken r) = refl
told_by n s v len (Breaker l) = told_unbroken n s v len (Breaker l) tt
told_by n s v len Clear = told_unbroken n s v len Clear tt

pub told : (g : Rules) (n : ℕ) (s : AssumedEntries) (v : List ℕ) (len : ℕ) → Told n s v len (scan_of g v) (test_of g n s v len)
told g n s v len = told_by n s v len (scan_of g v)

module _ (g : Rules) (n : ℕ) (s : AssumedEntries) (v : List ℕ) (len : ℕ) {x : Tested} where
  opened : x ≡ test_of g n s v len → {l : ℤ} → x ≡ Open l → NotBroken (scan_of g v) × (len < n) × (violated_of s v ≡ None) × (l ≡ branch_of s.first s.wished s.count v n (scan_of g v))
  opened e q = rw (sym e ∙ q) at (told g n s v len)

  open_short : x ≡ test_of g n s v len → {l : ℤ} → x ≡ Open l → n ≤ 1024 → len < 1024
  open_short e q h = omega (arith, (opened e q).1)

  open_in : x ≡ test_of g n s v len → {l : ℤ} → x ≡ Open l → n ≤ 1024 → Readable g → ReadableSoft s → nat_abs l ≤ 1024
  open_in e q h r f = let o = opened e q in rw o.3 (branch_small s.first s.wished s.count v n (scan_of g v) f.wishes (omega (arith, o.1)) h (noted g v r))

-- what a push asks; the literal comes from a call as its bits, read back
module _ (pool : List ℤ) (rows : List Row) (count n : ℕ) (s : AssumedEntries) (v : List ℕ) (len : ℕ) {x : Tested} {l : ℤ} where
  pub open_room : Formed n pool rows count → x ≡ test_of (rules pool rows count) n s v len → x ≡ Open l → len < 1024
  open_room f e q = open_short (rules pool rows count) n s v len e q f.few

  open_is : Formed n pool rows count → FormedSoft n s → x ≡ test_of (rules pool rows count) n s v len → x ≡ Open l → nat_abs l ≤ 1024
  open_is f w e q = open_in (rules pool rows count) n s v len e q f.few (readable n pool rows count f) (readable_soft n s f.few w)

  pub open_small : Formed n pool rows count → FormedSoft n s → x ≡ test_of (rules pool rows count) n s v len → x ≡ Open l → nat_abs (to_z w32 (of_z w32 l)) ≤ 1024
  open_small f w e q = let i = open_is f w e q in rw (to_z-of_z (small_fits l i)) i

  pub open_same : Formed n pool rows count → FormedSoft n s → x ≡ test_of (rules pool rows count) n s v len → x ≡ Open l → to_z w32 (of_z w32 l) ≡ l
  open_same f w e q = to_z-of_z (small_fits l (open_is f w e q))

-- ---- the step

module _ (g : Rules) (n : ℕ) (s : AssumedEntries) (t : Places) {x : Tested} where
  pub step_broken : x ≡ test_of g n s t.value t.len → {r : ℕ} → x ≡ RuleBroken r → {t₁ : Places} → t₁ ≡ back_of t → stepped x t₁ ≡ step_of g n s t
  step_broken e q z = rw (← e, q, z)

  pub step_full : x ≡ test_of g n s t.value t.len → x ≡ Full → stepped x t ≡ step_of g n s t
  step_full e q = rw (← e, q)

  pub step_violated : x ≡ test_of g n s t.value t.len → {i : ℕ} → x ≡ SoftViolated i → {t₁ : Places} → t₁ ≡ back_of t → stepped x t₁ ≡ step_of g n s t
  step_violated e q z = rw (← e, q, z)

pub step_open : (pool : List ℤ) (rows : List Row) (count n : ℕ) (s : AssumedEntries) (t : Places) {x : Tested} {l : ℤ} → Formed n pool rows count → FormedSoft n s
    → x ≡ test_of (rules pool rows count) n s t.value t.len → x ≡ Open l → {t₁ : Places} → t₁ ≡ push_of (to_z w32 (of_z w32 l)) t → stepped (Open l) t₁ ≡ step_of (rules pool rows count) n s t
step_open pool rows count n s t {l = l} f w e q z = rw (sym e ∙ q, z, open_same pool rows count n s t.value t.len f w e q)
