-- The equations that the scans over the assumed soft literals follow, and what holds in their loops. Assumes nothing.
use Rattle.std.specs.Prelude.{Option, Some, None}
use mathlib.Core.Path.{◌≡◌, sym, ◌∙◌}
use mathlib.Core.List.{List}
use Prim.Native.Nat.{ℕ, suc, ◌+◌, ◌-◌, ◌≤◌, ◌<◌}
use native.Mathlib.Nat.{sub-zero}
use native.Mathlib.Omega.{arith}
use lib.IntN.{ℤ, pos, nat_abs}
use lib.ListN.{length, get_or}
use mir.Syntax.{w32}
use mir.Val.{to_z, of_z}
use mir.Facts.{to_z-of_z}
use borrow.Author.Tests.{eq-eqb, ne_eqb}
use Rattle.asp.proofs.Signed.{small_fits}
use Rattle.search.specs.Places.{truth_at}
use Rattle.search.specs.Soft.{AssumedEntries, judged_at, first_of, violated_from, violated_of, wish_from, wish_of, ReadableWishes, ReadableSoft}

-- ---- the violated one

module _ (s : AssumedEntries) (v : List ℕ) (a : Option ℕ) (i n : ℕ) where
  more : i < n → (judged_at s v i ≡ 2 → ⊥) → violated_from s v a i (n - i) ≡ violated_from s v a (i + 1) (n - (i + 1))
  unfolding violated_from
  more h q = let e : n - i ≡ suc (n - (i + 1)) = omega arith in rw (e, ne_eqb (judged_at s v i) 2 q)

  here : i < n → judged_at s v i ≡ 2 → get_or s.blamed i 0 ≡ 1 → violated_from s v a i (n - i) ≡ Some i
  unfolding violated_from
  here h q b = let e : n - i ≡ suc (n - (i + 1)) = omega arith in rw (e, eq-eqb (judged_at s v i) 2 q, eq-eqb (get_or s.blamed i 0) 1 b)

  new : i < n → judged_at s v i ≡ 2 → (get_or s.blamed i 0 ≡ 1 → ⊥) → violated_from s v a i (n - i) ≡ violated_from s v (first_of a i) (i + 1) (n - (i + 1))
  unfolding violated_from
  new h q b = let e : n - i ≡ suc (n - (i + 1)) = omega arith in rw (e, eq-eqb (judged_at s v i) 2 q, ne_eqb (get_or s.blamed i 0) 1 b)

  none_left : n ≤ i → violated_from s v a i (n - i) ≡ a
  unfolding violated_from
  none_left h = let e : n - i ≡ 0 = omega arith in rw e

-- the scan has come to i
pub record Seen (s : AssumedEntries) (v : List ℕ) (found : Option ℕ) (i : ℕ) : Type 0 where
  pub below : i ≤ s.count
  pub rest : violated_from s v found i (s.count - i) ≡ violated_of s v

pub seen_start : (s : AssumedEntries) (v : List ℕ) → Seen s v None 0
seen_start s v = record { below = omega arith; rest = rw sub-zero }

module _ {s : AssumedEntries} {v : List ℕ} {f : Option ℕ} {i : ℕ} where
  pub seen_met : Seen s v f i → i < s.count → {x : ℕ} → x ≡ judged_at s v i → (x ≡ 2 → ⊥) → Seen s v f (i + 1)
  seen_met o h e q = record { below = omega arith; rest = sym (more s v f i s.count h (λ z. q (e ∙ z))) ∙ o.rest }

  pub seen_blamed : Seen s v f i → i < s.count → {x : ℕ} → x ≡ judged_at s v i → x ≡ 2 → get_or s.blamed i 0 ≡ 1 → Some i ≡ violated_of s v
  seen_blamed o h e q b = sym (here s v f i s.count h (sym e ∙ q) b) ∙ o.rest

  pub seen_new : Seen s v f i → i < s.count → {x : ℕ} → x ≡ judged_at s v i → x ≡ 2 → (get_or s.blamed i 0 ≡ 1 → ⊥) → {f₁ : Option ℕ} → f₁ ≡ first_of f i → Seen s v f₁ (i + 1)
  seen_new o h e q b z = record { below = omega arith; rest = rw z (sym (new s v f i s.count h (sym e ∙ q) b) ∙ o.rest) }

  pub seen_all : Seen s v f i → s.count ≤ i → f ≡ violated_of s v
  seen_all o h = sym (none_left s v f i s.count h) ∙ o.rest

-- ---- the undecided one

module _ (w : List ℤ) (v : List ℕ) (i n : ℕ) where
  wish_more : i < n → (truth_at v (get_or w i (pos 0)) ≡ 0 → ⊥) → wish_from w v i (n - i) ≡ wish_from w v (i + 1) (n - (i + 1))
  unfolding wish_from
  wish_more h q = let e : n - i ≡ suc (n - (i + 1)) = omega arith in rw (e, ne_eqb (truth_at v (get_or w i (pos 0))) 0 q)

  wish_here : i < n → truth_at v (get_or w i (pos 0)) ≡ 0 → wish_from w v i (n - i) ≡ Some (get_or w i (pos 0))
  unfolding wish_from
  wish_here h q = let e : n - i ≡ suc (n - (i + 1)) = omega arith in rw (e, eq-eqb (truth_at v (get_or w i (pos 0))) 0 q)

  wish_none : n ≤ i → wish_from w v i (n - i) ≡ None
  unfolding wish_from
  wish_none h = let e : n - i ≡ 0 = omega arith in rw e

pub record Passed (w : List ℤ) (k : ℕ) (v : List ℕ) (i : ℕ) : Type 0 where
  pub below : i ≤ k
  pub rest : wish_from w v i (k - i) ≡ wish_of w k v

pub passed_start : (w : List ℤ) (k : ℕ) (v : List ℕ) → Passed w k v 0
passed_start w k v = record { below = omega arith; rest = rw sub-zero }

module _ {w : List ℤ} {k : ℕ} {v : List ℕ} {i : ℕ} where
  pub passed_next : Passed w k v i → i < k → {x : ℕ} → x ≡ truth_at v (get_or w i (pos 0)) → (x ≡ 0 → ⊥) → Passed w k v (i + 1)
  passed_next o h e q = record { below = omega arith; rest = sym (wish_more w v i k h (λ z. q (e ∙ z))) ∙ o.rest }

  pub passed_here : Passed w k v i → i < k → {x : ℕ} → x ≡ truth_at v (get_or w i (pos 0)) → x ≡ 0 → Some (get_or w i (pos 0)) ≡ wish_of w k v
  passed_here o h e q = sym (wish_here w v i k h (sym e ∙ q)) ∙ o.rest

  pub passed_all : Passed w k v i → k ≤ i → None ≡ wish_of w k v
  passed_all o h = sym (wish_none w v i k h) ∙ o.rest

-- ---- what the calls ask

pub wished_in_lem : (w : List ℤ) {k i : ℕ} → ReadableWishes w k → i < k → i < length w
wished_in_lem w f h = omega (arith, f.long)

pub wished_small : {w : List ℤ} {k : ℕ} → ReadableWishes w k → {i : ℕ} → i < k → nat_abs (get_or w i (pos 0)) ≤ 1024
wished_small f {i} h = f.small i h

pub blamed_in : (s : AssumedEntries) {i : ℕ} → ReadableSoft s → i < s.count → i < length s.blamed
blamed_in s f h = omega (arith, f.long)
