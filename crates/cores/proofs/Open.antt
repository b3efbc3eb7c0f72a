-- A level is opened: what holds then. Assumes nothing.
use mathlib.Core.Path.{◌≡◌, refl, sym, ap, ◌∙◌, subst}
use mathlib.Core.Bool.{Bool, true, false}
use mathlib.Core.List.{List, [], ◌∷◌, map}
use Prim.Native.Nat.{ℕ, zero, suc, ◌+◌, ◌*◌, ◌≤◌, ◌<◌, zero-le}
use native.Mathlib.Nat.{zero-add, not-suc-le-zero, le_of_suc-le-suc}
use native.Mathlib.Omega.{arith}
use borrow.Author.Tests.{ltb-true, ltb-false}
use lib.Dec.{ltb}
use lib.IntN.{ℤ, pos}
use lib.ListN.{length, get_or, length-map}
use Rattle.asp.specs.declared.entries.Entry.{Entry}
use Rattle.asp.specs.Sets.{Set, pick, ind}
use Rattle.asp.specs.Literal.{same_ℤ}
use Rattle.asp.specs.Program.{All}
use Rattle.asp.specs.Penalty.{Penalty, charge, bulk, penalty_charge}
use Rattle.asp.specs.Stable.{holds}
use Rattle.asp.specs.Cost.{total, level}
use Rattle.cores.specs.Sums.{wsum}
use Rattle.cores.specs.Soft.{Kind, entry, core_number, core_of, kind_at, judge, violated, Earlier}
use Rattle.cores.specs.Level.{weighty, opened}
use Rattle.cores.specs.Identity.{problem, Good}
use Rattle.cores.proofs.Sums.{wsum_ext}

-- what an entry's soft literal is, and its weight
abbrev pub kinds_of : List Penalty → List Kind
kinds_of es = map (λ (e : Penalty). entry e.literal) es

abbrev pub weights_of : List Penalty → List ℕ
weights_of es = map (λ (e : Penalty). e.weight) es

-- ---- the entries with weight above 0

weighty_yes : (e : Penalty) (es : List Penalty) → ltb 0 e.weight ≡ true → weighty (e ∷ es) ≡ e ∷ weighty es
unfolding weighty
weighty_yes e es q = rw q

weighty_no : (e : Penalty) (es : List Penalty) → ltb 0 e.weight ≡ false → weighty (e ∷ es) ≡ weighty es
unfolding weighty
weighty_no e es q = rw q

-- by cases, with what the test says
by_weight : (e : Penalty) (es : List Penalty) (P : List Penalty → Type 0) → (1 ≤ e.weight → P (e ∷ weighty es)) → (e.weight ≡ 0 → P (weighty es)) → P (weighty (e ∷ es))
by_weight e es P f g = go (ltb 0 e.weight) refl
  where
    go : (b : Bool) → ltb 0 e.weight ≡ b → P (weighty (e ∷ es))
    go true q = subst P (sym (weighty_yes e es q)) (f (ltb-true 0 e.weight q))
    go false q = subst P (sym (weighty_no e es q)) (g (omega (arith, ltb-false 0 e.weight q)))

total_cons : (x : ℕ) (xs : List ℕ) → total (x ∷ xs) ≡ x + total xs
unfolding total
total_cons x xs = refl

pub weights_sum : (es : List Penalty) → wsum (λ p. 1) (weights_of (weighty es)) ≡ bulk es
unfolding total weighty
weights_sum [] = refl
weights_sum (e ∷ es) =
    by_weight e es (λ xs. wsum (λ p. 1) (weights_of xs) ≡ e.weight + bulk es)
    (λ h. omega (arith, weights_sum es)) (λ h. omega (arith, weights_sum es))

pub weights_some : (es : List Penalty) (p : ℕ) → p < length (weights_of (weighty es)) → 1 ≤ get_or (weights_of (weighty es)) p 0
unfolding weighty
weights_some [] p h = absurd (not-suc-le-zero h)
weights_some (e ∷ es) p h =
    by_weight e es (λ xs. (p : ℕ) → p < length (weights_of xs) → 1 ≤ get_or (weights_of xs) p 0) (λ w. more w (weights_some es)) (λ w. weights_some es) p h
  where
    more : 1 ≤ e.weight → ((p : ℕ) → p < length (weights_of (weighty es)) → 1 ≤ get_or (weights_of (weighty es)) p 0)
        → (p : ℕ) → p < suc (length (weights_of (weighty es))) → 1 ≤ get_or (e.weight ∷ weights_of (weighty es)) p 0
    more w f zero h = w
    more w f (suc p) h = f p (le_of_suc-le-suc h)

-- before a core is found the cost is the weight of the entries whose literal holds
picked : (b : Bool) (w : ℕ) → pick b w 0 ≡ w * ind b
picked true w = omega arith
picked false w = omega arith

pub charge_weighty : (M : Set) (es : List Penalty) → charge M es ≡ wsum (λ p. ind (holds M (get_or (map (λ (e : Penalty). e.literal) (weighty es)) p (pos 0)))) (weights_of (weighty es))
unfolding total weighty
charge_weighty M [] = refl
charge_weighty M (e ∷ es) =
    by_weight e es (λ xs. penalty_charge M e + charge M es ≡ wsum (λ p. ind (holds M (get_or (map (λ (x : Penalty). x.literal) xs) p (pos 0)))) (weights_of xs))
    (λ h. omega (arith, picked (holds M e.literal) e.weight, charge_weighty M es))
    (λ h. omega (arith, picked (holds M e.literal) e.weight, charge_weighty M es, ap (λ (z : ℕ). z * ind (holds M e.literal)) h))

-- a set costs at most the level's weight
pub charge_le : (M : Set) (es : List Penalty) → charge M es ≤ bulk es
unfolding total
charge_le M [] = zero-le
charge_le M (e ∷ es) =
    elim (holds M e.literal) as (λ b. pick b e.weight 0 + charge M es ≤ e.weight + bulk es)
    [ true ↦ omega (arith, charge_le M es) | false ↦ omega (arith, charge_le M es) ]

pub length_weighty : (es : List Penalty) → length (weighty es) ≤ length es
unfolding weighty
length_weighty [] = zero-le
length_weighty (e ∷ es) = by_weight e es (λ xs. length xs ≤ suc (length es)) (λ h. omega (arith, length_weighty es)) (λ h. omega (arith, length_weighty es))

pub length_level : (q : ℤ) (es : List Entry) → length (level q es) ≤ length es
unfolding level
length_level q [] = zero-le
length_level q (e ∷ es) =
    elim (same_ℤ q e.priority) as (λ b. length (pick b (e ∷ level q es) (level q es)) ≤ suc (length es))
    [ true ↦ omega (arith, length_level q es) | false ↦ omega (arith, length_level q es) ]

-- ---- the soft literals of a level that is opened

module _ (es : List Penalty) where
  entry_at : (p : ℕ) → kind_at (kinds_of es) p ≡ entry (get_or (map (λ (e : Penalty). e.literal) es) p (pos 0))
  entry_at p = go es p
    where
      go : (es : List Penalty) (p : ℕ) → kind_at (kinds_of es) p ≡ entry (get_or (map (λ (e : Penalty). e.literal) es) p (pos 0))
      go [] p = refl
      go (e ∷ es) zero = refl
      go (e ∷ es) (suc p) = go es p

  entry_number : (p : ℕ) → core_number (kind_at (kinds_of es) p) ≤ 0
  entry_number p = subst (λ (k : Kind). core_number k ≤ 0) (sym (entry_at p)) zero-le

  no_core : (j : ℕ) → All (Earlier (kinds_of es) j) (core_of [] j)
  no_core zero = tt
  no_core (suc j) = tt

  entry_violated : (M : Set) (p : ℕ) → violated M (kinds_of es) [] p ≡ holds M (get_or (map (λ (e : Penalty). e.literal) es) p (pos 0))
  unfolding violated
  entry_violated M p = ap (judge M [] (λ q. false)) (entry_at p)

-- THE IDENTITY HOLDS WHEN A LEVEL IS OPENED
pub opened_good : (Model : Set → Type 0) (es : List Penalty) → Good (problem Model es) (opened es)
opened_good Model es = record {
  as_long = length-map (weighty es) (λ (e : Penalty). entry e.literal) ∙ sym (length-map (weighty es) (λ (e : Penalty). e.weight));
  ordered = record { cores = entry_number (weighty es); members = no_core (weighty es) };
  identity = λ M h. charge_weighty M es ∙ wsum_ext _ _ (weights_of (weighty es)) (λ p q. ap ind (sym (entry_violated (weighty es) M p))) ∙ sym (zero-add _);
  weighs = zero-add _ ∙ weights_sum es;
}
