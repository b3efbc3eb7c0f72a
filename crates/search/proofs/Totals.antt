-- Order 2. What a weighted body counts in a set, as a sum over atoms: each atom gives the total of its positive pairs where it is in the set, and that of its
-- negated pairs where it is not. The same atom may stand in several pairs, and with both signs. Assumes nothing.
use mathlib.Core.Path.{◌≡◌, refl, sym, ap, ap₂, ◌∙◌}
use mathlib.Core.Bool.{Bool, true, false, not}
use mathlib.Core.List.{List, [], ◌∷◌}
use mathlib.Core.Logic.{◌⊎◌, inl, inr}
use Prim.Native.Nat.{ℕ, zero, suc, ◌+◌, ◌≤◌, ◌<◌}
use native.Mathlib.Nat.{eq-or-lt_of_le, zero-add}
use native.Mathlib.Omega.{arith}
use lib.IntN.{ℤ, pos, negsuc, neg_ℤ, nat_abs}
use borrow.Author.Tests.{eq-eqb, ne_eqb}
use Rattle.asp.specs.Sets.{Set, In, pick}
use Rattle.asp.specs.Literal.{same_ℤ}
use Rattle.asp.specs.Program.{Weighed, All, LiteralIn}
use Rattle.asp.specs.Stable.{holds, counts}
use Rattle.search.specs.Weigh.{total}

abbrev pub PairsIn : ℕ → List Weighed → Type 0
PairsIn n = All (λ (p : Weighed). LiteralIn n p.literal)

-- ---- sums over the atoms 1 to n

abbrev pub sum_to : (ℕ → ℕ) → ℕ → ℕ
sum_to f zero = 0
sum_to f (suc n) = f (suc n) + sum_to f n

pub sum_same : (n : ℕ) (f g : ℕ → ℕ) → ((a : ℕ) → In n a → f a ≡ g a) → sum_to f n ≡ sum_to g n
sum_same zero f g h = refl
sum_same (suc n) f g h = ap₂ (λ (x y : ℕ). x + y) (h (suc n) (omega arith)) (sum_same n f g (λ a i. h a (omega arith)))

pub sum_mono : (n : ℕ) (f g : ℕ → ℕ) → ((a : ℕ) → In n a → f a ≤ g a) → sum_to f n ≤ sum_to g n
sum_mono zero f g h = omega arith
sum_mono (suc n) f g h = omega (arith, h (suc n) (omega arith), sum_mono n f g (λ a i. h a (omega arith)))

-- one term is more by d
pub sum_at : (n a d : ℕ) (f g : ℕ → ℕ) → In n a → ((x : ℕ) → (¬ (x ≡ a)) → f x ≡ g x) → f a ≡ d + g a → sum_to f n ≡ d + sum_to g n
sum_at zero a d f g i k e = absurd (omega arith)
sum_at (suc n) a d f g i k e = go (eq-or-lt_of_le i.1) (λ j. sum_at n a d f g j k e)
  where
    go : (a ≡ suc n) ⊎ (a < suc n) → (In n a → sum_to f n ≡ d + sum_to g n) → f (suc n) + sum_to f n ≡ d + (g (suc n) + sum_to g n)
    go (inl q) r = omega (arith, rw q at e, sum_same n f g (λ x j. k x (λ z. omega arith)))
    go (inr h) r = omega (arith, k (suc n) (λ z. omega arith), r (omega arith))

-- ---- one pair more

total_else : (l : ℤ) (p : Weighed) (ps : List Weighed) → (¬ (nat_abs l ≡ nat_abs p.literal)) → total l (p ∷ ps) ≡ total l ps
unfolding total
total_else l p ps k = rw (differ l p.literal k) (omega arith)
  where
    differ : (l m : ℤ) → (¬ (nat_abs l ≡ nat_abs m)) → same_ℤ l m ≡ false
    differ (pos a) (pos b) k = ne_eqb a b k
    differ (pos a) (negsuc b) k = refl
    differ (negsuc a) (pos b) k = refl
    differ (negsuc a) (negsuc b) k = ne_eqb a b (λ e. k (ap suc e))

-- a sum of what each atom gives, by the totals of its positive and of its negated pairs
abbrev pub by_atoms : (ℕ → ℕ → ℕ → ℕ) → ℕ → List Weighed → ℕ
by_atoms F n ps = sum_to (λ x. F x (total (pos x) ps) (total (neg_ℤ (pos x)) ps)) n

-- what F gives at the pair's atom is more by d if the total of the pair's literal is more by its weight
abbrev pub Rises : (ℕ → ℕ → ℕ → ℕ) → ℤ → ℕ → ℕ → ℕ → ℕ → Type 0
Rises F (pos a) w d P N = F a (w + P) N ≡ d + F a P N
Rises F (negsuc a) w d P N = F (suc a) P (w + N) ≡ d + F (suc a) P N

pub by_pair : (F : ℕ → ℕ → ℕ → ℕ) (n : ℕ) (p : Weighed) (ps : List Weighed) (d : ℕ) → LiteralIn n p.literal
    → ((P N : ℕ) → total (pos (nat_abs p.literal)) ps ≡ P → total (neg_ℤ (pos (nat_abs p.literal))) ps ≡ N → Rises F p.literal p.weight d P N)
    → by_atoms F n (p ∷ ps) ≡ d + by_atoms F n ps
unfolding total
by_pair F n p ps d i r = sum_at n (nat_abs p.literal) d _ _ i other (here p.literal refl i r)
  where
    abs_neg_pos : (x : ℕ) → nat_abs (neg_ℤ (pos x)) ≡ x
    abs_neg_pos zero = refl
    abs_neg_pos (suc x) = refl

    other : (x : ℕ) → (¬ (x ≡ nat_abs p.literal)) → F x (total (pos x) (p ∷ ps)) (total (neg_ℤ (pos x)) (p ∷ ps)) ≡ F x (total (pos x) ps) (total (neg_ℤ (pos x)) ps)
    other x k = ap₂ (F x) (total_else (pos x) p ps k) (total_else (neg_ℤ (pos x)) p ps (λ e. k (sym (abs_neg_pos x) ∙ e)))

    here : (l : ℤ) → p.literal ≡ l → In n (nat_abs l)
        → ((P N : ℕ) → total (pos (nat_abs l)) ps ≡ P → total (neg_ℤ (pos (nat_abs l))) ps ≡ N → Rises F l p.weight d P N)
        → F (nat_abs l) (total (pos (nat_abs l)) (p ∷ ps)) (total (neg_ℤ (pos (nat_abs l))) (p ∷ ps)) ≡ d + F (nat_abs l) (total (pos (nat_abs l)) ps) (total (neg_ℤ (pos (nat_abs l))) ps)
    here (pos zero) e j r = absurd (omega arith)
    here (pos (suc a)) e j r = rw (e, eq-eqb (suc a) (suc a) refl, zero-add) (r (total (pos (suc a)) ps) (total (negsuc a) ps) refl refl)
    here (negsuc a) e j r = rw (e, eq-eqb a a refl, zero-add) (r (total (pos (suc a)) ps) (total (negsuc a) ps) refl refl)

-- ---- what a set counts

pub none_by : (F : ℕ → ℕ → ℕ → ℕ) → ((x : ℕ) → F x 0 0 ≡ 0) → (n : ℕ) → by_atoms F n [] ≡ 0
unfolding total
none_by F z zero = refl
none_by F z (suc n) = omega (arith, z (suc n), none_by F z n)

-- the side of an atom that M takes
abbrev pub side_in : Set → ℕ → ℕ → ℕ → ℕ
side_in M x P N = pick (M x) P N

pub counts_by : (n : ℕ) (M : Set) (ps : List Weighed) → PairsIn n ps → counts M M ps ≡ by_atoms (side_in M) n ps
unfolding counts
counts_by n M [] i = sym (none_by (side_in M) (λ x. nothing (M x)) n)
  where
    nothing : (b : Bool) → ◌≡◌ {A = ℕ} (pick b 0 0) 0
    nothing true = refl
    nothing false = refl
counts_by n M (p ∷ ps) i =
    ap (λ (x : ℕ). pick (holds M p.literal) p.weight 0 + x) (counts_by n M ps i.1)
    ∙ sym (by_pair (side_in M) n p ps (pick (holds M p.literal) p.weight 0) i.0 (λ P N e f. rises p.literal P N))
  where
    rises : (l : ℤ) (P N : ℕ) → Rises (side_in M) l p.weight (pick (holds M l) p.weight 0) P N
    rises (pos a) P N = elim (M a) as (λ b. pick b (p.weight + P) N ≡ pick b p.weight 0 + pick b P N) [ true ↦ refl | false ↦ omega arith ]
    rises (negsuc a) P N = elim (M (suc a)) as (λ b. pick b P (p.weight + N) ≡ pick (not b) p.weight 0 + pick b P N) [ true ↦ omega arith | false ↦ refl ]
