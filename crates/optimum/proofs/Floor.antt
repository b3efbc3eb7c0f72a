-- The settled levels, newest first, and what they say of every model; the better of two models. Assumes nothing.
use mathlib.Core.Path.{◌≡◌, refl, sym, ap, ap₂, ◌∙◌}
use mathlib.Core.Bool.{Bool, true, false, not, ◌&&◌}
use mathlib.Core.List.{List, [], ◌∷◌, map}
use mathlib.Core.Logic.{◌⊎◌, inl, inr}
use Prim.Native.Nat.{ℕ, suc, ◌+◌, ◌≤◌, ◌<◌, zero-le}
use native.Mathlib.Nat.{eq-or-lt_of_le}
use native.Mathlib.Omega.{arith}
use lib.Dec.{T, ltb, ltb→lt, lt→ltb}
use lib.ListN.{length, length-map}
use mir.Facts.{yes_and, not_T}
use Rattle.asp.specs.Sets.{Set, pick}
use Rattle.asp.specs.Penalty.{Penalty, charge, bulk}
use Rattle.asp.specs.Cost.{total, cheaper, NoDearer}
use Rattle.asp.proofs.Order.{ltb_linear, no_dearer_refl, cheaper_no_dearer, cheaper_or}
use Rattle.asp.proofs.Stability.{yes_or_left, yes_or_right}
use Rattle.optimum.specs.Optimize.{charges_on, onto, better, zeros}

-- M costs bs on the settled levels
abbrev pub Costs : List (List Penalty) → List ℕ → Set → Type 0
Costs [] [] M = Unit {0}
Costs [] (b ∷ bs) M = ⊥
Costs (l ∷ ls) [] M = ⊥
Costs (l ∷ ls) (b ∷ bs) M = (charge M l ≡ b) × Costs ls bs M

module _ (Model : Set → Type 0) where
  -- the models that have the settled costs
  abbrev pub Base : List (List Penalty) → List ℕ → Set → Type 0
  Base past settled M = Model M × Costs past settled M

  -- each settled cost is the least of the models that have those settled before it
  abbrev pub Floor : List (List Penalty) → List ℕ → Type 0
  Floor [] [] = Unit {0}
  Floor [] (b ∷ bs) = ⊥
  Floor (l ∷ ls) [] = ⊥
  Floor (l ∷ ls) (b ∷ bs) = ((M : Set) → Base ls bs M → b ≤ charge M l) × Floor ls bs

pub costs_long : (M : Set) (ls : List (List Penalty)) → length (charges_on M ls) ≡ length ls
costs_long M ls = length-map ls (charge M)

pub zeros_long : (ls : List (List Penalty)) → length (zeros ls) ≡ length ls
zeros_long [] = refl
zeros_long (l ∷ ls) = ap suc (zeros_long ls)

-- what bounds the models with the settled costs from there on bounds all
pub floor_le : (Model : Set → Type 0) (M : Set) (past : List (List Penalty)) (settled xs : List ℕ) (ys : List (List Penalty)) → Model M → Floor Model past settled
    → length xs ≡ length ys → (Costs past settled M → NoDearer ltb xs (charges_on M ys)) → NoDearer ltb (onto settled xs) (charges_on M (onto past ys))
floor_le Model M [] [] xs ys m f long k = k tt
floor_le Model M [] (b ∷ bs) xs ys m f long k = absurd f
floor_le Model M (l ∷ ls) [] xs ys m f long k = absurd f
floor_le Model M (l ∷ ls) (b ∷ bs) xs ys m f long k = floor_le Model M ls bs (b ∷ xs) (l ∷ ys) m f.1 (ap suc long) (λ c. go c (eq-or-lt_of_le (f.0 M (m, c))))
  where
    go : Costs ls bs M → (b ≡ charge M l) ⊎ (b < charge M l) → NoDearer ltb (b ∷ xs) (charges_on M (l ∷ ys))
    go c (inl e) = inr (e, k (sym e, c))
    go c (inr h) = inl (lt→ltb b (charge M l) h, long ∙ sym (costs_long M ys))

pub onto_long : (past : List (List Penalty)) (settled xs : List ℕ) (ys : List (List Penalty)) (M : Set) → Costs past settled M → length xs ≡ length ys
    → length (onto settled xs) ≡ length (onto past ys)
onto_long [] [] xs ys M c e = e
onto_long [] (b ∷ bs) xs ys M c e = absurd c
onto_long (l ∷ ls) [] xs ys M c e = absurd c
onto_long (l ∷ ls) (b ∷ bs) xs ys M c e = onto_long ls bs (b ∷ xs) (l ∷ ys) M c.1 (ap suc e)

pub onto_costs : (M : Set) (past : List (List Penalty)) (settled xs : List ℕ) (ys : List (List Penalty)) → Costs past settled M → charges_on M ys ≡ xs
    → charges_on M (onto past ys) ≡ onto settled xs
onto_costs M [] [] xs ys c e = e
onto_costs M [] (b ∷ bs) xs ys c e = absurd c
onto_costs M (l ∷ ls) [] xs ys c e = absurd c
onto_costs M (l ∷ ls) (b ∷ bs) xs ys c e = onto_costs M ls bs (b ∷ xs) (l ∷ ys) c.1 (ap₂ (λ (x : ℕ) (zs : List ℕ). x ∷ zs) c.0 e)

pub zeros_le : (M : Set) (ls : List (List Penalty)) → NoDearer ltb (zeros ls) (charges_on M ls)
zeros_le M [] = tt
zeros_le M (l ∷ ls) = go (zeros_le M ls) (eq-or-lt_of_le zero-le)
  where
    go : NoDearer ltb (zeros ls) (charges_on M ls) → (0 ≡ charge M l) ⊎ (0 < charge M l) → NoDearer ltb (zeros (l ∷ ls)) (charges_on M (l ∷ ls))
    go r (inl e) = inr (e, r)
    go r (inr h) = inl (lt→ltb 0 (charge M l) h, zeros_long ls ∙ sym (costs_long M ls))

-- the weight of some levels
abbrev pub weights : List (List Penalty) → ℕ
weights ls = total (map bulk ls)

pub weights_onto : (past later : List (List Penalty)) → weights (onto past later) ≡ weights past + weights later
unfolding total
weights_onto [] later = omega arith
weights_onto (l ∷ ls) later = omega (arith, weights_onto ls (l ∷ later))

-- ---- the better of two models that have the settled costs

pub better_is : (P : Set → Type 0) (levels : List (List Penalty)) (M N : Set) → P M → P N → P (better levels M N)
better_is P levels M N m n = elim (cheaper ltb (charges_on M levels) (charges_on N levels)) as (λ b. P (pick b M N)) [ true ↦ m | false ↦ n ]

-- equal on the settled levels and cheaper from there on is cheaper
pub cheaper_onto : (M N : Set) (past : List (List Penalty)) (settled : List ℕ) (ys : List (List Penalty)) → Costs past settled M → Costs past settled N
    → T (cheaper ltb (charges_on M ys) (charges_on N ys)) → T (cheaper ltb (charges_on M (onto past ys)) (charges_on N (onto past ys)))
unfolding cheaper
cheaper_onto M N [] settled ys c d t = t
cheaper_onto M N (l ∷ ls) [] ys c d t = absurd c
cheaper_onto M N (l ∷ ls) (b ∷ bs) ys c d t =
    cheaper_onto M N ls bs (l ∷ ys) c.1 d.1
    (yes_or_right (ltb (charge M l) (charge N l)) (not (ltb (charge N l) (charge M l)) && cheaper ltb (charges_on M ys) (charges_on N ys))
    (yes_and (not (ltb (charge N l) (charge M l))) (cheaper ltb (charges_on M ys) (charges_on N ys)) (not_T (ltb (charge N l) (charge M l)) (λ s. below (ltb→lt (charge N l) (charge M l) s))) t))
  where
    below : charge N l < charge M l → ⊥
    below h = omega (arith, c.0, d.0)

-- a model that costs b on this level, where N costs b at least: the better of the two costs b there
pub better_cost : (M N : Set) (past : List (List Penalty)) (settled : List ℕ) (l : List Penalty) (later : List (List Penalty)) (b : ℕ) → Costs past settled M → Costs past settled N
    → charge M l ≡ b → b ≤ charge N l → charge (better (onto past (l ∷ later)) M N) l ≡ b
unfolding cheaper
better_cost M N past settled l later b c d e h = go (eq-or-lt_of_le h)
  where
    less : charge M l < charge N l → T (cheaper ltb (charges_on M (l ∷ later)) (charges_on N (l ∷ later)))
    less k = yes_or_left (ltb (charge M l) (charge N l)) (not (ltb (charge N l) (charge M l)) && cheaper ltb (charges_on M later) (charges_on N later)) (lt→ltb (charge M l) (charge N l) k)

    go : (b ≡ charge N l) ⊎ (b < charge N l) → charge (better (onto past (l ∷ later)) M N) l ≡ b
    go (inl k) = better_is (λ X. charge X l ≡ b) (onto past (l ∷ later)) M N e (sym k)
    go (inr k) = chosen (cheaper ltb (charges_on M (onto past (l ∷ later))) (charges_on N (onto past (l ∷ later)))) (cheaper_onto M N past settled (l ∷ later) c d (less (omega arith)))
      where
        chosen : (x : Bool) → T x → charge (pick x M N) l ≡ b
        chosen true t = e
        chosen false t = absurd t

-- the better of two is no dearer than either
pub better_le : (ls : List (List Penalty)) (M N : Set) → NoDearer ltb (charges_on (better ls M N) ls) (charges_on M ls) × NoDearer ltb (charges_on (better ls M N) ls) (charges_on N ls)
better_le ls M N = go (cheaper ltb (charges_on M ls) (charges_on N ls)) refl
  where
    long : length (charges_on M ls) ≡ length (charges_on N ls)
    long = costs_long M ls ∙ sym (costs_long N ls)

    go : (b : Bool) → cheaper ltb (charges_on M ls) (charges_on N ls) ≡ b → NoDearer ltb (charges_on (pick b M N) ls) (charges_on M ls) × NoDearer ltb (charges_on (pick b M N) ls) (charges_on N ls)
    go true e = (no_dearer_refl ltb ltb_linear (charges_on M ls), cheaper_no_dearer ltb ltb_linear (charges_on M ls) (charges_on N ls) long (rw e tt))
    go false e = (other (cheaper_or ltb ltb_linear (charges_on M ls) (charges_on N ls) long), no_dearer_refl ltb ltb_linear (charges_on N ls))
      where
        other : T (cheaper ltb (charges_on M ls) (charges_on N ls)) ⊎ NoDearer ltb (charges_on N ls) (charges_on M ls) → NoDearer ltb (charges_on N ls) (charges_on M ls)
        other (inl t) = absurd (rw e at t)
        other (inr h) = h
