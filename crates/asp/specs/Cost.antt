-- Costs: what a set costs on each level, and the comparison level by level. Document 01, "Plans and costs"; order 1: "Costs are signed."
-- Assumes nothing: these are definitions.
use Rattle.std.specs.Prelude.{◌≡◌, Bool, false, not, ◌&&◌, ◌||◌, List, [], ◌∷◌, map, ◌⊎◌, ℕ, ◌+◌, T, ℤ, pos, nat_abs, ◌+ℤ◌, length}
use Rattle.asp.specs.Sets.{Set, pick}
use Rattle.asp.specs.Literal.{same_ℤ, is_negative}
use Rattle.asp.specs.declared.entries.Entry.{Entry}
use Rattle.asp.specs.Program.{Program}
use Rattle.asp.specs.Stable.{holds}

-- ---- levels

-- "A level is all entries of one priority."
unfoldable pub level : ℤ → List Entry → List Entry
level q [] = []
level q (e ∷ es) = pick (same_ℤ q e.priority) (e ∷ level q es) (level q es)

-- the levels, highest priority first
abbrev pub levels : Program → List (List Entry)
levels p = map (λ q. level q p.entries) p.priorities

unfoldable pub total : List ℕ → ℕ
total [] = 0
total (x ∷ xs) = x + total xs

unfoldable pub total_ℤ : List ℤ → ℤ
total_ℤ [] = pos 0
total_ℤ (x ∷ xs) = x +ℤ total_ℤ xs

-- "A level weighs the sum of its entries' weights; W sums all levels." Order 1: "W, and the limit of 90, now sum the weights without their signs."
abbrev pub weight : List Entry → ℕ
weight es = total (map (λ (e : Entry). nat_abs e.weight) es)

abbrev pub W : Program → ℕ
W p = total (map weight (levels p))

-- ---- what a set costs

-- "An entry costs its weight where its literal holds." Order 1: "A weight -w on a literal costs -w where it holds."
abbrev pub entry_cost : Set → Entry → ℤ
entry_cost M e = pick (holds M e.literal) e.weight (pos 0)

abbrev pub cost : Set → List Entry → ℤ
cost M es = total_ℤ (map (entry_cost M) es)

-- "A set's cost lists the sum on each level."
abbrev pub costs_at : Set → List ℤ → List Entry → List ℤ
costs_at M qs es = map (λ q. cost M (level q es)) qs

abbrev pub costs : Program → Set → List ℤ
costs p M = costs_at M p.priorities p.entries

-- ---- where bounds start

-- a weight, if it is negative
abbrev pub negative_part : ℤ → ℤ
negative_part w = pick (is_negative w) w (pos 0)

-- "A level's lower bound starts at the sum of its negative weights, also on levels not yet in work."
abbrev pub start : List Entry → ℤ
start es = total_ℤ (map (λ (e : Entry). negative_part e.weight) es)

abbrev pub starts_at : List ℤ → List Entry → List ℤ
starts_at qs es = map (λ q. start (level q es)) qs

abbrev pub starts : Program → List ℤ
starts p = starts_at p.priorities p.entries

-- ---- "Costs compare level by level, highest priority first." Over any `lt`, which tells whether one figure is less.

module _ {A : Type 0} (lt : A → A → Bool) where
  -- the first list is cheaper: less on the highest level on which they differ
  unfoldable pub cheaper : List A → List A → Bool
  cheaper [] ys = false
  cheaper (x ∷ xs) [] = false
  cheaper (x ∷ xs) (y ∷ ys) = lt x y || (not (lt y x) && cheaper xs ys)

-- xs is no dearer than ys: for as many levels, and equal or less on the highest on which they differ. (Then ys is at least as dear as xs.)
abbrev pub NoDearer : {A : Type 0} → (A → A → Bool) → List A → List A → Type 0
NoDearer lt [] [] = Unit {0}
NoDearer lt [] (y ∷ ys) = ⊥
NoDearer lt (x ∷ xs) [] = ⊥
NoDearer lt (x ∷ xs) (y ∷ ys) = (T (lt x y) × (length xs ≡ length ys)) ⊎ ((x ≡ y) × NoDearer lt xs ys)
