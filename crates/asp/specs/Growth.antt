-- What a pass of the closure does to its table of bytes. Assumes nothing: these are definitions.
use Rattle.std.specs.Prelude.{◌≡◌, Bool, true, false, List, [], ◌∷◌, map, ℕ, ◌+◌, ◌≤◌, ◌<◌, T, ℤ, pos, nat_abs, length, get_or}
use Rattle.asp.specs.Sets.{Set, Sub, set_of}
use Rattle.asp.specs.Program.{Weighed, Rule, All, RuleIn}
use Rattle.asp.specs.Tables.{RowIn, named, row_at, rule_at}
use Rattle.asp.specs.Stable.{rule_adds}
use Rattle.asp.specs.declared.rules.Row.{Row}

-- From xs to ys, towards the sets that are `Kept` by what adds: nothing is lost; nothing is added that is not in every such set that holds xs;
-- and where nothing is new, xs is such a set itself.
pub record Grown (Kept : Set → Type 0) (xs ys : List ℕ) (new : Bool) : Type 0 where
  pub long : length ys ≡ length xs
  pub rises : Sub (set_of xs) (set_of ys)
  pub inside : (X : Set) → Kept X → Sub (set_of xs) X → Sub (set_of ys) X
  pub more : new ≡ true → (a : ℕ) × T (set_of ys a) × (T (set_of xs a) → ⊥)
  pub rest : new ≡ false → (ys ≡ xs) × Kept (set_of xs)

-- X has the atom, or each atom of a list, if it is in M
abbrev pub ChosenAtom : Set → ℕ → Set → Type 0
ChosenAtom M h X = T (M h) → T (X h)

abbrev pub Chosen : Set → List ℕ → Set → Type 0
Chosen M hs X = All (λ h. ChosenAtom M h X) hs

-- X has what the rule adds to it
abbrev pub KeptBy : Set → Rule → Set → Type 0
KeptBy M r X = Sub (rule_adds M r X) X

-- the atoms that head literals name
abbrev pub atoms_named : List ℤ → List ℕ
atoms_named ls = map named ls

-- a literal and the weight that stands beside it
abbrev pub weighed : ℤ → ℤ → Weighed
weighed l w = record { literal = l; weight = nat_abs w }

-- the pairs of a weighted body, by their literals and their weights
unfoldable pub pairs_of : List ℤ → List ℤ → List Weighed
pairs_of [] ws = []
pairs_of (l ∷ ls) [] = []
pairs_of (l ∷ ls) (w ∷ ws) = weighed l w ∷ pairs_of ls ws

-- so many weights as literals, of atoms up to 1,024
pub record PairsFormed (literals weights : List ℤ) : Type 0 where
  pub few : length literals < 65536
  pub even : length weights ≡ length literals
  pub small : (j : ℕ) → j < length literals → nat_abs (get_or literals j (pos 0)) ≤ 1024

-- a row's pairs are in the pool, of atoms up to 1,024
pub record RowPairs (pool : List ℤ) (row : Row) : Type 0 where
  pub inside : row.first + row.heads + row.literals + 1 + row.literals ≤ length pool
  pub small : (j : ℕ) → row.first + row.heads ≤ j → j < row.first + row.heads + row.literals → nat_abs (get_or pool j (pos 0)) ≤ 1024

-- one row is well formed; its atoms are 1 to 1,024
pub record RowFormed (pool : List ℤ) (row : Row) : Type 0 where
  pub places : RowIn pool row
  pub atoms : RuleIn 1024 (rule_at pool row)

-- each of the first `count` is
pub record RulesFormed (pool : List ℤ) (rows : List Row) (count : ℕ) : Type 0 where
  pub long : count ≤ length rows
  pub each : (r : ℕ) → r < count → RowFormed pool (row_at rows r)
