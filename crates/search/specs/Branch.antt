-- Branching, which document 01 leaves free (docs/DECISIONS.md says why this one): the complement of the literal that would break a rule, if the scan noted one; else the
-- wished literal of the first assumed soft literal of an entry whose atom is undecided; else the lowest undecided atom, in if it is one to try in first, else out.
-- Assumes nothing: these are definitions.
use Rattle.std.specs.Prelude.{Option, Some, None, ◌≡◌, List, ℕ, zero, suc, ◌+◌, ◌-◌, ◌≤◌, ◌<◌, eqb, ℤ, pos, neg_ℤ, nat_abs, get_or}
use Rattle.asp.specs.Sets.{Set, pick}
use Rattle.search.specs.Soft.{wish_of}
use Rattle.search.specs.declared.scan.Found.{Found}
use Rattle.search.specs.declared.scan.Found.TheVariants.{Broken, Breaker, Clear}

-- the first undecided atom from a on, among k of them; if there is none, the one after them
unfoldable pub lowest_from : List ℕ → ℕ → ℕ → ℕ
lowest_from v a zero = a
lowest_from v a (suc k) = pick (eqb (get_or v a 0) 0) a (lowest_from v (a + 1) k)

abbrev pub lowest_of : List ℕ → ℕ → ℕ
lowest_of v n = lowest_from v 1 (n - 1)

-- the atoms from 1 on, below a, are decided
pub record DecidedBelow (v : List ℕ) (a : ℕ) : Type 0 where
  pub decided : (j : ℕ) → 1 ≤ j → j < a → get_or v j 0 ≡ 0 → ⊥

-- a is the lowest undecided atom, or n
pub record LowestIs (v : List ℕ) (n a : ℕ) : Type 0 where
  pub is : 1 ≤ n → a ≡ lowest_of v n
  pub below : DecidedBelow v a

abbrev pub wished_or : ℤ → Option ℤ → ℤ
wished_or l (Some w) = w
wished_or l None = l

-- f: the atoms to try in first
abbrev pub free_literal : Set → ℕ → ℤ
free_literal f a = pick (f a) (pos a) (neg_ℤ (pos a))

-- w: the first k wished literals
abbrev pub free_branch : Set → List ℤ → ℕ → List ℕ → ℕ → ℤ
free_branch f w k v n = wished_or (free_literal f (lowest_of v n)) (wish_of w k v)

abbrev pub branch_of : Set → List ℤ → ℕ → List ℕ → ℕ → Found → ℤ
branch_of f w k v n (Breaker l) = neg_ℤ l
branch_of f w k v n (Broken r) = free_branch f w k v n
branch_of f w k v n Clear = free_branch f w k v n

-- P holds of the literal that the scan noted, if there is one
abbrev pub NotedAs : (ℤ → Type 0) → Found → Type 0
NotedAs P (Breaker l) = P l
NotedAs P (Broken r) = Unit {0}
NotedAs P Clear = Unit {0}

abbrev pub Noted : Found → Type 0
Noted = NotedAs (λ l. nat_abs l ≤ 1024)
