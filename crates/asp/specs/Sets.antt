-- Sets of atoms. Assumes nothing: these are definitions.
use Rattle.std.specs.Prelude.{Bool, true, false, ◌&&◌, ℕ, zero, suc, ◌≤◌, T, eqb, get_or, List}
use Rattle.std.specs.Bool.{beq}

abbrev pub pick : {A : Type 0} → Bool → A → A → A
pick true a b = a
pick false a b = b

-- 1 for what is so
abbrev pub ind : Bool → ℕ
ind true = 1
ind false = 0

-- A set of atoms, by its membership test. An atom is a number from 1 on.
abbrev pub Set : Type 0
Set = ℕ → Bool

-- each atom of X is in Y
pub record Sub (X Y : Set) : Type 0 where
  pub sub : (a : ℕ) → T (X a) → T (Y a)

-- a is one of the atoms 1 to n
abbrev pub In : ℕ → ℕ → Type 0
In n a = (1 ≤ a) × (a ≤ n)

-- X has no atom but those of 1 to n
pub record Only (n : ℕ) (X : Set) : Type 0 where
  pub only : (a : ℕ) → T (X a) → In n a

-- the set that a table of bytes by atom says: 1 for an atom in it
abbrev pub set_of : List ℕ → Set
set_of bytes a = eqb (get_or bytes a 0) 1

-- X and Y agree on the atoms 1 to n
unfoldable pub same : ℕ → Set → Set → Bool
same zero X Y = true
same (suc n) X Y = beq (X (suc n)) (Y (suc n)) && same n X Y

-- F applied k times, from the empty set on
unfoldable pub iterate : (Set → Set) → ℕ → Set
iterate F zero = λ a. false
iterate F (suc k) = F (iterate F k)
