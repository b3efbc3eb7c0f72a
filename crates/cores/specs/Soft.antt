-- Soft literals (document 01: wishes), cores, and which soft literals a set violates (leaves unmet). Document 01, "Wishes and cores".
-- Assumes nothing: these are definitions.
use Rattle.std.specs.Prelude.{Bool, false, List, [], ℕ, zero, suc, ◌≤◌, ◌<◌, ltb, pos, length, get_or}
use Rattle.asp.specs.Sets.{Set, ind}
use Rattle.asp.specs.Program.{Literal, All}
use Rattle.asp.specs.Stable.{holds}
use Rattle.cores.specs.Sums.{sum_over}

-- A soft literal. `entry l`: "each entry with weight above 0 is a wish for its literal's complement"; l is the literal of the entry's penalty, which violates it.
-- `derived j i`: a derived wish, the i-th of core j, both counted from 1.
pub data Kind : Type 0 where
  entry : Literal → Kind
  derived : ℕ → ℕ → Kind

-- the number of the core that a soft literal came from: 0 for an entry's
abbrev pub core_number : Kind → ℕ
core_number (entry l) = 0
core_number (derived j i) = j

-- core j, counted from 1, as the places of its members
abbrev pub core_of : List (List ℕ) → ℕ → List ℕ
core_of cs zero = []
core_of cs (suc c) = get_or cs c []

-- the soft literal at place p
abbrev pub kind_at : List Kind → ℕ → Kind
kind_at ks p = get_or ks p (entry (pos 0))

-- how many of the members U says to be violated
abbrev pub count_by : (ℕ → Bool) → List ℕ → ℕ
count_by U ms = sum_over (λ m. ind (U m)) ms

-- Is a soft literal violated, if those are that U names? "the i-th (i from 1) holds when at most i members are unmet"
abbrev pub judge : Set → List (List ℕ) → (ℕ → Bool) → Kind → Bool
judge M cs U (entry l) = holds M l
judge M cs U (derived j i) = ltb i (count_by U (core_of cs j))

-- "To judge a derived wish its members are judged in turn, each by the core it came from": to a depth of n cores
abbrev pub judged : Set → List Kind → List (List ℕ) → ℕ → ℕ → Bool
judged M ks cs zero p = judge M cs (λ q. false) (kind_at ks p)
judged M ks cs (suc n) p = judge M cs (judged M ks cs n) (kind_at ks p)

-- as deep as there are cores
unfoldable pub violated : Set → List Kind → List (List ℕ) → ℕ → Bool
violated M ks cs p = judged M ks cs (length cs) p

-- ---- the tables are in order: the core number falls from a soft literal of a core to the core's members

-- member m of core j has a place in the table, and is of an earlier core
abbrev pub Earlier : List Kind → ℕ → ℕ → Type 0
Earlier ks j m = (m < length ks) × (core_number (kind_at ks m) < j)

pub record InOrder (ks : List Kind) (cs : List (List ℕ)) : Type 0 where
  pub cores : (p : ℕ) → core_number (kind_at ks p) ≤ length cs
  pub members : (j : ℕ) → All (Earlier ks j) (core_of cs j)
