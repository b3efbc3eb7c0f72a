-- The assumed soft literals of entries under the values of a trail: "A wish is broken where it is unmet". Assumes nothing: these are definitions.
use Rattle.std.specs.Prelude.{Option, Some, None, List, [], ◌∷◌, ℕ, zero, suc, ◌+◌, ◌<◌, ◌≤◌, eqb, ℤ, pos, nat_abs, length, get_or}
use Rattle.asp.specs.Sets.{Set, In, pick}
use Rattle.search.specs.Places.{truth_at}

-- the literal that each one wishes for, and whether it is blamed already (1), the first `count` of both; and the atoms that a free branch tries in first
pub record AssumedEntries : Type 0 where
  pub wished : List ℤ
  pub blamed : List ℕ
  pub count : ℕ
  pub first : Set

abbrev pub assumed_entries : List ℤ → List ℕ → ℕ → Set → AssumedEntries
assumed_entries w b k f = record { wished = w; blamed = b; count = k; first = f }

abbrev pub wished_at : AssumedEntries → ℕ → ℤ
wished_at s i = get_or s.wished i (pos 0)

-- what the one at i is: 0 undecided, 1 met, 2 violated
abbrev pub judged_at : AssumedEntries → List ℕ → ℕ → ℕ
judged_at s v i = truth_at v (wished_at s i)

abbrev pub first_of : Option ℕ → ℕ → Option ℕ
first_of (Some j) i = Some j
first_of None i = Some i

-- among the k from i on, with the first violated one so far: one that is blamed already comes before a new one (document 01 leaves it free; docs/DECISIONS.md says why this one)
unfoldable pub violated_from : AssumedEntries → List ℕ → Option ℕ → ℕ → ℕ → Option ℕ
violated_from s v a i zero = a
violated_from s v a i (suc k) =
    pick (eqb (judged_at s v i) 2)
    (pick (eqb (get_or s.blamed i 0) 1) (Some i) (violated_from s v (first_of a i) (i + 1) k))
    (violated_from s v a (i + 1) k)

abbrev pub violated_of : AssumedEntries → List ℕ → Option ℕ
violated_of s v = violated_from s v None 0 s.count

-- the places among the k from i on that a table says are blamed
unfoldable pub blamed_from : List ℕ → ℕ → ℕ → List ℕ
blamed_from b i zero = []
blamed_from b i (suc k) = pick (eqb (get_or b i 0) 1) (i ∷ blamed_from b (i + 1) k) (blamed_from b (i + 1) k)

-- the first wished literal that is undecided, among the k from i on
unfoldable pub wish_from : List ℤ → List ℕ → ℕ → ℕ → Option ℤ
wish_from w v i zero = None
wish_from w v i (suc k) = pick (eqb (truth_at v (get_or w i (pos 0))) 0) (Some (get_or w i (pos 0))) (wish_from w v (i + 1) k)

abbrev pub wish_of : List ℤ → ℕ → List ℕ → Option ℤ
wish_of w k v = wish_from w v 0 k

-- the tables can be read, and literals are of atoms up to 1,024
pub record ReadableWishes (w : List ℤ) (k : ℕ) : Type 0 where
  pub long : k ≤ length w
  pub small : (i : ℕ) → i < k → nat_abs (get_or w i (pos 0)) ≤ 1024

pub record ReadableSoft (s : AssumedEntries) : Type 0 where
  pub wishes : ReadableWishes s.wished s.count
  pub long : s.count ≤ length s.blamed

-- well-formed tables of assumed soft literals over the atoms 1 to n
pub record FormedSoft (n : ℕ) (s : AssumedEntries) : Type 0 where
  pub wished_long : s.count ≤ length s.wished
  pub blamed_long : s.count ≤ length s.blamed
  pub atoms : (i : ℕ) → i < s.count → In n (nat_abs (wished_at s i))
