-- A query (document 01's question): which trails are wanted, which have failed (conflict), which are open. Assumes nothing: these are definitions.
use Rattle.std.specs.Prelude.{Bool, true, false, not, ◌&&◌, List, [], ◌∷◌, ◌⊎◌, ℕ, T}
use Rattle.asp.specs.Sets.{Set, In}
use Rattle.asp.specs.Program.{Literal, Head, constraint, plain, choice, Rule}
use Rattle.asp.specs.Stable.{holds, body_holds}
use Rattle.search.specs.Trail.{Trail, on, InAll, trail_set}

-- ---- "A wish is broken where it is unmet, a plain rule or constraint where its body holds and no head atom is in, a choice rule never."

-- no head atom is in; false for a choice, which is never broken
abbrev pub no_head_in : Set → Head → Bool
no_head_in M constraint = true
no_head_in M (plain h) = not (M h)
no_head_in M (choice hs) = false

abbrev pub broken_in : Set → Rule → Bool
broken_in M r = no_head_in M r.head && body_holds M M r.body

-- a soft literal of an entry (a wish), by the literal that it wishes for
abbrev pub violated_in : Set → Literal → Bool
violated_in M l = not (holds M l)

-- ---- a query over any class of sought sets

pub record Query : Type 1 where
  pub n : ℕ
  pub rules : List Rule
  -- the literals that its assumed soft literals of entries wish for
  pub wished : List Literal
  -- the sets that it seeks
  pub Sought : Set → Type 0

abbrev pub Some : {A : Type 0} → (A → Type 0) → List A → Type 0
Some P [] = ⊥
Some P (x ∷ xs) = P x ⊎ Some P xs

-- "it holds all n atoms"
abbrev pub HoldsAll : ℕ → Trail → Type 0
HoldsAll n t = (a : ℕ) → In n a → T (on t a)

-- "one rule .. is broken in every set that agrees with it"
abbrev pub RuleFails : Trail → List Rule → Type 0
RuleFails t = Some (λ r. InAll t (λ M. T (broken_in M r)))

-- ".. or one of the question's wishes for an entry"
abbrev pub SoftFails : Trail → List Literal → Type 0
SoftFails t = Some (λ l. InAll t (λ M. T (violated_in M l)))

-- "A path is wanted if it holds all n atoms and its set is one that the question seeks."
abbrev pub Wanted : Query → Trail → Type 0
Wanted q t = HoldsAll q.n t × q.Sought (trail_set t)

-- "It has failed if it holds all n and isn't wanted, or if one rule, or one of the question's wishes for an entry, is broken in every set that agrees with it."
abbrev pub Conflict : Query → Trail → Type 0
Conflict q t = (HoldsAll q.n t × (¬ Wanted q t)) ⊎ (RuleFails t q.rules ⊎ SoftFails t q.wished)

-- "Any other path is open."
abbrev pub IsOpen : Query → Trail → Type 0
IsOpen q t = (¬ Wanted q t) × (¬ Conflict q t)
