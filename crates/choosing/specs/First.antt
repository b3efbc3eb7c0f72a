-- The atoms that a free branch tries in first: those that a choice rule without a body chooses, unless a penalty stands on them. Document 01 leaves branching free;
-- docs/DECISIONS.md says why this way. Assumes nothing: these are definitions.
use Rattle.std.specs.Prelude.{◌≡◌, Bool, true, false, not, ◌&&◌, ◌||◌, List, [], ◌∷◌, ℕ, ltb, pos, length}
use Rattle.asp.specs.Sets.{Set, set_of}
use Rattle.asp.specs.Literal.{same_ℤ}
use Rattle.asp.specs.Program.{Body, normal, weighted, Head, constraint, plain, choice, Rule}
use Rattle.asp.specs.Penalty.{Penalty}
use Rattle.asp.specs.Stable.{member}

-- a rule without a body
abbrev pub is_bodiless : Body → Bool
is_bodiless (normal []) = true
is_bodiless (normal (l ∷ ls)) = false
is_bodiless (weighted b ps) = false

-- the atoms of a choice
abbrev pub chosen_by : Head → Set
chosen_by constraint a = false
chosen_by (plain h) a = false
chosen_by (choice hs) a = member a hs

abbrev pub freely_chosen_by : Rule → Set
freely_chosen_by r a = is_bodiless r.body && chosen_by r.head a

unfoldable pub freely_chosen : List Rule → Set
freely_chosen [] a = false
freely_chosen (r ∷ rs) a = freely_chosen_by r a || freely_chosen rs a

-- a penalty that costs something where the atom is in
abbrev pub pays_for : Penalty → Set
pays_for p a = same_ℤ p.literal (pos a) && ltb 0 p.weight

unfoldable pub paid_for : List Penalty → Set
paid_for [] a = false
paid_for (p ∷ ps) a = pays_for p a || paid_for ps a

abbrev pub tried_first : List Rule → List Penalty → Set
tried_first rs ps a = freely_chosen rs a && not (paid_for ps a)

-- ---- what a pass does to a table of bytes by atom, from xs to ys

-- the atoms of X come in
pub record With (X : Set) (xs ys : List ℕ) : Type 0 where
  pub long : length ys ≡ 1025
  pub each : (a : ℕ) → set_of ys a ≡ (set_of xs a || X a)

-- the atoms of X go out
pub record Without (X : Set) (xs ys : List ℕ) : Type 0 where
  pub long : length ys ≡ 1025
  pub each : (a : ℕ) → set_of ys a ≡ (set_of xs a && not (X a))
