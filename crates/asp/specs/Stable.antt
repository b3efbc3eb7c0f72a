-- Stable models: as a type, in the words of document 01, "Plans and costs"; and as a test that computes. Assumes nothing: these are definitions.
use Rattle.std.specs.Prelude.{Bool, true, false, not, ◌&&◌, ◌||◌, cond, List, [], ◌∷◌, ◌++◌, map, ℕ, zero, suc, ◌+◌, T, eqb, leb, pos, negsuc}
use Rattle.asp.specs.Sets.{Set, Sub, same, iterate, pick}
use Rattle.asp.specs.Program.{Literal, Weighed, Body, normal, weighted, Head, constraint, plain, choice, Rule, Symbol}

-- ---- when a literal, a body, a condition holds

-- a positive literal is looked up in X, a negated one in M
abbrev pub holds_in : Set → Set → Literal → Bool
holds_in M X (pos a) = X a
holds_in M X (negsuc a) = not (M (suc a))

unfoldable pub all_hold : Set → Set → List Literal → Bool
all_hold M X [] = true
all_hold M X (l ∷ ls) = holds_in M X l && all_hold M X ls

-- order 2: "the body counts, pair by pair, the weights of positive atoms in the growing set" X "and of negated atoms outside M"
abbrev pub pair_counts : Set → Set → Weighed → ℕ
pair_counts M X p = pick (holds_in M X p.literal) p.weight 0

unfoldable pub counts : Set → Set → List Weighed → ℕ
counts M X [] = 0
counts M X (p ∷ ps) = pair_counts M X p + counts M X ps

-- "a rule whose negated atoms are all outside M, and whose positive atoms are all in the set" X; order 2: ".. and holds at bound or more"
abbrev pub body_holds : Set → Set → Body → Bool
body_holds M X (normal ls) = all_hold M X ls
body_holds M X (weighted b ps) = leb b (counts M X ps)

-- a literal holds in a set
abbrev pub holds : Set → Literal → Bool
holds M l = holds_in M M l

-- "symbol s .. shown when all k literals hold"
abbrev pub shown : Set → Symbol → Bool
shown M s = all_hold M M s.condition

-- ---- what the rules add to a set X, with negation and choice read in M

unfoldable pub member : ℕ → List ℕ → Bool
member a [] = false
member a (x ∷ xs) = eqb a x || member a xs

-- ".. adds its head; a choice rule adds only those of its head atoms that are in M"
abbrev pub head_adds : Set → Head → ℕ → Bool
head_adds M constraint a = false
head_adds M (plain h) a = eqb a h
head_adds M (choice hs) a = M a && member a hs

abbrev pub rule_adds : Set → Rule → Set → Set
rule_adds M r X a = body_holds M X r.body && head_adds M r.head a

-- the atoms that some rule adds
unfoldable pub adds : Set → List Rule → Set → Set
adds M [] X a = false
adds M (r ∷ rs) X a = rule_adds M r X a || adds M rs X a

-- ---- "A set M of atoms is stable if no constraint's body holds in M and M is the least set closed under this"

abbrev pub is_constraint : Head → Bool
is_constraint constraint = true
is_constraint (plain a) = false
is_constraint (choice as') = false

-- the rule is a constraint whose body holds in M
abbrev pub constraint_fails : Set → Rule → Bool
constraint_fails M r = is_constraint r.head && body_holds M M r.body

unfoldable pub any_violated : Set → List Rule → Bool
any_violated M [] = false
any_violated M (r ∷ rs) = constraint_fails M r || any_violated M rs

-- X is closed: what the rules add to X is in X
abbrev pub Closed : List Rule → Set → Set → Type 0
Closed rs M X = Sub (adds M rs X) X

-- Least, so that a stable model has no atom that is no rule's head: none outside 1 to n, where the heads are.
pub record Stable (rs : List Rule) (M : Set) : Type 0 where
  pub unviolated : T (not (any_violated M rs))
  pub closed : Closed rs M M
  pub least : (X : Set) → Closed rs M X → Sub M X

-- ---- the test: n is the highest atom, or more

abbrev pub closure : ℕ → List Rule → Set → Set
closure n rs M = iterate (adds M rs) (suc n)

abbrev pub is_stable : ℕ → List Rule → Set → Bool
is_stable n rs M = not (any_violated M rs) && same n M (closure n rs M)

-- ---- all stable models, each as the list of its atoms

-- the set of the atoms of a list
abbrev pub listed : List ℕ → Set
listed xs a = member a xs

unfoldable pub subsets : ℕ → List (List ℕ)
subsets zero = [] ∷ []
subsets (suc n) = subsets n ++ map (λ xs. suc n ∷ xs) (subsets n)

unfoldable pub keep : {A : Type 0} → (A → Bool) → List A → List A
keep f [] = []
keep f (x ∷ xs) = cond (f x) (x ∷ keep f xs) (keep f xs)

abbrev pub models : ℕ → List Rule → List (List ℕ)
models n rs = keep (λ xs. is_stable n rs (listed xs)) (subsets n)
