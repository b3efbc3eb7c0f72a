-- The optimizer: levels over strata over queries over the trail. Document 01, "Question and path" and "Wishes and cores". How a trail is tested, where it branches
-- and which soft literal is blamed are parameters. A level is its penalties, and a figure is how far it lies above the level's start (order 1): natural, from 0 on.
-- Assumes nothing: these are definitions.
use Rattle.std.specs.Prelude.{List, [], ◌∷◌, map, ℕ, zero, suc, eqb, ltb}
use Rattle.std.proofs.Math.Option.{Option, none, some}
use Rattle.asp.specs.Sets.{Set, pick}
use Rattle.asp.specs.Penalty.{Penalty, charge}
use Rattle.asp.specs.Cost.{cheaper}
use Rattle.search.specs.Trail.{Trail}
use Rattle.search.specs.Machine.{Verdict}
use Rattle.search.specs.Machine as machine
use Rattle.cores.specs.Level.{Level, opened, greatest, under, recorded, room}

-- ---- what a set is charged over a list of levels

abbrev pub charges_on : Set → List (List Penalty) → List ℕ
charges_on M ls = map (charge M) ls

-- the first list, newest first, put back before the second
abbrev pub onto : {A : Type 0} → List A → List A → List A
onto [] ys = ys
onto (x ∷ xs) ys = onto xs (x ∷ ys)

-- "A model becomes the best if it is the first or cheaper."
abbrev pub better : List (List Penalty) → Set → Set → Set
better levels M N = pick (cheaper ltb (charges_on M levels) (charges_on N levels)) M N

-- ---- the state

-- what stands still during a query on a level: the settled levels and their costs, newest first; the level in work, and those after it; its soft literals and
-- cores; the stratum; the best model. All levels are `onto past (level ∷ later)`.
pub record Work : Type 0 where
  pub past : List (List Penalty)
  pub settled : List ℕ
  pub level : List Penalty
  pub later : List (List Penalty)
  pub tables : Level
  pub stratum : ℕ
  pub best : Set

-- the first number counts the advances; the last list is what the query has blamed
pub data State : Type 0 where
  first : ℕ → Trail → State
  working : ℕ → Work → Trail → List ℕ → State
  optimum : ℕ → List (List Penalty) → List ℕ → Set → State
  incoherent : ℕ → State
  full : ℕ → Work → State

-- ---- levels are opened and settled

abbrev pub begun : List (List Penalty) → List ℕ → List Penalty → List (List Penalty) → Set → Work
begun past settled l later best = record {
  past = past;
  settled = settled;
  level = l;
  later = later;
  tables = opened l;
  stratum = greatest (opened l).rests;
  best = best;
}

-- "The highest level opens when the first question ends with a model, the next when one is settled, in the same advance": a level on which the best model costs 0,
-- where the lower bound begins, is settled at once
abbrev pub open_next : ℕ → List (List Penalty) → List ℕ → List (List Penalty) → Set → State
open_next c past settled [] best = optimum c past settled best
open_next c past settled (l ∷ later) best =
    pick (eqb (charge best l) 0) (open_next c (l ∷ past) (0 ∷ settled) later best) (working c (begun past settled l later best) [] [])

-- "The level in work .. is settled, within the advance, when the best model's cost there equals its lower bound"
abbrev pub settle : ℕ → Work → State
settle c w =
    pick (eqb (charge w.best w.level) w.tables.lower)
    (open_next c (w.level ∷ w.past) (w.tables.lower ∷ w.settled) w.later w.best)
    (working c w [] [])

-- ---- the end of a query

-- "If none, a core is recorded: .. The stratum stays, the lower bound rises by it"
abbrev pub with_core : Work → List ℕ → Work
with_core w ms = record {
  past = w.past;
  settled = w.settled;
  level = w.level;
  later = w.later;
  tables = recorded w.tables w.stratum ms;
  stratum = w.stratum;
  best = w.best;
}

-- "If a model is found, the stratum falls to the greatest remaining weight below it."
abbrev pub with_model : List (List Penalty) → Work → Set → Work
with_model levels w M = record {
  past = w.past;
  settled = w.settled;
  level = w.level;
  later = w.later;
  tables = w.tables;
  stratum = under w.stratum w.tables.rests;
  best = better levels M w.best;
}

-- "If a core would pass either, it isn't recorded and the status is full."
abbrev pub no_model : ℕ → Work → List ℕ → State
no_model c w ms = pick (room w.tables ms) (settle c (with_core w ms)) (full c w)

-- ---- an advance

-- what a step of the first query comes to
abbrev pub after_first : List (List Penalty) → ℕ → machine.QueryState → State
after_first levels c (machine.running t ms) = first c t
after_first levels c (machine.without ms) = incoherent c
after_first levels c (machine.model M) = open_next c [] [] levels M

-- what a step of a query on a level comes to
abbrev pub after_work : List (List Penalty) → ℕ → Work → machine.QueryState → State
after_work levels c w (machine.running t ms) = working c w t ms
after_work levels c w (machine.without ms) = no_model c w ms
after_work levels c w (machine.model M) = settle c (with_model levels w M)

-- the two tests: of the first query, and of the others
pub record Tests : Type 0 where
  pub test_first : Trail → Verdict
  pub test : Work → List ℕ → Trail → Verdict

-- "An advance after the end does nothing and isn't counted."
abbrev pub advance : List (List Penalty) → Tests → State → State
advance levels X (first c t) = after_first levels (suc c) (machine.advance_by (X.test_first t) t [])
advance levels X (working c w t ms) = after_work levels (suc c) w (machine.advance_by (X.test w ms t) t ms)
advance levels X (optimum c past settled M) = optimum c past settled M
advance levels X (incoherent c) = incoherent c
advance levels X (full c w) = full c w

-- after k advances from a fresh state
abbrev pub after : List (List Penalty) → Tests → ℕ → State
after levels X zero = first 0 []
after levels X (suc k) = advance levels X (after levels X k)

-- ---- what a look gives

abbrev pub advances : State → ℕ
advances (first c t) = c
advances (working c w t ms) = c
advances (optimum c past settled M) = c
advances (incoherent c) = c
advances (full c w) = c

abbrev pub best_of : State → Option Set
best_of (first c t) = none
best_of (working c w t ms) = some w.best
best_of (optimum c past settled M) = some M
best_of (incoherent c) = none
best_of (full c w) = some w.best

-- Levels not yet in work have the lower bound that they start with.
abbrev pub zeros : List (List Penalty) → List ℕ
zeros ls = map (λ l. 0) ls

abbrev pub work_lowers : Work → List ℕ
work_lowers w = onto w.settled (w.tables.lower ∷ zeros w.later)

abbrev pub lowers : List (List Penalty) → State → List ℕ
lowers levels (first c t) = zeros levels
lowers levels (working c w t ms) = work_lowers w
lowers levels (optimum c past settled M) = onto settled []
lowers levels (incoherent c) = zeros levels
lowers levels (full c w) = work_lowers w

abbrev pub uppers_by : List (List Penalty) → Option Set → Option (List ℕ)
uppers_by levels none = none
uppers_by levels (some M) = some (charges_on M levels)

-- "upper bound (the best model's costs, absent before one)"
abbrev pub uppers : List (List Penalty) → State → Option (List ℕ)
uppers levels s = uppers_by levels (best_of s)

abbrev pub Running : State → Type 0
Running (first c t) = Unit {0}
Running (working c w t ms) = Unit {0}
Running (optimum c past settled M) = ⊥
Running (incoherent c) = ⊥
Running (full c w) = ⊥

abbrev pub Incoherent : State → Type 0
Incoherent (first c t) = ⊥
Incoherent (working c w t ms) = ⊥
Incoherent (optimum c past settled M) = ⊥
Incoherent (incoherent c) = Unit {0}
Incoherent (full c w) = ⊥
