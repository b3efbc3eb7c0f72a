-- The starred samples of document 01, "Sample programs", that speak of stable models and costs, two of order 1 and five of order 2: one table, proved as a whole.
-- Each program has exactly the stable models listed, among all sets of atoms, and each of them costs what is listed. Assumes nothing.
use mathlib.Core.Path.{◌≡◌, refl, subst}
use mathlib.Core.Bool.{true}
use mathlib.Core.List.{List, [], ◌∷◌, map}
use Prim.Native.Nat.{ℕ}
use native.Mathlib.Omega.{arith}
use lib.Signed.{lt_z}
use lib.IntN.{ℤ, pos, negsuc}
use Rattle.asp.specs.Sets.{Set, same, iterate}
use Rattle.asp.specs.Program.{Literal, Weighed, normal, weighted, Head, constraint, plain, choice, Rule, Program, All, RuleIn, atoms, highest}
use Rattle.asp.specs.declared.entries.Entry.{Entry}
use Rattle.asp.specs.Stable.{Stable, listed, models, all_hold, counts, member, adds, any_violated, subsets, keep}
use Rattle.asp.specs.Cost.{level, total, total_ℤ, W, costs, starts, cheaper}
use Rattle.asp.proofs.Models.{OneOf, models_all, models_only}

-- ---- the table

pub record Sample : Type 0 where
  pub program : Program
  -- its stable models, each as the list of its atoms, and the cost of each
  pub models : List (List ℕ)
  pub costs : List (List ℤ)

abbrev rule : Head → List Literal → Rule
rule h ls = record { head = h; body = normal ls }

-- a literal and its weight, at one priority
abbrev entry : ℤ → Literal → ℤ → Entry
entry p l w = record { priority = p; literal = l; weight = w }

-- rules alone
abbrev program : List Rule → Program
program rs = record { rules = rs; priorities = []; entries = []; symbols = [] }

abbrev sample : List Rule → List (List ℕ) → Sample
sample rs ms = record { program = program rs; models = ms; costs = map (λ (m : List ℕ). []) ms }

abbrev plan : Program
plan = record {
  rules = rule (choice (1 ∷ 2 ∷ [])) [] ∷ rule (plain 3) (pos 1 ∷ pos 2 ∷ []) ∷ rule constraint (negsuc 0 ∷ negsuc 1 ∷ []) ∷ [];
  priorities = pos 1 ∷ [];
  entries = entry (pos 1) (pos 1) (pos 2) ∷ entry (pos 1) (pos 2) (pos 3) ∷ [];
  symbols = record { name = 97 ∷ []; condition = pos 1 ∷ [] } ∷ record { name = 98 ∷ []; condition = pos 2 ∷ [] } ∷ [];
}

abbrev rewarded : Program
rewarded = record {
  rules = rule (plain 1) [] ∷ [];
  priorities = pos 2 ∷ pos 1 ∷ [];
  entries = entry (pos 2) (pos 1) (negsuc 3) ∷ entry (pos 1) (pos 1) (negsuc 1) ∷ entry (pos 1) (negsuc 0) (negsuc 6) ∷ [];
  symbols = [];
}

-- order 2: a pair of literal and weight, and a rule with such a body
abbrev pair : Literal → ℕ → Weighed
pair l w = record { literal = l; weight = w }

abbrev weighing : Head → ℕ → List Weighed → Rule
weighing h b ps = record { head = h; body = weighted b ps }

abbrev capacity : Program
capacity = record {
  rules = rule (choice (1 ∷ 2 ∷ 3 ∷ [])) [] ∷ weighing constraint 5 (pair (pos 1) 2 ∷ pair (pos 2) 3 ∷ pair (pos 3) 4 ∷ []) ∷ [];
  priorities = pos 0 ∷ [];
  entries = entry (pos 0) (negsuc 0) (pos 2) ∷ entry (pos 0) (negsuc 1) (pos 3) ∷ entry (pos 0) (negsuc 2) (pos 4) ∷ [];
  symbols = [];
}

abbrev pub table : List Sample
table =
    -- no statement
    sample [] ([] ∷ [])
    -- 1 if 1
    ∷ sample (rule (plain 1) (pos 1 ∷ []) ∷ []) ([] ∷ [])
    -- 1 if not 1
    ∷ sample (rule (plain 1) (negsuc 0 ∷ []) ∷ []) []
    -- 1 if not 2, 2 if not 1
    ∷ sample (rule (plain 1) (negsuc 1 ∷ []) ∷ rule (plain 2) (negsuc 0 ∷ []) ∷ []) ((1 ∷ []) ∷ (2 ∷ []) ∷ [])
    -- choice {1}
    ∷ sample (rule (choice (1 ∷ [])) [] ∷ []) ([] ∷ (1 ∷ []) ∷ [])
    -- choice {1}, 1 if 2, 2 if 1
    ∷ sample (rule (choice (1 ∷ [])) [] ∷ rule (plain 1) (pos 2 ∷ []) ∷ rule (plain 2) (pos 1 ∷ []) ∷ []) ([] ∷ (2 ∷ 1 ∷ []) ∷ [])
    -- choice {1}, 2 if 1, never not 2
    ∷ sample (rule (choice (1 ∷ [])) [] ∷ rule (plain 2) (pos 1 ∷ []) ∷ rule constraint (negsuc 1 ∷ []) ∷ []) ((2 ∷ 1 ∷ []) ∷ [])
    -- choice {1} and atom 1 twice at priority 0, weights 2 and 3
    ∷ record {
      program = record {
        rules = rule (choice (1 ∷ [])) [] ∷ [];
        priorities = pos 0 ∷ [];
        entries = entry (pos 0) (pos 1) (pos 2) ∷ entry (pos 0) (pos 1) (pos 3) ∷ [];
        symbols = [];
      };
      models = [] ∷ (1 ∷ []) ∷ [];
      costs = (pos 0 ∷ []) ∷ (pos 5 ∷ []) ∷ [];
    }
    -- the file plan.aspif
    ∷ record { program = plan; models = (1 ∷ []) ∷ (2 ∷ []) ∷ (3 ∷ 2 ∷ 1 ∷ []) ∷ []; costs = (pos 2 ∷ []) ∷ (pos 3 ∷ []) ∷ (pos 5 ∷ []) ∷ [] }
    -- order 1: choice {1, 2}, atom 1 at weight -3 and atom 2 at 2
    ∷ record {
      program = record { rules = rule (choice (1 ∷ 2 ∷ [])) [] ∷ []; priorities = pos 1 ∷ []; entries = entry (pos 1) (pos 1) (negsuc 2) ∷ entry (pos 1) (pos 2) (pos 2) ∷ []; symbols = [] };
      models = [] ∷ (1 ∷ []) ∷ (2 ∷ []) ∷ (2 ∷ 1 ∷ []) ∷ [];
      costs = (pos 0 ∷ []) ∷ (negsuc 2 ∷ []) ∷ (pos 2 ∷ []) ∷ (negsuc 0 ∷ []) ∷ [];
    }
    -- order 1: the fact 1, at -4 above; below it at -2, and its negation at -7
    ∷ record { program = rewarded; models = (1 ∷ []) ∷ []; costs = (negsuc 3 ∷ negsuc 1 ∷ []) ∷ [] }
    -- order 2: choice {1, 2, 3}, never 5 or more of the weights 2, 3, 4; each atom that stays out costs its weight
    ∷ record {
      program = capacity;
      models = [] ∷ (1 ∷ []) ∷ (2 ∷ []) ∷ (3 ∷ []) ∷ [];
      costs = (pos 9 ∷ []) ∷ (pos 7 ∷ []) ∷ (pos 6 ∷ []) ∷ (pos 5 ∷ []) ∷ [];
    }
    -- order 2: 1 if not 2 counted twice reaches 2
    ∷ sample (weighing (plain 1) 2 (pair (negsuc 1) 1 ∷ pair (negsuc 1) 1 ∷ []) ∷ []) ((1 ∷ []) ∷ [])
    -- order 2: 1 if 1 reaches 1
    ∷ sample (weighing (plain 1) 1 (pair (pos 1) 1 ∷ []) ∷ []) ([] ∷ [])
    -- order 2: 1 if not 1 reaches 1
    ∷ sample (weighing (plain 1) 1 (pair (negsuc 0) 1 ∷ []) ∷ []) []
    -- order 2: a choice with a weighted body; the bound 0 always holds
    ∷ sample (weighing (choice (1 ∷ 2 ∷ [])) 3 (pair (pos 3) 2 ∷ pair (negsuc 3) 1 ∷ []) ∷ weighing (plain 3) 0 [] ∷ []) ((3 ∷ []) ∷ (3 ∷ 1 ∷ []) ∷ (3 ∷ 2 ∷ []) ∷ (3 ∷ 2 ∷ 1 ∷ []) ∷ [])
    ∷ []

-- ---- what the table says

pub record Right (s : Sample) : Type 0 where
  pub each : (M : Set) → Stable s.program.rules M → OneOf M s.models
  pub only : (M : Set) → OneOf M s.models → Stable s.program.rules M
  pub priced : map (λ (m : List ℕ). costs s.program (listed m)) s.models ≡ s.costs

-- what is left to compute
pub record Computed (s : Sample) : Type 0 where
  pub heads : All (RuleIn (atoms s.program)) s.program.rules
  pub found : models (atoms s.program) s.program.rules ≡ s.models
  pub priced : map (λ (m : List ℕ). costs s.program (listed m)) s.models ≡ s.costs

right : (s : Sample) → Computed s → Right s
right s c = record {
  each = λ M t. subst (OneOf M) c.found (models_all (atoms s.program) s.program.rules c.heads M t);
  only = λ M o. models_only (atoms s.program) s.program.rules c.heads M (rw c.found o);
  priced = c.priced;
}

all_right : (ss : List Sample) → All Computed ss → All Right ss
all_right [] c = tt
all_right (s ∷ ss) c = (right s c.0, all_right ss c.1)

computed : All Computed table
unfolding highest same iterate all_hold counts member adds any_violated subsets keep level total_ℤ
computed = (record { heads = tt; found = refl; priced = refl }, (record { heads = omega arith; found = refl; priced = refl }, (record { heads = omega arith; found = refl; priced = refl }, (record { heads = omega arith; found = refl; priced = refl }, (record { heads = omega arith; found = refl; priced = refl }, (record { heads = omega arith; found = refl; priced = refl }, (record { heads = omega arith; found = refl; priced = refl }, (record { heads = omega arith; found = refl; priced = refl }, (record { heads = omega arith; found = refl; priced = refl }, (record { heads = omega arith; found = refl; priced = refl }, (record { heads = omega arith; found = refl; priced = refl }, (record { heads = omega arith; found = refl; priced = refl }, (record { heads = omega arith; found = refl; priced = refl }, (record { heads = omega arith; found = refl; priced = refl }, (record { heads = omega arith; found = refl; priced = refl }, (record { heads = omega arith; found = refl; priced = refl }, tt))))))))))))))))

pub table_right : All Right table
table_right = all_right table computed

-- (0, 900) is cheaper than (1, 0)
pub level_by_level : cheaper lt_z (pos 0 ∷ pos 900 ∷ []) (pos 1 ∷ pos 0 ∷ []) ≡ true
unfolding cheaper
level_by_level = refl

-- and (-5, 900) than (-3, 0)
pub below_zero : cheaper lt_z (negsuc 4 ∷ pos 900 ∷ []) (negsuc 2 ∷ pos 0 ∷ []) ≡ true
unfolding cheaper
below_zero = refl

-- "A level's lower bound starts at the sum of its negative weights"; W sums sizes
pub starts_below : starts rewarded ≡ negsuc 3 ∷ negsuc 8 ∷ []
unfolding level total_ℤ
starts_below = refl

pub weighs_sizes : W rewarded ≡ 13
unfolding level total
weighs_sizes = refl
