-- What holds of every optimization after any number of advances: what demand 3 says of it, in terms of the program that its tables hold. Assumes nothing: these
-- are definitions.
use Rattle.std.specs.Prelude.{◌≡◌, Bool, true, false, List, map, ℕ, suc, ◌+◌, ◌*◌, ◌^◌, ◌≤◌, ◌<◌, ℤ, pos, ◌<ℤ◌, length, take, get_or}
use Rattle.std.specs.Int.Signed.{lt_z}
use Rattle.asp.specs.declared.entries.Entry.{Entry}
use Rattle.asp.specs.Sets.{Set, set_of}
use Rattle.asp.specs.Program.{All}
use Rattle.asp.specs.Stable.{Stable}
use Rattle.asp.specs.Cost.{cost, weight, total, NoDearer}
use Rattle.asp.specs.Penalty.{above}
use Rattle.cores.specs.Identity.{violated_weight}
use Rattle.cores.specs.Tables.{level_of}
use Rattle.advancing.specs.declared.state.Phase.{Phase}
use Rattle.advancing.specs.declared.state.Phase.TheVariants.{First, Level, Optimum, Incoherent, Full}
use Rattle.advancing.specs.declared.state.Search.{Search}
use Rattle.advancing.specs.Source.{Source, many, level_at, start_at, levels_in, rules_in}
use Rattle.advancing.specs.State.{is_running}
use Rattle.advancing.specs.Run.{bumped_by}

-- ---- the program that the tables hold

abbrev pub Model : Source → Set → Type 0
Model S M = Stable (rules_in S) M

-- "A set's cost lists the sum on each level", highest first
abbrev pub costs_in : Source → Set → List ℤ
costs_in S M = map (cost M) (levels_in S.levels)

-- "W sums all levels"
abbrev pub weight_in : Source → ℕ
weight_in S = total (map weight (levels_in S.levels))

-- ---- what a look and a model call show of a state

abbrev pub has_model : Phase → Bool
has_model First = false
has_model Level = true
has_model Optimum = true
has_model Incoherent = false
has_model Full = true

-- the level in work: there is one on a level and after full
abbrev pub is_in_work : Phase → Bool
is_in_work First = false
is_in_work Level = true
is_in_work Optimum = false
is_in_work Incoherent = false
is_in_work Full = true

abbrev pub lowers_in : Source → Search → List ℤ
lowers_in S s = take (many S.levels) s.work.lowers

abbrev pub uppers_in : Source → Search → List ℤ
uppers_in S s = take (many S.levels) s.work.uppers

abbrev pub best_in : Search → Set
best_in s = set_of s.work.best

-- ---- the facts, where c advances were made

pub record Facts (S : Source) (c : ℕ) (s : Search) : Type 0 where
  -- "the figure stays at 2^64 - 1"
  pub figure : s.advances ≡ bumped_by c 0
  -- "The lower bound is no dearer than any stable model."
  pub lower : (M : Set) → Model S M → NoDearer lt_z (lowers_in S s) (costs_in S M)
  -- "The best model, once there is one, is stable and costs exactly the upper bound."
  pub stable : has_model s.phase ≡ true → Model S (best_in s)
  pub upper : has_model s.phase ≡ true → uppers_in S s ≡ costs_in S (best_in s)
  -- "At optimum .. every other stable model costs at least as much."
  pub optimum : s.phase ≡ Optimum → (M : Set) → Model S M → NoDearer lt_z (costs_in S (best_in s)) (costs_in S M)
  -- "Once ended, the status is incoherent exactly when no stable model exists."
  pub none_is : s.phase ≡ Incoherent → (M : Set) → Model S M → ⊥
  pub is_none : is_running s.phase ≡ false → ((M : Set) → Model S M → ⊥) → s.phase ≡ Incoherent
  -- "while the status is running, fewer than 2^(n+1) × (2W + 1) advances have been made since the load"
  pub few : is_running s.phase ≡ true → c < 2 ^ suc S.n * (2 * weight_in S + 1)
  -- a model has all n atoms added first, one an advance: "one whose first advance finds everything fails the path rules"
  pub patient : has_model s.phase ≡ true → S.n < c
  -- "The status is never full if each level weighs 90 or less."
  pub never_full : All (λ (l : List Entry). weight l ≤ 90) (levels_in S.levels) → s.phase ≡ Full → ⊥
  -- the level in work, from 0, is one of the levels, and its stratum is 1 or more
  pub level : is_in_work s.phase ≡ true → s.work.level < many S.levels
  pub stratum : is_in_work s.phase ≡ true → 1 ≤ s.work.stratum
  -- "for every stable model with the settled costs, its cost here is the lower bound plus the remaining weights of its unmet wishes; this is proved at every point"
  pub identity : is_in_work s.phase ≡ true → (M : Set) → Model S M → ((j : ℕ) → j < s.work.level → cost M (level_at S.levels j) ≡ get_or s.work.lowers j (pos 0))
      → cost M (level_at S.levels s.work.level) ≡ above (get_or s.work.lowers s.work.level (pos 0)) (violated_weight M (level_of s.work.tables))
  -- one lower bound for each level
  pub as_many : length (lowers_in S s) ≡ many S.levels
  -- "settled .. when the best model's cost there equals its lower bound; it then stays settled": on each level before the one in work the bounds are equal
  pub settled : is_in_work s.phase ≡ true → (j : ℕ) → j < s.work.level → get_or (lowers_in S s) j (pos 0) ≡ get_or (uppers_in S s) j (pos 0)
  -- on the level in work they are not, while the status is running
  pub unsettled : s.phase ≡ Level → get_or (lowers_in S s) s.work.level (pos 0) <ℤ get_or (uppers_in S s) s.work.level (pos 0)
  -- "A level's lower bound starts at the sum of its negative weights, also on levels not yet in work."; before a model is found, and where there is none, no level is
  pub later : is_in_work s.phase ≡ true → (j : ℕ) → s.work.level < j → j < many S.levels → get_or (lowers_in S s) j (pos 0) ≡ start_at S.levels j
  pub start : has_model s.phase ≡ false → (j : ℕ) → j < many S.levels → get_or (lowers_in S s) j (pos 0) ≡ start_at S.levels j
  -- "optimum (a model, every level settled)"
  pub bounds_meet : s.phase ≡ Optimum → lowers_in S s ≡ uppers_in S s
