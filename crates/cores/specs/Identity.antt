-- What holds of the level in work at every point, over any class of models. Document 01, "Wishes and cores". Assumes nothing: these are definitions.
use Rattle.std.specs.Prelude.{◌≡◌, List, ℕ, ◌+◌, ◌≤◌, length}
use Rattle.asp.specs.Sets.{Set, ind}
use Rattle.asp.specs.Program.{All, Distinct}
use Rattle.asp.specs.Penalty.{Penalty, charge, bulk}
use Rattle.cores.specs.Sums.{wsum, Holds}
use Rattle.cores.specs.Soft.{violated, count_by, InOrder}
use Rattle.cores.specs.Level.{Level}

-- the remaining weights of the soft literals that M violates
abbrev pub violated_weight : Set → Level → ℕ
violated_weight M l = wsum (λ p. ind (violated M l.kinds l.cores p)) l.rests

-- all remaining weights
abbrev pub remaining : Level → ℕ
remaining l = wsum (λ p. 1) l.rests

-- a class of models (the stable models with the settled costs), what each costs on the level, and the level's weight
pub record Problem : Type 1 where
  pub Model : Set → Type 0
  pub cost_of : Set → ℕ
  pub whole : ℕ

-- the problem of a class of models on the level of the entries es
abbrev pub problem : (Set → Type 0) → List Penalty → Problem
problem Model es = record { Model = Model; cost_of = λ M. charge M es; whole = bulk es }

module _ (P : Problem) where
  open P use {Model, cost_of, whole}

  -- "for every stable model with the settled costs, its cost here is the lower bound plus the remaining weights of its unmet wishes"
  pub record Good (l : Level) : Type 0 where
    pub as_long : length l.kinds ≡ length l.rests
    pub ordered : InOrder l.kinds l.cores
    pub identity : (M : Set) → Model M → cost_of M ≡ l.lower + violated_weight M l
    pub weighs : l.lower + remaining l ≡ whole

  -- "a core is recorded: assumed wishes, none twice, that no stable model with the settled costs meets together"
  pub record Core (l : Level) (s : ℕ) (ms : List ℕ) : Type 0 where
    pub some : 1 ≤ length ms
    pub distinct : Distinct ms
    pub heavy : All (Holds s l.rests) ms
    pub refuted : (M : Set) → Model M → 1 ≤ count_by (violated M l.kinds l.cores) ms
