-- The invariant of the optimizer, over any class of models, and what is asked of the tests of a trail. Assumes nothing.
use mathlib.Core.Path.{◌≡◌}
use mathlib.Core.Logic.{◌≢◌}
use mathlib.Core.Bool.{false}
use mathlib.Core.List.{List, [], ◌∷◌}
use Prim.Native.Nat.{ℕ, suc, ◌+◌, ◌*◌, ◌^◌, ◌≤◌}
use Rattle.asp.specs.Sets.{Set}
use Rattle.asp.specs.Penalty.{Penalty, charge, bulk}
use Rattle.search.specs.Trail.{Trail, FormedTrail}
use Rattle.search.proofs.Spent.{spent}
use Rattle.search.proofs.Search as search
use Rattle.cores.specs.Sums.{Holds}
use Rattle.cores.specs.Soft.{violated}
use Rattle.cores.specs.Level.{room}
use Rattle.cores.specs.Identity.{Good, Core, problem}
use Rattle.cores.proofs.Limits.{Fits}
use Rattle.optimum.specs.Optimize.{Work, State, first, working, optimum, incoherent, full, Tests, onto}
use Rattle.optimum.proofs.Floor.{Base, Floor, weights}

-- atoms 1 to n, the models, and the levels
pub record Given : Type 1 where
  pub n : ℕ
  pub Model : Set → Type 0
  pub levels : List (List Penalty)

module _ (S : Given) where
  open S use {n, Model, levels}

  -- "stable models with the settled costs"
  abbrev pub Among : Work → Set → Type 0
  Among w = Base Model w.past w.settled

  -- ---- what each query is about

  -- "The first question has none" of the wishes
  abbrev pub first_query : search.Problem
  first_query = record { n = n; Class = Model; Assumed = λ m. ⊥; Met = λ M m. Unit {0} }

  -- "A question assumes the wishes with remaining weight at least the stratum."
  abbrev pub level_query : Work → search.Problem
  level_query w = record {
    n = n;
    Class = Among w;
    Assumed = Holds w.stratum w.tables.rests;
    Met = λ M m. violated M w.tables.kinds w.tables.cores m ≡ false;
  }

  -- ---- the invariant

  -- more than a query can take
  abbrev pub power : ℕ
  power = 2 ^ suc n

  pub record GoodWork (w : Work) : Type 0 where
    pub place : onto w.past (w.level ∷ w.later) ≡ levels
    pub base : Among w w.best
    pub floor : Floor Model w.past w.settled
    pub good : Good (problem (Among w) w.level) w.tables
    pub fits : Fits (problem (Among w) w.level) w.tables

  -- c advances were made, s of them in this query at most: one inequality, with no counter of queries
  abbrev pub Paid : Work → ℕ → ℕ → Type 0
  Paid w c s = c + w.stratum * power ≤ (1 + 2 * weights w.past + w.tables.lower + bulk w.level) * power + s

  pub record GoodFirst (c : ℕ) (t : Trail) : Type 0 where
    pub trail : search.GoodTrail first_query t []
    pub paid : c ≤ spent n t

  pub record GoodWorking (c : ℕ) (w : Work) (t : Trail) (ms : List ℕ) : Type 0 where
    pub work : GoodWork w
    pub positive : 1 ≤ w.stratum
    pub unsettled : charge w.best w.level ≢ w.tables.lower
    pub trail : search.GoodTrail (level_query w) t ms
    pub paid : Paid w c (spent n t)

  pub record GoodEnd (past : List (List Penalty)) (settled : List ℕ) (later : List (List Penalty)) (M : Set) : Type 0 where
    pub place : onto past later ≡ levels
    pub base : Base Model past settled M
    pub floor : Floor Model past settled

  pub record GoodFull (w : Work) : Type 0 where
    pub work : GoodWork w
    pub positive : 1 ≤ w.stratum
    pub core : List ℕ
    pub is_core : Core (problem (Among w) w.level) w.tables w.stratum core
    pub passes : room w.tables core ≡ false

  abbrev pub Inv : State → Type 0
  Inv (first c t) = GoodFirst c t
  Inv (working c w t ms) = GoodWorking c w t ms
  Inv (optimum c past settled M) = GoodEnd past settled [] M
  Inv (incoherent c) = (M : Set) → Model M → ⊥
  Inv (full c w) = GoodFull w

  -- ---- the tests are right

  pub record Right (X : Tests) : Type 0 where
    pub right_first : (t : Trail) → FormedTrail n t → search.Says first_query t (X.test_first t)
    pub right : (w : Work) (ms : List ℕ) (t : Trail) → GoodWork w → 1 ≤ w.stratum → search.GoodTrail (level_query w) t ms → search.Says (level_query w) t (X.test w ms t)
