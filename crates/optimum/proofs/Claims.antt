-- What holds of the optimizer after any number of advances: the theorems that demand 3 rests on. Assumes nothing.
use mathlib.Core.Path.{◌≡◌, refl, sym, ap, ◌∙◌, subst}
use mathlib.Core.Logic.{◌⊎◌, inl, inr}
use mathlib.Core.Bool.{true, false, true≢false}
use mathlib.Core.List.{List, [], ◌∷◌}
use mathlib.Core.Option.{Option, none, some}
use Prim.Native.Nat.{ℕ, suc, ◌+◌, ◌*◌, ◌^◌, ◌≤◌, ◌<◌}
use native.Mathlib.Nat.{eq-or-lt_of_le}
use native.Mathlib.Omega.{arith}
use lib.Dec.{eqb, ltb, lt→ltb}
use lib.ListN.{length}
use Rattle.asp.specs.Sets.{Set, pick}
use Rattle.asp.specs.Program.{All}
use Rattle.asp.specs.Penalty.{Penalty, charge, bulk}
use Rattle.asp.specs.Cost.{total, NoDearer}
use Rattle.asp.proofs.Order.{ltb_linear, no_dearer_refl}
use Rattle.search.specs.Machine as machine
use Rattle.search.proofs.Spent.{spent, spent_le}
use Rattle.cores.specs.Level.{room}
use Rattle.cores.specs.Identity.{problem, violated_weight}
use Rattle.cores.proofs.Limits.{has_room, lower_bounds}
use Rattle.optimum.specs.Optimize.{Work, State, first, working, optimum, incoherent, full, Tests, charges_on, onto, begun, open_next, settle, with_core, with_model, no_model, after_first, after_work, advance, advances, best_of, zeros, work_lowers, lowers, Running, Incoherent}
use Rattle.optimum.proofs.Floor.{Costs, weights, weights_onto, floor_le, onto_costs, onto_long, zeros_long, zeros_le, costs_long, better_le}
use Rattle.optimum.proofs.Invariant.{Given, Among, power, GoodWork, GoodFull, GoodEnd, Inv}
use Rattle.optimum.proofs.Kept.{paid_bound}

-- a fact of the best model, where there is one
abbrev pub OnBest : (Set → Type 0) → Option Set → Type 0
OnBest P none = Unit {0}
OnBest P (some M) = P M

in_work : (P : List Penalty → Type 0) (past : List (List Penalty)) (l : List Penalty) (later : List (List Penalty)) → All P (onto past (l ∷ later)) → P l
in_work P [] l later a = a.0
in_work P (x ∷ past) l later a = go past (x ∷ l ∷ later) (λ b. b.1.0) a
  where
    go : (past : List (List Penalty)) (ls : List (List Penalty)) → (All P ls → P l) → All P (onto past ls) → P l
    go [] ls f a = f a
    go (x ∷ past) ls f a = go past (x ∷ ls) (λ b. f b.1) a

module _ (S : Given) where
  open S use {n, Model, levels}

  -- ---- of a state that keeps the invariant

  work_lowers_lem : (w : Work) → GoodWork S w → (M : Set) → Model M → NoDearer ltb (work_lowers w) (charges_on M levels)
  work_lowers_lem w g M m =
      subst (λ (ls : List (List Penalty)). NoDearer ltb (work_lowers w) (charges_on M ls)) g.place
      (floor_le Model M w.past w.settled (w.tables.lower ∷ zeros w.later) (w.level ∷ w.later) m g.floor (ap suc (zeros_long w.later))
      (λ c. go (eq-or-lt_of_le (lower_bounds (problem (Among S w) w.level) w.tables g.good M (m, c)))))
    where
      go : (w.tables.lower ≡ charge M w.level) ⊎ (w.tables.lower < charge M w.level) → NoDearer ltb (w.tables.lower ∷ zeros w.later) (charges_on M (w.level ∷ w.later))
      go (inl e) = inr (e, zeros_le M w.later)
      go (inr h) = inl (lt→ltb w.tables.lower (charge M w.level) h, zeros_long w.later ∙ sym (costs_long M w.later))

  -- (a) the lower bounds are no dearer than any model, compared level by level
  pub lowers_le : (s : State) → Inv S s → (M : Set) → Model M → NoDearer ltb (lowers levels s) (charges_on M levels)
  lowers_le (first c t) g M m = zeros_le M levels
  lowers_le (working c w t ms) g M m = work_lowers_lem w g.work M m
  lowers_le (optimum c past settled N) g M m =
      subst (λ (ls : List (List Penalty)). NoDearer ltb (onto settled []) (charges_on M ls)) g.place (floor_le Model M past settled [] [] m g.floor refl (λ c. tt))
  lowers_le (incoherent c) g M m = zeros_le M levels
  lowers_le (full c w) g M m = work_lowers_lem w g.work M m

  -- one bound for each level
  work_long : (w : Work) → GoodWork S w → length (work_lowers w) ≡ length levels
  work_long w g =
      onto_long w.past w.settled (w.tables.lower ∷ zeros w.later) (w.level ∷ w.later) w.best g.base.1 (ap suc (zeros_long w.later)) ∙ ap length g.place

  pub lowers_long : (s : State) → Inv S s → length (lowers levels s) ≡ length levels
  lowers_long (first c t) g = zeros_long levels
  lowers_long (working c w t ms) g = work_long w g.work
  lowers_long (optimum c past settled N) g = onto_long past settled [] [] N g.base.1 refl ∙ ap length g.place
  lowers_long (incoherent c) g = zeros_long levels
  lowers_long (full c w) g = work_long w g.work

  -- (b) the best, once there, is a model; its costs are the upper bounds by the definition of `uppers`
  pub best_is : (s : State) → Inv S s → OnBest Model (best_of s)
  best_is (first c t) g = tt
  best_is (working c w t ms) g = g.work.base.0
  best_is (optimum c past settled M) g = g.base.0
  best_is (incoherent c) g = tt
  best_is (full c w) g = g.work.base.0

  -- (c) at the optimum the lower bounds are the best model's costs, so every other model costs at least as much
  pub optimum_is : (c : ℕ) (past : List (List Penalty)) (settled : List ℕ) (N : Set) → GoodEnd S past settled [] N → charges_on N levels ≡ lowers levels (optimum c past settled N)
  optimum_is c past settled N g = subst (λ (ls : List (List Penalty)). charges_on N ls ≡ onto settled []) g.place (onto_costs N past settled [] [] g.base.1 refl)

  pub optimum_best : (c : ℕ) (past : List (List Penalty)) (settled : List ℕ) (N : Set) → GoodEnd S past settled [] N → (M : Set) → Model M
      → NoDearer ltb (charges_on N levels) (charges_on M levels)
  optimum_best c past settled N g M m =
      subst (λ (bs : List ℕ). NoDearer ltb bs (charges_on M levels)) (sym (optimum_is c past settled N g)) (lowers_le (optimum c past settled N) g M m)

  -- (d) what has ended, where there is no model, is incoherent
  pub none_ends : (s : State) → Inv S s → (Running s → ⊥) → ((M : Set) → Model M → ⊥) → Incoherent s
  none_ends (first c t) g r h = r tt
  none_ends (working c w t ms) g r h = r tt
  none_ends (optimum c past settled M) g r h = h M g.base.0
  none_ends (incoherent c) g r h = tt
  none_ends (full c w) g r h = h w.best g.work.base.0

  pub incoherent_none : (s : State) → Inv S s → Incoherent s → (M : Set) → Model M → ⊥
  incoherent_none (first c t) g i = absurd i
  incoherent_none (working c w t ms) g i = absurd i
  incoherent_none (optimum c past settled M) g i = absurd i
  incoherent_none (incoherent c) g i = g
  incoherent_none (full c w) g i = absurd i

  -- (e) fewer than 2 ^ (n + 1) * (2 * W + 1) advances while it runs
  pub few_advances : (s : State) → Inv S s → Running s → advances s < 2 ^ suc n * (2 * weights levels + 1)
  unfolding total
  few_advances (first c t) g r = small c (spent n t) (power S) (weights levels) g.paid (spent_le n t g.trail.short)
    where
      small : (c x P t : ℕ) → c ≤ x → x + 2 ≤ P → c < P * (2 * t + 1)
      small c x P t h k = omega arith
  few_advances (working c w t ms) g r =
      subst (λ (x : ℕ). c < power S * (2 * x + 1)) (sym (weights_onto w.past (w.level ∷ w.later)) ∙ ap weights g.work.place)
      (paid_bound c (weights w.past) w.tables.lower (bulk w.level) (weights w.later) w.stratum (spent n t) (power S) g.paid (spent_le n t g.trail.short) g.positive
      (omega (arith, g.work.good.weighs)))
  few_advances (optimum c past settled M) g r = absurd r
  few_advances (incoherent c) g r = absurd r
  few_advances (full c w) g r = absurd r

  -- (f) never full if each level weighs 90 or less
  pub never_full : (c : ℕ) (w : Work) → All (λ l. bulk l ≤ 90) levels → GoodFull S w → ⊥
  never_full c w a g =
      true≢false
      (sym (has_room (problem (Among S w) w.level) w.tables w.stratum g.core g.work.good g.is_core g.positive g.work.fits
      (in_work (λ l. bulk l ≤ 90) w.past w.level w.later (subst (All (λ l. bulk l ≤ 90)) (sym g.work.place) a)))
      ∙ g.passes)

  -- (g) "for every stable model with the settled costs, its cost here is the lower bound plus the remaining weights of its unmet wishes"
  pub identity : (w : Work) → GoodWork S w → (M : Set) → Model M → Costs w.past w.settled M → charge M w.level ≡ w.tables.lower + violated_weight M w.tables
  identity w g M m c = g.good.identity M (m, c)

-- ---- each advance of a running state is counted

open_count : (c : ℕ) (past : List (List Penalty)) (settled : List ℕ) (later : List (List Penalty)) (M : Set) → advances (open_next c past settled later M) ≡ c
open_count c past settled [] M = refl
open_count c past settled (l ∷ later) M =
    elim (eqb (charge M l) 0) as (λ b. advances (pick b (open_next c (l ∷ past) (0 ∷ settled) later M) (working c (begun past settled l later M) [] [])) ≡ c)
    [ true ↦ open_count c (l ∷ past) (0 ∷ settled) later M | false ↦ refl ]

settle_count : (c : ℕ) (w : Work) → advances (settle c w) ≡ c
settle_count c w =
    elim (eqb (charge w.best w.level) w.tables.lower)
    as (λ b. advances (pick b (open_next c (w.level ∷ w.past) (w.tables.lower ∷ w.settled) w.later w.best) (working c w [] [])) ≡ c)
    [ true ↦ open_count c (w.level ∷ w.past) (w.tables.lower ∷ w.settled) w.later w.best | false ↦ refl ]

none_count : (c : ℕ) (w : Work) (ms : List ℕ) → advances (no_model c w ms) ≡ c
none_count c w ms = elim (room w.tables ms) as (λ b. advances (pick b (settle c (with_core w ms)) (full c w)) ≡ c) [ true ↦ settle_count c (with_core w ms) | false ↦ refl ]

first_count : (levels : List (List Penalty)) (c : ℕ) (s : machine.QueryState) → advances (after_first levels c s) ≡ c
first_count levels c (machine.running t ms) = refl
first_count levels c (machine.without ms) = refl
first_count levels c (machine.model M) = open_count c [] [] levels M

work_count : (levels : List (List Penalty)) (c : ℕ) (w : Work) (s : machine.QueryState) → advances (after_work levels c w s) ≡ c
work_count levels c w (machine.running t ms) = refl
work_count levels c w (machine.without ms) = none_count c w ms
work_count levels c w (machine.model M) = settle_count c (with_model levels w M)

pub counted : (levels : List (List Penalty)) (X : Tests) (s : State) → Running s → advances (advance levels X s) ≡ suc (advances s)
counted levels X (first c t) r = first_count levels (suc c) (machine.advance_by (X.test_first t) t [])
counted levels X (working c w t ms) r = work_count levels (suc c) w (machine.advance_by (X.test w ms t) t ms)
counted levels X (optimum c past settled M) r = absurd r
counted levels X (incoherent c) r = absurd r
counted levels X (full c w) r = absurd r

-- "An advance after the end does nothing and isn't counted."
pub at_rest : (levels : List (List Penalty)) (X : Tests) (s : State) → (Running s → ⊥) → advance levels X s ≡ s
at_rest levels X (first c t) r = absurd (r tt)
at_rest levels X (working c w t ms) r = absurd (r tt)
at_rest levels X (optimum c past settled M) r = refl
at_rest levels X (incoherent c) r = refl
at_rest levels X (full c w) r = refl

-- what runs after an advance ran before it
pub ran : (levels : List (List Penalty)) (X : Tests) (s : State) → Running (advance levels X s) → Running s
ran levels X (first c t) r = tt
ran levels X (working c w t ms) r = tt
ran levels X (optimum c past settled M) r = r
ran levels X (incoherent c) r = r
ran levels X (full c w) r = r

-- ---- the best model never gets dearer, and once there it stays

abbrev pub Falls : List (List Penalty) → Option Set → Option Set → Type 0
Falls levels none o = Unit {0}
Falls levels (some N) none = ⊥
Falls levels (some N) (some M) = NoDearer ltb (charges_on M levels) (charges_on N levels)

open_best : (c : ℕ) (past : List (List Penalty)) (settled : List ℕ) (later : List (List Penalty)) (M : Set) → best_of (open_next c past settled later M) ≡ some M
open_best c past settled [] M = refl
open_best c past settled (l ∷ later) M =
    elim (eqb (charge M l) 0) as (λ b. best_of (pick b (open_next c (l ∷ past) (0 ∷ settled) later M) (working c (begun past settled l later M) [] [])) ≡ some M)
    [ true ↦ open_best c (l ∷ past) (0 ∷ settled) later M | false ↦ refl ]

settle_best : (c : ℕ) (w : Work) → best_of (settle c w) ≡ some w.best
settle_best c w =
    elim (eqb (charge w.best w.level) w.tables.lower)
    as (λ b. best_of (pick b (open_next c (w.level ∷ w.past) (w.tables.lower ∷ w.settled) w.later w.best) (working c w [] [])) ≡ some w.best)
    [ true ↦ open_best c (w.level ∷ w.past) (w.tables.lower ∷ w.settled) w.later w.best | false ↦ refl ]

none_best : (c : ℕ) (w : Work) (ms : List ℕ) → best_of (no_model c w ms) ≡ some w.best
none_best c w ms = elim (room w.tables ms) as (λ b. best_of (pick b (settle c (with_core w ms)) (full c w)) ≡ some w.best) [ true ↦ settle_best c (with_core w ms) | false ↦ refl ]

pub work_falls : (levels : List (List Penalty)) (c : ℕ) (w : Work) (s : machine.QueryState) → Falls levels (some w.best) (best_of (after_work levels c w s))
work_falls levels c w (machine.running t ms) = no_dearer_refl ltb ltb_linear (charges_on w.best levels)
work_falls levels c w (machine.without ms) = subst (Falls levels (some w.best)) (sym (none_best c w ms)) (no_dearer_refl ltb ltb_linear (charges_on w.best levels))
work_falls levels c w (machine.model M) = subst (Falls levels (some w.best)) (sym (settle_best c (with_model levels w M))) (better_le levels M w.best).1

pub falls : (levels : List (List Penalty)) (X : Tests) (s : State) → Falls levels (best_of s) (best_of (advance levels X s))
falls levels X (first c t) = tt
falls levels X (working c w t ms) = work_falls levels (suc c) w (machine.advance_by (X.test w ms t) t ms)
falls levels X (optimum c past settled M) = no_dearer_refl ltb ltb_linear (charges_on M levels)
falls levels X (incoherent c) = tt
falls levels X (full c w) = no_dearer_refl ltb ltb_linear (charges_on w.best levels)
