-- An advance keeps the invariant. Assumes nothing.
use mathlib.Core.Path.{◌≡◌, refl, subst}
use mathlib.Core.Logic.{◌≢◌, ◌⊎◌, inl, inr}
use mathlib.Core.Bool.{Bool, true, false}
use mathlib.Core.List.{List, [], ◌∷◌}
use Prim.Native.Nat.{ℕ, zero, suc, ◌+◌, ◌*◌, ◌≤◌, ◌<◌, zero-le, suc-le-suc}
use native.Mathlib.Nat.{mul-le-mul_right}
use native.Mathlib.Omega.{arith}
use lib.Dec.{eqb}
use mir.Facts.{eqb_yes, eqb_no}
use borrow.Author.Tests.{eqb-true, eqb-false}
use lib.ListN.{length}
use Rattle.asp.specs.Sets.{Set, pick}
use Rattle.asp.specs.Program.{All}
use Rattle.asp.specs.Penalty.{Penalty, charge, bulk}
use Rattle.asp.specs.Cost.{total}
use Rattle.search.specs.Trail.{Trail}
use Rattle.search.specs.Machine.{Verdict}
use Rattle.search.specs.Machine as machine
use Rattle.search.proofs.Spent.{spent, spent_le}
use Rattle.search.proofs.Search as search
use Rattle.cores.specs.Soft.{violated}
use Rattle.cores.specs.Level.{opened, greatest, under, room}
use Rattle.cores.specs.Identity.{Core, problem, remaining}
use Rattle.cores.proofs.Sums.{below_or}
use Rattle.cores.proofs.Record.{kept, some_violated}
use Rattle.cores.proofs.Open.{opened_good, charge_le}
use Rattle.cores.proofs.Strata.{greatest_le, greatest_none, under_lt, under_none}
use Rattle.cores.proofs.Limits.{opened_fits, fits_kept, met_costs_lower, lower_bounds}
use Rattle.optimum.specs.Optimize.{Work, State, first, working, optimum, incoherent, full, Tests, better, begun, open_next, settle, with_core, with_model, no_model, after_first, after_work, advance, after}
use Rattle.optimum.proofs.Floor.{Base, weights, better_is, better_cost}
use Rattle.optimum.proofs.Invariant.{Given, Among, first_query, level_query, power, GoodWork, Paid, GoodFirst, GoodWorking, GoodEnd, Inv, Right}

-- ---- numbers: P is more than a query takes, t the weight of the settled levels, b the lower bound, W the level's weight, s the stratum

paid_begin : (c t s W P : ℕ) → c ≤ (1 + 2 * t) * P → s ≤ W → c + s * P ≤ (1 + 2 * t + 0 + W) * P + 0
paid_begin c t s W P h k = omega (arith, mul-le-mul_right P k)

paid_done : (c t b W s P : ℕ) → c + s * P ≤ (1 + 2 * t + b + W) * P + 0 → b ≤ W → c ≤ (1 + 2 * (W + t)) * P
paid_done c t b W s P h k = omega (arith, mul-le-mul_right P k)

paid_fall : (c t b W s z x P : ℕ) → c + s * P ≤ (1 + 2 * t + b + W) * P + x → x + 2 ≤ P → z < s → suc c + z * P ≤ (1 + 2 * t + b + W) * P + 0
paid_fall c t b W s z x P h k l = omega (arith, mul-le-mul_right P l)

paid_core : (c t b W s x P : ℕ) → c + s * P ≤ (1 + 2 * t + b + W) * P + x → x + 2 ≤ P → 1 ≤ s → suc c + s * P ≤ (1 + 2 * t + (b + s) + W) * P + 0
paid_core c t b W s x P h k l = omega (arith, mul-le-mul_right P l)

pub paid_bound : (c t b W r s x P : ℕ) → c + s * P ≤ (1 + 2 * t + b + W) * P + x → x + 2 ≤ P → 1 ≤ s → b ≤ W → c < P * (2 * (t + (W + r)) + 1)
paid_bound c t b W r s x P h k l m = omega (arith, mul-le-mul_right P l, mul-le-mul_right P m)

-- ---- the value of a test and what it means at once

pub data Same (m n : ℕ) : Bool → Type 0 where
  same : m ≡ n → Same m n true
  other : m ≢ n → Same m n false

pub same? : (m n : ℕ) → Same m n (eqb m n)
same? m n = go (eqb m n) refl
  where
    go : (b : Bool) → eqb m n ≡ b → Same m n b
    go true e = same (eqb_yes (rw e tt))
    go false e = other (eqb_no (rw e tt))

-- what holds of either choice holds of the choice
at_pick : {A : Type 0} (P : A → Type 0) (b : Bool) {x y : A} → (b ≡ true → P x) → (b ≡ false → P y) → P (pick b x y)
at_pick P true f g = f refl
at_pick P false f g = g refl

module _ (S : Given) where
  open S use {n, Model, levels}

  -- ---- levels are opened and settled

  begun_work : (past : List (List Penalty)) (settled : List ℕ) (l : List Penalty) (later : List (List Penalty)) (M : Set) → GoodEnd S past settled (l ∷ later) M
      → GoodWork S (begun past settled l later M)
  begun_work past settled l later M g = record {
    place = g.place;
    base = g.base;
    floor = g.floor;
    good = opened_good (Base Model past settled) l;
    fits = opened_fits (problem (Base Model past settled) l) l refl;
  }

  end_more : (past : List (List Penalty)) (settled : List ℕ) (l : List Penalty) (later : List (List Penalty)) (M : Set) (b : ℕ) → GoodEnd S past settled (l ∷ later) M
      → charge M l ≡ b → ((N : Set) → Base Model past settled N → b ≤ charge N l) → GoodEnd S (l ∷ past) (b ∷ settled) later M
  end_more past settled l later M b g e f = record { place = g.place; base = (g.base.0, (e, g.base.1)); floor = (f, g.floor) }

  opened_weighs : (l : List Penalty) → remaining (opened l) ≡ bulk l
  opened_weighs l = omega (arith, (opened_good Model l).weighs)

  begun_positive : (l : List Penalty) (M : Set) → charge M l ≢ 0 → 1 ≤ greatest (opened l).rests
  begun_positive l M k = go (below_or (greatest (opened l).rests) 1)
    where
      go : (greatest (opened l).rests < 1) ⊎ (1 ≤ greatest (opened l).rests) → 1 ≤ greatest (opened l).rests
      go (inl h) = absurd (k (omega (arith, greatest_none (opened l).rests (omega arith), opened_weighs l, charge_le M l)))
      go (inr h) = h

  pub open_kept : (c : ℕ) (past : List (List Penalty)) (settled : List ℕ) (later : List (List Penalty)) (M : Set) → GoodEnd S past settled later M
      → c ≤ (1 + 2 * weights past) * power S → Inv S (open_next c past settled later M)
  unfolding total
  open_kept c past settled [] M g h = g
  open_kept c past settled (l ∷ later) M g h =
      go (same? (charge M l) 0)
      (λ e. open_kept c (l ∷ past) (0 ∷ settled) later M (end_more past settled l later M 0 g e (λ N k. zero-le))
      (paid_done c (weights past) 0 (bulk l) 0 (power S) (omega arith) zero-le))
    where
      go : {b : Bool} → Same (charge M l) 0 b → (charge M l ≡ 0 → Inv S (open_next c (l ∷ past) (0 ∷ settled) later M))
          → Inv S (pick b (open_next c (l ∷ past) (0 ∷ settled) later M) (working c (begun past settled l later M) [] []))
      go (same e) r = r e
      go (other k) r = record {
        work = begun_work past settled l later M g;
        positive = begun_positive l M k;
        unsettled = k;
        trail = search.good_start (level_query S (begun past settled l later M));
        paid = paid_begin c (weights past) (greatest (opened l).rests) (bulk l) (power S) h (omega (arith, greatest_le (opened l).rests, opened_weighs l));
      }

  lower_le : (w : Work) → GoodWork S w → w.tables.lower ≤ bulk w.level
  lower_le w g = omega (arith, g.good.weighs)

  pub settle_kept : (c : ℕ) (w : Work) → GoodWork S w → (charge w.best w.level ≢ w.tables.lower → 1 ≤ w.stratum) → Paid S w c 0 → Inv S (settle c w)
  unfolding total
  settle_kept c w g pos h =
      at_pick (Inv S) (eqb _ _)
      (λ e.
      open_kept c (w.level ∷ w.past) (w.tables.lower ∷ w.settled) w.later w.best
      (end_more w.past w.settled w.level w.later w.best w.tables.lower
      (record { place = g.place; base = g.base; floor = g.floor }) (eqb-true _ _ e) (lower_bounds (problem (Among S w) w.level) w.tables g.good))
      (paid_done c (weights w.past) w.tables.lower (bulk w.level) w.stratum (power S) h (lower_le w g)))
      (λ e. record { work = g; positive = pos (eqb-false _ _ e); unsettled = eqb-false _ _ e; trail = search.good_start (level_query S w); paid = h })

  -- ---- a query ends without a model

  some_of : (w : Work) (ms : List ℕ) → Among S w w.best → (search.Meets (level_query S w) ms w.best → ⊥) → 1 ≤ length ms
  some_of w [] b f = absurd (f (b, tt))
  some_of w (m ∷ ms) b f = suc-le-suc zero-le

  -- the blamed ones are a core, and it is not empty, as the best model has the settled costs
  pub core_of_lem : (w : Work) (ms : List ℕ) → GoodWork S w → search.NoneMeets (level_query S w) ms → Core (problem (Among S w) w.level) w.tables w.stratum ms
  core_of_lem w ms g k = record {
    some = some_of w ms g.base (k.none_meets w.best);
    distinct = k.distinct;
    heavy = k.assumed;
    refuted = λ M h. some_violated (violated M w.tables.kinds w.tables.cores) ms (λ b. k.none_meets M (h, b));
  }

  pub core_work : (w : Work) (ms : List ℕ) → GoodWork S w → 1 ≤ w.stratum → Core (problem (Among S w) w.level) w.tables w.stratum ms → GoodWork S (with_core w ms)
  core_work w ms g s1 k = record {
    place = g.place;
    base = g.base;
    floor = g.floor;
    good = kept (problem (Among S w) w.level) w.tables w.stratum ms g.good k;
    fits = fits_kept (problem (Among S w) w.level) w.tables w.stratum ms g.good k s1 g.fits;
  }

  none_kept : (c : ℕ) (w : Work) (ms : List ℕ) → GoodWork S w → 1 ≤ w.stratum → Core (problem (Among S w) w.level) w.tables w.stratum ms
      → Paid S (with_core w ms) c 0 → Inv S (no_model c w ms)
  none_kept c w ms g s1 k h = go _ refl
    where
      go : (b : Bool) → room w.tables ms ≡ b → Inv S (pick b (settle c (with_core w ms)) (full c w))
      go true e = settle_kept c (with_core w ms) (core_work w ms g s1 k) (λ u. s1) h
      go false e = record { work = g; positive = s1; core = ms; is_core = k; passes = e }

  -- ---- a query ends with a model

  model_work : (w : Work) (M : Set) → GoodWork S w → Among S w M → GoodWork S (with_model levels w M)
  model_work w M g h = record {
    place = g.place;
    base = better_is (Among S w) levels M w.best h g.base;
    floor = g.floor;
    good = g.good;
    fits = g.fits;
  }

  -- if nothing is left below the stratum, the model costs the lower bound, and so does the better one
  model_settles : (w : Work) (M : Set) → GoodWork S w → search.Sought (level_query S w) M → under w.stratum w.tables.rests ≡ 0
      → charge (better levels M w.best) w.level ≡ w.tables.lower
  model_settles w M g h e =
      subst (λ (ls : List (List Penalty)). charge (better ls M w.best) w.level ≡ w.tables.lower) g.place
      (better_cost M w.best w.past w.settled w.level w.later w.tables.lower h.0.1 g.base.1
      (met_costs_lower (problem (Among S w) w.level) w.tables g.good M h.0 (λ p l k. h.1 p (l, under_none w.stratum w.tables.rests e p l k)))
      (lower_bounds (problem (Among S w) w.level) w.tables g.good w.best g.base))

  found_kept : (c : ℕ) (w : Work) (M : Set) → GoodWork S w → 1 ≤ w.stratum → search.Sought (level_query S w) M → (x : ℕ) → x + 2 ≤ power S → Paid S w c x
      → Inv S (settle (suc c) (with_model levels w M))
  found_kept c w M g s1 h x k p =
      settle_kept (suc c) (with_model levels w M) (model_work w M g h.0) (λ u. omega (arith, s1, go u (below_or (under w.stratum w.tables.rests) 1)))
      (paid_fall c (weights w.past) w.tables.lower (bulk w.level) w.stratum (under w.stratum w.tables.rests) x (power S) p k (under_lt w.stratum w.tables.rests s1))
    where
      go : charge (better levels M w.best) w.level ≢ w.tables.lower → (under w.stratum w.tables.rests < 1) ⊎ (1 ≤ under w.stratum w.tables.rests)
          → 1 ≤ under w.stratum w.tables.rests
      go u (inl l) = absurd (u (model_settles w M g h (omega arith)))
      go u (inr l) = l

  -- ---- an advance

  -- what a step of a query comes to, from what the search says of it
  pub work_kept : (c : ℕ) (w : Work) (x : ℕ) (s : machine.QueryState) → GoodWork S w → 1 ≤ w.stratum → charge w.best w.level ≢ w.tables.lower → Paid S w c x → x + 2 ≤ power S
      → search.Good (level_query S w) s → search.Paid (level_query S w) (suc x) s → Inv S (after_work levels (suc c) w s)
  work_kept c w x (machine.running t ms) g s1 u p k h q = record { work = g; positive = s1; unsettled = u; trail = h; paid = omega (arith, p, q) }
  work_kept c w x (machine.without ms) g s1 u p k h q =
      none_kept (suc c) w ms g s1 (core_of_lem w ms g h)
      (paid_core c (weights w.past) w.tables.lower (bulk w.level) w.stratum x (power S) p k s1)
  work_kept c w x (machine.model M) g s1 u p k h q = found_kept c w M g s1 h x k p

  pub turn_kept : (c : ℕ) (w : Work) (t : Trail) (ms : List ℕ) (x : Verdict) → GoodWorking S c w t ms → search.Says (level_query S w) t x
      → Inv S (after_work levels (suc c) w (machine.advance_by x t ms))
  turn_kept c w t ms x g r =
      work_kept c w (spent n t) (machine.advance_by x t ms) g.work g.positive g.unsettled g.paid (spent_le n t g.trail.short)
      (search.good_advance (level_query S w) t ms x r g.trail)
      (search.paid_advance (level_query S w) (spent n t) t ms x g.trail.short (omega arith))

  no_blame : (ms : List ℕ) → All (λ m. ⊥) ms → ms ≡ []
  no_blame [] a = refl
  no_blame (m ∷ ms) a = absurd a.0

  none_met : (ms : List ℕ) → All (λ (m : ℕ). ⊥) ms → All (λ (m : ℕ). Unit {0}) ms
  none_met [] a = tt
  none_met (m ∷ ms) a = absurd a.0

  first_after : (c : ℕ) (s : machine.QueryState) → search.Good (first_query S) s → search.Paid (first_query S) (suc c) s → Inv S (after_first levels (suc c) s)
  first_after c (machine.running t ms) g p = record { trail = subst (search.GoodTrail (first_query S) t) (no_blame ms g.assumed) g; paid = p }
  first_after c (machine.without ms) g p = λ M m. g.none_meets M (m, none_met ms g.assumed)
  first_after c (machine.model M) g p = open_kept (suc c) [] [] levels M (record { place = refl; base = (g.0, tt); floor = tt }) (small c (power S) (weights []) p)
    where
      small : (c P t : ℕ) → suc c + 1 ≤ P → suc c ≤ (1 + 2 * t) * P
      small c P t h = omega arith

  pub first_kept : (c : ℕ) (t : Trail) (x : Verdict) → GoodFirst S c t → search.Says (first_query S) t x → Inv S (after_first levels (suc c) (machine.advance_by x t []))
  first_kept c t x g r =
      first_after c (machine.advance_by x t []) (search.good_advance (first_query S) t [] x r g.trail) (search.paid_advance (first_query S) c t [] x g.trail.short g.paid)

  pub start_kept : Inv S (first 0 [])
  start_kept = record { trail = search.good_start (first_query S); paid = zero-le }

  module _ (X : Tests) (R : Right S X) where
    pub advance_kept : (s : State) → Inv S s → Inv S (advance levels X s)
    advance_kept (first c t) g = first_kept c t (X.test_first t) g (R.right_first t g.trail.formed)
    advance_kept (working c w t ms) g = turn_kept c w t ms (X.test w ms t) g (R.right w ms t g.work g.positive g.trail)
    advance_kept (optimum c past settled M) g = g
    advance_kept (incoherent c) g = g
    advance_kept (full c w) g = g

    -- THE INVARIANT HOLDS AFTER ANY NUMBER OF ADVANCES
    pub holds_after : (k : ℕ) → Inv S (after levels X k)
    holds_after zero = start_kept
    holds_after (suc k) = advance_kept (after levels X k) (holds_after k)
