-- Every state that advances from a fresh one lead to can be advanced, and the facts of demand 3 hold of it. Assumes nothing.
use mathlib.Core.Path.{◌≡◌, refl, sym, ap, ap₂, ◌∙◌, subst}
use mathlib.Core.Bool.{true, false}
use mathlib.Core.List.{List, [], ◌∷◌, map}
use mathlib.Core.Logic.{◌≢◌}
use mathlib.Core.Option.{some}
use Prim.Native.Nat.{ℕ, zero, suc, ◌+◌, ◌-◌, ◌*◌, ◌^◌, ◌≤◌, ◌<◌}
use native.Mathlib.Numerals.{add-one}
use native.Mathlib.Omega.{arith}
use lib.Dec.{ltb, lt→ltb}
use lib.IntN.{ℤ, pos}
use lib.ListN.{length, get_or, take}
use lib.Signed.{lt_z, ◌<ℤ◌}
use lib.Seq.{get_or-take}
use Rattle.asp.specs.declared.entries.Entry.{Entry}
use Rattle.asp.specs.Sets.{Set, set_of}
use Rattle.asp.specs.Program.{All}
use Rattle.asp.specs.Cost.{cost, weight, NoDearer}
use Rattle.asp.specs.Penalty.{Penalty, charge, bulk, above, rise}
use Rattle.asp.specs.Tables.{span}
use Rattle.asp.proofs.Order.{lt_z_linear, no_dearer_refl}
use Rattle.asp.proofs.Penalties.{bulk_is, rise_above, rise_none, above_none, above_more, above_less, is_above, aboves, aboves_long, aboves_no_dearer}
use Rattle.asp.proofs.Spans.{length_span, map_span}
use Rattle.cores.specs.Identity.{violated_weight, problem}
use Rattle.cores.specs.Tables.{level_of}
use Rattle.cores.proofs.Limits.{lower_bounds}
use Rattle.cores.proofs.Spans.{span_ext}
use Rattle.advancing.specs.declared.state.Phase.{Phase}
use Rattle.advancing.specs.declared.state.Phase.TheVariants.{First, Level, Optimum, Incoherent, Full}
use Rattle.advancing.specs.declared.state.Blame.{Blame}
use Rattle.advancing.specs.declared.state.Work.{Work}
use Rattle.advancing.specs.declared.state.Search.{Search}
use Rattle.optimum.specs.Optimize.{onto, zeros, lowers, charges_on}
use Rattle.optimum.specs.Optimize as abstract
use Rattle.advancing.specs.Source.{Levels, Source, many, level_at, start_at, penalties_at, penalties_in, FormedSource}
use Rattle.advancing.specs.State.{search as searchOf, starts_of, fresh_for, is_running}
use Rattle.advancing.specs.Finish.{costs_of}
use Rattle.advancing.specs.Advance.{work_query, finish_turn, bumped, advance_of, advances_of, made_by}
use Rattle.advancing.specs.Turn.{blamed_of, Turned, turn_of}
use Rattle.advancing.specs.Run.{ReadyRun, Steady, Reached}
use Rattle.advancing.specs.Facts.{Model, costs_in, weight_in, has_model, is_in_work, lowers_in, uppers_in, best_in, Facts}
use Rattle.advancing.specs.Meaning.{past_at, settled_at, later_at, work_of, meant_by}
use Rattle.search.specs.declared.trail.Places.{Places}
use Rattle.search.specs.Places.{trail_of}
use Rattle.search.specs.Trail as list
use Rattle.advancing.proofs.Verdicts.{seen}
use Rattle.optimum.proofs.Claims.{Falls, work_falls, lowers_le, lowers_long, best_is, optimum_is, optimum_best, none_ends, few_advances, never_full, identity}
use Rattle.optimum.proofs.Invariant.{Among, GoodWork, Inv}
use Rattle.advancing.proofs.Advancing.{advances_plus}
use Rattle.advancing.proofs.Figures.{Figured, starts_in, rises_of, figures_are, costs_are, cost_at, start_at_lem, starts_long, cost_above, costs_above, starts_many, charges_many}
use Rattle.advancing.proofs.Classes.{given, costs_at_lem, at_costs}
use Rattle.advancing.proofs.Meanings.{OnLevel, AtEnd, InOrder}
use Rattle.advancing.proofs.Patient.{Patient, reached_patient}
use Rattle.advancing.proofs.Validity.{Valid, level_means, reached_valid, valid_ready}

-- ---- it can be advanced

pub reached_steady : {S : Source} {s : Search} → Reached S s → Steady S s
reached_steady {S} {s} r j k =
    let e : advances_of S (r.made + j) (fresh_for S.levels) ≡ advances_of S j s = advances_plus S r.made j (fresh_for S.levels) ∙ ap (advances_of S j) (sym r.is) in
    subst (ReadyRun S k) e (valid_ready S r.source _ (advances_of S (r.made + j) (fresh_for S.levels)) (reached_valid S r.source (r.made + j)) k)

-- ---- what leads on

pub reached_fresh : {S : Source} → FormedSource S → {s : Search} → s ≡ fresh_for S.levels → Reached S s
unfolding advances_of
reached_fresh f e = record { source = f; made = 0; is = e }

pub reached_more : {S : Source} (k : ℕ) {s r : Search} → Reached S s → r ≡ advances_of S k s → Reached S r
reached_more {S} k h e = record { source = h.source; made = h.made + k; is = e ∙ ap (advances_of S k) h.is ∙ sym (advances_plus S h.made k (fresh_for S.levels)) }

pub reached_next : {S : Source} {s r : Search} → Reached S s → r ≡ advance_of S s → Reached S r
unfolding advances_of
reached_next h e = reached_more 1 h e

-- ---- the lower bounds, as a list: how far they lie above the starts is what the meaning has

onto_span : (L : Levels) (l : List ℤ) (j k : ℕ) → onto (settled_at L l j) (span (λ i. rise (start_at L i) (get_or l i (pos 0))) j k) ≡ span (λ i. rise (start_at L i) (get_or l i (pos 0))) 0 (j + k)
unfolding span
onto_span L l zero k = let e : k ≡ 0 + k = omega arith in ap (span (λ i. rise (start_at L i) (get_or l i (pos 0))) 0) e
onto_span L l (suc j) k =
    let e : j + suc k ≡ suc j + k = omega arith in
    ap (λ (n : ℕ). onto (settled_at L l j) (rise (start_at L j) (get_or l j (pos 0)) ∷ span (λ i. rise (start_at L i) (get_or l i (pos 0))) n k)) (sym (add-one j))
    ∙ onto_span L l j (suc k) ∙ ap (span (λ i. rise (start_at L i) (get_or l i (pos 0))) 0) e

zeros_span : (L : Levels) (l : List ℤ) (j k : ℕ) → ((i : ℕ) → j ≤ i → i < j + k → get_or l i (pos 0) ≡ start_at L i) → zeros (span (penalties_at L) j k) ≡ span (λ i. rise (start_at L i) (get_or l i (pos 0))) j k
zeros_span L l j k z =
    map_span (λ (x : List Penalty). 0) (penalties_at L) j k
    ∙ span_ext (λ i. 0) (λ i. rise (start_at L i) (get_or l i (pos 0))) j k (λ p a b. sym (ap (rise (start_at L p)) (z p a b) ∙ rise_none (start_at L p)))

module _ (S : Source) (f : FormedSource S) where
  abbrev L : Levels
  L = S.levels

  first_rises : zeros (penalties_in L) ≡ rises_of L (starts_of L)
  first_rises = zeros_span L (starts_of L) 0 (many L) (λ i a b. start_at_lem L i (omega arith))

  work_rises : (w : Work) → OnLevel S w → onto (settled_at L w.lowers w.level) (w.tables.lower ∷ zeros (later_at L (w.level + 1))) ≡ rises_of L w.lowers
  unfolding span
  work_rises w o =
      let k : ℕ = many L - (w.level + 1) in
      let e : w.level + suc k ≡ many L = omega (arith, o.level) in
      ap₂ (λ (x : ℕ) (xs : List ℕ). onto (settled_at L w.lowers w.level) (x ∷ xs)) (sym (ap (rise (start_at L w.level)) o.lower_is ∙ rise_above (start_at L w.level) w.tables.lower))
      (zeros_span L w.lowers (w.level + 1) k (λ i a b. o.starts i (omega arith) (omega arith)))
      ∙ onto_span L w.lowers w.level (suc k) ∙ ap (span (λ i. rise (start_at L i) (get_or w.lowers i (pos 0))) 0) e

  end_rises : (w : Work) → AtEnd S w → onto (settled_at L w.lowers w.level) [] ≡ rises_of L w.lowers
  unfolding span
  end_rises w o =
      let e : w.level + 0 ≡ many L = omega (arith, o.level) in
      onto_span L w.lowers w.level 0 ∙ ap (span (λ i. rise (start_at L i) (get_or w.lowers i (pos 0))) 0) e

  first_figured : Figured L (starts_of L)
  first_figured j h = is_above (start_at L j) 0 (start_at_lem L j h ∙ sym (above_none (start_at L j)))

  figured_by : (p : Phase) (w : Work) → InOrder S p w → Figured L w.lowers × (length w.lowers ≡ 8)
  figured_by First w o = subst (λ (x : Work). Figured L x.lowers × (length x.lowers ≡ 8)) (sym o) (first_figured, starts_long L f.levels.levels_few)
  figured_by Level w o = (o.figured, o.lowers_len)
  figured_by Optimum w o = (o.figured, o.lowers_len)
  figured_by Incoherent w o = subst (λ (x : Work). Figured L x.lowers × (length x.lowers ≡ 8)) (sym o) (first_figured, starts_long L f.levels.levels_few)
  figured_by Full w o = (o.figured, o.lowers_len)

  rises_by : (p : Phase) (c k : ℕ) (t : Places) (b : Blame) (w : Work) → InOrder S p w → lowers (penalties_in L) (meant_by L c p (trail_of t) (blamed_of b) w) ≡ rises_of L w.lowers
  rises_by First c k t b w o = first_rises ∙ sym (ap (λ (x : Work). rises_of L x.lowers) o)
  rises_by Level c k t b w o = work_rises w o
  rises_by Optimum c k t b w o = end_rises w o
  rises_by Incoherent c k t b w o = first_rises ∙ sym (ap (λ (x : Work). rises_of L x.lowers) o)
  rises_by Full c k t b w o = work_rises w o

  lowers_are : (p : Phase) (c k : ℕ) (t : Places) (b : Blame) (w : Work) → InOrder S p w → lowers_in S (searchOf p k t b w) ≡ aboves (starts_in L) (lowers (penalties_in L) (meant_by L c p (trail_of t) (blamed_of b) w))
  lowers_are p c k t b w o =
      let g = figured_by p w o in
      figures_are L w.lowers (omega (arith, g.1, f.levels.levels_few)) g.0 ∙ ap (aboves (starts_in L)) (sym (rises_by p c k t b w o))

  -- what is no dearer as charges is no dearer
  no_dearer_above : (xs ys : List ℕ) → length xs ≡ many L → length ys ≡ many L → NoDearer ltb xs ys → NoDearer lt_z (aboves (starts_in L) xs) (aboves (starts_in L) ys)
  no_dearer_above xs ys h k n = aboves_no_dearer (starts_in L) xs ys (h ∙ sym (starts_many L)) (k ∙ sym (starts_many L)) n

  pub costs_no_dearer : (M N : Set) → NoDearer ltb (charges_on M (penalties_in L)) (charges_on N (penalties_in L)) → NoDearer lt_z (costs_in S M) (costs_in S N)
  costs_no_dearer M N n = rw (costs_above S f M, costs_above S f N) (no_dearer_above (charges_on M (penalties_in L)) (charges_on N (penalties_in L)) (charges_many L M) (charges_many L N) n)

  -- W and the 90: "sum the weights without their signs"
  bulks_are : (j k : ℕ) → map bulk (span (penalties_at L) j k) ≡ map weight (span (level_at L) j k)
  bulks_are j k =
      map_span bulk (penalties_at L) j k ∙ span_ext (λ i. bulk (penalties_at L i)) (λ i. weight (level_at L i)) j k (λ p a b. bulk_is (level_at L p)) ∙ sym (map_span weight (level_at L) j k)

  light_penalties : (j k : ℕ) → All (λ (l : List Entry). weight l ≤ 90) (span (level_at L) j k) → All (λ (l : List Penalty). bulk l ≤ 90) (span (penalties_at L) j k)
  unfolding span
  light_penalties j zero a = tt
  light_penalties j (suc k) a = (rw (bulk_is (level_at L j)) a.0, light_penalties (j + 1) k a.1)

  -- ---- the facts of a valid state

  module _ (c : ℕ) (s : Search) (v : Valid S c s) (a : Patient S c s) where
    abbrev state : Phase → abstract.State
    state p = meant_by L c p (trail_of s.trail) (blamed_of s.blame) s.work

    -- by the phase
    stable_by : (p : Phase) → Inv (given S) (state p) → has_model p ≡ true → Model S (best_in s)
    stable_by First i h = let z : ◌≡◌ {A = ℕ} 0 1 = cc in absurd (omega arith)
    stable_by Level i h = best_is (given S) (state Level) i
    stable_by Optimum i h = best_is (given S) (state Optimum) i
    stable_by Incoherent i h = let z : ◌≡◌ {A = ℕ} 0 1 = cc in absurd (omega arith)
    stable_by Full i h = best_is (given S) (state Full) i

    upper_by : (p : Phase) → InOrder S p s.work → has_model p ≡ true → uppers_in S s ≡ costs_in S (best_in s)
    upper_by First o h = let z : ◌≡◌ {A = ℕ} 0 1 = cc in absurd (omega arith)
    upper_by Level o h = ap (take (many L)) o.uppers ∙ costs_are L s.work.best
    upper_by Optimum o h = ap (take (many L)) o.uppers ∙ costs_are L s.work.best
    upper_by Incoherent o h = let z : ◌≡◌ {A = ℕ} 0 1 = cc in absurd (omega arith)
    upper_by Full o h = ap (take (many L)) o.uppers ∙ costs_are L s.work.best

    none_by : (p : Phase) → Inv (given S) (state p) → is_running p ≡ false → ((M : Set) → Model S M → ⊥) → p ≡ Incoherent
    none_by First i r h = let z : ◌≡◌ {A = ℕ} 0 1 = cc in absurd (omega arith)
    none_by Level i r h = let z : ◌≡◌ {A = ℕ} 0 1 = cc in absurd (omega arith)
    none_by Optimum i r h = absurd (none_ends (given S) (state Optimum) i (λ x. x) h)
    none_by Incoherent i r h = refl
    none_by Full i r h = absurd (none_ends (given S) (state Full) i (λ x. x) h)

    few_by : (p : Phase) → Inv (given S) (state p) → is_running p ≡ true → c < 2 ^ suc S.n * (2 * weight_in S + 1)
    few_by First i r = rw (← bulks_are 0 (many L)) (few_advances (given S) (state First) i tt)
    few_by Level i r = rw (← bulks_are 0 (many L)) (few_advances (given S) (state Level) i tt)
    few_by Optimum i r = let z : ◌≡◌ {A = ℕ} 0 1 = cc in absurd (omega arith)
    few_by Incoherent i r = let z : ◌≡◌ {A = ℕ} 0 1 = cc in absurd (omega arith)
    few_by Full i r = let z : ◌≡◌ {A = ℕ} 0 1 = cc in absurd (omega arith)

    level_by : (p : Phase) → InOrder S p s.work → is_in_work p ≡ true → s.work.level < many L
    level_by First o h = let z : ◌≡◌ {A = ℕ} 0 1 = cc in absurd (omega arith)
    level_by Level o h = o.level
    level_by Optimum o h = let z : ◌≡◌ {A = ℕ} 0 1 = cc in absurd (omega arith)
    level_by Incoherent o h = let z : ◌≡◌ {A = ℕ} 0 1 = cc in absurd (omega arith)
    level_by Full o h = o.level

    stratum_by : (p : Phase) → Inv (given S) (state p) → is_in_work p ≡ true → 1 ≤ s.work.stratum
    stratum_by First i h = let z : ◌≡◌ {A = ℕ} 0 1 = cc in absurd (omega arith)
    stratum_by Level i h = i.positive
    stratum_by Optimum i h = let z : ◌≡◌ {A = ℕ} 0 1 = cc in absurd (omega arith)
    stratum_by Incoherent i h = let z : ◌≡◌ {A = ℕ} 0 1 = cc in absurd (omega arith)
    stratum_by Full i h = i.positive

    work_identity : OnLevel S s.work → GoodWork (given S) (work_of L s.work) → (M : Set) → Model S M → ((j : ℕ) → j < s.work.level → cost M (level_at L j) ≡ get_or s.work.lowers j (pos 0))
        → cost M (level_at L s.work.level) ≡ above (get_or s.work.lowers s.work.level (pos 0)) (violated_weight M (level_of s.work.tables))
    work_identity o g M m h =
        cost_above S f M s.work.level
        ∙ ap (above (start_at L s.work.level)) (identity (given S) (work_of L s.work) g M m (costs_at_lem S f s.work.lowers M s.work.level h))
        ∙ sym (above_more (start_at L s.work.level) s.work.tables.lower (violated_weight M (level_of s.work.tables)))
        ∙ ap (λ (x : ℤ). above x (violated_weight M (level_of s.work.tables))) (sym o.lower_is)

    identity_by : (p : Phase) → InOrder S p s.work → Inv (given S) (state p) → is_in_work p ≡ true → (M : Set) → Model S M
        → ((j : ℕ) → j < s.work.level → cost M (level_at L j) ≡ get_or s.work.lowers j (pos 0))
        → cost M (level_at L s.work.level) ≡ above (get_or s.work.lowers s.work.level (pos 0)) (violated_weight M (level_of s.work.tables))
    identity_by First o i h = let z : ◌≡◌ {A = ℕ} 0 1 = cc in absurd (omega arith)
    identity_by Level o i h = work_identity o i.work
    identity_by Optimum o i h = let z : ◌≡◌ {A = ℕ} 0 1 = cc in absurd (omega arith)
    identity_by Incoherent o i h = let z : ◌≡◌ {A = ℕ} 0 1 = cc in absurd (omega arith)
    identity_by Full o i h = work_identity o i.work

    -- the bounds: on a settled level, on the level in work, on those after it, at the optimum
    lower_at_lem : (j : ℕ) → j < many L → get_or (lowers_in S s) j (pos 0) ≡ get_or s.work.lowers j (pos 0)
    lower_at_lem j h = get_or-take (many L) s.work.lowers j (pos 0) h

    upper_at : s.work.uppers ≡ costs_of L s.work.best → (j : ℕ) → j < many L → get_or (uppers_in S s) j (pos 0) ≡ cost (best_in s) (level_at L j)
    upper_at u j h = get_or-take (many L) s.work.uppers j (pos 0) h ∙ ap (λ (x : List ℤ). get_or x j (pos 0)) u ∙ cost_at L s.work.best j h

    work_settled : OnLevel S s.work → GoodWork (given S) (work_of L s.work) → (j : ℕ) → j < s.work.level → get_or (lowers_in S s) j (pos 0) ≡ get_or (uppers_in S s) j (pos 0)
    work_settled o g j h =
        let k : j < many L = omega (arith, o.level) in
        lower_at_lem j k ∙ sym (at_costs S f s.work.lowers (best_in s) o.figured s.work.level (omega (arith, o.level)) g.base.1 j h) ∙ sym (upper_at o.uppers j k)

    settled_by : (p : Phase) → InOrder S p s.work → Inv (given S) (state p) → is_in_work p ≡ true → (j : ℕ) → j < s.work.level → get_or (lowers_in S s) j (pos 0) ≡ get_or (uppers_in S s) j (pos 0)
    settled_by First o i h = let z : ◌≡◌ {A = ℕ} 0 1 = cc in absurd (omega arith)
    settled_by Level o i h = work_settled o i.work
    settled_by Optimum o i h = let z : ◌≡◌ {A = ℕ} 0 1 = cc in absurd (omega arith)
    settled_by Incoherent o i h = let z : ◌≡◌ {A = ℕ} 0 1 = cc in absurd (omega arith)
    settled_by Full o i h = work_settled o i.work

    level_unsettled : OnLevel S s.work → Inv (given S) (state Level) → get_or (lowers_in S s) s.work.level (pos 0) <ℤ get_or (uppers_in S s) s.work.level (pos 0)
    level_unsettled o i =
        rw (lower_at_lem s.work.level o.level ∙ o.lower_is, upper_at o.uppers s.work.level o.level ∙ cost_above S f (best_in s) s.work.level)
        (record { lt = rw (above_less (start_at L s.work.level) s.work.tables.lower charged) (lt→ltb s.work.tables.lower charged below) })
      where
        charged : ℕ
        charged = charge (best_in s) (penalties_at L s.work.level)

        below : s.work.tables.lower < charged
        below =
            let b : (level_of s.work.tables).lower ≤ charged =
            lower_bounds (problem (Among (given S) (work_of L s.work)) (penalties_at L s.work.level)) (level_of s.work.tables) i.work.good (best_in s) i.work.base in
            let n : charged ≢ s.work.tables.lower = i.unsettled in
            omega (arith, b, n)

    later_by : (p : Phase) → InOrder S p s.work → is_in_work p ≡ true → (j : ℕ) → s.work.level < j → j < many L → get_or (lowers_in S s) j (pos 0) ≡ start_at L j
    later_by First o h = let z : ◌≡◌ {A = ℕ} 0 1 = cc in absurd (omega arith)
    later_by Level o h = λ j k m. lower_at_lem j m ∙ o.starts j k m
    later_by Optimum o h = let z : ◌≡◌ {A = ℕ} 0 1 = cc in absurd (omega arith)
    later_by Incoherent o h = let z : ◌≡◌ {A = ℕ} 0 1 = cc in absurd (omega arith)
    later_by Full o h = λ j k m. lower_at_lem j m ∙ o.starts j k m

    start_by : (p : Phase) → InOrder S p s.work → has_model p ≡ false → (j : ℕ) → j < many L → get_or (lowers_in S s) j (pos 0) ≡ start_at L j
    start_by First o h = λ j m. lower_at_lem j m ∙ ap (λ (x : Work). get_or x.lowers j (pos 0)) o ∙ start_at_lem L j m
    start_by Level o h = let z : ◌≡◌ {A = ℕ} 0 1 = cc in absurd (omega arith)
    start_by Optimum o h = let z : ◌≡◌ {A = ℕ} 0 1 = cc in absurd (omega arith)
    start_by Incoherent o h = λ j m. lower_at_lem j m ∙ ap (λ (x : Work). get_or x.lowers j (pos 0)) o ∙ start_at_lem L j m
    start_by Full o h = let z : ◌≡◌ {A = ℕ} 0 1 = cc in absurd (omega arith)

    end_meets : AtEnd S s.work → Inv (given S) (state Optimum) → lowers_in S s ≡ uppers_in S s
    end_meets o i =
        lowers_are Optimum c s.advances s.trail s.blame s.work o
        ∙ ap (aboves (starts_in L)) (sym (optimum_is (given S) c (past_at L s.work.level) (settled_at L s.work.lowers s.work.level) (best_in s) i))
        ∙ sym (ap (take (many L)) o.uppers ∙ costs_are L s.work.best ∙ costs_above S f (best_in s))

    -- the invariant, where the phase is known
    inv_at : {p : Phase} → s.phase ≡ p → Inv (given S) (state p)
    inv_at e = subst (λ (x : Phase). Inv (given S) (state x)) e v.inv

    order_at : {p : Phase} → s.phase ≡ p → InOrder S p s.work
    order_at e = subst (λ (x : Phase). InOrder S x s.work) e v.order

    lowers_many : length (lowers (penalties_in L) (state s.phase)) ≡ many L
    lowers_many = lowers_long (given S) (state s.phase) v.inv ∙ length_span (penalties_at L) 0 (many L)

    pub valid_facts : Facts S c s
    valid_facts = record {
      figure = v.figure;
      lower = λ M m.
          rw (lowers_are s.phase c s.advances s.trail s.blame s.work v.order, costs_above S f M)
          (no_dearer_above (lowers (penalties_in L) (state s.phase)) (charges_on M (penalties_in L)) lowers_many (charges_many L M) (lowers_le (given S) (state s.phase) v.inv M m));
      stable = stable_by s.phase v.inv;
      upper = upper_by s.phase v.order;
      optimum = λ e M m. costs_no_dearer (best_in s) M (optimum_best (given S) c (past_at L s.work.level) (settled_at L s.work.lowers s.work.level) (best_in s) (inv_at e) M m);
      none_is = λ e. inv_at e;
      is_none = none_by s.phase v.inv;
      few = few_by s.phase v.inv;
      patient = a.model;
      never_full = λ g e. never_full (given S) c _ (light_penalties 0 (many L) g) (inv_at e);
      level = level_by s.phase v.order;
      stratum = stratum_by s.phase v.inv;
      identity = identity_by s.phase v.order v.inv;
      as_many =
          ap length (lowers_are s.phase c s.advances s.trail s.blame s.work v.order)
          ∙ aboves_long (starts_in L) (lowers (penalties_in L) (state s.phase)) (lowers_many ∙ sym (starts_many L)) ∙ starts_many L;
      settled = settled_by s.phase v.order v.inv;
      unsettled = λ e. level_unsettled (order_at e) (inv_at e);
      later = later_by s.phase v.order;
      start = start_by s.phase v.order;
      bounds_meet = λ e. end_meets (order_at e) (inv_at e);
    }

-- ---- THE BEST MODEL NEVER GETS DEARER, AND ONCE THERE IT STAYS

-- where the best model of a meaning falls, that of the state does
falls_by : (S : Source) → FormedSource S → (p : Phase) (c : ℕ) (t : list.Trail) (ms : List ℕ) (w : Work) (N : Set) → Falls (penalties_in S.levels) (some N) (abstract.best_of (meant_by S.levels c p t ms w))
    → (has_model p ≡ true) × NoDearer lt_z (costs_in S (set_of w.best)) (costs_in S N)
falls_by S f First c t ms w N h = absurd h
falls_by S f Level c t ms w N h = (refl, costs_no_dearer S f (set_of w.best) N h)
falls_by S f Optimum c t ms w N h = (refl, costs_no_dearer S f (set_of w.best) N h)
falls_by S f Incoherent c t ms w N h = absurd h
falls_by S f Full c t ms w N h = (refl, costs_no_dearer S f (set_of w.best) N h)

best_by : (S : Source) → FormedSource S → (p : Phase) (c k : ℕ) (t : Places) (b : Blame) (w : Work) → Valid S c (searchOf p k t b w) → has_model p ≡ true
    → (has_model (advance_of S (searchOf p k t b w)).phase ≡ true) × NoDearer lt_z (costs_in S (best_in (advance_of S (searchOf p k t b w)))) (costs_in S (set_of w.best))
unfolding advance_of
best_by S f First c k t b w v h = let z : ◌≡◌ {A = ℕ} 0 1 = cc in absurd (omega arith)
best_by S f Level c k t b w v h =
    let x : Turned = turn_of S (work_query w) (t) b in
    let n : Search = finish_turn S Level (bumped k) w x in
    falls_by S f n.phase (suc c) (trail_of n.trail) (blamed_of n.blame) n.work (set_of w.best)
    (subst (λ (y : abstract.State). Falls (penalties_in S.levels) (some (set_of w.best)) (abstract.best_of y)) (sym (level_means S f w v.order v.blame (t) v.trail c (bumped k) v.inv))
    (work_falls (penalties_in S.levels) (suc c) (work_of S.levels w) (seen x)))
best_by S f Optimum c k t b w v h = (refl, no_dearer_refl lt_z lt_z_linear (costs_in S (set_of w.best)))
best_by S f Incoherent c k t b w v h = let z : ◌≡◌ {A = ℕ} 0 1 = cc in absurd (omega arith)
best_by S f Full c k t b w v h = (refl, no_dearer_refl lt_z lt_z_linear (costs_in S (set_of w.best)))

pub best_falls : {S : Source} {s : Search} → Reached S s → has_model s.phase ≡ true
    → (has_model (advance_of S s).phase ≡ true) × NoDearer lt_z (costs_in S (best_in (advance_of S s))) (costs_in S (best_in s))
best_falls {S} {s} r h =
    best_by S r.source s.phase (made_by S r.made (fresh_for S.levels)) s.advances s.trail s.blame s.work (subst (Valid S (made_by S r.made (fresh_for S.levels))) (sym r.is) (reached_valid S r.source r.made)) h

-- THE FACTS HOLD AFTER ANY NUMBER OF ADVANCES
pub reached_facts : (S : Source) → FormedSource S → (k : ℕ) → Facts S (made_by S k (fresh_for S.levels)) (advances_of S k (fresh_for S.levels))
reached_facts S f k = valid_facts S f (made_by S k (fresh_for S.levels)) (advances_of S k (fresh_for S.levels)) (reached_valid S f k) (reached_patient S k)
