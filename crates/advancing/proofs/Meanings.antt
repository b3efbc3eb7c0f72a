-- What the end of a query on the tables means for the optimizer of `Optimize`: levels opened and settled, the better model, the core. Assumes nothing.
use mathlib.Core.Path.{◌≡◌, refl, sym, ap, ap₂, ◌∙◌, subst}
use mathlib.Core.Bool.{Bool, true, false}
use mathlib.Core.List.{List, [], ◌∷◌, ◌++◌, map}
use Prim.Native.Nat.{ℕ, zero, suc, ◌+◌, ◌-◌, ◌≤◌, ◌<◌}
use native.Mathlib.Numerals.{add-one}
use native.Mathlib.Decide.{ℕ_discrete}
use native.Mathlib.Omega.{arith}
use lib.Dec.{eqb, ltb}
use lib.IntN.{ℤ, pos, nat_abs}
use lib.ListN.{length, get_or, set, take, length-set, length-map}
use lib.Signed.{lt_z}
use lib.Seq.{get_or-set_same, get_or-set_other}
use borrow.Author.Tests.{lt-ltb, le-ltb}
use Rattle.std.specs.Prelude.{Ok, Err}
use Rattle.asp.specs.declared.entries.Entry.{Entry}
use Rattle.asp.specs.Sets.{Set, set_of, pick}
use Rattle.asp.specs.Literal.{same_ℤ}
use Rattle.asp.specs.Program.{All, LiteralIn}
use Rattle.asp.specs.Cost.{cheaper}
use Rattle.asp.specs.Penalty.{Penalty, penalties, charge, above, rise, penalty}
use Rattle.asp.specs.Tables.{no_entry, span, entry_at}
use Rattle.asp.proofs.Penalties.{paid_atom, rise_above, rise_none, above_none, above_more, above_same, cheaper_aboves, IsAbove, is_above}
use Rattle.cores.specs.Soft.{entry}
use Rattle.cores.specs.Level as lev
use Rattle.cores.specs.Level.{weighty, greatest, under, recorded, derived_from, fewer, core_fits, room, FormedPenalties}
use Rattle.cores.specs.Tables.{SoundTables, level_of, held_in, recorded_tables, Room, tried, tried_tables, full_tables}
use Rattle.cores.specs.declared.level.LevelTables.{LevelTables}
use Rattle.cores.proofs.Kept.{level_formed, opened_means, opened_sound, recorded_means, recorded_sound, core_counted, level_penalties, weighty_all}
use Rattle.cores.proofs.Links.{fits_room}
use Rattle.cores.proofs.Loops.{try_room}
use Rattle.advancing.specs.declared.state.Phase.{Phase}
use Rattle.advancing.specs.declared.state.Phase.TheVariants.{First, Level, Optimum, Incoherent, Full}
use Rattle.advancing.specs.declared.state.Work.{Work}
use Rattle.optimum.specs.Optimize.{State, working, full, charges_on, open_next, settle, with_core, with_model, no_model, begun}
use Rattle.optimum.specs.Optimize as abstract
use Rattle.advancing.specs.Source.{Levels, Source, many, start_at, penalties_at, penalties_in, entries_in, FormedSource, FormedLevels}
use Rattle.advancing.specs.State.{first_work}
use Rattle.advancing.specs.Finish.{Placed, placed, next_from, begun_at, open_at, open_from, settle_of, costs_of, with_best, better_of, fallen, with_tables, tried_work}
use Rattle.advancing.specs.Meaning.{past_at, settled_at, later_at, work_of, meant_by}
use Rattle.advancing.proofs.Classes.{KindIn}
use Rattle.advancing.proofs.Figures.{Figured, starts_in, costs_are, cost_at, cost_above, costs_above, starts_many, charges_many}
use Rattle.asp.proofs.Spans.{length_span, all_map}

-- ---- the penalties of levels that are in shape

all_penalties : (P : Penalty → Type 0) (es : List Entry) → All (λ (e : Entry). P (penalty e)) es → All P (penalties es)
all_penalties P [] a = tt
all_penalties P (e ∷ es) a = (a.0, all_penalties P es a.1)

all_each : {A : Type 0} (P : A → Type 0) (d : A) (xs : List A) → ((i : ℕ) → i < length xs → P (get_or xs i d)) → All P xs
all_each P d [] h = tt
all_each P d (x ∷ xs) h = (h 0 (omega arith), all_each P d xs (λ i b. h (suc i) (omega (arith, b))))

pub formed_in : (L : Levels) → FormedLevels L → FormedPenalties (penalties (entries_in L))
formed_in L f = record {
  few = omega (arith, f.few, length-map (entries_in L) penalty);
  atoms =
      all_penalties (λ (p : Penalty). nat_abs p.literal ≤ 1024) (entries_in L)
      (all_map (λ (e : Entry). LiteralIn 1024 e.literal) (λ (e : Entry). nat_abs (penalty e).literal ≤ 1024) (λ e h. rw (paid_atom e.literal e.weight) h.1) (entries_in L) (all_each (λ (e : Entry). LiteralIn 1024 e.literal) no_entry (entries_in L) f.entries.atoms));
  weights = all_penalties (λ (p : Penalty). p.weight ≤ 1000000) (entries_in L) f.light;
}

-- ---- what the end of a query means

abbrev pub meant_placed : Levels → ℕ → Placed → State
meant_placed L c x = meant_by L c x.phase [] [] x.work

-- ---- the work is in order: on a level, and at the end

pub record OnLevel (S : Source) (w : Work) : Type 0 where
  pub level : w.level < many S.levels
  pub sound : SoundTables w.tables
  pub kinds : All (KindIn S.n) (level_of w.tables).kinds
  pub lowers_len : length w.lowers ≡ 8
  pub figured : Figured S.levels w.lowers
  pub lower_is : get_or w.lowers w.level (pos 0) ≡ above (start_at S.levels w.level) w.tables.lower
  pub starts : (j : ℕ) → w.level < j → j < many S.levels → get_or w.lowers j (pos 0) ≡ start_at S.levels j
  pub uppers : w.uppers ≡ costs_of S.levels w.best

pub record AtEnd (S : Source) (w : Work) : Type 0 where
  pub level : w.level ≡ many S.levels
  pub lowers_len : length w.lowers ≡ 8
  pub figured : Figured S.levels w.lowers
  pub uppers : w.uppers ≡ costs_of S.levels w.best
  pub sound : SoundTables w.tables
  pub kinds : All (KindIn S.n) (level_of w.tables).kinds

abbrev pub InOrder : Source → Phase → Work → Type 0
InOrder S First w = w ≡ (first_work S.levels)
InOrder S Level w = OnLevel S w
InOrder S Optimum w = AtEnd S w
InOrder S Incoherent w = w ≡ (first_work S.levels)
InOrder S Full w = OnLevel S w

abbrev pub Ordered : Source → Placed → Type 0
Ordered S x = InOrder S x.phase x.work

-- ---- kinds

opened_kinds : (n : ℕ) (es : List Penalty) → All (λ (e : Penalty). LiteralIn n e.literal) es → All (KindIn n) (map (λ (e : Penalty). entry e.literal) es)
opened_kinds n [] a = tt
opened_kinds n (e ∷ es) a = (a.0, opened_kinds n es a.1)

-- the literals that cost are of the entries' atoms
pub paid_in : (n : ℕ) (es : List Entry) → All (λ (e : Entry). LiteralIn n e.literal) es → All (λ (p : Penalty). LiteralIn n p.literal) (penalties es)
paid_in n [] a = tt
paid_in n (e ∷ es) a = (rw (paid_atom e.literal e.weight) a.0, paid_in n es a.1)

derived_kinds : (n j i k : ℕ) → All (KindIn n) (derived_from j i k)
derived_kinds n j i zero = tt
derived_kinds n j i (suc k) = (tt, derived_kinds n j (suc i) k)

all_app : {A : Type 0} (P : A → Type 0) (xs ys : List A) → All P xs → All P ys → All P (xs ++ ys)
all_app P [] ys a b = b
all_app P (x ∷ xs) ys a b = (a.0, all_app P xs ys a.1 b)

-- ---- a level is opened

module _ (S : Source) (f : FormedSource S) where
  abbrev L : Levels
  L = S.levels

  formed_at : (j : ℕ) → FormedPenalties (penalties_at L j)
  formed_at j = level_formed (entries_in L) (formed_in L f.levels) (get_or L.levels j (pos 0))

  -- where the bounds start from a place on
  abbrev pub Unopened : Work → ℕ → Type 0
  Unopened w j = (i : ℕ) → j ≤ i → i < many L → get_or w.lowers i (pos 0) ≡ start_at L i

  begun_order : (w : Work) (j : ℕ) → j < many L → length w.lowers ≡ 8 → Figured L w.lowers → Unopened w j → w.uppers ≡ costs_of L w.best → OnLevel S (begun_at L w j)
  begun_order w j h l g z u = record {
    level = h;
    sound = opened_sound (penalties_at L j) (formed_at j);
    kinds =
        subst (λ (x : lev.Level). All (KindIn S.n) x.kinds) (sym (opened_means (penalties_at L j) (formed_at j)))
        (opened_kinds S.n (weighty (penalties_at L j)) (weighty_all (λ e. LiteralIn S.n e.literal) (penalties_at L j) (level_penalties (λ e. LiteralIn S.n e.literal) (get_or L.levels j (pos 0)) (entries_in L) (paid_in S.n (entries_in L) f.atoms))));
    lowers_len = l;
    figured = g;
    lower_is = z j (omega arith) h ∙ sym (above_none (start_at L j));
    starts = λ i k. z i (omega arith);
    uppers = u;
  }

  begun_means : (c : ℕ) (w : Work) (j k : ℕ) → k ≡ many L - (j + 1)
      → working c (work_of L (begun_at L w j)) [] [] ≡ working c (begun (past_at L j) (settled_at L w.lowers j) (penalties_at L j) (span (penalties_at L) (j + 1) k) (set_of w.best)) [] []
  begun_means c w j k e =
      ap₂ (λ (t : lev.Level) (n : ℕ). working c (record { past = past_at L j; settled = settled_at L w.lowers j; level = penalties_at L j; later = span (penalties_at L) (j + 1) n; tables = t; stratum = greatest t.rests; best = set_of w.best }) [] [])
      (opened_means (penalties_at L j) (formed_at j)) (sym e)

  pub record Opened (c : ℕ) (x : Placed) (s : State) : Type 0 where
    pub means : meant_placed L c x ≡ s
    pub order : Ordered S x

  open_at_lem : (c : ℕ) (w : Work) (j k : ℕ) → j + k ≡ many L → length w.lowers ≡ 8 → Figured L w.lowers → Unopened w j → w.uppers ≡ costs_of L w.best
      → SoundTables w.tables → All (KindIn S.n) (level_of w.tables).kinds
      → Opened c (open_at L w (next_from w.lowers w.uppers j k)) (open_next c (past_at L j) (settled_at L w.lowers j) (span (penalties_at L) j k) (set_of w.best))
  unfolding next_from span
  open_at_lem c w j zero e l g z u so ki =
      rw (le-ltb j (many L) (omega arith)) (record { means = refl; order = record { level = omega arith; lowers_len = l; figured = g; uppers = u; sound = so; kinds = ki } })
  open_at_lem c w j (suc k) e l g z u so ki = go (eqb charged 0) refl (open_at_lem c w (j + 1) k (omega arith) l g (λ i h. z i (omega arith)) u so ki)
    where
      charged : ℕ
      charged = charge (set_of w.best) (penalties_at L j)

      -- the bounds are equal just if nothing is charged
      test : same_ℤ (get_or w.uppers j (pos 0)) (get_or w.lowers j (pos 0)) ≡ eqb charged 0
      test =
          ap₂ same_ℤ (ap (λ (x : List ℤ). get_or x j (pos 0)) u ∙ cost_at L w.best j (omega arith) ∙ cost_above S f (set_of w.best) j) (z j (omega arith) (omega arith) ∙ sym (above_none (start_at L j)))
          ∙ above_same (start_at L j) charged 0

      unraised : rise (start_at L j) (get_or w.lowers j (pos 0)) ≡ 0
      unraised = ap (rise (start_at L j)) (z j (omega arith) (omega arith)) ∙ rise_none (start_at L j)

      go : (b : Bool) → eqb charged 0 ≡ b
          → Opened c (open_at L w (next_from w.lowers w.uppers (j + 1) k)) (open_next c (past_at L (j + 1)) (settled_at L w.lowers (j + 1)) (span (penalties_at L) (j + 1) k) (set_of w.best))
          → Opened c (open_at L w (pick (same_ℤ (get_or w.uppers j (pos 0)) (get_or w.lowers j (pos 0))) (next_from w.lowers w.uppers (j + 1) k) j))
          (pick b (open_next c (penalties_at L j ∷ past_at L j) (0 ∷ settled_at L w.lowers j) (span (penalties_at L) (j + 1) k) (set_of w.best))
          (working c (begun (past_at L j) (settled_at L w.lowers j) (penalties_at L j) (span (penalties_at L) (j + 1) k) (set_of w.best)) [] []))
      go true b r =
          rw (test ∙ b)
          (subst (λ (x : ℕ). Opened c (open_at L w (next_from w.lowers w.uppers (j + 1) k)) (open_next c (penalties_at L j ∷ past_at L j) (x ∷ settled_at L w.lowers j) (span (penalties_at L) (j + 1) k) (set_of w.best))) unraised
          (subst (λ (x : ℕ). Opened c (open_at L w (next_from w.lowers w.uppers (j + 1) k)) (open_next c (past_at L x) (settled_at L w.lowers x) (span (penalties_at L) (j + 1) k) (set_of w.best))) (add-one j) r))
      go false b r =
          rw (test ∙ b, lt-ltb j (many L) (omega arith))
          (record { means = begun_means c w j k (omega arith); order = begun_order w j (omega arith) l g z u })

  pub open_from_lem : (c : ℕ) (w : Work) (j : ℕ) → j ≤ many L → length w.lowers ≡ 8 → Figured L w.lowers → Unopened w j → w.uppers ≡ costs_of L w.best
      → SoundTables w.tables → All (KindIn S.n) (level_of w.tables).kinds
      → Opened c (open_from L w j) (open_next c (past_at L j) (settled_at L w.lowers j) (later_at L j) (set_of w.best))
  unfolding open_from
  open_from_lem c w j h l g z u so ki = open_at_lem c w j (many L - j) (omega arith) l g z u so ki

  -- ---- a level is settled, or not

  pub settle_means : (c : ℕ) (w : Work) → OnLevel S w → Opened c (settle_of L w) (settle c (work_of L w))
  unfolding settle_of
  settle_means c w o = go (eqb charged w.tables.lower) refl
    where
      charged : ℕ
      charged = charge (set_of w.best) (penalties_at L w.level)

      -- the bounds are equal just if what is charged is the natural bound
      test : same_ℤ (get_or w.uppers w.level (pos 0)) (get_or w.lowers w.level (pos 0)) ≡ eqb charged w.tables.lower
      test =
          ap₂ same_ℤ (ap (λ (x : List ℤ). get_or x w.level (pos 0)) o.uppers ∙ cost_at L w.best w.level o.level ∙ cost_above S f (set_of w.best) w.level) o.lower_is
          ∙ above_same (start_at L w.level) charged w.tables.lower

      raised : rise (start_at L w.level) (get_or w.lowers w.level (pos 0)) ≡ w.tables.lower
      raised = ap (rise (start_at L w.level)) o.lower_is ∙ rise_above (start_at L w.level) w.tables.lower

      next : Opened c (open_from L w (w.level + 1)) (open_next c (penalties_at L w.level ∷ past_at L w.level) (w.tables.lower ∷ settled_at L w.lowers w.level) (later_at L (w.level + 1)) (set_of w.best))
      next =
          subst (λ (x : ℕ). Opened c (open_from L w (w.level + 1)) (open_next c (penalties_at L w.level ∷ past_at L w.level) (x ∷ settled_at L w.lowers w.level) (later_at L (w.level + 1)) (set_of w.best))) raised
          (subst (λ (x : ℕ). Opened c (open_from L w (w.level + 1)) (open_next c (past_at L x) (settled_at L w.lowers x) (later_at L (w.level + 1)) (set_of w.best))) (add-one w.level)
          (open_from_lem c w (w.level + 1) (omega (arith, o.level)) o.lowers_len o.figured (λ i h. o.starts i (omega arith)) o.uppers o.sound o.kinds))

      go : (b : Bool) → eqb charged w.tables.lower ≡ b
          → Opened c (pick (same_ℤ (get_or w.uppers w.level (pos 0)) (get_or w.lowers w.level (pos 0))) (open_from L w (w.level + 1)) (placed Level w))
          (pick b (open_next c (penalties_at L w.level ∷ past_at L w.level) (w.tables.lower ∷ settled_at L w.lowers w.level) (later_at L (w.level + 1)) (set_of w.best)) (working c (work_of L w) [] []))
      go true e = rw (test ∙ e) next
      go false e = rw (test ∙ e) (record { means = refl; order = o })

  -- ---- a query ends with a model

  module _ (w : Work) (o : OnLevel S w) (v : List ℕ) where
    cheaper_same : cheaper lt_z (take (many L) (costs_of L v)) (take (many L) w.uppers) ≡ cheaper ltb (charges_on (set_of v) (penalties_in L)) (charges_on (set_of w.best) (penalties_in L))
    cheaper_same =
        ap₂ (cheaper lt_z) (costs_are L v ∙ costs_above S f (set_of v)) (ap (take (many L)) o.uppers ∙ costs_are L w.best ∙ costs_above S f (set_of w.best))
        ∙ cheaper_aboves (starts_in L) (charges_on (set_of v) (penalties_in L)) (charges_on (set_of w.best) (penalties_in L)) (charges_many L (set_of v) ∙ sym (starts_many L)) (charges_many L (set_of w.best) ∙ sym (starts_many L))

    with_best_order : OnLevel S (fallen (with_best L w v))
    with_best_order = record { level = o.level; sound = o.sound; kinds = o.kinds; lowers_len = o.lowers_len; figured = o.figured; lower_is = o.lower_is; starts = o.starts; uppers = refl }

    fallen_order : OnLevel S (fallen w)
    fallen_order = record { level = o.level; sound = o.sound; kinds = o.kinds; lowers_len = o.lowers_len; figured = o.figured; lower_is = o.lower_is; starts = o.starts; uppers = o.uppers }

    better_order : OnLevel S (fallen (better_of L w v))
    unfolding better_of
    better_order = elim (cheaper lt_z (take (many L) (costs_of L v)) (take (many L) w.uppers)) as (λ b. OnLevel S (fallen (pick b (with_best L w v) w))) [ true ↦ with_best_order | false ↦ fallen_order ]

    abbrev result : Set → abstract.Work
    result M = record {
      past = past_at L w.level;
      settled = settled_at L w.lowers w.level;
      level = penalties_at L w.level;
      later = later_at L (w.level + 1);
      tables = level_of w.tables;
      stratum = under w.stratum (level_of w.tables).rests;
      best = M;
    }

    better_means : work_of L (fallen (better_of L w v)) ≡ with_model (penalties_in L) (work_of L w) (set_of v)
    unfolding better_of
    better_means = go (cheaper lt_z (take (many L) (costs_of L v)) (take (many L) w.uppers)) (cheaper ltb (charges_on (set_of v) (penalties_in L)) (charges_on (set_of w.best) (penalties_in L))) cheaper_same
      where
        go : (a b : Bool) → a ≡ b → work_of L (fallen (pick a (with_best L w v) w)) ≡ result (pick b (set_of v) (set_of w.best))
        go true true e = refl
        go false false e = refl
        go true false e = let z : ◌≡◌ {A = ℕ} 0 1 = cc in absurd (omega arith)
        go false true e = let z : ◌≡◌ {A = ℕ} 0 1 = cc in absurd (omega arith)

    pub model_means : (c : ℕ) → Opened c (settle_of L (fallen (better_of L w v))) (settle c (with_model (penalties_in L) (work_of L w) (set_of v)))
    model_means c = subst (λ (x : abstract.Work). Opened c (settle_of L (fallen (better_of L w v))) (settle c x)) better_means (settle_means c (fallen (better_of L w v)) better_order)

  -- ---- a query ends without a model

  settled_set : (lowers : List ℤ) (i : ℕ) (x : ℤ) (j : ℕ) → j ≤ i → settled_at L (set lowers i x) j ≡ settled_at L lowers j
  settled_set lowers i x zero h = refl
  settled_set lowers i x (suc j) h =
      ap₂ (λ (y : ℕ) (ys : List ℕ). y ∷ ys) (ap (rise (start_at L j)) (get_or-set_other lowers i j x (pos 0) (λ e. less e))) (settled_set lowers i x j (omega arith))
    where
      less : j ≡ i → ⊥
      less e = omega arith

  module _ (w : Work) (o : OnLevel S w) (ms : List ℕ) (some : 1 ≤ length ms) (few : length ms ≤ 4096) (inside : All (λ m. m < w.tables.count) ms) where
    abbrev t : LevelTables
    t = w.tables

    abbrev s : ℕ
    s = w.stratum

    abbrev recorded_work : Work
    recorded_work = with_tables w (recorded_tables t s ms)

    -- the bound, raised by the stratum
    abbrev bound : ℤ
    bound = above (get_or w.lowers w.level (pos 0)) s

    bound_is : bound ≡ above (start_at L w.level) (t.lower + s)
    bound_is = ap (λ (z : ℤ). above z s) o.lower_is ∙ above_more (start_at L w.level) t.lower s

    here : get_or (set w.lowers w.level bound) w.level (pos 0) ≡ bound
    here = get_or-set_same w.lowers w.level bound (pos 0) (omega (arith, o.lowers_len, o.level, f.levels.levels_few))

    elsewhere : (j : ℕ) → (j ≡ w.level → ⊥) → get_or (set w.lowers w.level bound) j (pos 0) ≡ get_or w.lowers j (pos 0)
    elsewhere j = get_or-set_other w.lowers w.level j bound (pos 0)

    figured_still : Figured L (set w.lowers w.level bound)
    figured_still j h = by (ℕ_discrete j w.level)
      where
        by : Dec (j ≡ w.level) → IsAbove (start_at L j) (get_or (set w.lowers w.level bound) j (pos 0))
        by (yes e) = rw e (is_above (start_at L w.level) (t.lower + s) (here ∙ bound_is))
        by (no n) = subst (IsAbove (start_at L j)) (sym (elsewhere j n)) (o.figured j h)

    roomy : core_fits t.count (held_in t) (length ms) ≡ true → Room t (length ms)
    roomy q = try_room t s ms (core_counted t o.sound s ms some few) refl refl q

    recorded_is : core_fits t.count (held_in t) (length ms) ≡ true → level_of (recorded_tables t s ms) ≡ recorded (level_of t) s ms
    recorded_is q = recorded_means t o.sound s ms (roomy q) inside

    recorded_order : core_fits t.count (held_in t) (length ms) ≡ true → OnLevel S recorded_work
    recorded_order q = record {
      level = o.level;
      sound = recorded_sound t o.sound s ms (roomy q) inside;
      kinds =
          subst (λ (x : lev.Level). All (KindIn S.n) x.kinds) (sym (recorded_is q))
          (all_app (KindIn S.n) (level_of t).kinds (derived_from (suc (length (level_of t).cores)) 1 (fewer ms)) o.kinds (derived_kinds S.n (suc (length (level_of t).cores)) 1 (fewer ms)));
      lowers_len = length-set w.lowers w.level bound ∙ o.lowers_len;
      figured = figured_still;
      lower_is = here ∙ bound_is;
      starts = λ j h k. elsewhere j (λ e. more j h e) ∙ o.starts j h k;
      uppers = o.uppers;
    }
      where
        more : (j : ℕ) → w.level < j → j ≡ w.level → ⊥
        more j h e = omega arith

    recorded_work_lem : core_fits t.count (held_in t) (length ms) ≡ true → work_of L recorded_work ≡ with_core (work_of L w) ms
    recorded_work_lem q =
        ap₂ (λ (x : lev.Level) (y : List ℕ). record { past = past_at L w.level; settled = y; level = penalties_at L w.level; later = later_at L (w.level + 1); tables = x; stratum = s; best = set_of w.best })
        (recorded_is q) (settled_set w.lowers w.level bound w.level (omega arith))

    pub core_means : (c : ℕ) → Opened c (tried_work L w (tried_tables t s ms)) (no_model c (work_of L w) ms)
    core_means c = go (core_fits t.count (held_in t) (length ms)) (room (level_of t) ms) refl (fits_room t o.sound.formed ms)
      where
        go : (a b : Bool) → core_fits t.count (held_in t) (length ms) ≡ a → core_fits t.count (held_in t) (length ms) ≡ b
            → Opened c (tried_work L w (pick a (tried (Ok tt) (recorded_tables t s ms)) (tried (Err full_tables) t))) (pick b (settle c (with_core (work_of L w) ms)) (full c (work_of L w)))
        go true true q e = subst (λ (x : abstract.Work). Opened c (settle_of L recorded_work) (settle c x)) (recorded_work_lem q) (settle_means c recorded_work (recorded_order q))
        go false false q e = record { means = refl; order = o }
        go true false q e = let z : ◌≡◌ {A = ℕ} 0 1 = cc in absurd (omega arith)
        go false true q e = let z : ◌≡◌ {A = ℕ} 0 1 = cc in absurd (omega arith)
