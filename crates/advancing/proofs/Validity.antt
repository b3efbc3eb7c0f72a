-- Every state that advances from a fresh one lead to is valid: what it means keeps the invariant of `Optimize`, and its tables are in order. Assumes nothing.
use mathlib.Core.Path.{◌≡◌, refl, sym, ap, ◌∙◌, subst}
use mathlib.Core.Bool.{Bool, true, false}
use mathlib.Core.List.{List, [], ◌∷◌}
use mathlib.Core.Logic.{◌⊎◌, inl, inr}
use Prim.Native.Nat.{ℕ, zero, suc, ◌+◌, ◌≤◌, ◌<◌, zero-le}
use native.Mathlib.Nat.{sub-zero}
use native.Mathlib.Omega.{arith}
use lib.Dec.{eqb, ltb}
use lib.IntN.{pos, nat_abs}
use lib.ListN.{length, get_or, replicate, length-replicate}
use borrow.Author.Tests.{lt-ltb, le-ltb}
use Rattle.asp.specs.Sets.{set_of, pick}
use Rattle.asp.specs.Program.{All, Distinct}
use Rattle.asp.specs.Penalty.{bulk}
use Rattle.asp.specs.Stable.{member}
use Rattle.asp.specs.Tables.{span}
use Rattle.asp.proofs.Signed.{sum_size}
use Rattle.asp.proofs.Penalties.{bulk_is, start_size, above_none, is_above}
use Rattle.search.specs.Machine as machine
use Rattle.search.specs.declared.trail.Places.{Places}
use Rattle.search.specs.Places.{SoundTrail, trail_of}
use Rattle.search.proofs.Search as search
use Rattle.cores.specs.Identity.{Core, problem}
use Rattle.cores.specs.Tables.{SoundTables, level_of}
use Rattle.cores.proofs.Sums.{below_or}
use Rattle.cores.proofs.Kept.{empty_sound, core_counted, core_inside, core_places, core_bound, distinct_few, level_weight, level_formed}
use Rattle.advancing.specs.declared.state.Phase.{Phase}
use Rattle.advancing.specs.declared.state.Phase.TheVariants.{First, Level, Optimum, Incoherent, Full}
use Rattle.advancing.specs.declared.state.Blame.{Blame}
use Rattle.advancing.specs.declared.state.Work.{Work}
use Rattle.advancing.specs.declared.state.Search.{Search}
use Rattle.advancing.specs.declared.state.Turn.{Turn}
use Rattle.advancing.specs.declared.state.Turn.TheVariants.{Going, Without, Model}
use Rattle.optimum.specs.Optimize.{State, open_next, after_first, after_work}
use Rattle.advancing.specs.Source.{Levels, Source, many, level_at, start_at, penalties_at, penalties_in, entries_in, FormedSource}
use Rattle.advancing.specs.Turn.{QueryTables, query_of, blamed_of, Turned, turned, turns, turn_of, turns_of, is_going}
use Rattle.advancing.specs.State.{search as searchOf, fresh_blame, starts_of, first_work, fresh_for, is_running}
use Rattle.advancing.specs.Finish.{Placed, with_best, open_from, finish_of}
use Rattle.advancing.specs.Advance.{ended_query, after_turns, finish_turn, work_query, bumped, advance_of, advances_of, made_by}
use Rattle.advancing.specs.Ready.{ReadyQuery, GoodBlame, ReadyCore}
use Rattle.advancing.specs.Run.{bumped_by, ReadyRun}
use Rattle.advancing.specs.Meaning.{work_of, meant_by, meant}
use Rattle.optimum.proofs.Invariant.{level_query, GoodWork, GoodFirst, GoodWorking, Inv}
use Rattle.optimum.proofs.Kept.{core_of_lem, turn_kept, first_kept, start_kept}
use Rattle.advancing.proofs.Stepping.{turn_sound, turn_blame}
use Rattle.advancing.proofs.Figures.{Figured, start_at_lem, starts_long}
use Rattle.advancing.proofs.Fresh.{drop_all_lem, fresh_query, fresh_trail}
use Rattle.advancing.proofs.Advancing.{rest_advance, rest_advances}
use Rattle.advancing.proofs.Verdicts.{seen_by, seen, verdict, verdict_says, turn_seen, turn_good, Answers}
use Rattle.advancing.proofs.Classes.{given, level_ready, level_answers, first_answers}
use Rattle.advancing.proofs.Meanings.{meant_placed, OnLevel, InOrder, Opened, open_from_lem, model_means, core_means, formed_in}

-- c advances were made
pub record Valid (S : Source) (c : ℕ) (s : Search) : Type 0 where
  pub figure : s.advances ≡ bumped_by c 0
  pub order : InOrder S s.phase s.work
  pub trail : SoundTrail S.n s.trail
  pub blame : GoodBlame (work_query s.work) s.blame
  pub inv : Inv (given S) (meant S.levels c s)

-- ---- the figure

abbrev top : ℕ
top = 18446744073709551615

pub figure_le : (c : ℕ) → bumped_by c 0 ≤ top
figure_le c = go (below_or top (0 + c))
  where
    go : (top < 0 + c) ⊎ (0 + c ≤ top) → bumped_by c 0 ≤ top
    go (inl h) = rw (lt-ltb _ _ h) (omega arith)
    go (inr h) = rw (le-ltb _ _ h) h

figure_next : (c : ℕ) → bumped (bumped_by c 0) ≡ bumped_by (suc c) 0
figure_next c = go (below_or top (0 + c))
  where
    inner : 0 + c ≤ top → (top < 0 + suc c) ⊎ (0 + suc c ≤ top) → pick (ltb (0 + c) top) (0 + c + 1) (0 + c) ≡ bumped_by (suc c) 0
    inner h (inl k) = let x : top ≤ 0 + c = omega arith in rw (le-ltb _ _ x, lt-ltb _ _ k) (omega arith)
    inner h (inr k) = let x : 0 + c < top = omega arith in rw (lt-ltb _ _ x, le-ltb _ _ k) (omega arith)

    go : (top < 0 + c) ⊎ (0 + c ≤ top) → bumped (bumped_by c 0) ≡ bumped_by (suc c) 0
    go (inl h) = let x : top < 0 + suc c = omega arith in rw (lt-ltb _ _ h, lt-ltb _ _ x) refl
    go (inr h) = rw (le-ltb _ _ h) (inner h (below_or top (0 + suc c)))

-- ---- a fresh trail and blame

zeros_at : (n i : ℕ) → get_or {A = ℕ} (replicate n 0) i 0 ≡ 0
zeros_at zero i = refl
zeros_at (suc n) zero = refl
zeros_at (suc n) (suc i) = zeros_at n i

any_blame : (q : QueryTables) → GoodBlame q fresh_blame
unfolding member
any_blame q = record {
  flags_len = length-replicate {A = ℕ} 4096 0;
  core_len = length-replicate {A = ℕ} 4096 0;
  from_in = omega arith;
  inside = subst (All (λ (m : ℕ). m < length q.judging.literals)) (sym (drop_all_lem 4096)) tt;
  distinct = subst Distinct (sym (drop_all_lem 4096)) tt;
  flags = λ i h. ap (λ (x : ℕ). eqb x 1) (zeros_at 4096 i) ∙ sym (ap (member (get_or q.places i 0)) (drop_all_lem 4096));
}

meant_ended : (L : Levels) (c k : ℕ) (x : Placed) → meant_placed L c x ≡ meant L c (ended_query k x)
meant_ended L c k x = ap (λ (ms : List ℕ). meant_by L c x.phase [] ms x.work) (sym (drop_all_lem 4096))

module _ (S : Source) (f : FormedSource S) where
  abbrev L : Levels
  L = S.levels

  -- ---- what the order of the tables gives

  pub query_ready : (p : Phase) (w : Work) → InOrder S p w → ReadyQuery S (work_query w)
  query_ready First w o = subst (λ (x : Work). ReadyQuery S (work_query x)) (sym o) (fresh_query S f)
  query_ready Level w o = level_ready S f w.level w.lowers w.tables w.stratum (omega (arith, o.level)) o.lowers_len o.sound o.kinds
  query_ready Optimum w o = level_ready S f w.level w.lowers w.tables w.stratum (omega (arith, o.level)) o.lowers_len o.sound o.kinds
  query_ready Incoherent w o = subst (λ (x : Work). ReadyQuery S (work_query x)) (sym o) (fresh_query S f)
  query_ready Full w o = level_ready S f w.level w.lowers w.tables w.stratum (omega (arith, o.level)) o.lowers_len o.sound o.kinds

  pub tables_sound : (p : Phase) (w : Work) → InOrder S p w → SoundTables w.tables
  tables_sound First w o = subst (λ (x : Work). SoundTables x.tables) (sym o) empty_sound
  tables_sound Level w o = o.sound
  tables_sound Optimum w o = o.sound
  tables_sound Incoherent w o = subst (λ (x : Work). SoundTables x.tables) (sym o) empty_sound
  tables_sound Full w o = o.sound

  -- ---- the end of a query

  ended_valid : (c k : ℕ) {x : Placed} {st : State} → k ≡ bumped_by c 0 → Opened S f c x st → Inv (given S) st → Valid S c (ended_query k x)
  ended_valid c k {x} e o i = record {
    figure = e;
    order = o.order;
    trail = fresh_trail S f;
    blame = any_blame (work_query x.work);
    inv = subst (Inv (given S)) (sym o.means ∙ meant_ended L c k x) i;
  }

  -- ---- a query on a level

  module _ (w : Work) (o : OnLevel S w) where
    abbrev q : QueryTables
    q = work_query w

    abbrev P : search.Problem
    P = level_query (given S) (work_of L w)

    pub ready : ReadyQuery S q
    ready = query_ready Level w o

    pub answers : Answers S q P.Class P.Assumed P.Met
    answers = level_answers S f w.level w.lowers w.tables w.stratum (omega (arith, o.level)) o.lowers_len o.sound o.kinds o.figured

    -- WHAT IS BLAMED AT THE END OF A QUERY WITHOUT A MODEL IS A CORE, and not empty
    module _ (g : GoodWork (given S) (work_of L w)) (ms : List ℕ) (n : search.NoneMeets P ms) where
      pub is_core : Core (problem P.Class (penalties_at L w.level)) (level_of w.tables) w.stratum ms
      is_core = core_of_lem (given S) (work_of L w) ms g n

      inside : All (λ m. m < w.tables.count) ms
      inside = core_inside (problem P.Class (penalties_at L w.level)) w.tables o.sound w.stratum ms g.good is_core

      places : All (λ m. m < 4096) ms
      places = core_places (problem P.Class (penalties_at L w.level)) w.tables o.sound w.stratum ms g.good is_core

      few : length ms ≤ 4096
      few = distinct_few 4096 ms n.distinct places

      level_bulk : bulk (penalties_at L w.level) ≤ 512000000
      level_bulk = level_weight (penalties_at L w.level) (level_formed (entries_in L) (formed_in L f.levels) _)

      -- the bound that is to rise lies above the start by no more than the level weighs
      figure_small : nat_abs (get_or w.lowers w.level (pos 0)) ≤ 2000000000
      figure_small =
          rw o.lower_is
          (omega (
            arith,
            level_bulk,
            bulk_is (level_at L w.level),
            start_size (level_at L w.level),
            sum_size (start_at L w.level) (pos w.tables.lower),
            core_bound (problem P.Class (penalties_at L w.level)) w.tables o.sound w.stratum ms g.good is_core (omega (arith, level_bulk)),
          ))

      core_ready : ReadyCore w ms
      core_ready = record {
        counted = core_counted w.tables o.sound w.stratum ms is_core.some few;
        inside = places;
        bound =
            core_bound (problem P.Class (penalties_at L w.level)) w.tables o.sound w.stratum ms g.good is_core
            (omega (arith, level_bulk));
        figure = figure_small;
      }

    -- the state after a turn
    after_level : (c k : ℕ) → k ≡ bumped_by c 0 → GoodWork (given S) (work_of L w) → (x : Turned) → SoundTrail S.n x.trail → GoodBlame q x.blame
        → Inv (given S) (after_work (penalties_in L) c (work_of L w) (seen x)) → search.Good P (seen x) → Valid S c (finish_turn S Level k w x)
    after_level c k e g x d b i h = go x.turn i h
      where
        go : (y : Turn) → Inv (given S) (after_work (penalties_in L) c (work_of L w) (seen_by y x.trail x.blame)) → search.Good P (seen_by y x.trail x.blame)
            → Valid S c (after_turns L Level k w (turned y x.trail x.blame))
        go Going i h = record { figure = e; order = o; trail = d; blame = b; inv = i }
        go Without i h = ended_valid c k e (core_means S f w o (blamed_of x.blame) (is_core g (blamed_of x.blame) h).some (few g (blamed_of x.blame) h) (inside g (blamed_of x.blame) h) c) i
        go Model i h = ended_valid c k e (model_means S f w o x.trail.value c) i

    -- it means what the optimizer of `Optimize` comes to
    pub means_level : (c k : ℕ) → GoodWork (given S) (work_of L w) → (x : Turned) → search.Good P (seen x) → meant L c (finish_turn S Level k w x) ≡ after_work (penalties_in L) c (work_of L w) (seen x)
    means_level c k g x h = go x.turn h
      where
        go : (y : Turn) → search.Good P (seen_by y x.trail x.blame)
            → meant L c (after_turns L Level k w (turned y x.trail x.blame)) ≡ after_work (penalties_in L) c (work_of L w) (seen_by y x.trail x.blame)
        go Going h = refl
        go Without h =
            sym (meant_ended L c k (finish_of L Level w x.trail.value (blamed_of x.blame) Without))
            ∙ (core_means S f w o (blamed_of x.blame) (is_core g (blamed_of x.blame) h).some (few g (blamed_of x.blame) h) (inside g (blamed_of x.blame) h) c).means
        go Model h = sym (meant_ended L c k (finish_of L Level w x.trail.value (blamed_of x.blame) Model)) ∙ (model_means S f w o x.trail.value c).means

    module _ {b : Blame} (d : GoodBlame q b) (t : Places) (k : SoundTrail S.n t) where
      pub level_means : (c m : ℕ) → GoodWorking (given S) c (work_of L w) (trail_of t) (blamed_of b)
          → meant L (suc c) (finish_turn S Level m w (turn_of S q t b)) ≡ after_work (penalties_in L) (suc c) (work_of L w) (seen (turn_of S q t b))
      level_means c m g = means_level (suc c) m g.work (turn_of S q t b) (turn_good ready answers d g.trail.assumed t k g.trail)

      level_next : (c m : ℕ) → m ≡ bumped_by (suc c) 0 → GoodWorking (given S) c (work_of L w) (trail_of t) (blamed_of b) → Valid S (suc c) (finish_turn S Level m w (turn_of S q t b))
      level_next c m e g =
          after_level (suc c) m e g.work (turn_of S q t b) (turn_sound ready d t k) (turn_blame ready d t k)
          (subst (λ (x : machine.QueryState). Inv (given S) (after_work (penalties_in L) (suc c) (work_of L w) x)) (sym (turn_seen ready d t k))
          (turn_kept (given S) c (work_of L w) (trail_of t) (blamed_of b) (verdict S q t b) g (verdict_says ready answers d g.trail.assumed t k)))
          (turn_good ready answers d g.trail.assumed t k g.trail)

    -- and after any number of turns
    turns_good : (n : ℕ) {t : Places} {b : Blame} → SoundTrail S.n t → GoodBlame q b → search.GoodTrail P (trail_of t) (blamed_of b) → search.Good P (seen (turns_of S q n t b).turned)
    unfolding turns_of
    turns_good zero d g h = h
    turns_good (suc n) {t} {b} d g h =
        go (turn_of S q t b).turn (turn_good ready answers g h.assumed t d h) (turns_good n (turn_sound ready g t d) (turn_blame ready g t d))
      where
        go : (y : Turn) → search.Good P (seen_by y (turn_of S q t b).trail (turn_of S q t b).blame)
            → (search.GoodTrail P (trail_of (turn_of S q t b).trail) (blamed_of (turn_of S q t b).blame) → search.Good P (seen (turns_of S q n (turn_of S q t b).trail (turn_of S q t b).blame).turned))
            → search.Good P (seen (pick (is_going y) (turns_of S q n (turn_of S q t b).trail (turn_of S q t b).blame) (turns (turned y (turn_of S q t b).trail (turn_of S q t b).blame) 0)).turned)
        go Going i r = r i
        go Without i r = i
        go Model i r = i

  -- ---- the first query

  pub first_ready : ReadyQuery S (work_query (first_work S.levels))
  first_ready = fresh_query S f

  -- nothing is blamed in it
  none_blamed : (ms : List ℕ) → All (λ m. m < 0) ms → ms ≡ []
  none_blamed [] a = refl
  none_blamed (m ∷ ms) a = absurd (omega (arith, a.0))

  pub first_blamed : {b : Blame} → GoodBlame (work_query (first_work S.levels)) b → blamed_of b ≡ []
  unfolding query_of
  first_blamed {b} g = none_blamed (blamed_of b) g.inside

  first_figured : Figured L (starts_of L)
  first_figured j h = is_above (start_at L j) 0 (start_at_lem L j h ∙ sym (above_none (start_at L j)))

  first_model : (c : ℕ) (v : List ℕ) → Opened S f c (open_from L (with_best L (first_work S.levels) v) 0) (open_next c [] [] (penalties_in L) (set_of v))
  first_model c v =
      subst (λ (k : ℕ). Opened S f c (open_from L (with_best L (first_work S.levels) v) 0) (open_next c [] [] (span (penalties_at L) 0 k) (set_of v))) (sub-zero (many L))
      (open_from_lem S f c (with_best L (first_work S.levels) v) 0 zero-le (starts_long L f.levels.levels_few) first_figured (λ i h. start_at_lem L i) refl empty_sound tt)

  after_first_lem : (c k : ℕ) → k ≡ bumped_by c 0 → (x : Turned) → SoundTrail S.n x.trail → GoodBlame (work_query (first_work S.levels)) x.blame → Inv (given S) (after_first (penalties_in L) c (seen x))
      → Valid S c (finish_turn S First k (first_work S.levels) x)
  after_first_lem c k e x d b i = go x.turn i
    where
      go : (y : Turn) → Inv (given S) (after_first (penalties_in L) c (seen_by y x.trail x.blame)) → Valid S c (after_turns L First k (first_work S.levels) (turned y x.trail x.blame))
      go Going i = record { figure = e; order = refl; trail = d; blame = b; inv = i }
      go Without i = ended_valid c k e (record { means = refl; order = refl }) i
      go Model i = ended_valid c k e (first_model c x.trail.value) i

  -- it means what the optimizer of `Optimize` comes to
  pub means_first : (c k : ℕ) (x : Turned) → meant L c (finish_turn S First k (first_work S.levels) x) ≡ after_first (penalties_in L) c (seen x)
  means_first c k x = go x.turn
    where
      go : (y : Turn) → meant L c (after_turns L First k (first_work S.levels) (turned y x.trail x.blame)) ≡ after_first (penalties_in L) c (seen_by y x.trail x.blame)
      go Going = refl
      go Without = refl
      go Model = sym (meant_ended L c k (finish_of L First (first_work S.levels) x.trail.value (blamed_of x.blame) Model)) ∙ (first_model c x.trail.value).means

  module _ {b : Blame} (d : GoodBlame (work_query (first_work S.levels)) b) (t : Places) (k : SoundTrail S.n t) where
    pub none_assumed : All (λ (m : ℕ). ⊥) (blamed_of b)
    none_assumed = subst (All (λ (m : ℕ). ⊥)) (sym (first_blamed d)) tt

    first_next : (c m : ℕ) → m ≡ bumped_by (suc c) 0 → GoodFirst (given S) c (trail_of t) → Valid S (suc c) (finish_turn S First m (first_work S.levels) (turn_of S (work_query (first_work S.levels)) t b))
    first_next c m e g =
        after_first_lem (suc c) m e (turn_of S (work_query (first_work S.levels)) t b) (turn_sound first_ready d t k) (turn_blame first_ready d t k)
        (subst (λ (x : machine.QueryState). Inv (given S) (after_first (penalties_in L) (suc c) x))
        (ap (machine.advance_by (verdict S (work_query (first_work S.levels)) t b) (trail_of t)) (sym (first_blamed d)) ∙ sym (turn_seen first_ready d t k))
        (first_kept (given S) c (trail_of t) (verdict S (work_query (first_work S.levels)) t b) g (verdict_says first_ready (first_answers S f) d none_assumed t k)))

  -- ---- AN ADVANCE KEEPS A STATE VALID

  pub fresh_valid : Valid S 0 (fresh_for S.levels)
  fresh_valid = record { figure = refl; order = refl; trail = fresh_trail S f; blame = any_blame (work_query (first_work S.levels)); inv = start_kept (given S) }

  advance_by_lem : (p : Phase) (c k : ℕ) (t : Places) (b : Blame) (w : Work) → Valid S c (searchOf p k t b w) → is_running p ≡ true → Valid S (suc c) (advance_of S (searchOf p k t b w))
  unfolding advance_of
  advance_by_lem First c k t b w v r =
      let e : bumped k ≡ bumped_by (suc c) 0 = ap bumped v.figure ∙ figure_next c in
      subst (λ (x : Work). Valid S (suc c) (finish_turn S First (bumped k) x (turn_of S (work_query x) (t) b))) (sym v.order)
      (first_next (subst (λ (x : Work). GoodBlame (work_query x) b) v.order v.blame) (t) v.trail c (bumped k) e v.inv)
  advance_by_lem Level c k t b w v r =
      let e : bumped k ≡ bumped_by (suc c) 0 = ap bumped v.figure ∙ figure_next c in
      level_next w v.order v.blame (t) v.trail c (bumped k) e v.inv
  advance_by_lem Optimum c k t b w v r = let z : ◌≡◌ {A = ℕ} 0 1 = cc in absurd (omega arith)
  advance_by_lem Incoherent c k t b w v r = let z : ◌≡◌ {A = ℕ} 0 1 = cc in absurd (omega arith)
  advance_by_lem Full c k t b w v r = let z : ◌≡◌ {A = ℕ} 0 1 = cc in absurd (omega arith)

  pub valid_advance : (c : ℕ) (s : Search) → Valid S c s → is_running s.phase ≡ true → Valid S (suc c) (advance_of S s)
  valid_advance c s v r = advance_by_lem s.phase c s.advances s.trail s.blame s.work v r

  pub valid_after : (k c : ℕ) (s : Search) → Valid S c s → Valid S (c + made_by S k s) (advances_of S k s)
  unfolding advances_of made_by
  valid_after zero c s v = let e : c ≡ c + 0 = omega arith in subst (λ (n : ℕ). Valid S n s) e v
  valid_after (suc k) c s v = go (is_running s.phase) refl (λ r. valid_after k (suc c) (advance_of S s) (valid_advance c s v r))
    where
      go : (x : Bool) → is_running s.phase ≡ x → (is_running s.phase ≡ true → Valid S (suc c + made_by S k (advance_of S s)) (advances_of S k (advance_of S s)))
          → Valid S (c + pick x (suc (made_by S k (advance_of S s))) 0) (advances_of S k (advance_of S s))
      go true r h = let e : suc c + made_by S k (advance_of S s) ≡ c + suc (made_by S k (advance_of S s)) = omega arith in subst (λ (n : ℕ). Valid S n (advances_of S k (advance_of S s))) e (h r)
      go false r h =
          let e : c ≡ c + 0 = omega arith in
          subst (λ (x : Search). Valid S (c + 0) x) (sym (ap (advances_of S k) (rest_advance S s r) ∙ rest_advances S k s r)) (subst (λ (n : ℕ). Valid S n s) e v)

  -- EVERY STATE THAT ADVANCES FROM A FRESH ONE LEAD TO IS VALID
  pub reached_valid : (k : ℕ) → Valid S (made_by S k (fresh_for S.levels)) (advances_of S k (fresh_for S.levels))
  reached_valid k = let e : 0 + made_by S k (fresh_for S.levels) ≡ made_by S k (fresh_for S.levels) = omega arith in subst (λ (n : ℕ). Valid S n (advances_of S k (fresh_for S.levels))) e (valid_after k 0 (fresh_for S.levels) fresh_valid)

  -- ---- A VALID STATE CAN BE ADVANCED

  core_at : (p : Phase) (c k n : ℕ) (t : Places) (b : Blame) (w : Work) → Valid S c (searchOf p n t b w) → p ≡ Level → (turns_of S (work_query w) k (t) b).turned.turn ≡ Without
      → ReadyCore w (blamed_of (turns_of S (work_query w) k (t) b).turned.blame)
  core_at p c k n t b w v e h =
      let o : OnLevel S w = subst (λ (x : Phase). InOrder S x w) e v.order in
      let g : GoodWorking (given S) c (work_of L w) (trail_of (t)) (blamed_of b) = subst (λ (x : Phase). Inv (given S) (meant_by L c x (trail_of (t)) (blamed_of b) w)) e v.inv in
      let x : Turned = (turns_of S (work_query w) k (t) b).turned in
      core_ready w o g.work (blamed_of x.blame) (subst (λ (y : Turn). search.Good (level_query (given S) (work_of L w)) (seen_by y x.trail x.blame)) h (turns_good w o k v.trail v.blame g.trail))

  pub valid_ready : (c : ℕ) (s : Search) → Valid S c s → (k : ℕ) → ReadyRun S k s
  valid_ready c s v k = record {
    source = f;
    figure = subst (λ (x : ℕ). x ≤ top) (sym v.figure) (figure_le c);
    query = query_ready s.phase s.work v.order;
    blame = v.blame;
    trail = v.trail;
    tables = tables_sound s.phase s.work v.order;
    level = λ e. (subst (λ (x : Phase). InOrder S x s.work) e v.order).level;
    core = core_at s.phase c k s.advances s.trail s.blame s.work v;
  }
