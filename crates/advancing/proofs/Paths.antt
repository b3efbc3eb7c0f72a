-- THE PATH RULES hold of every advance of a reached state that runs; the state is that of the machine of `optimum`; and a full state has a core that does not fit.
-- Assumes nothing.
use mathlib.Core.Path.{◌≡◌, refl, sym, ap, ap₂, ◌∙◌, subst}
use mathlib.Core.Bool.{Bool, true, false, true≢false}
use mathlib.Core.List.{List, [], ◌∷◌}
use mathlib.Core.Logic.{◌⊎◌, inl, inr}
use mathlib.Core.Option.{Option, none, some}
use Prim.Native.Nat.{ℕ, zero, suc, ◌+◌, ◌≤◌, ◌<◌}
use native.Mathlib.Omega.{arith}
use lib.Dec.{eqb}
use lib.IntN.{ℤ}
use Rattle.asp.specs.Sets.{Set, pick}
use Rattle.asp.specs.Program.{All}
use Rattle.asp.specs.Stable.{keep}
use Rattle.asp.specs.Penalty.{Penalty, charge}
use Rattle.search.specs.Trail.{trail_set, flip}
use Rattle.search.specs.Trail as list
use Rattle.search.specs.Query.{Wanted, Conflict, IsOpen}
use Rattle.search.specs.Query as words
use Rattle.search.specs.Machine.{Verdict, open', conflict, wanted, resume}
use Rattle.search.specs.Machine as machine
use Rattle.search.specs.declared.trail.Places.{Places}
use Rattle.search.specs.declared.trail.Mark.TheVariants.{Decision}
use Rattle.search.specs.Places.{SoundTrail, push_of, back_of, trail_of}
use Rattle.search.specs.Link.{back_state}
use Rattle.search.proofs.Search as search
use Rattle.search.proofs.Steps.{set_is, length_is, back_resumes}
use Rattle.search.proofs.TrailTables.{put_trail}
use Rattle.cores.specs.Soft.{violated, count_by}
use Rattle.cores.specs.Level.{assumed_from, room}
use Rattle.cores.specs.Tables.{level_of}
use Rattle.optimum.specs.Optimize.{open_next, settle, with_core, with_model, after_first, after_work}
use Rattle.optimum.specs.Optimize as abstract
use Rattle.optimum.proofs.Invariant.{first_query, level_query, GoodFull, Inv}
use Rattle.advancing.specs.declared.state.Phase.{Phase}
use Rattle.advancing.specs.declared.state.Phase.TheVariants.{First, Level, Optimum, Incoherent, Full}
use Rattle.advancing.specs.declared.state.Blame.{Blame}
use Rattle.advancing.specs.declared.state.Work.{Work}
use Rattle.advancing.specs.declared.state.Search.{Search}
use Rattle.advancing.specs.declared.state.Turn.{Turn}
use Rattle.advancing.specs.declared.state.Turn.TheVariants.{Going, Without, Model}
use Rattle.advancing.specs.Source.{Levels, Source, penalties_in, rules_in, FormedSource}
use Rattle.advancing.specs.Turn.{QueryTables, query_of, blamed_of, Turned, turned, backed, turn_of, is_going}
use Rattle.advancing.specs.State.{search as searchOf, first_work, fresh_for, is_running}
use Rattle.advancing.specs.Finish.{finish_of}
use Rattle.advancing.specs.Advance.{ended_query, finish_turn, work_query, bumped, advance_of, advances_of, made_by}
use Rattle.advancing.specs.Run.{Reached}
use Rattle.advancing.specs.Facts as facts
use Rattle.advancing.specs.Meaning.{work_of, path_of, meant_by, meant, wishes_by, tests_of}
use Rattle.advancing.specs.Path.{Seeks, question_by, question_of, GoesOn, Adds, Ends, RecordsCore, FindsNone, EndsWithout, EndsWith, CutsTo, PathRules, Exact, counted_by, IsMachine, PassesLimit}
use Rattle.advancing.proofs.Advancing.{rest_advance, rest_made}
use Rattle.advancing.proofs.Verdicts.{seen_by, seen, verdict, verdict_says, turn_seen, turn_good}
use Rattle.advancing.proofs.Classes.{given, costs_at_lem, at_costs, first_answers}
use Rattle.advancing.proofs.Validity.{Valid, ready, answers, is_core, means_level, first_ready, first_blamed, none_assumed, means_first, valid_advance, reached_valid}
use Rattle.advancing.proofs.Exact.{Moved, moved, not_both, verdict_exact}
use Rattle.advancing.proofs.Tests.{wishes_same, level_test, start_test}
use Rattle.advancing.proofs.Reached.{reached_fresh, reached_next}

-- ---- the trail of a query that runs

trail_or : list.Trail → machine.QueryState → list.Trail
trail_or d (machine.running t ms) = t
trail_or d (machine.without ms) = d
trail_or d (machine.model M) = d

-- ---- the path rules, from an exact verdict, the move that it asks for and what the two ends come to

module _ (S : Source) (s : Search) (d : SoundTrail S.n s.trail) (x : Turned) (a : advance_of S s ≡ finish_turn S s.phase (bumped s.advances) s.work x)
    (no_both : Wanted (question_of S s) (path_of s) → ¬ Conflict (question_of S s) (path_of s))
    (without : x.turn ≡ Without → EndsWithout S s.phase s)
    (found : x ≡ turned Model s.trail s.blame → EndsWith S s.phase s (trail_set (path_of s))) where
  abbrev t : Places
  t = s.trail

  -- a turn after which the query goes on
  going : (p : Places) (b : Blame) → x ≡ turned Going p b → {u : list.Trail} → trail_of p ≡ u → GoesOn S s u
  going p b e q =
      let z : advance_of S s ≡ finish_turn S s.phase (bumped s.advances) s.work (turned Going p b) = a ∙ ap (finish_turn S s.phase (bumped s.advances) s.work) e in
      record { path = ap path_of z ∙ q; phase = ap (λ (y : Search). y.phase) z; count = ap (λ (y : Search). y.advances) z; work = ap (λ (y : Search). y.work) z }

  adds : (l : ℤ) → Exact (question_of S s) (path_of s) (open' l) → t.len < 1024 → x ≡ turned Going (push_of l t) s.blame → Adds S s
  adds l k h e = record {
    literal = l;
    atom = k.1;
    undecided = k.2;
    goes_on = going (push_of l t) s.blame e (put_trail l Decision t d.good h);
    blame = ap (λ (y : Search). y.blame) (a ∙ ap (finish_turn S s.phase (bumped s.advances) s.work) e);
  }

  cuts : (c : Blame) → x ≡ backed (back_of t) c → (o : Option list.Trail) → back_state (back_of t) [] ≡ resume o [] → CutsTo S s o
  cuts c e o h = go (eqb (back_of t).len 0) o e h
    where
      go : (z : Bool) (o : Option list.Trail) → x ≡ pick z (turned Without (back_of t) c) (turned Going (back_of t) c)
          → pick z (machine.without []) (machine.running (trail_of (back_of t)) []) ≡ resume o [] → CutsTo S s o
      go true none e h = without (ap (λ (y : Turned). y.turn) e)
      go true (some u) e h = let z : ◌≡◌ {A = ℕ} 0 1 = cc in absurd (omega arith)
      go false none e h = let z : ◌≡◌ {A = ℕ} 0 1 = cc in absurd (omega arith)
      go false (some u) e h = going (back_of t) c e (unfold trail_or in (ap (trail_or u) h))

  rules_by : (v : Verdict) → Exact (question_of S s) (path_of s) v → Moved t s.blame v x → ((l : ℤ) → v ≡ open' l → t.len < 1024) → PathRules S s
  rules_by (open' l) k m h = record {
    places = d;
    one = inr (inr k.0);
    not_both = no_both;
    on_open = λ o. adds l k (h l refl) m;
    on_failed = λ c. absurd (k.0.1 c);
    on_wanted = λ w. absurd (k.0.0 w);
  }
  rules_by (conflict b) k m h = record {
    places = d;
    one = inr (inl k);
    not_both = no_both;
    on_open = λ o. absurd (o.1 k);
    on_failed = λ c. cuts m.0 m.1 (flip (path_of s)) (back_resumes S.n t d []);
    on_wanted = λ w. absurd (no_both w k);
  }
  rules_by wanted k m h = record {
    places = d;
    one = inl k;
    not_both = no_both;
    on_open = λ o. absurd (o.0 k);
    on_failed = λ c. absurd (no_both k c);
    on_wanted = λ w. found m;
  }

-- ---- a question has ended

ends : (S : Source) (s : Search) (x : Turned) → advance_of S s ≡ finish_turn S s.phase (bumped s.advances) s.work x → is_going x.turn ≡ false
    → {z : ℕ → abstract.State} → ((c : ℕ) → meant S.levels (suc c) (advance_of S s) ≡ z (suc c)) → Ends S s z
ends S s x a e h =
    let b : advance_of S s ≡ ended_query (bumped s.advances) (finish_of S.levels s.phase s.work x.trail.value (blamed_of x.blame) x.turn) =
    a ∙ ap (λ (y : Bool). pick y (searchOf s.phase (bumped s.advances) x.trail x.blame s.work) (ended_query (bumped s.advances) (finish_of S.levels s.phase s.work x.trail.value (blamed_of x.blame) x.turn))) e in
    record { path = ap (λ (y : Search). y.trail) b; blame = ap (λ (y : Search). y.blame) b; count = ap (λ (y : Search). y.advances) b; means = h }

-- a path is shorter than its places where a literal is to be added
room_left : (S : Source) → FormedSource S → (t : Places) → SoundTrail S.n t → (P : search.Problem) → P.n ≡ S.n → (v : Verdict) → search.Says P (trail_of t) v → (l : ℤ) → v ≡ open' l
    → t.len < 1024
room_left S f t d P e v h l k = let z : search.Says P (trail_of t) (open' l) = subst (search.Says P (trail_of t)) k h in omega (arith, z.0, e, f.rules.few, length_is S.n t d)

-- ---- a query on a level

module _ (S : Source) (f : FormedSource S) (c k : ℕ) (t : Places) (b : Blame) (w : Work) (v : Valid S c (searchOf Level k t b w)) where
  abbrev s : Search
  s = searchOf Level k t b w

  abbrev L : Levels
  L = S.levels

  abbrev u : list.Trail
  u = trail_of (t)

  abbrev q : QueryTables
  q = work_query w

  abbrev x : Turned
  x = turn_of S q (t) b

  abbrev P : search.Problem
  P = level_query (given S) (work_of L w)

  to : (M : Set) → search.Sought P M → Seeks S Level w M
  to M h = (h.0.0, at_costs S f w.lowers M v.order.figured w.level (omega (arith, v.order.level)) h.0.1, h.1)

  from : (M : Set) → Seeks S Level w M → search.Sought P M
  from M h = ((h.0, costs_at_lem S f w.lowers M w.level h.1), h.2)

  abbrev asks : List ℤ → words.Query
  asks ls = record { n = S.n; rules = rules_in S; wished = ls; Sought = Seeks S Level w }

  wishes_are : q.wished ≡ wishes_by (level_of w.tables) w.stratum
  unfolding query_of
  wishes_are = wishes_same S.n w.tables w.stratum v.order.sound v.order.kinds

  level_exact : Exact (question_by S Level w) u (verdict S q (t) b)
  level_exact =
      subst (λ (ls : List ℤ). Exact (asks ls) u (verdict S q (t) b)) wishes_are
      (verdict_exact (ready S f w v.order) (answers S f w v.order) (Seeks S Level w) to from (t) v.trail v.blame v.inv.trail.assumed)

  level_one : Wanted (question_by S Level w) u → ¬ Conflict (question_by S Level w) u
  level_one =
      subst (λ (ls : List ℤ). Wanted (asks ls) u → ¬ Conflict (asks ls) u) wishes_are
      (not_both (ready S f w v.order) (answers S f w v.order) (Seeks S Level w) to from (t) v.trail)

  level_says : search.Says P u (verdict S q (t) b)
  level_says = verdict_says (ready S f w v.order) (answers S f w v.order) v.blame v.inv.trail.assumed (t) v.trail

  level_good : search.Good P (seen x)
  level_good = turn_good (ready S f w v.order) (answers S f w v.order) v.blame v.inv.trail.assumed (t) v.trail v.inv.trail

  level_after : advance_of S s ≡ finish_turn S Level (bumped k) w x
  unfolding advance_of
  level_after = refl

  level_meant : (n : ℕ) → meant L (suc n) (advance_of S s) ≡ after_work (penalties_in L) (suc n) (work_of L w) (seen x)
  level_meant n = ap (meant L (suc n)) level_after ∙ means_level S f w v.order (suc n) (bumped k) v.inv.work x level_good

  level_without : x.turn ≡ Without → RecordsCore S s
  level_without e =
      let n : search.NoneMeets P (blamed_of x.blame) = subst (λ (y : Turn). search.Good P (seen_by y x.trail x.blame)) e level_good in
      let i = is_core S f w v.order v.inv.work (blamed_of x.blame) n in
      record {
        core = blamed_of x.blame;
        is_core = record {
          some = i.some;
          assumed = i.heavy;
          distinct = i.distinct;
          refuted = λ M m h a. n.none_meets M ((m, costs_at_lem S f w.lowers M w.level h), a);
        };
        ends = ends S s x level_after (ap is_going e) (λ n. level_meant n ∙ ap (λ (y : Turn). after_work (penalties_in L) (suc n) (work_of L w) (seen_by y x.trail x.blame)) e);
      }

  level_found : x ≡ turned Model (t) b → EndsWith S Level s (trail_set u)
  level_found e =
      ends S s x level_after (ap (λ (y : Turned). is_going y.turn) e)
      (λ n. level_meant n ∙ ap (λ (y : Turned). after_work (penalties_in L) (suc n) (work_of L w) (seen y)) e
      ∙ ap (λ (M : Set). settle (suc n) (with_model (penalties_in L) (work_of L w) M)) (set_is S.n (t) v.trail))

  level_rules : PathRules S s
  level_rules =
      rules_by S s v.trail x level_after level_one level_without level_found (verdict S q (t) b) level_exact (moved S q (t) b)
      (room_left S f (t) v.trail P refl (verdict S q (t) b) level_says)

  -- ---- and it is the machine of `optimum`

  level_machine : IsMachine S s
  level_machine = record {
    exact = subst (Exact (question_by S Level w) u) (level_test S f w v.order v.blame (t) v.trail) level_exact;
    advances = λ n.
        level_meant n
        ∙ ap (after_work (penalties_in L) (suc n) (work_of L w)) (turn_seen (ready S f w v.order) v.blame (t) v.trail)
        ∙ ap (λ (y : Verdict). after_work (penalties_in L) (suc n) (work_of L w) (machine.advance_by y u (blamed_of b))) (level_test S f w v.order v.blame (t) v.trail);
  }

-- ---- the first query

module _ (S : Source) (f : FormedSource S) (c k : ℕ) (t : Places) (b : Blame) (v : Valid S c (searchOf First k t b (first_work S.levels))) where
  abbrev s₀ : Search
  s₀ = searchOf First k t b (first_work S.levels)

  abbrev L₀ : Levels
  L₀ = S.levels

  abbrev u₀ : list.Trail
  u₀ = trail_of (t)

  abbrev q₀ : QueryTables
  q₀ = work_query (first_work S.levels)

  abbrev x₀ : Turned
  x₀ = turn_of S q₀ (t) b

  first_exact : Exact (question_by S First (first_work S.levels)) u₀ (verdict S q₀ (t) b)
  unfolding query_of assumed_from keep
  first_exact =
      verdict_exact (first_ready S f) (first_answers S f) (facts.Model S) (λ M h. h.0) (λ M h. (h, λ m a. tt)) (t) v.trail v.blame
      (none_assumed S f v.blame (t) v.trail)

  first_one : Wanted (question_by S First (first_work S.levels)) u₀ → ¬ Conflict (question_by S First (first_work S.levels)) u₀
  unfolding query_of assumed_from keep
  first_one = not_both (first_ready S f) (first_answers S f) (facts.Model S) (λ M h. h.0) (λ M h. (h, λ m a. tt)) (t) v.trail

  first_says : search.Says (first_query (given S)) u₀ (verdict S q₀ (t) b)
  first_says = verdict_says (first_ready S f) (first_answers S f) v.blame (none_assumed S f v.blame (t) v.trail) (t) v.trail

  first_after : advance_of S s₀ ≡ finish_turn S First (bumped k) (first_work S.levels) x₀
  unfolding advance_of
  first_after = refl

  first_meant : (n : ℕ) → meant L₀ (suc n) (advance_of S s₀) ≡ after_first (penalties_in L₀) (suc n) (seen x₀)
  first_meant n = ap (meant L₀ (suc n)) first_after ∙ means_first S f (suc n) (bumped k) x₀

  first_without : x₀.turn ≡ Without → FindsNone S s₀
  first_without e = record {
    none_is =
        subst (Inv (given S)) (first_meant c ∙ ap (λ (y : Turn). after_first (penalties_in L₀) (suc c) (seen_by y x₀.trail x₀.blame)) e)
        (valid_advance S f c s₀ v refl).inv;
    ends = ends S s₀ x₀ first_after (ap is_going e) (λ n. first_meant n ∙ ap (λ (y : Turn). after_first (penalties_in L₀) (suc n) (seen_by y x₀.trail x₀.blame)) e);
  }

  first_found : x₀ ≡ turned Model (t) b → EndsWith S First s₀ (trail_set u₀)
  first_found e =
      ends S s₀ x₀ first_after (ap (λ (y : Turned). is_going y.turn) e)
      (λ n. first_meant n ∙ ap (λ (y : Turned). after_first (penalties_in L₀) (suc n) (seen y)) e
      ∙ ap (λ (M : Set). open_next (suc n) [] [] (penalties_in L₀) M) (set_is S.n (t) v.trail))

  first_rules : PathRules S s₀
  first_rules =
      rules_by S s₀ v.trail x₀ first_after first_one first_without first_found (verdict S q₀ (t) b) first_exact (moved S q₀ (t) b)
      (room_left S f (t) v.trail (first_query (given S)) refl (verdict S q₀ (t) b) first_says)

  first_machine : IsMachine S s₀
  first_machine = record {
    exact = subst (Exact (question_by S First (first_work S.levels)) u₀) (start_test S b (first_blamed S f v.blame) (t) v.trail) first_exact;
    advances = λ n.
        first_meant n
        ∙ ap (after_first (penalties_in L₀) (suc n)) (turn_seen (first_ready S f) v.blame (t) v.trail)
        ∙ ap₂ (λ (y : Verdict) (ms : List ℕ). after_first (penalties_in L₀) (suc n) (machine.advance_by y u₀ ms)) (start_test S b (first_blamed S f v.blame) (t) v.trail) (first_blamed S f v.blame);
  }

-- ---- of a valid state

rules_at : (S : Source) → FormedSource S → (p : Phase) (c k : ℕ) (t : Places) (b : Blame) (w : Work) → Valid S c (searchOf p k t b w) → is_running p ≡ true → PathRules S (searchOf p k t b w)
rules_at S f First c k t b w v r =
    subst (λ (y : Work). PathRules S (searchOf First k t b y)) (sym v.order) (first_rules S f c k t b (subst (λ (y : Work). Valid S c (searchOf First k t b y)) v.order v))
rules_at S f Level c k t b w v r = level_rules S f c k t b w v
rules_at S f Optimum c k t b w v r = let z : ◌≡◌ {A = ℕ} 0 1 = cc in absurd (omega arith)
rules_at S f Incoherent c k t b w v r = let z : ◌≡◌ {A = ℕ} 0 1 = cc in absurd (omega arith)
rules_at S f Full c k t b w v r = let z : ◌≡◌ {A = ℕ} 0 1 = cc in absurd (omega arith)

machine_at : (S : Source) → FormedSource S → (p : Phase) (c k : ℕ) (t : Places) (b : Blame) (w : Work) → Valid S c (searchOf p k t b w) → IsMachine S (searchOf p k t b w)
unfolding advance_of
machine_at S f First c k t b w v =
    subst (λ (y : Work). IsMachine S (searchOf First k t b y)) (sym v.order) (first_machine S f c k t b (subst (λ (y : Work). Valid S c (searchOf First k t b y)) v.order v))
machine_at S f Level c k t b w v = level_machine S f c k t b w v
machine_at S f Optimum c k t b w v = record { exact = tt; advances = λ n. refl }
machine_at S f Incoherent c k t b w v = record { exact = tt; advances = λ n. refl }
machine_at S f Full c k t b w v = record { exact = tt; advances = λ n. refl }

-- "If a core would pass either, it isn't recorded and the status is full": there is one that would
full_at : (S : Source) → FormedSource S → (w : Work) → GoodFull (given S) (work_of S.levels w) → PassesLimit S w
full_at S f w g = record {
  core = g.core;
  is_core = record {
    some = g.is_core.some;
    assumed = g.is_core.heavy;
    distinct = g.is_core.distinct;
    refuted = λ M m h a. none_violated (violated M (level_of w.tables).kinds (level_of w.tables).cores) g.core a (g.is_core.refuted M (m, costs_at_lem S f w.lowers M w.level h));
  };
  passes = g.passes;
}
  where
    none_violated : (U : ℕ → Bool) (ms : List ℕ) → All (λ m. U m ≡ false) ms → 1 ≤ count_by U ms → ⊥
    none_violated U [] a h = omega arith
    none_violated U (m ∷ ms) a h = let k : 1 ≤ 0 + count_by U ms = rw a.0 at h in none_violated U ms a.1 (omega arith)

-- ---- of a reached state

valid_at : {S : Source} {s : Search} → (r : Reached S s) → Valid S (made_by S r.made (fresh_for S.levels)) s
valid_at {S} {s} r = subst (Valid S (made_by S r.made (fresh_for S.levels))) (sym r.is) (reached_valid S r.source r.made)

-- THE PATH RULES HOLD OF EVERY ADVANCE
pub path_rules : {S : Source} {s : Search} → Reached S s → is_running s.phase ≡ true → PathRules S s
path_rules {S} {s} r e = rules_at S r.source s.phase (made_by S r.made (fresh_for S.levels)) s.advances s.trail s.blame s.work (valid_at r) e

-- EVERY ADVANCE IS ONE OF THE MACHINE OF `optimum`
pub is_machine : {S : Source} {s : Search} → Reached S s → IsMachine S s
is_machine {S} {s} r = machine_at S r.source s.phase (made_by S r.made (fresh_for S.levels)) s.advances s.trail s.blame s.work (valid_at r)

-- A FULL STATE HAS A CORE THAT WOULD PASS A LIMIT
pub full_core : {S : Source} {s : Search} → Reached S s → s.phase ≡ Full → PassesLimit S s.work
full_core {S} {s} r e =
    full_at S r.source s.work (subst (λ (p : Phase). Inv (given S) (meant_by S.levels (made_by S r.made (fresh_for S.levels)) p (path_of s) (blamed_of s.blame) s.work)) e (valid_at r).inv)

-- "If none, a core is recorded": the core of an advance that ends a level's question without a model
pub core_recorded : {S : Source} {s : Search} → Reached S s → s.phase ≡ Level → Conflict (question_of S s) (path_of s) → flip (path_of s) ≡ none → RecordsCore S s
core_recorded {S} {s} r e h n =
    subst (λ (p : Phase). EndsWithout S p s) e (subst (CutsTo S s) n ((path_rules r (ap is_running e)).on_failed h))

-- ---- AN ADVANCE ENDS IN FULL ONLY BY SUCH A CORE

abbrev is_full : abstract.State → ℕ
is_full (abstract.first c t) = 0
is_full (abstract.working c w t ms) = 0
is_full (abstract.optimum c past settled M) = 0
is_full (abstract.incoherent c) = 0
is_full (abstract.full c w) = 1

open_full : (c : ℕ) (past : List (List Penalty)) (bs : List ℕ) (later : List (List Penalty)) (M : Set) → is_full (open_next c past bs later M) ≡ 0
open_full c past bs [] M = refl
open_full c past bs (l ∷ later) M =
    elim (eqb (charge M l) 0) as (λ b. is_full (pick b (open_next c (l ∷ past) (0 ∷ bs) later M) (abstract.working c (abstract.begun past bs l later M) [] [])) ≡ 0)
    [ true ↦ open_full c (l ∷ past) (0 ∷ bs) later M | false ↦ refl ]

settle_full : (c : ℕ) (w : abstract.Work) → is_full (settle c w) ≡ 0
settle_full c w =
    elim (eqb (charge w.best w.level) w.tables.lower)
    as (λ b. is_full (pick b (open_next c (w.level ∷ w.past) (w.tables.lower ∷ w.settled) w.later w.best) (abstract.working c w [] [])) ≡ 0)
    [ true ↦ open_full c (w.level ∷ w.past) (w.tables.lower ∷ w.settled) w.later w.best | false ↦ refl ]

module _ (S : Source) (s : Search) (e : (advance_of S s).phase ≡ Full) where
  full_meant : {x : ℕ → abstract.State} → Ends S s x → is_full (x 1) ≡ 1
  full_meant h = ap is_full (sym (h.means 0)) ∙ ap (λ (p : Phase). is_full (meant_by S.levels 1 p (path_of (advance_of S s)) (blamed_of (advance_of S s).blame) (advance_of S s).work)) e

  no_going : {t : list.Trail} → is_running s.phase ≡ true → GoesOn S s t → ⊥
  no_going r h = true≢false (sym r ∙ ap is_running (sym h.phase ∙ e))

  no_model_lem : (p : Phase) (M : Set) → EndsWith S p s M → ⊥
  no_model_lem First M h = omega (arith, full_meant h, open_full 1 [] [] (penalties_in S.levels) M)
  no_model_lem Level M h = omega (arith, full_meant h, settle_full 1 (with_model (penalties_in S.levels) (work_of S.levels s.work) M))
  no_model_lem Optimum M h = h
  no_model_lem Incoherent M h = h
  no_model_lem Full M h = h

  too_many : (p : Phase) → EndsWithout S p s → PassesLimit S s.work
  too_many First h = absurd (omega (arith, full_meant h.ends))
  too_many Level h = record { core = h.core; is_core = h.is_core; passes = go (room (level_of s.work.tables) h.core) (full_meant h.ends) }
    where
      go : (b : Bool) → is_full (pick b (settle 1 (with_core (work_of S.levels s.work) h.core)) (abstract.full 1 (work_of S.levels s.work))) ≡ 1 → b ≡ false
      go true k = absurd (omega (arith, k, settle_full 1 (with_core (work_of S.levels s.work) h.core)))
      go false k = refl
  too_many Optimum h = absurd h
  too_many Incoherent h = absurd h
  too_many Full h = absurd h

  cut_full : is_running s.phase ≡ true → (o : Option list.Trail) → CutsTo S s o → PassesLimit S s.work
  cut_full r none h = too_many s.phase h
  cut_full r (some t) h = absurd (no_going r h)

pub advance_full : {S : Source} {s : Search} → Reached S s → is_running s.phase ≡ true → (advance_of S s).phase ≡ Full → PassesLimit S s.work
advance_full {S} {s} r k e = go (path_rules r k).one
  where
    go : Wanted (question_of S s) (path_of s) ⊎ (Conflict (question_of S s) (path_of s) ⊎ IsOpen (question_of S s) (path_of s)) → PassesLimit S s.work
    go (inl w) = absurd (no_model_lem S s e s.phase (trail_set (path_of s)) ((path_rules r k).on_wanted w))
    go (inr (inl c)) = cut_full S s e k (flip (path_of s)) ((path_rules r k).on_failed c)
    go (inr (inr o)) = absurd (no_going S s e k ((path_rules r k).on_open o).goes_on)

-- ---- after any number of advances

module _ (S : Source) where
  abbrev stepped : abstract.State → abstract.State
  stepped = abstract.advance (penalties_in S.levels) (tests_of S)

  abbrev repeated : ℕ → abstract.State → abstract.State
  repeated zero x = x
  repeated (suc k) x = repeated k (stepped x)

  repeated_after : (k j : ℕ) → repeated k (abstract.after (penalties_in S.levels) (tests_of S) j) ≡ abstract.after (penalties_in S.levels) (tests_of S) (j + k)
  repeated_after zero j = let e : j ≡ j + 0 = omega arith in ap (abstract.after (penalties_in S.levels) (tests_of S)) e
  repeated_after (suc k) j = let e : suc j + k ≡ j + suc k = omega arith in repeated_after k (suc j) ∙ ap (abstract.after (penalties_in S.levels) (tests_of S)) e

  -- the count of the advances made
  count_by_lem : (p : Phase) (k c : ℕ) (s : Search) → s.phase ≡ p → c + pick (is_running p) (suc (made_by S k (advance_of S s))) 0 ≡ counted_by p c + made_by S k (advance_of S s)
  count_by_lem First k c s e = omega arith
  count_by_lem Level k c s e = omega arith
  count_by_lem Optimum k c s e = omega (arith, ap (made_by S k) (rest_advance S s (ap is_running e)) ∙ rest_made S k s (ap is_running e))
  count_by_lem Incoherent k c s e = omega (arith, ap (made_by S k) (rest_advance S s (ap is_running e)) ∙ rest_made S k s (ap is_running e))
  count_by_lem Full k c s e = omega (arith, ap (made_by S k) (rest_advance S s (ap is_running e)) ∙ rest_made S k s (ap is_running e))

  meant_from : (k c : ℕ) (s : Search) → Reached S s → meant S.levels (c + made_by S k s) (advances_of S k s) ≡ repeated k (meant S.levels c s)
  unfolding advances_of made_by
  meant_from zero c s r = let e : c + 0 ≡ c = omega arith in ap (λ (n : ℕ). meant S.levels n s) e
  meant_from (suc k) c s r =
      ap (λ (n : ℕ). meant S.levels n (advances_of S k (advance_of S s))) (count_by_lem s.phase k c s refl)
      ∙ meant_from k (counted_by s.phase c) (advance_of S s) (reached_next r refl)
      ∙ ap (repeated k) ((is_machine r).advances c)

-- THE STATE AFTER k ADVANCES MEANS THAT OF THE MACHINE OF `optimum` AFTER k ADVANCES
pub meant_after : (S : Source) → FormedSource S → (k : ℕ) → meant S.levels (made_by S k (fresh_for S.levels)) (advances_of S k (fresh_for S.levels)) ≡ abstract.after (penalties_in S.levels) (tests_of S) k
meant_after S f k =
    let e : made_by S k (fresh_for S.levels) ≡ 0 + made_by S k (fresh_for S.levels) = omega arith in
    let z : 0 + k ≡ k = omega arith in
    ap (λ (n : ℕ). meant S.levels n (advances_of S k (fresh_for S.levels))) e ∙ meant_from S k 0 (fresh_for S.levels) (reached_fresh f refl) ∙ repeated_after S k 0
    ∙ ap (abstract.after (penalties_in S.levels) (tests_of S)) z
