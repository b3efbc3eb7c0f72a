-- A turn on the tables is a step of the machine over trails, and what its verdict says of the trail. Assumes nothing.
use mathlib.Core.Path.{◌≡◌, refl, sym, ap, ◌∙◌, subst}
use mathlib.Core.Bool.{Bool, true, false, true≢false}
use mathlib.Core.List.{List, [], ◌∷◌, ◌++◌}
use mathlib.Core.Option.{Option, none, some}
use Prim.Native.Nat.{ℕ, ◌-◌, ◌≤◌, ◌<◌}
use lib.Dec.{T, eqb}
use lib.IntN.{pos}
use lib.ListN.{length, get_or, set}
use borrow.Author.Tests.{eqb-false}
use Rattle.std.specs.Prelude as rust
use Rattle.asp.specs.Sets.{Set, set_of, Only, pick}
use Rattle.asp.specs.Program.{All}
use Rattle.asp.specs.Stable.{member, holds}
use Rattle.search.specs.Trail.{Trail, trail_set}
use Rattle.search.specs.Query.{HoldsAll}
use Rattle.search.specs.Machine.{Verdict, conflict, wanted}
use Rattle.search.specs.Machine as machine
use Rattle.search.specs.declared.trail.Places.{Places}
use Rattle.search.specs.Places.{SoundTrail, back_of, trail_of}
use Rattle.search.specs.Step.{test_of}
use Rattle.search.specs.Link.{verdict_of, back_state}
use Rattle.search.specs.declared.step.Tested.{Tested}
use Rattle.search.specs.declared.step.Tested.TheVariants.{RuleBroken, Full, SoftViolated, Open}
use Rattle.search.proofs.Search as search
use Rattle.search.proofs.Unbroken.{NoneBroken}
use Rattle.search.proofs.Agree.{set_only}
use Rattle.search.proofs.Steps.{set_is, back_advances, push_advances, open_short, test_says, test_right, full_dead}
use Rattle.cores.specs.Judging.{violated_at, first_violated}
use Rattle.cores.proofs.Kept.{all_met, one_violated}
use Rattle.advancing.specs.declared.state.Blame.{Blame}
use Rattle.advancing.specs.declared.state.Turn.{Turn}
use Rattle.advancing.specs.declared.state.Turn.TheVariants.{Going, Without, Model}
use Rattle.advancing.specs.declared.state.Judgement.{Judgement}
use Rattle.advancing.specs.declared.state.Judgement.TheVariants.{Wanted, Dead, Violated}
use Rattle.advancing.specs.Source.{Source, rules_in, rule_tables}
use Rattle.advancing.specs.Turn.{QueryTables, blame_tables, blamed_of, blame_entry, blame_place, flagged, in_class, soft_or_wanted, judge_full, Turned, turned, backed, judged_turn, turn_by, assumed_by, turn_of}
use Rattle.advancing.specs.Ready.{softs, ReadyQuery, GoodBlame}
use Rattle.advancing.proofs.Stepping.{drop_front, blame_room, entry_room, violated_in_lem, soft_formed, violated_entry}

-- ---- what a turn came to, as a state of the machine over trails

abbrev pub seen_by : Turn → Places → Blame → machine.QueryState
seen_by Going t b = machine.running (trail_of t) (blamed_of b)
seen_by Without t b = machine.without (blamed_of b)
seen_by Model t b = machine.model (set_of t.value)

abbrev pub seen : Turned → machine.QueryState
seen x = seen_by x.turn x.trail x.blame

abbrev pub verdict_by : Judgement → Verdict
verdict_by Wanted = wanted
verdict_by Dead = conflict none
verdict_by (Violated p) = conflict (some p)

abbrev pub name_of : QueryTables → ℕ → ℕ
name_of q i = get_or q.places i 0

-- the verdict on the trail
abbrev pub verdict : Source → QueryTables → Places → Blame → Verdict
verdict S q t b =
    verdict_of (name_of q) (verdict_by (judge_full S q (blamed_of b) t.value)) (test_of (rule_tables S) S.n (assumed_by S q b) t.value t.len)

-- ---- what is blamed, as a list

module _ {S : Source} {q : QueryTables} {b : Blame} (r : ReadyQuery S q) (g : GoodBlame q b) where
  in_front : (p : ℕ) (fs : List ℕ) → 1 ≤ b.from → blamed_of (blame_tables fs (set b.core (b.from - 1) p) (b.from - 1)) ≡ p ∷ blamed_of b
  in_front p fs h = drop_front b.core b.from p h (rw g.core_len g.from_in)

  entry_blamed : (i : ℕ) → i < length q.places → blamed_of (blame_entry q.places i b) ≡ machine.blame (some (name_of q i)) (blamed_of b)
  entry_blamed i h = go (eqb (get_or b.flags i 0) 1) refl
    where
      go : (x : Bool) → eqb (get_or b.flags i 0) 1 ≡ x
          → blamed_of (pick x b (blame_tables (set b.flags i 1) (set b.core (b.from - 1) (get_or q.places i 0)) (b.from - 1))) ≡ machine.blame (some (name_of q i)) (blamed_of b)
      go true e = rw (sym (g.flags i h) ∙ e) refl
      go false e = rw (sym (g.flags i h) ∙ e) (in_front (get_or q.places i 0) (set b.flags i 1) (entry_room r g i h (eqb-false (get_or b.flags i 0) 1 e)))

  place_blamed : (p : ℕ) → p < softs q → blamed_of (blame_place q.places p b) ≡ machine.blame (some p) (blamed_of b)
  place_blamed p h = go (member p (blamed_of b)) refl
    where
      go : (x : Bool) → member p (blamed_of b) ≡ x
          → blamed_of (pick x b (blame_tables (flagged p 0 q.places b.flags) (set b.core (b.from - 1) p) (b.from - 1))) ≡ pick x (blamed_of b) (p ∷ blamed_of b)
      go true e = refl
      go false e = in_front p (flagged p 0 q.places b.flags) (blame_room r g p h e)

  -- ---- a turn is a step of the machine

  module _ (t : Places) (d : SoundTrail S.n t) where
    abbrev u : Trail
    u = trail_of t

    abbrev tested : Tested
    tested = test_of (rule_tables S) S.n (assumed_by S q b) t.value t.len

    backed_seen : (c : Blame) → seen (backed (back_of t) c) ≡ back_state (back_of t) (blamed_of c)
    backed_seen c = elim (eqb (back_of t).len 0) as (λ x. seen (pick x (turned Without (back_of t) c) (turned Going (back_of t) c)) ≡ pick x (machine.without (blamed_of c)) (machine.running (trail_of (back_of t)) (blamed_of c))) [ true ↦ refl | false ↦ refl ]

    cut_seen : (c : Blame) (o : Option ℕ) → blamed_of c ≡ machine.blame o (blamed_of b) → seen (backed (back_of t) c) ≡ machine.advance_by (conflict o) u (blamed_of b)
    cut_seen c o e = backed_seen c ∙ ap (back_state (back_of t)) e ∙ back_advances S.n t d o (blamed_of b)

    judged_seen : (j : Judgement) → j ≡ judge_full S q (blamed_of b) t.value → seen (judged_turn q t b j) ≡ machine.advance_by (verdict_by j) u (blamed_of b)
    judged_seen Wanted e = ap machine.model (set_is S.n t d)
    judged_seen Dead e = cut_seen b none refl
    judged_seen (Violated p) e = cut_seen (blame_place q.places p b) (some p) (place_blamed p (violated_in_lem r g t.value e))

    pub turn_seen : seen (turn_of S q t b) ≡ machine.advance_by (verdict S q t b) u (blamed_of b)
    unfolding turn_of
    turn_seen = go tested refl
      where
        go : (y : Tested) → tested ≡ y → seen (turn_by S q t b y) ≡ machine.advance_by (verdict_of (name_of q) (verdict_by (judge_full S q (blamed_of b) t.value)) y) u (blamed_of b)
        go (RuleBroken k) e = cut_seen b none refl
        go Full e = judged_seen (judge_full S q (blamed_of b) t.value) refl
        go (SoftViolated i) e = cut_seen (blame_entry q.places i b) (some (name_of q i)) (entry_blamed i (violated_entry r g t d e))
        go (Open l) e = push_advances S.n t d l (blamed_of b) (open_short S.n S.pool S.rows S.rulecount r.source.rules (assumed_by S q b) (soft_formed r g) t d l e)

-- ---- what the verdict says, for the class of sets that a query is about

-- the query's tables answer for a class, what is assumed and what meets it
pub record Answers (S : Source) (q : QueryTables) (Class : Set → Type 0) (Assumes : ℕ → Type 0) (Meets : Set → ℕ → Type 0) : Type 0 where
  pub class_yes : (M : Set) → Only S.n M → in_class S q.level q.lowers M ≡ true → Class M
  pub class_no : (M : Set) → Class M → in_class S q.level q.lowers M ≡ true
  pub only : (M : Set) → Class M → Only S.n M
  pub unbroken : (M : Set) → Class M → NoneBroken (rules_in S) M
  -- the soft literals of entries that it assumes
  pub entries : (i : ℕ) → i < length q.wished → Assumes (name_of q i)
  pub wishes : (M : Set) (i : ℕ) → i < length q.wished → Meets M (name_of q i) → T (holds M (get_or q.wished i (pos 0)))
  -- all that it assumes
  pub each : All Assumes q.assumed
  pub every : (M : Set) → All (λ p. violated_at q.judging M p ≡ false) q.assumed → (m : ℕ) → Assumes m → Meets M m
  pub unmet : (M : Set) (m : ℕ) → Assumes m → violated_at q.judging M m ≡ true → Meets M m → ⊥

all_second : (P : ℕ → Type 0) (xs ys : List ℕ) → All P (xs ++ ys) → All P ys
all_second P [] ys a = a
all_second P (x ∷ xs) ys a = all_second P xs ys a.1

all_join : (P : ℕ → Type 0) (xs ys : List ℕ) → All P xs → All P ys → All P (xs ++ ys)
all_join P [] ys a b = b
all_join P (x ∷ xs) ys a b = (a.0, all_join P xs ys a.1 b)

module _ {S : Source} {q : QueryTables} (r : ReadyQuery S q) {Class : Set → Type 0} {Assumes : ℕ → Type 0} {Meets : Set → ℕ → Type 0} (f : Answers S q Class Assumes Meets) where
  abbrev pub problem_of : search.Problem
  problem_of = record { n = S.n; Class = Class; Assumed = Assumes; Met = Meets }

  module _ {b : Blame} (g : GoodBlame q b) (a : All Assumes (blamed_of b)) (t : Places) (d : SoundTrail S.n t) where
    abbrev X : Tested
    X = test_of (rule_tables S) S.n (assumed_by S q b) t.value t.len

    abbrev found : Set
    found = trail_set (trail_of t)

    abbrev list : List ℕ
    list = blamed_of b ++ q.assumed

    set_same : set_of t.value ≡ found
    set_same = set_is S.n t d

    only_set : Only S.n found
    only_set = set_only S.n (trail_of t) d.formed

    full_says : X ≡ Full → search.Says problem_of (trail_of t) (verdict_by (judge_full S q (blamed_of b) t.value))
    full_says e = subst (λ (M : Set). search.Says problem_of (trail_of t) (verdict_by (pick (in_class S q.level q.lowers M) (soft_or_wanted (first_violated (violated_at q.judging M) list)) Dead))) (sym set_same) (go (in_class S q.level q.lowers found) refl)
      where
        full : HoldsAll S.n (trail_of t)
        full = let z = rw e at (test_says S.n S.pool S.rows S.rulecount r.source.rules (assumed_by S q b) (soft_formed r g) t d) in z.0

        dead : (Goal : Set → Type 0) → ((M : Set) → Goal M → Only S.n M) → (¬ Goal found) → search.Dead Goal (trail_of t)
        dead = full_dead S.n (trail_of t) d.formed full

        soft : in_class S q.level q.lowers found ≡ true → (j : rust.Option ℕ) → first_violated (violated_at q.judging found) list ≡ j → search.Says problem_of (trail_of t) (verdict_by (soft_or_wanted j))
        soft c rust.None k = (f.class_yes found only_set c, f.every found (all_second (λ p. violated_at q.judging found p ≡ false) (blamed_of b) q.assumed (all_met (violated_at q.judging found) list k)))
        soft c (rust.Some p) k =
            let z = one_violated (violated_at q.judging found) list p k in
            let as' = z.1 Assumes (all_join Assumes (blamed_of b) q.assumed a f.each) in
            (as', dead (λ M. Class M × Meets M p) (λ M c. f.only M c.0) (λ c. f.unmet found p as' z.0 c.1))

        go : (x : Bool) → in_class S q.level q.lowers found ≡ x → search.Says problem_of (trail_of t) (verdict_by (pick x (soft_or_wanted (first_violated (violated_at q.judging found) list)) Dead))
        go true c = soft c (first_violated (violated_at q.judging found) list) refl
        go false c = dead Class f.only (λ k. true≢false (sym (f.class_no found k) ∙ c))

    -- THE VERDICT IS RIGHT
    pub verdict_says : search.Says problem_of (trail_of t) (verdict S q t b)
    verdict_says =
        test_right S.n S.pool S.rows S.rulecount r.source.rules (assumed_by S q b) (soft_formed r g) t d Class Assumes Meets (name_of q) f.unbroken f.entries f.wishes
        (verdict_by (judge_full S q (blamed_of b) t.value)) full_says

    -- so a turn keeps the invariant of the search
    pub turn_good : search.GoodTrail problem_of (trail_of t) (blamed_of b) → search.Good problem_of (seen (turn_of S q t b))
    turn_good k = subst (search.Good problem_of) (sym (turn_seen r g t d)) (search.good_advance problem_of (trail_of t) (blamed_of b) (verdict S q t b) verdict_says k)
