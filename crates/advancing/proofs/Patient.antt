-- A model takes more advances than there are atoms: each advance adds one literal at most, and a model has them all. Assumes nothing.
use mathlib.Core.Path.{◌≡◌, refl, sym, ap, ◌∙◌, subst}
use mathlib.Core.Bool.{Bool, true, false}
use Prim.Native.Nat.{ℕ, zero, suc, ◌+◌, ◌≤◌, ◌<◌, zero-le}
use native.Mathlib.Omega.{arith}
use lib.Dec.{eqb}
use lib.IntN.{ℤ, pos, neg_ℤ}
use lib.ListN.{get_or}
use Rattle.asp.specs.Sets.{pick}
use Rattle.search.specs.declared.trail.Places.{Places}
use Rattle.search.specs.declared.trail.Mark.{Mark}
use Rattle.search.specs.declared.trail.Mark.TheVariants.{Free, Flipped}
use Rattle.search.specs.Places.{is_decision, put_of, push_of, drop_of, back_from, back_of}
use Rattle.search.specs.Scan.{scan_of}
use Rattle.search.specs.Step.{test_of}
use Rattle.search.specs.declared.step.Tested.{Tested}
use Rattle.search.specs.declared.step.Tested.TheVariants.{RuleBroken, Full, SoftViolated, Open}
use Rattle.search.proofs.StepLaws.{Told, told}
use Rattle.advancing.specs.declared.state.Phase.{Phase}
use Rattle.advancing.specs.declared.state.Phase.TheVariants.{First, Level, Optimum, Incoherent, Full as FullPhase}
use Rattle.advancing.specs.declared.state.Blame.{Blame}
use Rattle.advancing.specs.declared.state.Work.{Work}
use Rattle.advancing.specs.declared.state.Search.{Search}
use Rattle.advancing.specs.declared.state.Turn.{Turn}
use Rattle.advancing.specs.declared.state.Turn.TheVariants.{Going, Without, Model}
use Rattle.advancing.specs.declared.state.Judgement.{Judgement}
use Rattle.advancing.specs.declared.state.Judgement.TheVariants.{Wanted, Dead, Violated}
use Rattle.advancing.specs.Source.{Source, rule_tables}
use Rattle.advancing.specs.Turn.{QueryTables, blamed_of, blame_entry, blame_place, judge_full, Turned, turned, backed, judged_turn, turn_by, assumed_by, turn_of}
use Rattle.advancing.specs.State.{search as searchOf, fresh_for, is_running}
use Rattle.advancing.specs.Finish.{Placed, finish_of}
use Rattle.advancing.specs.Advance.{ended_query, after_turns, finish_turn, work_query, bumped, advance_of, advances_of, made_by}
use Rattle.advancing.specs.Facts.{has_model}
use Rattle.advancing.proofs.Advancing.{rest_advance, rest_advances}

-- ---- a turn adds one literal at most

back_len : (k : ℕ) (t : Places) → t.len ≡ k → (back_from k t).len ≤ k
unfolding back_from drop_of put_of
back_len zero t e = omega arith
back_len (suc k) t e = go (is_decision (get_or t.marks k Free)) (back_len k (drop_of k t) refl)
  where
    go : (b : Bool) → (back_from k (drop_of k t)).len ≤ k → (pick b (put_of (neg_ℤ (get_or t.lits k (pos 0))) Flipped (drop_of k t)) (back_from k (drop_of k t))).len ≤ suc k
    go true h = omega arith
    go false h = omega arith

-- the trail after a turn from t, and a model only from a full one
pub record Adds (n : ℕ) (t : Places) (x : Turned) : Type 0 where
  pub one : x.trail.len ≤ suc t.len
  pub all : x.turn ≡ Model → n ≤ t.len

backed_adds : (n : ℕ) (t : Places) (b : Blame) → Adds n t (backed (back_of t) b)
backed_adds n t b = go (eqb (back_of t).len 0) (back_len t.len t refl)
  where
    go : (x : Bool) → (back_of t).len ≤ t.len → Adds n t (pick x (turned Without (back_of t) b) (turned Going (back_of t) b))
    go true h = record { one = omega arith; all = λ e. let z : ◌≡◌ {A = ℕ} 0 1 = cc in absurd (omega arith) }
    go false h = record { one = omega arith; all = λ e. let z : ◌≡◌ {A = ℕ} 0 1 = cc in absurd (omega arith) }

judged_adds : (n : ℕ) (q : QueryTables) (t : Places) (b : Blame) (j : Judgement) → n ≤ t.len → Adds n t (judged_turn q t b j)
judged_adds n q t b Wanted h = record { one = omega arith; all = λ e. h }
judged_adds n q t b Dead h = backed_adds n t b
judged_adds n q t b (Violated p) h = backed_adds n t (blame_place q.places p b)

push_adds : (n : ℕ) (t : Places) (b : Blame) (l : ℤ) → Adds n t (turned Going (push_of l t) b)
unfolding put_of
push_adds n t b l = record { one = omega arith; all = λ e. let z : ◌≡◌ {A = ℕ} 0 1 = cc in absurd (omega arith) }

turn_adds : (S : Source) (q : QueryTables) (t : Places) (b : Blame) → Adds S.n t (turn_of S q t b)
unfolding turn_of
turn_adds S q t b = go (test_of (rule_tables S) S.n (assumed_by S q b) t.value t.len) (told (rule_tables S) S.n (assumed_by S q b) t.value t.len)
  where
    go : (y : Tested) → Told S.n (assumed_by S q b) t.value t.len (scan_of (rule_tables S) t.value) y → Adds S.n t (turn_by S q t b y)
    go (RuleBroken r) w = backed_adds S.n t b
    go Full w = judged_adds S.n q t b (judge_full S q (blamed_of b) t.value) w.1
    go (SoftViolated i) w = backed_adds S.n t (blame_entry q.places i b)
    go (Open l) w = push_adds S.n t b l

-- ---- after c advances

pub record Patient (S : Source) (c : ℕ) (s : Search) : Type 0 where
  pub trail : s.phase ≡ First → s.trail.len ≤ c
  pub model : has_model s.phase ≡ true → S.n < c

ended_patient : (S : Source) (c k : ℕ) (x : Placed) → (has_model x.phase ≡ true → S.n < c) → Patient S c (ended_query k x)
ended_patient S c k x h = record { trail = λ e. zero-le; model = h }

first_next : (S : Source) (c k : ℕ) (w : Work) (x : Turned) → x.trail.len ≤ suc c → (x.turn ≡ Model → S.n ≤ c) → Patient S (suc c) (finish_turn S First k w x)
first_next S c k w x l h = go x.turn h
  where
    go : (y : Turn) → (y ≡ Model → S.n ≤ c) → Patient S (suc c) (after_turns S.levels First k w (turned y x.trail x.blame))
    go Going h = record { trail = λ e. l; model = λ e. let z : ◌≡◌ {A = ℕ} 0 1 = cc in absurd (omega arith) }
    go Without h = record { trail = λ e. zero-le; model = λ e. let z : ◌≡◌ {A = ℕ} 0 1 = cc in absurd (omega arith) }
    go Model h = ended_patient S (suc c) k (finish_of S.levels First w x.trail.value (blamed_of x.blame) Model) (λ e. omega (arith, h refl))

level_next : (S : Source) (c k : ℕ) (w : Work) (x : Turned) → S.n < c → Patient S (suc c) (finish_turn S Level k w x)
level_next S c k w x h = go x.turn
  where
    go : (y : Turn) → Patient S (suc c) (after_turns S.levels Level k w (turned y x.trail x.blame))
    go Going = record { trail = λ e. let z : ◌≡◌ {A = ℕ} 0 1 = cc in absurd (omega arith); model = λ e. omega arith }
    go Without = ended_patient S (suc c) k (finish_of S.levels Level w x.trail.value (blamed_of x.blame) Without) (λ e. omega arith)
    go Model = ended_patient S (suc c) k (finish_of S.levels Level w x.trail.value (blamed_of x.blame) Model) (λ e. omega arith)

advance_by_lem : (S : Source) (p : Phase) (c k : ℕ) (t : Places) (b : Blame) (w : Work) → Patient S c (searchOf p k t b w) → is_running p ≡ true → Patient S (suc c) (advance_of S (searchOf p k t b w))
unfolding advance_of
advance_by_lem S First c k t b w v r =
    let a = turn_adds S (work_query w) (t) b in
    first_next S c (bumped k) w (turn_of S (work_query w) (t) b) (omega (arith, a.one, v.trail refl)) (λ e. omega (arith, a.all e, v.trail refl))
advance_by_lem S Level c k t b w v r = level_next S c (bumped k) w (turn_of S (work_query w) (t) b) (v.model refl)
advance_by_lem S Optimum c k t b w v r = let z : ◌≡◌ {A = ℕ} 0 1 = cc in absurd (omega arith)
advance_by_lem S Incoherent c k t b w v r = let z : ◌≡◌ {A = ℕ} 0 1 = cc in absurd (omega arith)
advance_by_lem S FullPhase c k t b w v r = let z : ◌≡◌ {A = ℕ} 0 1 = cc in absurd (omega arith)

patient_after : (S : Source) (k c : ℕ) (s : Search) → Patient S c s → Patient S (c + made_by S k s) (advances_of S k s)
unfolding advances_of made_by
patient_after S zero c s v = let e : c ≡ c + 0 = omega arith in subst (λ (n : ℕ). Patient S n s) e v
patient_after S (suc k) c s v = go (is_running s.phase) refl (λ r. patient_after S k (suc c) (advance_of S s) (advance_by_lem S s.phase c s.advances s.trail s.blame s.work v r))
  where
    go : (x : Bool) → is_running s.phase ≡ x → (is_running s.phase ≡ true → Patient S (suc c + made_by S k (advance_of S s)) (advances_of S k (advance_of S s)))
        → Patient S (c + pick x (suc (made_by S k (advance_of S s))) 0) (advances_of S k (advance_of S s))
    go true r h = let e : suc c + made_by S k (advance_of S s) ≡ c + suc (made_by S k (advance_of S s)) = omega arith in subst (λ (n : ℕ). Patient S n (advances_of S k (advance_of S s))) e (h r)
    go false r h =
        let e : c ≡ c + 0 = omega arith in
        subst (λ (x : Search). Patient S (c + 0) x) (sym (ap (advances_of S k) (rest_advance S s r) ∙ rest_advances S k s r)) (subst (λ (n : ℕ). Patient S n s) e v)

-- A MODEL TAKES MORE THAN n ADVANCES
pub reached_patient : (S : Source) (k : ℕ) → Patient S (made_by S k (fresh_for S.levels)) (advances_of S k (fresh_for S.levels))
reached_patient S k =
    let e : 0 + made_by S k (fresh_for S.levels) ≡ made_by S k (fresh_for S.levels) = omega arith in
    subst (λ (n : ℕ). Patient S n (advances_of S k (fresh_for S.levels))) e (patient_after S k 0 (fresh_for S.levels) (record { trail = λ e. zero-le; model = λ e. let z : ◌≡◌ {A = ℕ} 0 1 = cc in absurd (omega arith) }))
