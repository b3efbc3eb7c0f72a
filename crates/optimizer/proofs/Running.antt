-- Steps of a query and its end, as the code puts them together. Assumes nothing.
use mathlib.Core.Path.{◌≡◌, refl, sym, ap, ap₂, ◌∙◌, subst}
use mathlib.Core.Bool.{Bool, true, false}
use mathlib.Core.List.{List, ◌++◌}
use Prim.Native.Nat.{ℕ, zero, suc, ◌+◌, ◌-◌, ◌≤◌, ◌<◌}
use native.Mathlib.Omega.{arith}
use lib.IntN.{ℤ, pos}
use lib.ListN.{length, replicate, drop}
use lib.Seq.{take-length}
use Rattle.asp.specs.Sets.{set_of, pick}
use Rattle.asp.specs.Cost.{costs_at, starts_at}
use Rattle.asp.specs.Tables.{literals_at}
use Rattle.asp.proofs.Spans.{span_part}
use Rattle.search.specs.declared.trail.Places.{Places}
use Rattle.search.specs.Places.{SoundTrail}
use Rattle.cores.specs.Tables.{empty_tables}
use Rattle.cores.specs.declared.level.LevelTables.{LevelTables}
use Rattle.advancing.specs.declared.state.Phase.{Phase}
use Rattle.advancing.specs.declared.state.Phase.TheVariants.{First, Level}
use Rattle.advancing.specs.declared.state.Blame.{Blame}
use Rattle.advancing.specs.declared.state.Work.{Work}
use Rattle.advancing.specs.declared.state.Search.{Search}
use Rattle.advancing.specs.declared.state.Turn.{Turn}
use Rattle.advancing.specs.declared.state.Turn.TheVariants.{Without}
use Rattle.advancing.specs.Source.{Source, Levels, many}
use Rattle.advancing.specs.Turn.{QueryTables, turned, Turns, turns, turn_of, turns_of, is_going, blamed_of}
use Rattle.search.specs.Places.{fresh_places}
use Rattle.advancing.specs.State.{work, fresh_search, fresh_for, search, fresh_blame, is_running}
use Rattle.advancing.specs.Finish.{Placed, placed, costs_of, finish_of}
use Rattle.advancing.specs.Advance.{ended_query, after_turns, work_query}
use Rattle.advancing.specs.Ready.{ReadyQuery, GoodBlame, ReadyCore}
use Rattle.advancing.specs.Run.{bumped_by, after_run, steps_of, query_run, ReadyRun, Steady, run_of}
use Rattle.advancing.proofs.Stepping.{turn_sound, turn_blame}
use Rattle.advancing.proofs.Advancing.{Running, running_ready, running_end, made_more, running_next}

pub ended_is : (c : ℕ) {x : Placed} {p : Phase} {w : Work} → placed p w ≡ x → {t : Places} → t ≡ fresh_places → {b : Blame} → b ≡ fresh_blame → search p c t b w ≡ ended_query c x
ended_is c {x} {p} {w} e f g = ap₂ (λ (t : Places) (b : Blame). search p c t b w) f g ∙ ap (ended_query c) e

-- what steps leave blamed stays in shape
pub turns_blame : (S : Source) (q : QueryTables) → ReadyQuery S q → (k : ℕ) {t : Places} {b : Blame} → SoundTrail S.n t → GoodBlame q b → GoodBlame q (turns_of S q k t b).turned.blame
unfolding turns_of
turns_blame S q r zero d g = g
turns_blame S q r (suc k) {t} {b} d g = go (is_going (turn_of S q t b).turn) (turns_blame S q r k (turn_sound r g t d) (turn_blame r g t d))
  where
    go : (x : Bool) → GoodBlame q (turns_of S q k (turn_of S q t b).trail (turn_of S q t b).blame).turned.blame
        → GoodBlame q (pick x (turns_of S q k (turn_of S q t b).trail (turn_of S q t b).blame) (turns (turn_of S q t b) 0)).turned.blame
    go true h = h
    go false h = turn_blame r g t d

-- ---- steps of the query that stands, and its end
module _ {S : Source} {k : ℕ} {s : Search} (r : ReadyRun S k s) {x : Turn} {t : Places} {b : Blame} {m : ℕ} (e : turns (turned x (t) b) m ≡ steps_of S k s) where
  same_blame : b ≡ (steps_of S k s).turned.blame
  same_blame = ap (λ (y : Turns). y.turned.blame) e

  good_after : GoodBlame (work_query s.work) b
  good_after = subst (GoodBlame (work_query s.work)) (sym same_blame) (turns_blame S (work_query s.work) r.query k r.trail r.blame)

  pub core_long : length b.core ≡ 4096
  core_long = good_after.core_len

  pub core_reach : b.from ≤ length b.core
  core_reach = omega (arith, good_after.core_len, good_after.from_in)

  pub core_ready : s.phase ≡ Level → x ≡ Without → ReadyCore s.work (blamed_of b)
  core_ready p f = subst (λ (y : Blame). ReadyCore s.work (blamed_of y)) (sym same_blame) (r.core p (sym (ap (λ (y : Turns). y.turned.turn) e) ∙ f))

  pub run_is : {c : ℕ} → c ≡ bumped_by m s.advances → {u : Search} → u ≡ after_turns S.levels s.phase c s.work (turned x (t) b) → after_run u m ≡ query_run S k s
  run_is f g =
      ap (λ (y : Search). after_run y m) (g ∙ ap (λ (c : ℕ). after_turns S.levels s.phase c s.work (turned x (t) b)) f)
      ∙ ap (λ (y : Turns). after_run (after_turns S.levels s.phase (bumped_by y.made s.advances) s.work y.turned) y.made) e

  -- the query goes on
  pub going_is : is_going x ≡ true → {c : ℕ} → c ≡ bumped_by m s.advances → after_run (search s.phase c t b s.work) m ≡ query_run S k s
  going_is h {c} f =
      run_is f (sym (ap (λ (y : Bool). pick y (search s.phase c t b s.work) (ended_query c (finish_of S.levels s.phase s.work t.value (blamed_of b) x))) h))

  -- it has ended
  pub end_is : is_going x ≡ false → {c : ℕ} → c ≡ bumped_by m s.advances → {u : Search} → u ≡ ended_query c (finish_of S.levels s.phase s.work t.value (blamed_of b) x) → after_run u m ≡ query_run S k s
  end_is h {c} f g = run_is f (g ∙ sym (ap (λ (z : Bool). pick z (search s.phase c t b s.work) (ended_query c (finish_of S.levels s.phase s.work t.value (blamed_of b) x))) h))

-- ---- one turn of the loop of a run

true_false : true ≡ false → ⊥
true_false e = let z : ◌≡◌ {A = ℕ} 0 1 = cc in absurd (omega arith)

-- a query that goes on has made every step that it may
going_made : (S : Source) (q : QueryTables) (k : ℕ) (t : Places) (b : Blame) → is_going (turns_of S q k t b).turned.turn ≡ true → (turns_of S q k t b).made ≡ k
unfolding turns_of
going_made S q zero t b h = refl
going_made S q (suc k) t b h = go (is_going (turn_of S q t b).turn) refl (going_made S q k (turn_of S q t b).trail (turn_of S q t b).blame) h
  where
    go : (x : Bool) → is_going (turn_of S q t b).turn ≡ x → (is_going (turns_of S q k (turn_of S q t b).trail (turn_of S q t b).blame).turned.turn ≡ true → (turns_of S q k (turn_of S q t b).trail (turn_of S q t b).blame).made ≡ k)
        → is_going (pick x (turns_of S q k (turn_of S q t b).trail (turn_of S q t b).blame) (turns (turn_of S q t b) 0)).turned.turn ≡ true → suc (pick x (turns_of S q k (turn_of S q t b).trail (turn_of S q t b).blame) (turns (turn_of S q t b) 0)).made ≡ suc k
    go true e ih y = ap suc (ih y)
    go false e ih y = absurd (true_false (sym y ∙ e))

module _ {S : Source} {budget : ℕ} {start s : Search} {made : ℕ} (i : Running S budget start s made) (a : Steady S start) (h : made < budget) {g : Bool} (f : g ≡ is_running s.phase) (o : g ≡ true)
    {x : Turn} {t : Places} {b : Blame} {m : ℕ} (e : turns (turned x t b) m ≡ steps_of S (budget - made) s) where
  pub ready : ReadyRun S (budget - made) s
  ready = running_ready i a (budget - made)

  pub step_more : (made < made + m) × (made + m ≤ budget)
  step_more = made_more i h f o ready.figure refl (run_is ready e refl refl)

  pub step_next : {u : Search} → after_run u m ≡ query_run S (budget - made) s → Running S budget start u (made + m)
  step_next q = running_next i h f o ready.figure refl q

  pub step_going : is_going x ≡ true → {c : ℕ} → c ≡ bumped_by m s.advances → after_run (search s.phase c t b s.work) (made + m) ≡ run_of S budget start
  step_going y q =
      let n : m ≡ budget - made = ap (λ (z : Turns). z.made) e ∙ going_made S (work_query s.work) (budget - made) s.trail s.blame (sym (ap (λ (z : Turns). is_going z.turned.turn) e) ∙ y) in
      running_end (step_next (going_is ready e y q)) (omega (arith, n))

pub fresh_is : (lowers : List ℤ) {t : Places} → t ≡ fresh_places → {b : Blame} → b ≡ fresh_blame → {u : LevelTables} → u ≡ empty_tables
    → search First 0 t b (work 0 u 0 lowers (replicate 8 (pos 0)) (replicate 1025 0)) ≡ fresh_search lowers
fresh_is lowers e f {u} g =
    ap₂ (λ (t : Places) (b : Blame). search First 0 t b (work 0 u 0 lowers (replicate 8 (pos 0)) (replicate 1025 0))) e f
    ∙ ap (λ (u : LevelTables). search First 0 fresh_places fresh_blame (work 0 u 0 lowers (replicate 8 (pos 0)) (replicate 1025 0))) g

-- ---- the priorities of all levels, as `advancing` lists them

all_levels : (ls : List ℤ) → literals_at ls 0 (length ls) ≡ ls
all_levels ls = sym (span_part ls (pos 0) 0 (length ls) (omega arith)) ∙ take-length ls

pub costs_are : (L : Levels) (v : List ℕ) {x : List ℤ} → x ≡ costs_at (set_of v) L.levels L.entries ++ drop (many L) (replicate 8 (pos 0)) → x ≡ costs_of L v
costs_are L v e = e ∙ ap (λ (ls : List ℤ). costs_at (set_of v) ls L.entries ++ drop (many L) (replicate 8 (pos 0))) (sym (all_levels L.levels))

pub starts_are : (L : Levels) {x : List ℤ} → x ≡ starts_at L.levels L.entries ++ drop (many L) (replicate 8 (pos 0)) → {s : Search} → s ≡ fresh_search x → s ≡ fresh_for L
starts_are L {x} e f = f ∙ ap fresh_search (e ∙ ap (λ (ls : List ℤ). starts_at ls L.entries ++ drop (many L) (replicate 8 (pos 0))) (sym (all_levels L.levels)))
