-- The service and the tally stay together. Assumes nothing.
use mathlib.Core.Path.{◌≡◌, refl, sym, ap, ap₂, ◌∙◌, subst}
use mathlib.Core.Bool.{Bool, true, false}
use mathlib.Core.List.{List, [], ◌∷◌}
use mathlib.Core.Logic.{◌⊎◌, inl, inr}
use Rattle.std.specs.Prelude.{None, Some, IsSomeAnd}
use Prim.Native.Nat.{ℕ, ◌+◌}
use native.Mathlib.Omega.{arith}
use Rattle.asp.specs.Sets.{pick}
use Rattle.asp.specs.Program.{Program}
use Rattle.aspif_lines.specs.Text.{Answer, accepted, refused, text_of}
use Rattle.aspif_tables.specs.declared.table.Stored.{Stored}
use Rattle.advancing.specs.declared.state.Search.{Search}
use Rattle.advancing.specs.State.{is_running, fresh_for}
use Rattle.advancing.specs.Advance.{advance_of, advances_of, made_by}
use Rattle.advancing.proofs.Advancing.{advances_plus}
use Rattle.optimizer.specs.declared.prepare.Preparation.{Preparation}
use Rattle.planner.specs.declared.service.Loaded.{Loaded}
use Rattle.planner.specs.declared.service.Status.{Status}
use Rattle.planner.specs.declared.service.Status.TheVariants as status
use Rattle.planner.specs.declared.advance.Count.{Count}
use Rattle.planner.specs.Held.{Holding, holding, fresh_service, source_of, PreparedFor, status_of}
use Rattle.planner.specs.Calls.{Says, gives, Loads, Outcome, outcome, Fills, count_of, TablesOf, FreshWith, AfterLoad, advance_call, run_call, write_call, model_call, has_symbol, name_call}
use Rattle.advancing.specs.Facts.{has_model}
use Rattle.planner.specs.Tally.{Call, load, clear, advance, run, look, write, model, name, shown, Reply, Does, Tally, tally, begin, feed_load, feed_advance, feed_run, feed, Leads}
use Rattle.planner.proofs.Counting.{made_plus, runs_is}

-- ---- calls that leave the service as it was

pick_after : (b : Bool) (x y : Fills) (s : Holding) → x.after ≡ s → y.after ≡ s → (pick b x y).after ≡ s
pick_after true x y s e f = e
pick_after false x y s e f = f

module _ (b : List ℕ) where
  pub write_after : (s : Holding) → (write_call s b).after ≡ s
  write_after None = refl
  write_after (Some l) = refl

  pub model_after : (s : Holding) → (model_call s b).after ≡ s
  model_after None = refl
  model_after (Some l) = pick_after (has_model l.search.phase) _ _ (Some l) refl refl

  pub name_after : (i : ℕ) (s : Holding) → (name_call s i b).after ≡ s
  name_after i None = refl
  name_after i (Some l) = pick_after (has_symbol l i) _ _ (Some l) refl refl

-- ---- what a list of calls leaves

abbrev pub after : Stored → ℕ → Search
after p k = advances_of (source_of p) k (fresh_for (source_of p).levels)

abbrev pub stepped_to : Stored → Preparation → ℕ → Holding
stepped_to p ix k = holding p ix (after p k)

abbrev pub told_as : List ℕ → Stored → ℕ → Tally
told_as t p k = tally (Some t) (status_of (after p k).phase) (made_by (source_of p) k (fresh_for (source_of p).levels))

-- the text t is loaded, and k advances were asked for since, those after the end included
pub record Now (t : List ℕ) (s : Holding) (T : Tally) : Type 0 where
  pub program : Program
  pub written : List ℕ
  pub is : text_of t ≡ accepted program written
  pub stored : Stored
  pub tables : TablesOf program written stored
  pub preparation : Preparation
  pub prepared : PreparedFor stored preparation
  pub steps : ℕ
  pub service_is : s ≡ stepped_to stored preparation steps
  pub tally_is : T ≡ told_as t stored steps

abbrev pub Together : Holding → Tally → Type 0
Together s T = ((s ≡ fresh_service) × (T ≡ begin)) ⊎ ((t : List ℕ) × Now t s T)

same : {s u : Holding} {T : Tally} → u ≡ s → Together s T → Together u T
same {T = T} e h = subst (λ (x : Holding). Together x T) (sym e) h

-- ---- load

load_kept : (t : List ℕ) (s : Holding) (T : Tally) (a : Loads) (u : Holding) → AfterLoad (text_of t) s (outcome a u) → Together s T → Together u (feed_load t (text_of t) T)
unfolding advances_of made_by
load_kept t s T a u d h = go (text_of t) refl d
  where
    begun : (P : Program) (w : List ℕ) → text_of t ≡ accepted P w → {l : Loaded} → FreshWith P w l → Now t (Some l) (tally (Some t) status.Running 0)
    begun P w e {l} f =
        record {
          program = P;
          written = w;
          is = e;
          stored = l.stored;
          tables = f.tables;
          preparation = l.prepared;
          prepared = f.prepared;
          steps = 0;
          service_is = ap (holding l.stored l.prepared) f.search;
          tally_is = refl;
        }

    told : (P : Program) (w : List ℕ) → text_of t ≡ accepted P w → (u : Holding) → IsSomeAnd u (FreshWith P w) → Together u (tally (Some t) status.Running 0)
    told P w e None f = absurd f
    told P w e (Some l) f = inr (t, begun P w e f)

    go : (x : Answer) → text_of t ≡ x → AfterLoad x s (outcome a u) → Together u (feed_load t x T)
    go (accepted P w) e f = told P w e u f.1
    go (refused c m) e f = same (ap (λ (x : Outcome Loads). x.after) f) h

-- ---- advance and run

-- a status answered and a count, fed to the tally of a loaded text
module _ (t : List ℕ) (p : Stored) (k : ℕ) where
  advanced_is : advance_of (source_of p) (after p k) ≡ after p (k + 1)
  unfolding advances_of
  advanced_is = sym (advances_plus (source_of p) k 1 (fresh_for (source_of p).levels))

  one_made : pick (is_running (after p k).phase) 1 0 ≡ made_by (source_of p) 1 (after p k)
  unfolding made_by
  one_made = refl

  risen : (b : Bool) (m : ℕ) → pick b (m + 1) m ≡ m + pick b 1 0
  risen true m = refl
  risen false m = omega arith

  pub advance_told : feed_advance (gives (status_of (advance_of (source_of p) (after p k)).phase)) (told_as t p k) ≡ told_as t p (k + 1)
  advance_told =
      let m = made_by (source_of p) k (fresh_for (source_of p).levels) in
      ap₂ (λ (a : Status) (n : ℕ). tally (Some t) a n)
      (ap (λ (q : Search). status_of q.phase) advanced_is)
      (ap (λ (b : Bool). pick b (m + 1) m) (runs_is (after p k).phase) ∙ risen (is_running (after p k).phase) m
      ∙ ap (λ (n : ℕ). m + n) one_made ∙ sym (made_plus (source_of p) k 1 (fresh_for (source_of p).levels)))

  pub run_told : (b : ℕ) → feed_run (gives (count_of (made_by (source_of p) b (after p k)) (status_of (advances_of (source_of p) b (after p k)).phase))) (told_as t p k) ≡ told_as t p (k + b)
  run_told b =
      ap₂ (λ (a : Status) (n : ℕ). tally (Some t) a n)
      (ap (λ (q : Search). status_of q.phase) (sym (advances_plus (source_of p) k b (fresh_for (source_of p).levels))))
      (sym (made_plus (source_of p) k b (fresh_for (source_of p).levels)))

-- after a call on a loaded service that moved it
moved : (t : List ℕ) {s : Holding} {T : Tally} (n : Now t s T) (k : ℕ) {u : Holding} {U : Tally} → u ≡ stepped_to n.stored n.preparation k → U ≡ told_as t n.stored k → Now t u U
moved t n k e f =
    record { program = n.program; written = n.written; is = n.is; stored = n.stored; tables = n.tables; preparation = n.preparation; prepared = n.prepared; steps = k; service_is = e; tally_is = f }

advance_kept : (s : Holding) (T : Tally) (a : Says Status) (u : Holding) → outcome a u ≡ advance_call s → Together s T → Together u (feed_advance a T)
advance_kept s T a u d (inl (e, f)) =
    let d' = d ∙ ap advance_call e in
    inl (ap (λ (x : Outcome (Says Status)). x.after) d', ap₂ feed_advance (ap (λ (x : Outcome (Says Status)). x.answer) d') f)
advance_kept s T a u d (inr (t, n)) =
    let p = n.stored in
    let k = n.steps in
    let d' = d ∙ ap advance_call n.service_is in
    inr (t, moved t n (k + 1) (ap (λ (x : Outcome (Says Status)). x.after) d' ∙ ap (holding p n.preparation) (advanced_is t p k)) (ap₂ feed_advance (ap (λ (x : Outcome (Says Status)). x.answer) d') n.tally_is ∙ advance_told t p k))

run_kept : (b : ℕ) (s : Holding) (T : Tally) (a : Says Count) (u : Holding) → outcome a u ≡ run_call s b → Together s T → Together u (feed_run a T)
run_kept b s T a u d (inl (e, f)) =
    let d' = d ∙ ap (λ (x : Holding). run_call x b) e in
    inl (ap (λ (x : Outcome (Says Count)). x.after) d', ap₂ feed_run (ap (λ (x : Outcome (Says Count)). x.answer) d') f)
run_kept b s T a u d (inr (t, n)) =
    let p = n.stored in
    let k = n.steps in
    let d' = d ∙ ap (λ (x : Holding). run_call x b) n.service_is in
    inr (t, moved t n (k + b) (ap (λ (x : Outcome (Says Count)). x.after) d' ∙ ap (holding p n.preparation) (sym (advances_plus (source_of p) k b (fresh_for (source_of p).levels)))) (ap₂ feed_run (ap (λ (x : Outcome (Says Count)). x.answer) d') n.tally_is ∙ run_told t p k b))

-- ---- any call, any list of calls

pub kept : (c : Call) (s : Holding) (T : Tally) (a : Reply c) (u : Holding) → Does c s a u → Together s T → Together u (feed c a T)
kept (load t) s T a u d h = load_kept t s T a u d h
kept clear s T a u d h = inl (d, refl)
kept advance s T a u d h = advance_kept s T a u d h
kept (run b) s T a u d h = run_kept b s T a u d h
kept look s T a u d h = same (ap (λ (x : Outcome _). x.after) d) h
kept (write b) s T a u d h = same (ap (λ (x : Fills). x.after) d ∙ write_after b s) h
kept (model b) s T a u d h = same (ap (λ (x : Fills). x.after) d ∙ model_after b s) h
kept (name i b) s T a u d h = same (ap (λ (x : Fills). x.after) d ∙ name_after b i s) h
kept (shown i) s T a u d h = same (ap (λ (x : Outcome _). x.after) d) h

pub together : (cs : List Call) (s : Holding) (T : Tally) → Together s T → (u : Holding) (U : Tally) → Leads cs s T u U → Together u U
together [] s T h u U (e, f) = subst (Together u) (sym f) (same e h)
together (c ∷ cs) s T h u U (a, r, d, l) = together cs r (feed c a T) (kept c s T a r d h) u U l
