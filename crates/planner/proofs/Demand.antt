-- Demand 3. Assumes nothing.
use mathlib.Core.Path.{◌≡◌, refl, sym, ap, ◌∙◌, subst}
use mathlib.Core.Bool.{Bool, true, false}
use mathlib.Core.List.{List, []}
use mathlib.Core.Logic.{inl, inr}
use Rattle.std.specs.Prelude.{Some}
use Prim.Native.Nat.{ℕ, suc, ◌+◌, ◌*◌, ◌^◌, ◌≤◌, ◌<◌}
use native.Mathlib.Omega.{arith}
use lib.IntN.{ℤ, pos}
use lib.ListN.{length, get_or, drop, drop_of_length-le}
use lib.Signed.{lt_z, ◌<ℤ◌}
use borrow.Author.Tests.{le-ltb}
use Rattle.asp.specs.declared.entries.Entry.{Entry}
use Rattle.asp.specs.Sets.{Set, pick}
use Rattle.asp.specs.Program.{Program, All, atoms}
use Rattle.asp.specs.Stable.{Stable}
use Rattle.asp.specs.Cost.{weight, W, costs, starts, NoDearer}
use Rattle.aspif_lines.specs.Text.{Answer, accepted, text_of}
use Rattle.aspif.specs.Store.{stored_program, stored_text, WellFormed}
use Rattle.aspif_tables.specs.declared.table.Stored.{Stored}
use Rattle.aspif_lines.proofs.Spans.{append_nil, span_length}
use Rattle.advancing.specs.declared.state.Phase.{Phase}
use Rattle.advancing.specs.declared.state.Phase.TheVariants.{First, Level, Optimum, Incoherent, Full}
use Rattle.advancing.specs.declared.state.Search.{Search}
use Rattle.advancing.specs.Source.{Source, many, start_at}
use Rattle.advancing.specs.State.{fresh_for}
use Rattle.advancing.specs.Advance.{advances_of, made_by}
use Rattle.advancing.specs.Facts.{Facts, has_model, is_in_work, lowers_in, uppers_in, best_in, costs_in}
use Rattle.advancing.proofs.Reached.{reached_facts}
use Rattle.optimizer.specs.declared.prepare.Preparation.{Preparation}
use Rattle.planner.specs.declared.service.Loaded.{Loaded}
use Rattle.planner.specs.declared.service.Status.TheVariants as status
use Rattle.planner.specs.Held.{Holding, loaded, fresh_service, source_of, PreparedFor, status_of}
use Rattle.planner.specs.Sound.{Sound}
use Rattle.planner.specs.Calls.{gives, Loads, outcome, fills, filled, given, level_seen, byte_of, model_bytes, model_call, AfterLoad}
use Rattle.planner.specs.Tally.{load, Does, Tally, begin}
use Rattle.planner.specs.Demand.{BestBy, RunIs, Claim, Demand, Demand3}
use Rattle.planner.proofs.Link.{model_stable, stable_model, formed_source, priorities_is, levels_is, weight_is, costs_is, start_is}
use Rattle.planner.proofs.Counting.{figure_min, runs_is, status_running, status_optimum, status_incoherent, status_full, made_most, made_ends, run_advances}
use Rattle.planner.proofs.Symbols.{or_else, name_by_lem, shown_gone, shown_by, shown_without}
use Rattle.planner.proofs.Together.{after, stepped_to, told_as, Now, Together, together}

-- n bytes into n lent bytes
exactly : (s : Holding) (n : ℕ) (t b : List ℕ) → length t ≡ n → length b ≡ n → filled s t b ≡ fills (gives n) s t
exactly s n t b e f =
    let d : drop (length t) b ≡ [] = drop_of_length-le b {i = length t} (omega arith) in
    rw (le-ltb (length b) (length t) (omega arith), d, append_nil t, e)

-- ---- the claim, of the tables p after k advances

module _ (t : List ℕ) (p : Stored) (w : WellFormed p) (ix : Preparation) (k : ℕ) where
  abbrev S : Source
  S = source_of p

  abbrev q : Search
  q = after p k

  abbrev P : Program
  P = stored_program p

  abbrev s : Holding
  s = stepped_to p ix k

  facts : Facts S (made_by S k (fresh_for S.levels)) q
  facts = reached_facts S (formed_source p w) k

  written : has_model q.phase ≡ true → (b : List ℕ) → model_call s b ≡ filled s (model_bytes (best_in q) (atoms P)) b
  written e b =
      let f : model_call s b ≡ filled s (model_bytes (best_in q) p.counts.atoms) b = rw e refl in
      f ∙ ap (λ (n : ℕ). filled s (model_bytes (best_in q) n) b) w.atoms

  best_of_lem : BestBy P s (given (has_model q.phase) (uppers_in S q))
  best_of_lem = go (has_model q.phase) refl
    where
      go : (m : Bool) → has_model q.phase ≡ m → BestBy P s (given m (uppers_in S q))
      go true e =
          record {
            model = best_in q;
            writes = written e;
            exactly = λ b h. written e b ∙ exactly s (atoms P) (model_bytes (best_in q) (atoms P)) b (span_length (byte_of (best_in q)) 1 (atoms P)) h;
            stable = model_stable p w (facts.stable e);
            costs = sym (costs_is p w (best_in q)) ∙ sym (facts.upper e);
            shows = λ i y h. shown_by p ix q i y h e;
          }
      go false e =
          record {
            model = λ b. rw e refl;
            shows = λ i y h. shown_without p ix q i y h e;
          }

  optimum_of : status_of q.phase ≡ status.Optimum
      → (u : List ℤ) × (given (has_model q.phase) (uppers_in S q) ≡ Some u) × ((M : Set) → Stable P.rules M → NoDearer lt_z u (costs P M))
  optimum_of h =
      let e : q.phase ≡ Optimum = status_optimum q.phase h in
      let m : has_model q.phase ≡ true = ap has_model e in (
        uppers_in S q,
        ap (λ (b : Bool). given b (uppers_in S q)) m,
        λ M g.
            subst (λ (x : List ℤ). NoDearer lt_z x (costs P M)) (sym (facts.upper m))
            (subst (λ (x : List ℤ). NoDearer lt_z (costs_in S (best_in q)) x) (costs_is p w M) (facts.optimum e M (stable_model p w g))),
      )

  few_of : status_of q.phase ≡ status.Running → made_by S k (fresh_for S.levels) < 2 ^ suc (atoms P) * (2 * W P + 1)
  few_of h =
      subst (λ (n : ℕ). made_by S k (fresh_for S.levels) < 2 ^ suc n * (2 * W P + 1)) w.atoms
      (subst (λ (x : ℕ). made_by S k (fresh_for S.levels) < 2 ^ suc p.counts.atoms * (2 * x + 1)) (weight_is p w) (facts.few (status_running q.phase h)))

  patient_of : (u : List ℤ) → given (has_model q.phase) (uppers_in S q) ≡ Some u → atoms P < made_by S k (fresh_for S.levels)
  patient_of u e = go (has_model q.phase) refl e
    where
      go : (m : Bool) → has_model q.phase ≡ m → given m (uppers_in S q) ≡ Some u → atoms P < made_by S k (fresh_for S.levels)
      go true h e = subst (λ (n : ℕ). n < made_by S k (fresh_for S.levels)) w.atoms (facts.patient h)
      go false h e = let z : ◌≡◌ {A = ℕ} 0 1 = cc in absurd (omega arith)

  runs_of : (b : ℕ) → RunIs b s
  runs_of b =
      record {
        made = made_by S b q;
        held = status_of (advances_of S b q).phase;
        answer = refl;
        advances = run_advances p ix b q;
        most = made_most S b q;
        ends = λ h. runs_is (advances_of S b q).phase ∙ made_ends S b q h;
      }

  -- ---- the bounds

  upper_is : {u : List ℤ} → given (has_model q.phase) (uppers_in S q) ≡ Some u → uppers_in S q ≡ u
  upper_is {u} e = go (has_model q.phase) e
    where
      go : (m : Bool) → given m (uppers_in S q) ≡ Some u → uppers_in S q ≡ u
      go true e = ap (or_else (uppers_in S q)) e
      go false e = let z : ◌≡◌ {A = ℕ} 0 1 = cc in absurd (omega arith)

  settled_of : (u : List ℤ) → given (has_model q.phase) (uppers_in S q) ≡ Some u → (j : ℕ) → suc j < level_seen q.phase q.work.level → get_or (lowers_in S q) j (pos 0) ≡ get_or u j (pos 0)
  settled_of u e j h = go (is_in_work q.phase) refl h
    where
      go : (b : Bool) → is_in_work q.phase ≡ b → suc j < pick b (q.work.level + 1) 0 → get_or (lowers_in S q) j (pos 0) ≡ get_or u j (pos 0)
      go true i h = facts.settled i j (omega arith) ∙ ap (λ (x : List ℤ). get_or x j (pos 0)) (upper_is e)
      go false i h = absurd (omega arith)

  -- a running state with a model is on a level
  on_level_lem : (p : Phase) → status_of p ≡ status.Running → {u : List ℤ} → given (has_model p) (uppers_in S q) ≡ Some u → p ≡ Level
  on_level_lem First h e = let z : ◌≡◌ {A = ℕ} 0 1 = cc in absurd (omega arith)
  on_level_lem Level h e = refl
  on_level_lem Optimum h e = let z : ◌≡◌ {A = ℕ} 0 1 = cc in absurd (omega arith)
  on_level_lem Incoherent h e = let z : ◌≡◌ {A = ℕ} 0 1 = cc in absurd (omega arith)
  on_level_lem Full h e = let z : ◌≡◌ {A = ℕ} 0 1 = cc in absurd (omega arith)

  level_is : (h : status_of q.phase ≡ status.Running) {u : List ℤ} → given (has_model q.phase) (uppers_in S q) ≡ Some u → level_seen q.phase q.work.level ≡ q.work.level + 1
  level_is h e = ap (λ (p : Phase). level_seen p q.work.level) (on_level_lem q.phase h e)

  unsettled_of : status_of q.phase ≡ status.Running → (u : List ℤ) → given (has_model q.phase) (uppers_in S q) ≡ Some u → (j : ℕ) → level_seen q.phase q.work.level ≡ suc j
      → get_or (lowers_in S q) j (pos 0) <ℤ get_or u j (pos 0)
  unsettled_of h u e j k =
      let i : q.work.level ≡ j = omega (arith, level_is h e) in
      subst (λ (x : List ℤ). get_or (lowers_in S q) j (pos 0) <ℤ get_or x j (pos 0)) (upper_is e)
      (subst (λ (n : ℕ). get_or (lowers_in S q) n (pos 0) <ℤ get_or (uppers_in S q) n (pos 0)) i (facts.unsettled (on_level_lem q.phase h e)))

  later_of : (status_of q.phase ≡ status.Optimum → ⊥) → (j : ℕ) → level_seen q.phase q.work.level ≤ j → j < length P.priorities → get_or (lowers_in S q) j (pos 0) ≡ get_or (starts P) j (pos 0)
  later_of n j h l = go q.phase refl n h ∙ start_is p w j i
    where
      i : j < many S.levels
      i = omega (arith, ap length (priorities_is p w))

      go : (p : Phase) → q.phase ≡ p → (status_of p ≡ status.Optimum → ⊥) → level_seen p q.work.level ≤ j → get_or (lowers_in S q) j (pos 0) ≡ start_at S.levels j
      go First e n h = facts.start (ap has_model e) j i
      go Level e n h = facts.later (ap is_in_work e) j (omega arith) i
      go Optimum e n h = absurd (n refl)
      go Incoherent e n h = facts.start (ap has_model e) j i
      go Full e n h = facts.later (ap is_in_work e) j (omega arith) i

  meet_of_lem : status_of q.phase ≡ status.Optimum → given (has_model q.phase) (uppers_in S q) ≡ Some (lowers_in S q)
  meet_of_lem h =
      let e : q.phase ≡ Optimum = status_optimum q.phase h in
      ap (λ (p : Phase). given (has_model p) (uppers_in S q)) e ∙ ap Some (sym (facts.bounds_meet e))

  claim_of : Claim P (stored_text p) s (told_as t p k)
  claim_of =
      record {
        loaded = refl;
        standing = refl;
        counted = facts.figure ∙ figure_min (made_by S k (fresh_for S.levels));
        priorities = refl;
        writes = λ b. refl;
        names = name_by_lem p ix q;
        unnamed = shown_gone p ix q;
        lower = λ M g. subst (NoDearer lt_z (lowers_in S q)) (costs_is p w M) (facts.lower M (stable_model p w g));
        best = best_of_lem;
        optimum = optimum_of;
        incoherent = λ h M g. facts.none_is (status_incoherent q.phase h) M (stable_model p w g);
        without = λ h g. ap status_of (facts.is_none (sym (runs_is q.phase) ∙ h) (λ M m. g M (model_stable p w m)));
        few = few_of;
        patient = patient_of;
        never_full = λ g h. facts.never_full (subst (All (λ (l : List Entry). weight l ≤ 90)) (sym (levels_is p w)) g) (status_full q.phase h);
        runs = runs_of;
        as_many = facts.as_many ∙ ap length (priorities_is p w);
        settled = settled_of;
        in_work = λ h u e. omega (arith, level_is h e);
        unsettled = unsettled_of;
        later = later_of;
        bounds_meet = meet_of_lem;
      }

  sound_of : PreparedFor p ix → Sound (loaded p ix q)
  sound_of o = record { formed = w; prepared = o; reached = record { source = formed_source p w; made = k; is = refl } }

-- ---- a load leaves what it could have left of a fresh service

fresh_of : (s : Holding) (t : List ℕ) (P : Program) (w : List ℕ) → text_of t ≡ accepted P w → (a : Loads) (u : Holding) → Does (load t) s a u → Does (load t) fresh_service a u
fresh_of s t P w e a u d = subst (λ (x : Answer). AfterLoad x fresh_service (outcome a u)) (sym e) (subst (λ (x : Answer). AfterLoad x s (outcome a u)) e d)

-- ---- DEMAND 3

-- of one value in two `Some`s
some_same : {l m : Loaded} → ◌≡◌ {A = Holding} (Some l) (Some m) → l ≡ m
some_same e = cc

demand_idle : Demand fresh_service begin
demand_idle = record { sound = λ l e. cc; claim = record { loaded = refl; tally = refl; look = refl }; fresh = fresh_of fresh_service }

demand_now : (t : List ℕ) {s : Holding} {T : Tally} → Now t s T → Demand s T
demand_now t {s} {T} n =
    let p = n.stored in
    let ix = n.preparation in
    let k = n.steps in
    let w = n.tables.formed in
    let c : Claim n.program n.written (stepped_to p ix k) (told_as t p k) =
    subst (λ (x : Program). Claim x n.written (stepped_to p ix k) (told_as t p k)) n.tables.program
    (subst (λ (x : List ℕ). Claim (stored_program p) x (stepped_to p ix k) (told_as t p k)) n.tables.text (claim_of t p w ix k)) in
    let d : Demand (stepped_to p ix k) (told_as t p k) =
    record {
      sound = λ l e. subst Sound (some_same e) (sound_of t p w ix k n.prepared);
      claim = record { program = n.program; written = n.written; is = n.is; claim = c };
      fresh = fresh_of (stepped_to p ix k);
    } in
    subst (λ (x : Holding). Demand x T) (sym n.service_is) (subst (Demand (stepped_to p ix k)) (sym n.tally_is) d)

demand_of : (s : Holding) (T : Tally) → Together s T → Demand s T
demand_of s T (inl (e, f)) = subst (λ (x : Holding). Demand x T) (sym e) (subst (Demand fresh_service) (sym f) demand_idle)
demand_of s T (inr (t, n)) = demand_now t n

pub demand_3 : Demand3
demand_3 cs s T l = demand_of s T (together cs fresh_service begin (inl (refl, refl)) s T l)
