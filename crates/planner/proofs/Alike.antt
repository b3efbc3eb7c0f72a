-- Services that hold the same program, text and optimization answer alike; so an accepted load forgets what came before. Assumes nothing.
use mathlib.Core.Path.{◌≡◌, refl, sym, ap, ap₂, ◌∙◌, subst}
use mathlib.Core.Bool.{Bool, true, false}
use mathlib.Core.List.{List, [], ◌∷◌}
use Rattle.std.specs.Prelude.{Option, None, Some, IsSomeAnd}
use Prim.Native.Nat.{ℕ}
use lib.ListN.{length, take}
use Rattle.asp.specs.Sets.{pick}
use Rattle.asp.specs.Program.{Program, Symbol, atoms}
use Rattle.aspif_lines.specs.Text.{Answer, accepted, refused, text_of}
use Rattle.aspif.specs.Store.{stored_program}
use Rattle.aspif_tables.specs.declared.table.Stored.{Stored}
use Rattle.advancing.specs.declared.state.Search.{Search}
use Rattle.advancing.specs.Source.{FormedSource}
use Rattle.advancing.specs.Facts.{has_model, best_in}
use Rattle.advancing.proofs.Alike.{SameSource, advance_same, advances_same, made_same, fresh_same}
use Rattle.optimizer.specs.declared.prepare.Preparation.{Preparation}
use Rattle.planner.specs.declared.service.Loaded.{Loaded}
use Rattle.planner.specs.Held.{Holding, loaded, holding, source_of, status_of}
use Rattle.planner.specs.Calls.{Says, gives, Loads, Outcome, outcome, Fills, fills, Filling, count_of, seen, given, filled, unfilled, filled_with, model_bytes, FreshWith, AfterLoad, advance_call, run_call, level_seen, stratum_seen, look_call, write_call, model_call, name_call, shown_says, shown_call}
use Rattle.planner.specs.Tally.{Call, load, clear, advance, run, look, write, model, name, shown, Reply, Tally, feed_load, feed, Leads}
use Rattle.planner.specs.Demand.{nth, name_by}
use Rattle.planner.specs.Alike.{SameHeld, Alike, AnswersAlike, Replies, replies_of, LoadForgets}
use Rattle.planner.proofs.Link.{rules_is, formed_source, priorities_is, entries_is}
use Rattle.planner.proofs.Symbols.{name_by_lem, shown_gone, shown_by, shown_without}
use Rattle.planner.proofs.Together.{name_after}

-- ---- alike, by what is loaded

alike_same : {s u s' u' : Holding} → s' ≡ s → u' ≡ u → Alike s u → Alike s' u'
alike_same {s} {u} {s'} {u'} e d h = subst (λ (x : Holding). Alike x u') (sym e) (subst (Alike s) (sym d) h)

-- what holds of both with one optimization, and where nothing is loaded, holds of all that are alike
by_loaded : (P : Holding → Holding → Type 0) → ((p p' : Stored) (ix ix' : Preparation) (q : Search) → SameHeld (loaded p ix q) (loaded p' ix' q) → P (holding p ix q) (holding p' ix' q))
    → P None None → (s u : Holding) → Alike s u → P s u
by_loaded P f g None None h = g
by_loaded P f g None (Some u) h = absurd h
by_loaded P f g (Some s) None h = absurd h
by_loaded P f g (Some s) (Some u) h =
    let k : SameHeld s (loaded u.stored u.prepared s.search) = record { here = h.here; there = h.there; program = h.program; text = h.text; search = refl } in
    subst (λ (q : Search). P (Some s) (holding u.stored u.prepared q)) h.search (f s.stored u.stored s.prepared u.prepared s.search k)

-- ---- calls on services in which a program is loaded

abbrev SameOutcome : {A : Type 0} → Outcome A → Outcome A → Type 0
SameOutcome x y = (x.answer ≡ y.answer) × Alike x.after y.after

abbrev SameFills : Fills → Fills → Type 0
SameFills x y = (x.answer ≡ y.answer) × (x.bytes ≡ y.bytes) × Alike x.after y.after

module _ (p p' : Stored) (ix ix' : Preparation) (q : Search) (h : SameHeld (loaded p ix q) (loaded p' ix' q)) where
  abbrev s : Holding
  s = holding p ix q

  abbrev u : Holding
  u = holding p' ix' q

  -- the optimization may move, as one
  moved_alike : {x y : Search} → x ≡ y → Alike (holding p ix x) (holding p' ix' y)
  moved_alike e = record { here = h.here; there = h.there; program = h.program; text = h.text; search = e }

  both : Alike s u
  both = moved_alike refl

  priorities_same : (source_of p).levels.levels ≡ (source_of p').levels.levels
  priorities_same = priorities_is p h.here ∙ ap (λ (P : Program). P.priorities) h.program ∙ sym (priorities_is p' h.there)

  atoms_same : p.counts.atoms ≡ p'.counts.atoms
  atoms_same = h.here.atoms ∙ ap atoms h.program ∙ sym h.there.atoms

  source_same : SameSource (source_of p) (source_of p')
  source_same = record { n = atoms_same; rules = rules_is p h.here ∙ ap (λ (P : Program). P.rules) h.program ∙ sym (rules_is p' h.there); levels = priorities_same; entries = entries_is p h.here ∙ ap (λ (P : Program). P.entries) h.program ∙ sym (entries_is p' h.there) }

  formed : FormedSource (source_of p)
  formed = formed_source p h.here

  formed' : FormedSource (source_of p')
  formed' = formed_source p' h.there

  advance_alike : SameOutcome (advance_call s) (advance_call u)
  advance_alike =
      let e = advance_same (source_of p) (source_of p') formed formed' source_same q in
      (ap (λ (x : Search). gives (status_of x.phase)) e, moved_alike e)

  run_alike : (b : ℕ) → SameOutcome (run_call s b) (run_call u b)
  run_alike b =
      let e = advances_same (source_of p) (source_of p') formed formed' source_same b q in
      let m = made_same (source_of p) (source_of p') formed formed' source_same b q in
      (ap₂ (λ (k : ℕ) (x : Search). gives (count_of k (status_of x.phase))) m e, moved_alike e)

  look_alike : SameOutcome (look_call s) (look_call u)
  look_alike = (
    ap₂ (λ (P : Program) (k : ℕ). seen (status_of q.phase) q.advances P.priorities (take k q.work.lowers) (given (has_model q.phase) (take k q.work.uppers))
        (level_seen q.phase q.work.level) (stratum_seen q.phase q.work.stratum)) h.program (ap length priorities_same),
    both,
  )

  write_alike : (b : List ℕ) → SameFills (write_call s b) (write_call u b)
  write_alike b = (ap (λ (t : List ℕ). (filled_with t b).answer) h.text, ap (λ (t : List ℕ). (filled_with t b).bytes) h.text, both)

  model_alike : (b : List ℕ) → SameFills (model_call s b) (model_call u b)
  model_alike b = go (has_model q.phase)
    where
      go : (m : Bool) → SameFills (pick m (filled s (model_bytes (best_in q) p.counts.atoms) b) (unfilled 7 s b)) (pick m (filled u (model_bytes (best_in q) p'.counts.atoms) b) (unfilled 7 u b))
      go true = (ap (λ (n : ℕ). (filled_with (model_bytes (best_in q) n) b).answer) atoms_same, ap (λ (n : ℕ). (filled_with (model_bytes (best_in q) n) b).bytes) atoms_same, both)
      go false = (refl, refl, both)

  symbol_same : (i : ℕ) → nth (stored_program p).symbols i ≡ nth (stored_program p').symbols i
  symbol_same i = ap (λ (P : Program). nth P.symbols i) h.program

  name_alike : (i : ℕ) (b : List ℕ) → SameFills (name_call s i b) (name_call u i b)
  name_alike i b =
      let z = go (nth (stored_program p).symbols i) in (
        ap (λ (x : Fills). x.answer) (name_by_lem p ix q i b) ∙ z.0 ∙ ap (λ (o : Option Symbol). (name_by u b o).answer) (symbol_same i) ∙ sym (ap (λ (x : Fills). x.answer) (name_by_lem p' ix' q i b)),
        ap (λ (x : Fills). x.bytes) (name_by_lem p ix q i b) ∙ z.1 ∙ ap (λ (o : Option Symbol). (name_by u b o).bytes) (symbol_same i) ∙ sym (ap (λ (x : Fills). x.bytes) (name_by_lem p' ix' q i b)),
        alike_same (name_after b i s) (name_after b i u) both,
      )
    where
      go : (o : Option Symbol) → ((name_by s b o).answer ≡ (name_by u b o).answer) × ((name_by s b o).bytes ≡ (name_by u b o).bytes)
      go None = (refl, refl)
      go (Some y) = (refl, refl)

  shown_alike : (i : ℕ) → SameOutcome (shown_call s i) (shown_call u i)
  shown_alike i = (go (nth (stored_program p).symbols i) refl (has_model q.phase) refl, both)
    where
      go : (o : Option Symbol) → nth (stored_program p).symbols i ≡ o → (m : Bool) → has_model q.phase ≡ m → shown_says s i ≡ shown_says u i
      go None e m k = shown_gone p ix q i e ∙ sym (shown_gone p' ix' q i (sym (symbol_same i) ∙ e))
      go (Some y) e true k = shown_by p ix q i y e k ∙ sym (shown_by p' ix' q i y (sym (symbol_same i) ∙ e) k)
      go (Some y) e false k = shown_without p ix q i y e k ∙ sym (shown_without p' ix' q i y (sym (symbol_same i) ∙ e) k)

-- ---- a load of an accepted text, whatever was there

loaded_alike : {P : Program} {w : List ℕ} {s u : Loaded} → FreshWith P w s → FreshWith P w u → SameHeld s u
loaded_alike {s = s} {u = u} f g = record {
  here = f.tables.formed;
  there = g.tables.formed;
  program = f.tables.program ∙ sym g.tables.program;
  text = f.tables.text ∙ sym g.tables.text;
  search = f.search ∙ fresh_same (source_of s.stored).levels (source_of u.stored).levels priorities entries ∙ sym g.search;
}
  where
    programs : stored_program s.stored ≡ stored_program u.stored
    programs = f.tables.program ∙ sym g.tables.program

    priorities : (source_of s.stored).levels.levels ≡ (source_of u.stored).levels.levels
    priorities = priorities_is s.stored f.tables.formed ∙ ap (λ (P : Program). P.priorities) programs ∙ sym (priorities_is u.stored g.tables.formed)

    entries : (source_of s.stored).levels.entries ≡ (source_of u.stored).levels.entries
    entries = entries_is s.stored f.tables.formed ∙ ap (λ (P : Program). P.entries) programs ∙ sym (entries_is u.stored g.tables.formed)

fresh_alike : (P : Program) (w : List ℕ) (s u : Holding) → IsSomeAnd s (FreshWith P w) → IsSomeAnd u (FreshWith P w) → Alike s u
fresh_alike P w None u f g = absurd f
fresh_alike P w (Some s) None f g = absurd g
fresh_alike P w (Some s) (Some u) f g = loaded_alike f g

accepted_alike : (P : Program) (w : List ℕ) (s u : Holding) (a b : Loads) (s' u' : Holding) → AfterLoad (accepted P w) s (outcome a s') → AfterLoad (accepted P w) u (outcome b u')
    → (a ≡ b) × Alike s' u'
accepted_alike P w s u a b s' u' d e = (d.0 ∙ sym e.0, fresh_alike P w s' u' d.1 e.1)

load_alike : (x : Answer) (s u : Holding) → Alike s u → (a b : Loads) (s' u' : Holding) → AfterLoad x s (outcome a s') → AfterLoad x u (outcome b u') → (a ≡ b) × Alike s' u'
load_alike (accepted P w) s u h a b s' u' d e = accepted_alike P w s u a b s' u' d e
load_alike (refused c m) s u h a b s' u' d e =
    (ap (λ (x : Outcome Loads). x.answer) d ∙ sym (ap (λ (x : Outcome Loads). x.answer) e), alike_same (ap (λ (x : Outcome Loads). x.after) d) (ap (λ (x : Outcome Loads). x.after) e) h)

-- ---- ALL CALLS

outcome_alike : {A : Type 0} {x y : Outcome A} → SameOutcome x y → {a b : A} {s u : Holding} → outcome a s ≡ x → outcome b u ≡ y → (a ≡ b) × Alike s u
outcome_alike {A} h d e =
    (ap (λ (z : Outcome A). z.answer) d ∙ h.0 ∙ sym (ap (λ (z : Outcome A). z.answer) e), alike_same (ap (λ (z : Outcome A). z.after) d) (ap (λ (z : Outcome A). z.after) e) h.1)

fills_alike : {x y : Fills} → SameFills x y → (a b : Filling) {s u : Holding} → fills a.answer s a.bytes ≡ x → fills b.answer u b.bytes ≡ y → (a ≡ b) × Alike s u
fills_alike h a b d e = (
  ap₂ (λ (x : Says ℕ) (y : List ℕ). record { answer = x; bytes = y }) (ap (λ (z : Fills). z.answer) d ∙ h.0 ∙ sym (ap (λ (z : Fills). z.answer) e))
      (ap (λ (z : Fills). z.bytes) d ∙ h.1 ∙ sym (ap (λ (z : Fills). z.bytes) e)),
  alike_same (ap (λ (z : Fills). z.after) d) (ap (λ (z : Fills). z.after) e) h.2,
)

pub answers_alike : AnswersAlike
answers_alike (load t) s u h a b s' u' d e = load_alike (text_of t) s u h a b s' u' d e
answers_alike clear s u h a b s' u' d e = (refl, alike_same d e tt)
answers_alike advance s u h a b s' u' d e =
    outcome_alike (by_loaded (λ x y. SameOutcome (advance_call x) (advance_call y)) advance_alike (refl, tt) s u h) d e
answers_alike (run k) s u h a b s' u' d e =
    outcome_alike (by_loaded (λ x y. SameOutcome (run_call x k) (run_call y k)) (λ p p' ix ix' q z. run_alike p p' ix ix' q z k) (refl, tt) s u h) d e
answers_alike look s u h a b s' u' d e =
    outcome_alike (by_loaded (λ x y. SameOutcome (look_call x) (look_call y)) look_alike (refl, tt) s u h) d e
answers_alike (write c) s u h a b s' u' d e =
    fills_alike (by_loaded (λ x y. SameFills (write_call x c) (write_call y c)) (λ p p' ix ix' q z. write_alike p p' ix ix' q z c) (refl, refl, tt) s u h) a b d e
answers_alike (model c) s u h a b s' u' d e =
    fills_alike (by_loaded (λ x y. SameFills (model_call x c) (model_call y c)) (λ p p' ix ix' q z. model_alike p p' ix ix' q z c) (refl, refl, tt) s u h) a b d e
answers_alike (name i c) s u h a b s' u' d e =
    fills_alike (by_loaded (λ x y. SameFills (name_call x i c) (name_call y i c)) (λ p p' ix ix' q z. name_alike p p' ix ix' q z i c) (refl, refl, tt) s u h) a b d e
answers_alike (shown i) s u h a b s' u' d e =
    outcome_alike (by_loaded (λ x y. SameOutcome (shown_call x i) (shown_call y i)) (λ p p' ix ix' q z. shown_alike p p' ix ix' q z i) (refl, tt) s u h) d e

-- ---- LISTS OF CALLS

pub leads_alike : (cs : List Call) (s : Holding) (T : Tally) (u : Holding) (U : Tally) → Alike s u → T ≡ U
    → (s' : Holding) (T' : Tally) (l : Leads cs s T s' T') (u' : Holding) (U' : Tally) (m : Leads cs u U u' U')
    → (replies_of cs s T s' T' l ≡ replies_of cs u U u' U' m) × (T' ≡ U') × Alike s' u'
leads_alike [] s T u U h e s' T' l u' U' m = (refl, l.1 ∙ e ∙ sym m.1, alike_same l.0 m.0 h)
leads_alike (c ∷ cs) s T u U h e s' T' l u' U' m =
    let z = answers_alike c s u h l.0 m.0 l.1 m.1 l.2 m.2 in
    let r = leads_alike cs l.1 (feed c l.0 T) m.1 (feed c m.0 U) z.1 (ap₂ (feed c) z.0 e) s' T' l.3 u' U' m.3 in
    (ap₂ (λ (a : Reply c) (as' : Replies cs). (a, as')) z.0 r.0, r.1, r.2)

-- AN ACCEPTED LOAD FORGETS WHAT CAME BEFORE
pub load_forgets : LoadForgets
load_forgets t P w e cs s T k ds u U j es s' T' l u' U' m =
    let z : (l.0 ≡ m.0) × Alike l.1 m.1 = accepted_alike P w s u l.0 m.0 l.1 m.1 (subst (λ (x : Answer). AfterLoad x s (outcome l.0 l.1)) e l.2) (subst (λ (x : Answer). AfterLoad x u (outcome m.0 m.1)) e m.2) in
    let f : feed_load t (text_of t) T ≡ feed_load t (text_of t) U = ap (λ (x : Answer). feed_load t x T) e ∙ sym (ap (λ (x : Answer). feed_load t x U) e) in
    let r = leads_alike es l.1 (feed_load t (text_of t) T) m.1 (feed_load t (text_of t) U) z.1 f s' T' l.3 u' U' m.3 in
    (ap₂ (λ (a : Loads) (as' : Replies es). (a, as')) z.0 r.0, r.1, r.2)
