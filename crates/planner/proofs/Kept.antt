-- Every call keeps what a service holds sound, from what it ensures: for callers, and for the ghost field of `Service`. Assumes nothing.
use mathlib.Core.Path.{◌≡◌, refl, sym, ap, ◌∙◌, subst}
use mathlib.Core.Bool.{Bool}
use mathlib.Core.List.{List}
use native.Mathlib.Omega.{arith}
use Rattle.std.proofs.Math.Logic.{∥∥₁_elim, ∥∥₁_prop}
use Rattle.std.specs.Prelude.{Some, None, IsSomeAnd}
use Rattle.std.specs.Option.{ForSome}
use Prim.Native.Nat.{ℕ}
use Rattle.aspif.specs.Store.{WellFormed}
use Rattle.aspif_lines.specs.Text.{Answer, accepted, refused}
use Rattle.aspif_tables.specs.declared.table.Stored.{Stored}
use Rattle.advancing.specs.declared.state.Search.{Search}
use Rattle.advancing.specs.State.{fresh_for}
use Rattle.advancing.proofs.Reached.{reached_fresh, reached_next, reached_more}
use Rattle.optimizer.specs.declared.prepare.Preparation.{Preparation}
use Rattle.planner.specs.declared.service.Loaded.{Loaded}
use Rattle.planner.specs.declared.service.Status.{Status}
use Rattle.planner.specs.declared.advance.Count.{Count}
use Rattle.planner.specs.Held.{Holding, loaded, holding, fresh_service, source_of, PreparedFor}
use Rattle.planner.specs.Sound.{Sound}
use Rattle.planner.specs.Calls.{Says, Loads, Outcome, outcome, Fills, fills, Seen, FreshWith, AfterLoad, moved_to, advanced, advance_call, ran, run_call, look_call, write_call, model_call, name_call, shown_call}
use Rattle.planner.proofs.Link.{formed_source}
use Rattle.planner.proofs.Together.{write_after, model_after, name_after}

-- ---- one program that is loaded

-- what a load leaves
pub sound_loaded : (p : Stored) → WellFormed p → {ix : Preparation} → PreparedFor p ix → {q : Search} → q ≡ fresh_for (source_of p).levels → Sound (loaded p ix q)
sound_loaded p w o d = record { formed = w; prepared = o; reached = reached_fresh (formed_source p w) d }

pub loaded_sound : (p : Stored) → WellFormed p → {ix : Preparation} → PreparedFor p ix → {q : Search} → q ≡ fresh_for (source_of p).levels → {x : Loaded} → holding p ix q ≡ Some x → ∥ Sound x ∥₁
loaded_sound p w {ix} o {q} d {x} h =
    let k : loaded p ix q ≡ x = cc in
    subst (λ (y : Loaded). ∥ Sound y ∥₁) k ∣ sound_loaded p w o d ∣₁

-- an advance is a run of one
pub sound_ran : (b : ℕ) {l : Loaded} → Sound l → Sound (moved_to l (ran l b))
sound_ran b h = record { formed = h.formed; prepared = h.prepared; reached = reached_more b h.reached refl }

pub sound_advanced : {l : Loaded} → Sound l → Sound (moved_to l (advanced l))
sound_advanced h = record { formed = h.formed; prepared = h.prepared; reached = reached_next h.reached refl }

-- what a run leaves
pub ran_sound : {l m x : Loaded} → ∥ Sound l ∥₁ → (b : ℕ) → m ≡ moved_to l (ran l b) → ◌≡◌ {A = Holding} (Some m) (Some x) → ∥ Sound x ∥₁
ran_sound {l} {m} {x} h b d e = let k : moved_to l (ran l b) ≡ x = cc in ∥∥₁_elim h ∥∥₁_prop (λ s. ∣ subst Sound k (sound_ran b s) ∣₁)

-- ---- what a service holds

-- nothing, or one program
none : (P : Loaded → Type 0) → ForSome None P
none P l e = let d : ◌≡◌ {A = Holding} None (Some l) = e in let z : ◌≡◌ {A = ℕ} 0 1 = cc in absurd (omega arith)

one : (P : Loaded → Type 0) {l : Loaded} → P l → ForSome (Some l) P
one P {l} h x e = let d : ◌≡◌ {A = Holding} (Some l) (Some x) = e in let k : l ≡ x = cc in subst P k h

same : (P : Loaded → Type 0) {s u : Holding} → u ≡ s → ForSome s P → ForSome u P
same P e h = subst (λ (x : Holding). ForSome x P) (sym e) h

pub sound_fresh : {s : Holding} → s ≡ fresh_service → ForSome s Sound
sound_fresh e = same Sound e (none Sound)

-- ---- load

-- whatever holds of each sound program holds of what a load leaves, if it held of what there was
load_keeps : (P : Loaded → Type 0) → ((l : Loaded) → Sound l → P l) → (x : Answer) (a : Loads) {s u : Holding} → AfterLoad x s (outcome a u) → ForSome s P → ForSome u P
load_keeps P f (accepted A t) a {s} {u} d h = held u d.1
  where
    held : (u : Holding) → IsSomeAnd u (FreshWith A t) → ForSome u P
    held None w = absurd w
    held (Some l) w = one P (f l (record { formed = w.tables.formed; prepared = w.prepared; reached = reached_fresh (formed_source l.stored w.tables.formed) w.search }))
load_keeps P f (refused c m) a d h = same P (ap (λ (x : Outcome Loads). x.after) d) h

pub sound_load : (x : Answer) (a : Loads) {s u : Holding} → AfterLoad x s (outcome a u) → ForSome s Sound → ForSome u Sound
sound_load = load_keeps Sound (λ l h. h)

-- the same of the ghost field of `Service`
pub load_sound : (x : Answer) (a : Loads) {s u : Holding} → AfterLoad x s (outcome a u) → ForSome s (λ l. ∥ Sound l ∥₁) → ForSome u (λ l. ∥ Sound l ∥₁)
load_sound = load_keeps (λ l. ∥ Sound l ∥₁) (λ l h. ∣ h ∣₁)

pub fresh_sound : {s : Holding} → s ≡ fresh_service → ForSome s (λ l. ∥ Sound l ∥₁)
fresh_sound e = same (λ l. ∥ Sound l ∥₁) e (none (λ l. ∥ Sound l ∥₁))

-- ---- advance and run

advance_keeps : (s : Holding) → ForSome s Sound → ForSome (advance_call s).after Sound
advance_keeps None h = h
advance_keeps (Some l) h = one Sound (sound_advanced (h l refl))

run_keeps : (b : ℕ) (s : Holding) → ForSome s Sound → ForSome (run_call s b).after Sound
run_keeps b None h = h
run_keeps b (Some l) h = one Sound (sound_ran b (h l refl))

pub sound_advance : {s u : Holding} {a : Says Status} → outcome a u ≡ advance_call s → ForSome s Sound → ForSome u Sound
sound_advance {s} d h = same Sound (ap (λ (x : Outcome (Says Status)). x.after) d) (advance_keeps s h)

pub sound_run : (b : ℕ) {s u : Holding} {a : Says Count} → outcome a u ≡ run_call s b → ForSome s Sound → ForSome u Sound
sound_run b {s} d h = same Sound (ap (λ (x : Outcome (Says Count)). x.after) d) (run_keeps b s h)

-- ---- calls that leave the service as it was

pub sound_look : {s u : Holding} {a : Seen} → outcome a u ≡ look_call s → ForSome s Sound → ForSome u Sound
sound_look d h = same Sound (ap (λ (x : Outcome Seen). x.after) d) h

pub sound_shown : (i : ℕ) {s u : Holding} {a : Says Bool} → outcome a u ≡ shown_call s i → ForSome s Sound → ForSome u Sound
sound_shown i d h = same Sound (ap (λ (x : Outcome (Says Bool)). x.after) d) h

pub sound_write : (b : List ℕ) {s u : Holding} {a : Says ℕ} {c : List ℕ} → fills a u c ≡ write_call s b → ForSome s Sound → ForSome u Sound
sound_write b {s} d h = same Sound (ap (λ (x : Fills). x.after) d ∙ write_after b s) h

pub sound_model : (b : List ℕ) {s u : Holding} {a : Says ℕ} {c : List ℕ} → fills a u c ≡ model_call s b → ForSome s Sound → ForSome u Sound
sound_model b {s} d h = same Sound (ap (λ (x : Fills). x.after) d ∙ model_after b s) h

pub sound_name : (i : ℕ) (b : List ℕ) {s u : Holding} {a : Says ℕ} {c : List ℕ} → fills a u c ≡ name_call s i b → ForSome s Sound → ForSome u Sound
sound_name i b {s} d h = same Sound (ap (λ (x : Fills). x.after) d ∙ name_after b i s) h
