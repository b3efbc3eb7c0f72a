-- Every call does something, whatever the service: an accepted text has tables to load. So every list of calls leads on. Assumes nothing.
use mathlib.Core.Path.{◌≡◌, refl}
use mathlib.Core.List.{List, [], ◌∷◌}
use Prim.Native.Nat.{ℕ}
use Rattle.aspif_lines.specs.Text.{Answer, accepted, refused, text_of}
use Rattle.aspif.proofs.Witness.{accepted_stored}
use Rattle.advancing.specs.State.{fresh_for}
use Rattle.optimizer.proofs.Preparing.{prepared_exist}
use Rattle.planner.specs.Held.{Holding, holding, fresh_service, source_of}
use Rattle.planner.specs.Calls.{Loads, accepts, refuses_at, outcome, filling, AfterLoad, advance_call, run_call, look_call, write_call, model_call, name_call, shown_call}
use Rattle.planner.specs.Tally.{Call, load, clear, advance, run, look, write, model, name, shown, Reply, Does, feed, Inhabited}
use Rattle.planner.proofs.Link.{formed_source}

does_load : (t : List ℕ) (x : Answer) → text_of t ≡ x → (s : Holding) → (a : Loads) × (u : Holding) × AfterLoad x s (outcome a u)
does_load t (accepted P w) e s =
    let (p, formed, program, text) = accepted_stored t P w e in
    let (ix, prepared) = prepared_exist (source_of p) (formed_source p formed) in
    (accepts, holding p ix (fresh_for (source_of p).levels), (refl, record { tables = record { formed = formed; program = program; text = text }; prepared = prepared; search = refl }))
does_load t (refused c m) e s = (refuses_at c m, s, refl)

does : (c : Call) (s : Holding) → (a : Reply c) × (u : Holding) × Does c s a u
does (load t) s = does_load t (text_of t) refl s
does clear s = (tt, fresh_service, refl)
does advance s = ((advance_call s).answer, (advance_call s).after, refl)
does (run b) s = ((run_call s b).answer, (run_call s b).after, refl)
does look s = ((look_call s).answer, s, refl)
does (write b) s = (filling (write_call s b).answer (write_call s b).bytes, (write_call s b).after, refl)
does (model b) s = (filling (model_call s b).answer (model_call s b).bytes, (model_call s b).after, refl)
does (name i b) s = (filling (name_call s i b).answer (name_call s i b).bytes, (name_call s i b).after, refl)
does (shown i) s = ((shown_call s i).answer, s, refl)

pub inhabited : Inhabited
inhabited [] s T = (s, T, (refl, refl))
inhabited (c ∷ cs) s T =
    let (a, r, d) = does c s in
    let (u, U, l) = inhabited cs r (feed c a T) in
    (u, U, (a, r, d, l))
