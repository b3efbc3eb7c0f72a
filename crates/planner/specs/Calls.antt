-- Each call as a function of what the service holds: its answer, what the service holds after it, every lent byte. Document 01, "The calls" and "Refused ..".
-- Assumes nothing: these are definitions.
use Rattle.std.specs.Prelude.{◌≡◌, Bool, true, false, List, [], ℕ, ◌+◌, ltb, ℤ, length, take, Option, Some, None, Result, Ok, Err, IsSomeAnd}
use Rattle.std.specs.Borrow.{Bor}
use Rattle.asp.specs.declared.symbols.SymbolRow.{SymbolRow}
use Rattle.asp.specs.Sets.{Set, pick}
use Rattle.asp.specs.Program.{Program}
use Rattle.asp.specs.Stable.{shown}
use Rattle.asp.specs.Tables.{span}
use Rattle.aspif_lines.specs.Text.{Answer, accepted, refused}
use Rattle.aspif_lines.specs.Seen.{bytes_at}
use Rattle.aspif.specs.Store.{stored_program, stored_text, WellFormed}
use Rattle.aspif.specs.Write.{buffer_of}
use Rattle.aspif_tables.specs.declared.table.Stored.{Stored}
use Rattle.aspif.specs.declared.write.Short.{Short}
use Rattle.aspif_fields.specs.Refusals.{refusal_number}
use Rattle.advancing.specs.declared.state.Phase.{Phase}
use Rattle.advancing.specs.declared.state.Search.{Search}
use Rattle.advancing.specs.State.{fresh_for}
use Rattle.advancing.specs.Advance.{advance_of, advances_of, made_by}
use Rattle.advancing.specs.Facts.{has_model, is_in_work, lowers_in, uppers_in, best_in}
use Rattle.planner.specs.declared.service.Loaded.{Loaded}
use Rattle.planner.specs.declared.service.Status.{Status}
use Rattle.planner.specs.declared.service.Status.TheVariants as status
use Rattle.planner.specs.declared.service.Refusal.{Refusal}
use Rattle.planner.specs.declared.service.Refusal.TheVariants as refusal
use Rattle.aspif.specs.declared.text.RefusedAt.{RefusedAt}
use Rattle.planner.specs.declared.advance.Count.{Count}
use Rattle.planner.specs.declared.look.InWork.{InWork}
use Rattle.planner.specs.declared.look.View.{View}
use Rattle.planner.specs.declared.look.Snapshot.{Snapshot}
use Rattle.planner.specs.Held.{loaded, Holding, source_of, PreparedFor, symbol_of, status_of}

-- ---- answers in document 01's numbers and values

-- what a call gives; or a refusal's number; or a refusal's number with the needed length
pub data Says (A : Type 0) : Type 0 where
  gives : A → Says A
  refuses : ℕ → Says A
  refuses_for : ℕ → ℕ → Says A

-- each refusal by its number
abbrev pub says_refusal : {A : Type 0} → Refusal → Says A
says_refusal refusal.NotLoaded = refuses 6
says_refusal refusal.NoModel = refuses 7
says_refusal (refusal.Short n) = refuses_for 8 n
says_refusal refusal.NoSymbol = refuses 9

abbrev pub says : {A : Type 0} → Result A Refusal → Says A
says (Ok x) = gives x
says (Err e) = says_refusal e

-- an answer, and what the service holds after the call
pub record Outcome (A : Type 0) : Type 0 where
  pub answer : A
  pub after : Holding

abbrev pub outcome : {A : Type 0} → A → Holding → Outcome A
outcome a s = record { answer = a; after = s }

-- the same with the lent bytes after the call; the answer is their length
pub record Fills : Type 0 where
  pub answer : Says ℕ
  pub after : Holding
  pub bytes : List ℕ

abbrev pub fills : Says ℕ → Holding → List ℕ → Fills
fills a s b = record { answer = a; after = s; bytes = b }

-- ---- load

-- the tables of an accepted text, with its program and its text less the comments: how they lie is free
pub record TablesOf (P : Program) (t : List ℕ) (p : Stored) : Type 0 where
  pub formed : WellFormed p
  pub program : stored_program p ≡ P
  pub text : stored_text p ≡ t

-- "accepted, the service is as a fresh one given it": nothing of the one before
pub record FreshWith (P : Program) (t : List ℕ) (l : Loaded) : Type 0 where
  pub tables : TablesOf P t l.stored
  pub prepared : PreparedFor l.stored l.prepared
  pub search : l.search ≡ fresh_for (source_of l.stored).levels

-- accepted, or the refusal's number and line
pub data Loads : Type 0 where
  accepts : Loads
  refuses_at : ℕ → ℕ → Loads

abbrev pub says_load : Result (Unit {0}) RefusedAt → Loads
says_load (Ok u) = accepts
says_load (Err e) = refuses_at (refusal_number e.refusal) e.line

-- what a load answers and leaves, by what the text is (aspif's `text_of`)
abbrev pub AfterLoad : Answer → Holding → Outcome Loads → Type 0
AfterLoad (accepted P t) s r = (r.answer ≡ accepts) × IsSomeAnd r.after (FreshWith P t)
AfterLoad (refused c m) s r = r ≡ outcome (refuses_at c m) s

-- ---- clear: `fresh_service` of Held

-- ---- advance and run

-- the program with its optimization at q
abbrev pub moved_to : Loaded → Search → Loaded
moved_to l q = loaded l.stored l.prepared q

abbrev pub advanced : Loaded → Search
advanced l = advance_of (source_of l.stored) l.search

abbrev pub advance_call : Holding → Outcome (Says Status)
advance_call None = outcome (refuses 6) None
advance_call (Some l) = outcome (gives (status_of (advanced l).phase)) (Some (moved_to l (advanced l)))

-- the count of advances made, and the status after them
abbrev pub count_of : ℕ → Status → Count
count_of k a = record { made = k; status = a }

-- after b advances, of which those after the end do nothing
abbrev pub ran : Loaded → ℕ → Search
ran l b = advances_of (source_of l.stored) b l.search

-- those that were made while running
abbrev pub made : Loaded → ℕ → ℕ
made l b = made_by (source_of l.stored) b l.search

abbrev pub run_call : Holding → ℕ → Outcome (Says Count)
run_call None b = outcome (refuses 6) None
run_call (Some l) b = outcome (gives (count_of (made l b) (status_of (ran l b).phase))) (Some (moved_to l (ran l b)))

-- ---- look

-- "status, advances since the load .., priorities (highest first), lower bound, upper bound (the best model's costs, absent before one), level in work (from 1, the
-- highest; 0 if none), stratum (0 if no level is in work)"
pub record Seen : Type 0 where
  pub status : Status
  pub advances : ℕ
  pub priorities : List ℤ
  pub lower : List ℤ
  pub upper : Option (List ℤ)
  pub level : ℕ
  pub stratum : ℕ

abbrev pub seen : Status → ℕ → List ℤ → List ℤ → Option (List ℤ) → ℕ → ℕ → Seen
seen a c ps ls us j t = record { status = a; advances = c; priorities = ps; lower = ls; upper = us; level = j; stratum = t }

abbrev pub given : {A : Type 0} → Bool → A → Option A
given true x = Some x
given false x = None

-- a level in work and its stratum; 0 and 0 if none is
abbrev pub level_of : Option InWork → ℕ
level_of None = 0
level_of (Some w) = w.level

abbrev pub stratum_of : Option InWork → ℕ
stratum_of None = 0
stratum_of (Some w) = w.stratum

abbrev pub upper_of : Option (Bor (List ℤ)) → Option (List ℤ)
upper_of None = None
upper_of (Some us) = Some us.now

-- the figures of a view
abbrev pub seen_view : View → Seen
seen_view v = seen v.status v.advances v.priorities.now v.lowers.now (upper_of v.uppers) (level_of v.in_work) (stratum_of v.in_work)

-- the figures of a snapshot: the places that count
abbrev pub front_of : ℕ → Option (List ℤ) → Option (List ℤ)
front_of k None = None
front_of k (Some us) = Some (take k us)

abbrev pub seen_snapshot : Snapshot → Seen
seen_snapshot v = seen v.status v.advances (take v.levels v.priorities) (take v.levels v.lowers) (front_of v.levels v.uppers) (level_of v.in_work) (stratum_of v.in_work)

-- "look gives status empty, all else 0 or absent"
abbrev pub nothing_seen : Seen
nothing_seen = seen status.Empty 0 [] [] None 0 0

abbrev pub level_seen : Phase → ℕ → ℕ
level_seen p settled = pick (is_in_work p) (settled + 1) 0

abbrev pub stratum_seen : Phase → ℕ → ℕ
stratum_seen p t = pick (is_in_work p) t 0

abbrev pub seen_in : Stored → Search → Seen
seen_in p q =
    seen (status_of q.phase) q.advances (stored_program p).priorities (lowers_in (source_of p) q) (given (has_model q.phase) (uppers_in (source_of p) q))
    (level_seen q.phase q.work.level) (stratum_seen q.phase q.work.stratum)

abbrev pub seen_of : Holding → Seen
seen_of None = nothing_seen
seen_of (Some l) = seen_in l.stored l.search

abbrev pub look_call : Holding → Outcome Seen
look_call s = outcome (seen_of s) s

-- ---- calls that fill lent bytes

-- of aspif's write
abbrev pub says_written : Result ℕ Short → Says ℕ
says_written (Ok n) = gives n
says_written (Err e) = refuses_for 8 e.needed

-- t at the front of the bytes b and the rest as before; or "8: lent bytes too short .. the needed length is returned", and all as before
abbrev pub room_for : ℕ → ℕ → Says ℕ
room_for size room = pick (ltb room size) (refuses_for 8 size) (gives size)

pub record Filling : Type 0 where
  pub answer : Says ℕ
  pub bytes : List ℕ

abbrev pub filling : Says ℕ → List ℕ → Filling
filling a b = record { answer = a; bytes = b }

abbrev pub filled_with : List ℕ → List ℕ → Filling
filled_with t b = filling (room_for (length t) (length b)) (buffer_of t b)

abbrev pub filled : Holding → List ℕ → List ℕ → Fills
filled s t b = fills (filled_with t b).answer s (filled_with t b).bytes

-- "Every refusal leaves service and buffers as before."
abbrev pub unfilled : ℕ → Holding → List ℕ → Fills
unfilled c s b = fills (refuses c) s b

abbrev pub write_call : Holding → List ℕ → Fills
write_call None b = unfilled 6 None b
write_call (Some l) b = filled (Some l) (stored_text l.stored) b

-- "from atom 1 on, 1 for an atom in it and 0 for another"
abbrev pub byte_of : Set → ℕ → ℕ
byte_of M a = pick (M a) 1 0

abbrev pub model_bytes : Set → ℕ → List ℕ
model_bytes M n = span (byte_of M) 1 n

abbrev pub model_call : Holding → List ℕ → Fills
model_call None b = unfilled 6 None b
model_call (Some l) b =
    pick (has_model l.search.phase) (filled (Some l) (model_bytes (best_in l.search) l.stored.counts.atoms) b) (unfilled 7 (Some l) b)

-- ---- symbols

abbrev pub has_symbol : Loaded → ℕ → Bool
has_symbol l i = ltb i l.stored.counts.symbols

abbrev pub name_of : List ℕ → SymbolRow → List ℕ
name_of text r = bytes_at text r.name r.length

abbrev pub name_call : Holding → ℕ → List ℕ → Fills
name_call None i b = unfilled 6 None b
name_call (Some l) i b = pick (has_symbol l i) (filled (Some l) (symbol_of l.stored i).name b) (unfilled 9 (Some l) b)

-- "handed back as a part of the lent name bytes"; nothing where the call is refused
abbrev pub part_of : Says ℕ → List ℕ → List ℕ
part_of (gives n) b = take n b
part_of (refuses c) b = []
part_of (refuses_for c n) b = []

-- the same, or the refusal
abbrev pub part_or : Says ℕ → List ℕ → Says (List ℕ)
part_or (gives n) b = gives (take n b)
part_or (refuses c) b = refuses c
part_or (refuses_for c n) b = refuses_for c n

abbrev pub says_part : Result (Bor (List ℕ)) Refusal → Says (List ℕ)
says_part (Ok t) = gives t.now
says_part (Err e) = says_refusal e

-- "7 .. After 9."
abbrev pub shown_says : Holding → ℕ → Says Bool
shown_says None i = refuses 6
shown_says (Some l) i =
    pick (has_symbol l i) (pick (has_model l.search.phase) (gives (shown (best_in l.search) (symbol_of l.stored i))) (refuses 7)) (refuses 9)

abbrev pub shown_call : Holding → ℕ → Outcome (Says Bool)
shown_call s i = outcome (shown_says s i) s
