-- Lists of calls, and the tally beside them. Document 01, "Whole lists of calls". Assumes nothing: these are definitions.
use Rattle.std.specs.Prelude.{◌≡◌, Bool, true, false, List, [], ◌∷◌, ℕ, ◌+◌, Option, Some, None}
use Rattle.asp.specs.Sets.{pick}
use Rattle.aspif_lines.specs.Text.{Answer, accepted, refused, text_of}
use Rattle.planner.specs.declared.service.Status.{Status}
use Rattle.planner.specs.declared.service.Status.TheVariants as status
use Rattle.planner.specs.declared.advance.Count.{Count}
use Rattle.planner.specs.Held.{Holding, fresh_service}
use Rattle.planner.specs.Calls.{Says, gives, refuses, refuses_for, Loads, outcome, fills, Filling, Seen, AfterLoad, advance_call, run_call, look_call, write_call, model_call, name_call, shown_call}

-- ---- calls

-- a call with its text, budget, position or lent bytes: "Every text and lent buffer is that call's own, with any bytes in it."
pub data Call : Type 0 where
  load : List ℕ → Call
  clear : Call
  advance : Call
  run : ℕ → Call
  look : Call
  write : List ℕ → Call
  model : List ℕ → Call
  name : ℕ → List ℕ → Call
  shown : ℕ → Call

-- what a call answers, and the lent bytes after it
abbrev pub Reply : Call → Type 0
Reply (load t) = Loads
Reply clear = Unit {0}
Reply advance = Says Status
Reply (run b) = Says Count
Reply look = Seen
Reply (write b) = Filling
Reply (model b) = Filling
Reply (name i b) = Filling
Reply (shown i) = Says Bool

-- the call on a service that holds s answers a and leaves u: what the public methods ensure
abbrev pub Does : (c : Call) → Holding → Reply c → Holding → Type 0
Does (load t) s a u = AfterLoad (text_of t) s (outcome a u)
Does clear s a u = u ≡ fresh_service
Does advance s a u = outcome a u ≡ advance_call s
Does (run b) s a u = outcome a u ≡ run_call s b
Does look s a u = outcome a u ≡ look_call s
Does (write b) s a u = fills a.answer u a.bytes ≡ write_call s b
Does (model b) s a u = fills a.answer u a.bytes ≡ model_call s b
Does (name i b) s a u = fills a.answer u a.bytes ≡ name_call s i b
Does (shown i) s a u = outcome a u ≡ shown_call s i

-- ---- the tally: "It holds a text or none, a status and a count; at first none, empty and 0."

pub record Tally : Type 0 where
  pub text : Option (List ℕ)
  pub held : Status
  pub count : ℕ

abbrev pub tally : Option (List ℕ) → Status → ℕ → Tally
tally t a k = record { text = t; held = a; count = k }

abbrev pub begin : Tally
begin = tally None status.Empty 0

abbrev pub is_running_status : Status → Bool
is_running_status status.Empty = false
is_running_status status.Running = true
is_running_status status.Optimum = false
is_running_status status.Incoherent = false
is_running_status status.Full = false

-- "Load of a text that keeps the rules and limits here: that text, running, 0."
abbrev pub feed_load : List ℕ → Answer → Tally → Tally
feed_load t (accepted P w) T = tally (Some t) status.Running 0
feed_load t (refused c m) T = T

-- with a text, or none
abbrev pub with_text : Option (List ℕ) → Tally → Tally → Tally
with_text None T U = T
with_text (Some t) T U = U

-- "Advance, with a text: the count rises by 1 if the status held is running; then the status answered is held."
abbrev pub feed_advance : Says Status → Tally → Tally
feed_advance (gives a) T = with_text T.text T (tally T.text a (pick (is_running_status T.held) (T.count + 1) T.count))
feed_advance (refuses c) T = T
feed_advance (refuses_for c n) T = T

-- "Run, with a text: the count rises by the run's count; the status answered is held."
abbrev pub feed_run : Says Count → Tally → Tally
feed_run (gives x) T = with_text T.text T (tally T.text x.status (T.count + x.made))
feed_run (refuses c) T = T
feed_run (refuses_for c n) T = T

-- "Look, write, model, and every refused call: no change."
abbrev pub feed : (c : Call) → Reply c → Tally → Tally
feed (load t) a T = feed_load t (text_of t) T
feed clear a T = begin
feed advance a T = feed_advance a T
feed (run b) a T = feed_run a T
feed look a T = T
feed (write b) a T = T
feed (model b) a T = T
feed (name i b) a T = T
feed (shown i) a T = T

-- ---- "Each call gets the service as the call before left it": the calls lead from s and the tally T to u and U

abbrev pub Leads : List Call → Holding → Tally → Holding → Tally → Type 0
Leads [] s T u U = (u ≡ s) × (U ≡ T)
Leads (c ∷ cs) s T u U = (a : Reply c) × (r : Holding) × Does c s a r × Leads cs r (feed c a T) u U

-- every list of calls leads on from every service, so that a claim about all that lists lead to is about each of them
abbrev pub Inhabited : Type 0
Inhabited = (cs : List Call) (s : Holding) (T : Tally) → (u : Holding) × (U : Tally) × Leads cs s T u U
