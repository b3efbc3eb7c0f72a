-- A text's answer and tables while its lines are read, and the stored program. Assumes nothing: these are definitions.
use Rattle.std.specs.Prelude.{◌≡◌, List, ℕ, ◌+◌, ◌≤◌, ◌<◌, eqb, nat_abs, length, Option, Some, None, Result, Ok, Err}
use Rattle.std.specs.Borrow.{Bor}
use Rattle.asp.specs.Sets.{pick}
use Rattle.asp.specs.declared.entries.Entry.{Entry}
use Rattle.asp.specs.Program.{Weighed, Body, normal, weighted, Rule, Program, atoms, All, ProgramIn}
use Rattle.asp.specs.Tables.{symbol_row, program_of, Formed}
use Rattle.aspif_fields.specs.Refusals.{refusal_number}
use Rattle.aspif_fields.specs.declared.refusal.Refusal.TheVariants.{Malformed, PastLimit}
use Rattle.aspif_lines.specs.Text.{sum, rule_size, limits, Answer, accepted, refused, lines, pieces}
use Rattle.aspif_lines.specs.Seen.{bytes_at}
use Rattle.aspif_tables.specs.declared.table.Counts.{Counts}
use Rattle.aspif_tables.specs.declared.table.Stored.{Stored}
use Rattle.aspif_tables.specs.declared.line.LineTurn.{LineTurn}
use Rattle.aspif_tables.specs.declared.line.LineTurn.TheVariants.{Last, Goes}
use Rattle.aspif_tables.specs.Lists.{Within, Descending, Sized, tables, lists_of, reading_in, Sound}
use Rattle.aspif.specs.declared.text.RefusedAt.{RefusedAt}

-- ---- one line

-- After the fields of line m: its byte 10, what follows it, the limits.
abbrev pub onward_of : LineTurn → Option (Bor (List ℕ)) → Counts → ℕ → Result (Option (Bor (List ℕ))) RefusedAt
onward_of t None n m = Err (record { refusal = Malformed; line = m })
onward_of Last (Some s) n m = pick (eqb (length s.now) 0) (Ok None) (Err (record { refusal = Malformed; line = m + 1 }))
onward_of Goes (Some s) n m =
    pick (limits n.rules n.used n.entries n.levels n.symbols n.conditions n.names) (Ok (Some s)) (Err (record { refusal = PastLimit; line = m }))

-- What one line leads to, on line m: a refusal, the end, or the lines after it.
abbrev pub seen_onward : Stored → ℕ → Result (Option (Bor (List ℕ))) RefusedAt → Answer
seen_onward p m (Ok None) = accepted (reading_in p).program (reading_in p).text
seen_onward p m (Ok (Some s)) = lines (m + 1) (reading_in p) (pieces s.now)
seen_onward p m (Err e) = refused (refusal_number e.refusal) e.line

-- after it, of the last n bytes of a text, before which k were stored; what is refused is line m or the next
abbrev pub OnwardAfter : Stored → ℕ → ℕ → ℕ → Result (Option (Bor (List ℕ))) RefusedAt → Type 0
OnwardAfter p m n k (Ok None) = Sound p
OnwardAfter p m n k (Ok (Some s)) = Sound p × Within p.counts × (length s.now < n) × (p.counts.text + length s.now ≤ k + n)
OnwardAfter p m n k (Err e) = (m ≤ e.line) × (e.line ≤ m + 1)

-- ---- the whole text

abbrev pub seen_verdict : Stored → Result (Unit {0}) RefusedAt → Answer
seen_verdict p (Ok u) = accepted (reading_in p).program (reading_in p).text
seen_verdict p (Err e) = refused (refusal_number e.refusal) e.line

-- ---- the stored program

-- the program that is stored, and its text
abbrev pub stored_program : Stored → Program
stored_program p = program_of (tables (lists_of p) p.counts)

abbrev pub stored_text : Stored → List ℕ
stored_text p = bytes_at p.text 0 p.counts.text

-- What a load answers, in document 01's numbers: accepted, with the stored program and text; or the refusal's number and line.
abbrev pub answer_of : Result Stored RefusedAt → Answer
answer_of (Ok p) = accepted (stored_program p) (stored_text p)
answer_of (Err e) = refused (refusal_number e.refusal) e.line

-- the tables p, where they were filled
abbrev pub load_of : Stored → Result (Unit {0}) RefusedAt → Result Stored RefusedAt
load_of p (Ok u) = Ok p
load_of p (Err e) = Err e

-- order 2: "Bound is 0 to 1,000,000,000, each weight 0 to 1,000,000"
abbrev pub BodyWeighs : Body → Type 0
BodyWeighs (normal ls) = Unit {0}
BodyWeighs (weighted b ps) = (b ≤ 1000000000) × All (λ (q : Weighed). q.weight ≤ 1000000) ps

-- well-formed tables: their places are inside, their atoms are 1 to n
pub record WellFormed (p : Stored) : Type 0 where
  pub sized : Sized (lists_of p)
  pub within : Within p.counts
  pub text : p.counts.text ≤ 65536
  -- "16,384 head atoms and body literals"
  pub size : sum rule_size (stored_program p).rules ≤ 16384
  -- "n is the highest atom named, 0 if none"
  pub atoms : p.counts.atoms ≡ atoms (stored_program p)
  pub formed : Formed p.counts.atoms p.pool p.rules p.counts.rules
  pub named : ProgramIn p.counts.atoms (stored_program p)
  -- order 1: "Weights now run from -1,000,000 to 1,000,000"
  pub weights : All (λ (e : Entry). nat_abs e.weight ≤ 1000000) (stored_program p).entries
  pub bodies : All (λ (r : Rule). BodyWeighs r.body) (stored_program p).rules
  pub levels : Descending (stored_program p).priorities
  pub symbols : (j : ℕ) → j < p.counts.symbols → ((symbol_row p.symbols j).name + (symbol_row p.symbols j).length ≤ p.counts.text) × ((symbol_row p.symbols j).condition + (symbol_row p.symbols j).literals ≤ p.counts.conditions)
