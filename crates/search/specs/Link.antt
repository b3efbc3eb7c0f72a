-- What the tables' test and step are for the machine over trails. Assumes nothing: these are definitions.
use Rattle.std.specs.Prelude.{List, ℕ, eqb}
use Rattle.std.proofs.Math.Option.{none, some}
use Rattle.asp.specs.Sets.{Set, pick}
use Rattle.asp.specs.Tables.{literals_at, rules_of}
use Rattle.search.specs.declared.trail.Places.{Places}
use Rattle.search.specs.Places.{trail_of}
use Rattle.search.specs.Scan.{Rules}
use Rattle.search.specs.Soft.{AssumedEntries}
use Rattle.search.specs.Query.{Query}
use Rattle.search.specs.Machine.{Verdict, open', conflict, QueryState, running, without, blame}
use Rattle.search.specs.Step.{Stepped}
use Rattle.search.specs.declared.step.Tested.{Tested}
use Rattle.search.specs.declared.step.Tested.TheVariants.{RuleBroken, Full, SoftViolated, Open}

-- the query that the tables hold, for any class of sought sets
abbrev pub table_query : Rules → ℕ → AssumedEntries → (Set → Type 0) → Query
table_query g n s Sought = record { n = n; rules = rules_of g.pool g.rows g.count; wished = literals_at s.wished 0 s.count; Sought = Sought }

-- the verdict on a trail: `name i` is the number of the soft literal at place i, and j the caller's verdict on a full trail
abbrev pub verdict_of : (ℕ → ℕ) → Verdict → Tested → Verdict
verdict_of name j (RuleBroken r) = conflict none
verdict_of name j Full = j
verdict_of name j (SoftViolated i) = conflict (some (name i))
verdict_of name j (Open l) = open' l

-- the state after a cut: "on a failed path without a first literal, end the question without a model"
abbrev pub back_state : Places → List ℕ → QueryState
back_state t ms = pick (eqb t.len 0) (without ms) (running (trail_of t) ms)

-- the state after a step, with what was blamed before it; a full trail stays as it is
abbrev pub state_by : (ℕ → ℕ) → Tested → Places → List ℕ → QueryState
state_by name (RuleBroken r) t ms = back_state t ms
state_by name Full t ms = running (trail_of t) ms
state_by name (SoftViolated i) t ms = back_state t (blame (some (name i)) ms)
state_by name (Open l) t ms = running (trail_of t) ms

abbrev pub state_of : (ℕ → ℕ) → Stepped → List ℕ → QueryState
state_of name x ms = state_by name x.tested x.trail ms
