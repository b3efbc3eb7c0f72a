-- One advance of a query over its trail, for any test of a trail: "An advance does one of these". Branching and blame are the test's. Assumes nothing: these are definitions.
use Rattle.std.specs.Prelude.{List, ◌∷◌, ℕ}
use Rattle.std.proofs.Math.Option.{Option, none, some}
use Rattle.asp.specs.Sets.{Set, pick}
use Rattle.asp.specs.Program.{Literal}
use Rattle.asp.specs.Stable.{member}
use Rattle.search.specs.Trail.{Trail, decision, trail_set, flip}

-- what the test says of a trail: open, with the literal to add; a conflict, with the soft literal to blame, if one is; wanted
pub data Verdict : Type 0 where
  open' : Literal → Verdict
  conflict : Option ℕ → Verdict
  wanted : Verdict

-- a query that runs has a trail, and what is blamed so far; one that has ended has none or a model
pub data QueryState : Type 0 where
  running : Trail → List ℕ → QueryState
  without : List ℕ → QueryState
  model : Set → QueryState

abbrev pub blame : Option ℕ → List ℕ → List ℕ
blame none ms = ms
blame (some m) ms = pick (member m ms) ms (m ∷ ms)

abbrev pub resume : Option Trail → List ℕ → QueryState
resume none ms = without ms
resume (some t) ms = running t ms

-- - "on an open path, add a literal of an atom from 1 to n, marked first";
-- - "on a failed path, cut it after its last first literal and replace that by its complement, marked second";
-- - "on a failed path without a first literal, end the question without a model";
-- - "on a wanted path, end it with that model"
abbrev pub advance_by : Verdict → Trail → List ℕ → QueryState
advance_by (open' l) t ms = running (decision l ∷ t) ms
advance_by (conflict b) t ms = resume (flip t) (blame b ms)
advance_by wanted t ms = model (trail_set t)
