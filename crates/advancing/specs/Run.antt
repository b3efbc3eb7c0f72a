-- Advances, by queries: what the code does at once, and what it needs to know before. Assumes nothing: these are definitions.
use Rattle.std.specs.Prelude.{◌≡◌, ℕ, ◌+◌, ◌≤◌, ◌<◌, ltb}
use Rattle.asp.specs.Sets.{pick}
use Rattle.search.specs.Places.{SoundTrail}
use Rattle.cores.specs.Tables.{SoundTables}
use Rattle.advancing.specs.declared.state.Phase.TheVariants.{Level}
use Rattle.advancing.specs.declared.state.Search.{Search}
use Rattle.advancing.specs.declared.state.Turn.TheVariants.{Without}
use Rattle.advancing.specs.Source.{Source, many, FormedSource}
use Rattle.advancing.specs.Turn.{blamed_of, Turns, turns_of}
use Rattle.advancing.specs.State.{fresh_for}
use Rattle.advancing.specs.Advance.{work_query, finish_turn, advances_of, made_by}
use Rattle.advancing.specs.Ready.{ReadyQuery, GoodBlame, ReadyCore}

-- "the figure stays at 2^64 - 1": k advances more
abbrev pub bumped_by : ℕ → ℕ → ℕ
bumped_by k c = pick (ltb 18446744073709551615 (c + k)) 18446744073709551615 (c + k)

-- an optimization, and how many advances were made in it
pub record AfterRun : Type 0 where
  pub search : Search
  pub made : ℕ

abbrev pub after_run : Search → ℕ → AfterRun
after_run s k = record { search = s; made = k }

-- the steps of the query that stands, k at most
abbrev pub steps_of : Source → ℕ → Search → Turns
steps_of S k s = turns_of S (work_query s.work) k s.trail s.blame

-- those steps, and the end of the query if they reach it
abbrev pub query_run : Source → ℕ → Search → AfterRun
query_run S k s =
    after_run (finish_turn S s.phase (bumped_by (steps_of S k s).made s.advances) s.work (steps_of S k s).turned) (steps_of S k s).made

-- the tables are in shape, and a core that these steps end with can be recorded
pub record ReadyRun (S : Source) (k : ℕ) (s : Search) : Type 0 where
  pub source : FormedSource S
  pub figure : s.advances ≤ 18446744073709551615
  pub query : ReadyQuery S (work_query s.work)
  pub blame : GoodBlame (work_query s.work) s.blame
  pub trail : SoundTrail S.n s.trail
  pub tables : SoundTables s.work.tables
  pub level : s.phase ≡ Level → s.work.level < many S.levels
  pub core : s.phase ≡ Level → (steps_of S k s).turned.turn ≡ Without → ReadyCore s.work (blamed_of (steps_of S k s).turned.blame)

-- the same at every state that advances lead to
abbrev pub Steady : Source → Search → Type 0
Steady S s = (j k : ℕ) → ReadyRun S k (advances_of S j s)

-- a state that advances from a fresh one lead to, over tables that are in shape: all that a caller has to know
pub record Reached (S : Source) (s : Search) : Type 0 where
  pub source : FormedSource S
  pub made : ℕ
  pub is : s ≡ advances_of S made (fresh_for S.levels)

-- "until the status is not running or the count equals the budget": the state, and the number of advances made
abbrev pub run_of : Source → ℕ → Search → AfterRun
run_of S k s = after_run (advances_of S k s) (made_by S k s)
