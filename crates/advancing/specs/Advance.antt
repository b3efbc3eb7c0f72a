-- One advance of an optimization, and advances in a row. Document 01, "Question and path" and "The calls". Assumes nothing: these are definitions.
use Rattle.std.specs.Prelude.{ℕ, zero, suc, ◌+◌, ltb}
use Rattle.asp.specs.Sets.{pick}
use Rattle.search.specs.Places.{fresh_places}
use Rattle.advancing.specs.declared.state.Phase.{Phase}
use Rattle.advancing.specs.declared.state.Work.{Work}
use Rattle.advancing.specs.declared.state.Search.{Search}
use Rattle.advancing.specs.Source.{Levels, Source}
use Rattle.advancing.specs.Turn.{QueryTables, query_of, blamed_of, Turned, turn_of, is_going}
use Rattle.advancing.specs.State.{search, fresh_blame, is_running}
use Rattle.advancing.specs.Finish.{Placed, finish_of}

-- "the figure stays at 2^64 - 1"
abbrev pub bumped : ℕ → ℕ
bumped c = pick (ltb c 18446744073709551615) (c + 1) c

-- "An ended question empties the path, and the same advance prepares the next."
abbrev pub ended_query : ℕ → Placed → Search
ended_query c x = search x.phase c fresh_places fresh_blame x.work

-- the state after steps of a query that came to x, c advances made
abbrev pub after_turns : Levels → Phase → ℕ → Work → Turned → Search
after_turns L p c w x = pick (is_going x.turn) (search p c x.trail x.blame w) (ended_query c (finish_of L p w x.trail.value (blamed_of x.blame) x.turn))

abbrev pub finish_turn : Source → Phase → ℕ → Work → Turned → Search
finish_turn S p c w x = after_turns S.levels p c w x

abbrev pub work_query : Work → QueryTables
work_query w = query_of w.level w.lowers w.tables w.stratum

-- "An advance after the end does nothing and isn't counted."
unfoldable pub advance_of : Source → Search → Search
advance_of S s =
    pick (is_running s.phase)
    (finish_turn S s.phase (bumped s.advances) s.work (turn_of S (work_query s.work) s.trail s.blame))
    s

-- ---- runs

unfoldable pub advances_of : Source → ℕ → Search → Search
advances_of S zero s = s
advances_of S (suc k) s = advances_of S k (advance_of S s)

-- how many advances a run of a budget makes: until the status is not running or the count equals the budget
unfoldable pub made_by : Source → ℕ → Search → ℕ
made_by S zero s = 0
made_by S (suc k) s = pick (is_running s.phase) (suc (made_by S k (advance_of S s))) 0
