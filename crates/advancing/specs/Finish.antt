-- The end of a query, on the tables: the best model, the stratum, the core, settling and opening levels. Document 01, "Question and path" and "Wishes and cores".
-- Assumes nothing: these are definitions.
use Rattle.std.specs.Prelude.{List, ◌++◌, ℕ, zero, suc, ◌+◌, ◌-◌, ltb, ℤ, pos, get_or, set, take, drop, replicate, is_err}
use Rattle.std.specs.Int.Signed.{lt_z}
use Rattle.asp.specs.Sets.{set_of, pick}
use Rattle.asp.specs.Literal.{same_ℤ}
use Rattle.asp.specs.Cost.{costs_at, cheaper}
use Rattle.asp.specs.Penalty.{above}
use Rattle.asp.specs.Tables.{literals_at}
use Rattle.cores.specs.Level.{greatest, under}
use Rattle.cores.specs.declared.level.LevelTables.{LevelTables}
use Rattle.cores.specs.Tables.{level_of, opened_tables, Tried, tried_tables}
use Rattle.advancing.specs.declared.state.Phase.{Phase}
use Rattle.advancing.specs.declared.state.Phase.TheVariants.{First, Level, Optimum, Incoherent, Full}
use Rattle.advancing.specs.declared.state.Work.{Work}
use Rattle.advancing.specs.declared.state.Turn.{Turn}
use Rattle.advancing.specs.declared.state.Turn.TheVariants.{Going, Without, Model}
use Rattle.advancing.specs.Source.{Levels, many, entries_in, penalties_at}
use Rattle.advancing.specs.State.{work}

-- the phase, and what stands still in it
pub record Placed : Type 0 where
  pub phase : Phase
  pub work : Work

abbrev pub placed : Phase → Work → Placed
placed p w = record { phase = p; work = w }

-- ---- levels are opened and settled

-- the first level, among k from place j on, on which the bounds are not equal; the place after them if there is none
unfoldable pub next_from : List ℤ → List ℤ → ℕ → ℕ → ℕ
next_from lowers uppers j zero = j
next_from lowers uppers j (suc k) = pick (same_ℤ (get_or uppers j (pos 0)) (get_or lowers j (pos 0))) (next_from lowers uppers (j + 1) k) j

-- "Both tables are emptied for each level." "The stratum begins as the greatest remaining weight."
abbrev pub begun_at : Levels → Work → ℕ → Work
begun_at L w j = work j (opened_tables (penalties_at L j)) (greatest (level_of (opened_tables (penalties_at L j))).rests) w.lowers w.uppers w.best

abbrev pub open_at : Levels → Work → ℕ → Placed
open_at L w j = pick (ltb j (many L)) (placed Level (begun_at L w j)) (placed Optimum (work j w.tables w.stratum w.lowers w.uppers w.best))

-- the levels from place j on: those that the best model settles where they start are passed over
unfoldable pub open_from : Levels → Work → ℕ → Placed
open_from L w j = open_at L w (next_from w.lowers w.uppers j (many L - j))

-- "settled, within the advance, when the best model's cost there equals its lower bound"
unfoldable pub settle_of : Levels → Work → Placed
settle_of L w = pick (same_ℤ (get_or w.uppers w.level (pos 0)) (get_or w.lowers w.level (pos 0))) (open_from L w (w.level + 1)) (placed Level w)

-- ---- the end of a query with a model

-- a set's costs, at the front of eight figures
abbrev pub costs_of : Levels → List ℕ → List ℤ
costs_of L v = costs_at (set_of v) (literals_at L.levels 0 (many L)) (entries_in L) ++ drop (many L) (replicate 8 (pos 0))

-- "A model becomes the best if it is the first or cheaper."
abbrev pub with_best : Levels → Work → List ℕ → Work
with_best L w v = work w.level w.tables w.stratum w.lowers (costs_of L v) v

unfoldable pub better_of : Levels → Work → List ℕ → Work
better_of L w v = pick (cheaper lt_z (take (many L) (costs_of L v)) (take (many L) w.uppers)) (with_best L w v) w

-- "If a model is found, the stratum falls to the greatest remaining weight below it."
abbrev pub fallen : Work → Work
fallen w = work w.level w.tables (under w.stratum (level_of w.tables).rests) w.lowers w.uppers w.best

-- ---- the end of a query without a model

-- "the lower bound rises by" the stratum
abbrev pub with_tables : Work → LevelTables → Work
with_tables w t = work w.level t w.stratum (set w.lowers w.level (above (get_or w.lowers w.level (pos 0)) w.stratum)) w.uppers w.best

abbrev pub tried_work : Levels → Work → Tried → Placed
tried_work L w x = pick (is_err x.answer) (placed Full w) (settle_of L (with_tables w x.tables))

-- ---- the end of any query

abbrev pub finish_first : Levels → Work → List ℕ → Turn → Placed
finish_first L w v Going = placed First w
finish_first L w v Without = placed Incoherent w
finish_first L w v Model = open_from L (with_best L w v) 0

abbrev pub finish_level : Levels → Work → List ℕ → List ℕ → Turn → Placed
finish_level L w v ms Going = placed Level w
finish_level L w v ms Without = tried_work L w (tried_tables w.tables w.stratum ms)
finish_level L w v ms Model = settle_of L (fallen (better_of L w v))

-- v: the values of the trail; ms: what is blamed
abbrev pub finish_of : Levels → Phase → Work → List ℕ → List ℕ → Turn → Placed
finish_of L First w v ms x = finish_first L w v x
finish_of L Level w v ms x = finish_level L w v ms x
finish_of L Optimum w v ms x = placed Optimum w
finish_of L Incoherent w v ms x = placed Incoherent w
finish_of L Full w v ms x = placed Full w
