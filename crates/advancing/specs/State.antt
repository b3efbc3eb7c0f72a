-- The state of an optimization, as the code keeps it: builders, a fresh one, and whether it runs. Document 01, "Question and path". Assumes nothing: these are
-- definitions.
use Rattle.std.specs.Prelude.{Bool, true, false, List, ◌++◌, ℕ, ℤ, pos, replicate, drop}
use Rattle.asp.specs.Cost.{starts_at}
use Rattle.asp.specs.Tables.{literals_at}
use Rattle.search.specs.declared.trail.Places.{Places}
use Rattle.search.specs.Places.{fresh_places}
use Rattle.cores.specs.declared.level.LevelTables.{LevelTables}
use Rattle.cores.specs.Tables.{empty_tables}
use Rattle.advancing.specs.declared.state.Phase.{Phase}
use Rattle.advancing.specs.declared.state.Phase.TheVariants.{First, Level, Optimum, Incoherent, Full}
use Rattle.advancing.specs.declared.state.Blame.{Blame}
use Rattle.advancing.specs.declared.state.Work.{Work}
use Rattle.advancing.specs.declared.state.Search.{Search}
use Rattle.advancing.specs.Source.{Levels, many, entries_in}
use Rattle.advancing.specs.Turn.{blame_tables}

abbrev pub work : ℕ → LevelTables → ℕ → List ℤ → List ℤ → List ℕ → Work
work level tables stratum lowers uppers best = record { level = level; tables = tables; stratum = stratum; lowers = lowers; uppers = uppers; best = best }

abbrev pub search : Phase → ℕ → Places → Blame → Work → Search
search p c t b w = record { phase = p; advances = c; trail = t; blame = b; work = w }

abbrev pub is_running : Phase → Bool
is_running First = true
is_running Level = true
is_running Optimum = false
is_running Incoherent = false
is_running Full = false

-- ---- a fresh one

abbrev pub fresh_blame : Blame
fresh_blame = blame_tables (replicate 4096 0) (replicate 4096 0) 4096

-- a fresh optimization, over the lower bounds that it starts with: "The first question has none" of the wishes
abbrev pub fresh_work : List ℤ → Work
fresh_work lowers = work 0 empty_tables 0 lowers (replicate 8 (pos 0)) (replicate 1025 0)

abbrev pub fresh_search : List ℤ → Search
fresh_search lowers = search First 0 fresh_places fresh_blame (fresh_work lowers)

-- "A level's lower bound starts at the sum of its negative weights, also on levels not yet in work.": at the front of eight figures
abbrev pub starts_of : Levels → List ℤ
starts_of L = starts_at (literals_at L.levels 0 (many L)) (entries_in L) ++ drop (many L) (replicate 8 (pos 0))

-- an optimization of these levels, before its first advance
abbrev pub first_work : Levels → Work
first_work L = fresh_work (starts_of L)

abbrev pub fresh_for : Levels → Search
fresh_for L = fresh_search (starts_of L)
