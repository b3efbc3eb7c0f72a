-- The end of a query, where it is known whether its core was recorded. No code goes by these; that they come to `finish_of` is `optimizer:Finishing` `finish_by`. Assumes nothing: these are
-- definitions.
use Rattle.std.specs.Prelude.{Bool, true, false, ◌&&◌, List, ℕ}
use Rattle.asp.specs.Sets.{pick}
use Rattle.cores.specs.Level.{core_fits}
use Rattle.cores.specs.declared.level.LevelTables.{LevelTables}
use Rattle.cores.specs.Tables.{held_in, recorded_tables}
use Rattle.advancing.specs.declared.state.Phase.{Phase}
use Rattle.advancing.specs.declared.state.Phase.TheVariants.{First, Level, Optimum, Incoherent, Full}
use Rattle.advancing.specs.declared.state.Work.{Work}
use Rattle.advancing.specs.declared.state.Turn.{Turn}
use Rattle.advancing.specs.declared.state.Turn.TheVariants.{Going, Without, Model}
use Rattle.advancing.specs.Source.{Levels}
use Rattle.advancing.specs.Finish.{Placed, placed, settle_of, better_of, fallen, with_tables, finish_first}

-- whether the query ends with a core to be recorded, and whether there is room for its n members
abbrev pub asks_core : Phase → Turn → Bool
asks_core First x = false
asks_core Level Going = false
asks_core Level Without = true
asks_core Level Model = false
asks_core Optimum x = false
asks_core Incoherent x = false
asks_core Full x = false

abbrev pub records_of : Phase → Turn → LevelTables → ℕ → Bool
records_of p x t n = asks_core p x && core_fits t.count (held_in t) n

abbrev pub recorded_work : Work → List ℕ → Work
recorded_work w ms = with_tables w (recorded_tables w.tables w.stratum ms)

-- the end of any query, in which a core was recorded in w, or not
abbrev pub finished_level : Levels → Bool → Work → List ℕ → Turn → Placed
finished_level L b w v Going = placed Level w
finished_level L b w v Without = pick b (settle_of L w) (placed Full w)
finished_level L b w v Model = settle_of L (fallen (better_of L w v))

abbrev pub finished_of : Levels → Phase → Bool → Work → List ℕ → Turn → Placed
finished_of L First b w v x = finish_first L w v x
finished_of L Level b w v x = finished_level L b w v x
finished_of L Optimum b w v x = placed Optimum w
finished_of L Incoherent b w v x = placed Incoherent w
finished_of L Full b w v x = placed Full w
