-- What a service holds: a program with its optimization, or nothing. Assumes nothing: these are definitions.
use Rattle.std.specs.Prelude.{Option, Some, None, ℕ, length, take}
use Rattle.asp.specs.Program.{Symbol}
use Rattle.asp.specs.Tables.{symbol_row, symbol_at}
use Rattle.aspif_tables.specs.declared.table.Stored.{Stored}
use Rattle.advancing.specs.declared.state.Phase.{Phase}
use Rattle.advancing.specs.declared.state.Phase.TheVariants.{First, Level, Optimum, Incoherent, Full}
use Rattle.advancing.specs.declared.state.Search.{Search}
use Rattle.optimizer.specs.declared.prepare.Preparation.{Preparation}
use Rattle.advancing.specs.Source.{Source, source, level_tables, Prepared}
use Rattle.planner.specs.declared.service.Loaded.{Loaded}
use Rattle.planner.specs.declared.service.Status.{Status}
use Rattle.planner.specs.declared.service.Status.TheVariants as status

abbrev pub loaded : Stored → Preparation → Search → Loaded
loaded p ix q = record { stored = p; prepared = ix; search = q }

-- what a service holds: its field `held`
abbrev pub Holding : Type 0
Holding = Option Loaded

abbrev pub holding : Stored → Preparation → Search → Holding
holding p ix q = Some (loaded p ix q)

-- "A fresh service has nothing loaded and status empty."
abbrev pub fresh_service : Holding
fresh_service = None

-- ---- a program is loaded

-- the tables that its optimization reads
abbrev pub source_of : Stored → Source
source_of p =
    source p.counts.atoms p.pool (take p.counts.rules p.rules) (length (take p.counts.rules p.rules))
    (level_tables (take p.counts.levels p.levels) (take p.counts.entries p.entries))

-- what is made once for the tables: it makes an advance fast, and no answer depends on how it lies
abbrev pub PreparedFor : Stored → Preparation → Type 0
PreparedFor p ix = Prepared (source_of p) ix.conditions ix.heads ix.tried

-- the symbol at a position
abbrev pub symbol_of : Stored → ℕ → Symbol
symbol_of p i = symbol_at p.text p.conditions (symbol_row p.symbols i)

-- the status
abbrev pub status_of : Phase → Status
status_of First = status.Running
status_of Level = status.Running
status_of Optimum = status.Optimum
status_of Incoherent = status.Incoherent
status_of Full = status.Full
