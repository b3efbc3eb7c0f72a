-- What holds of the program that a service holds: it is what a list of calls from a fresh service leaves. Assumes nothing: these are definitions.
use Rattle.aspif.specs.Store.{WellFormed}
use Rattle.advancing.specs.Run.{Reached}
use Rattle.planner.specs.declared.service.Loaded.{Loaded}
use Rattle.planner.specs.Held.{source_of, PreparedFor}

-- its tables are well formed, what is prepared is theirs, and the optimization is one that advances from a fresh one lead to
pub record Sound (l : Loaded) : Type 0 where
  pub formed : WellFormed l.stored
  pub prepared : PreparedFor l.stored l.prepared
  pub reached : Reached (source_of l.stored) l.search
