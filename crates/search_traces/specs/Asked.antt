-- What a query run here asks, and what its moves leave as it is. Assumes nothing: these are definitions.
use Rattle.std.specs.Prelude.{◌≡◌, length, replicate}
use Rattle.asp.specs.Sets.{set_of}
use Rattle.search.specs.Soft.{AssumedEntries, assumed_entries}
use Rattle.search_traces.specs.declared.machine.Machine.{Machine}

-- no atom is to be tried in first
abbrev pub wishes_of : Machine → AssumedEntries
wishes_of m = assumed_entries m.wished.now m.blamed (length m.wished.now) (set_of (replicate 1025 0))

pub record SameQuery (m k : Machine) : Type 0 where
  pub listed : k.listed ≡ m.listed
  pub wished : k.wished ≡ m.wished
  pub models : k.models ≡ m.models
  pub blamed : k.blamed ≡ m.blamed

-- it goes on over the program, the wishes and the models of before
pub record SameProgram (m k : Machine) : Type 0 where
  pub listed : k.listed ≡ m.listed
  pub wished : k.wished ≡ m.wished
  pub models : k.models ≡ m.models
