use Rattle.planner.proofs.Known.{known_tables}
use Rattle.planner.proofs.tables.limited.Goals as goal

pub invariant_of-result : goal.invariant_of-result
invariant_of-result c = record { formed = (known_tables c.requires).levels.entries }

pub invariant_of-result-2 : goal.invariant_of-result-2
invariant_of-result-2 c = record { formed = (known_tables c.requires).levels }
