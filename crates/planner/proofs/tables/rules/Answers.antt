use Rattle.planner.proofs.Known.{known_tables}
use Rattle.planner.proofs.tables.rules.Goals as goal

pub invariant_of-result : goal.invariant_of-result
invariant_of-result c = record { formed = (known_tables c.requires).rules }
