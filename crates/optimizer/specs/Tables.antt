-- The tables of a program, of rules and an objective that are lent. Assumes nothing: these are definitions.
use Rattle.std.specs.Prelude.{length}
use Rattle.asp.specs.declared.rules.RuleTable.{RuleTable}
use Rattle.asp.specs.declared.cost.Objective.{Objective}
use Rattle.advancing.specs.Source.{Source, source, levels_lent}

abbrev pub source_by : RuleTable → Objective → Source
source_by r o = source r.atoms r.pool.now r.rows.now (length r.rows.now) (levels_lent o)
