-- The program of lent rules. Assumes nothing: this is a definition.
use Rattle.std.specs.Prelude.{List, length}
use Rattle.asp.specs.Program.{Rule}
use Rattle.asp.specs.Tables.{rules_of}
use Rattle.asp.specs.declared.rules.RuleTable.{RuleTable}

abbrev pub program_lent : RuleTable → List Rule
program_lent t = rules_of t.pool.now t.rows.now (length t.rows.now)
