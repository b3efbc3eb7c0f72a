-- What lent rules and lent wishes mean. Assumes nothing: these are definitions.
use Rattle.std.specs.Prelude.{List, ℕ, ℤ, length}
use Rattle.asp.specs.Sets.{set_of}
use Rattle.asp.specs.declared.rules.RuleTable.{RuleTable}
use Rattle.search.specs.declared.soft.Wishes.{Wishes}
use Rattle.search.specs.declared.scan.Found.{Found}
use Rattle.search.specs.Scan.{Rules, rules}
use Rattle.search.specs.Soft.{AssumedEntries, assumed_entries}
use Rattle.search.specs.Branch.{free_branch, branch_of}

abbrev pub rules_lent : RuleTable → Rules
rules_lent t = rules t.pool.now t.rows.now (length t.rows.now)

abbrev pub assumed_lent : Wishes → AssumedEntries
assumed_lent w = assumed_entries w.literals.now w.blamed.now (length w.literals.now) (set_of w.tried.now)

-- the branches, under the values v
abbrev pub free_branch_lent : Wishes → List ℕ → ℤ
free_branch_lent w v = free_branch (set_of w.tried.now) w.literals.now (length w.literals.now) v w.atoms

abbrev pub branch_lent : Wishes → List ℕ → Found → ℤ
branch_lent w v f = branch_of (set_of w.tried.now) w.literals.now (length w.literals.now) v w.atoms f
