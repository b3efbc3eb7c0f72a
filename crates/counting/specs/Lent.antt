-- What lent rules and lent lists mean. Assumes nothing: these are definitions.
use Rattle.asp.specs.declared.rules.RuleTable.{RuleTable}
use Rattle.counting.specs.declared.index.Index.{Index}
use Rattle.counting.specs.declared.index.Lists.{Lists}
use Rattle.counting.specs.Counters.{index, Bodies, bodies}

-- the weighted bodies
abbrev pub bodies_lent : RuleTable → Bodies
bodies_lent t = bodies t.pool.now t.rows.now

abbrev pub lists_lent : Lists → Index
lists_lent o = index o.starts.now o.rules.now o.shape
