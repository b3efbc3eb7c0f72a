-- What views of the rules mean. Assumes nothing: these are definitions.
use Rattle.std.specs.Prelude.{length}
use Rattle.search.specs.Scan.{Rules, rules}
use Rattle.counting.specs.declared.views.ReadableRules.{ReadableRules}
use Rattle.counting.specs.declared.views.WeighableRules.{WeighableRules}
use Rattle.counting.specs.Counters.{Bodies, bodies}

abbrev pub rules_read : ReadableRules → Rules
rules_read g = rules g.pool.now g.rows.now (length g.rows.now)

abbrev pub bodies_weighed : WeighableRules → Bodies
bodies_weighed g = bodies g.pool.now g.rows.now
