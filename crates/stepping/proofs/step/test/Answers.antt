use Rattle.std.proofs.Common.{rules}
use Rattle.stepping.proofs.StepLaws.{counted_told}
use Rattle.search.proofs.NotedLaws.{found_noted}
use Rattle.stepping.proofs.step.test.Goals as goal

pub scan-s-requires-clause-told : goal.scan-s-requires-clause-told
scan-s-requires-clause-told c = rw c.readable-rules.ensures (counted_told c.args.g.now.indexed c.requires)

pub test_by-requires-clause-noted : goal.test_by-requires-clause-noted
test_by-requires-clause-noted c = search (found_noted, rules)
