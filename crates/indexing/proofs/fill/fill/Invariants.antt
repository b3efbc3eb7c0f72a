use Rattle.counting.specs.Lent.{lists_lent}
use Rattle.counting.specs.Views.{rules_read}
use Rattle.indexing.proofs.FillLaws.{Filled}
use Rattle.indexing.proofs.fill.fill.Given as goal

abbrev pub invariant-loop-a : goal.invariant-loop-a
invariant-loop-a l = Filled (rules_read l.g) (lists_lent l.lists) l.value l.a l.t
