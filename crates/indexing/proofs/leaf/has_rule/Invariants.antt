use Rattle.counting.specs.Lent.{lists_lent}
use Rattle.indexing.proofs.LeafLaws.{Looking}
use Rattle.indexing.proofs.leaf.has_rule.Given as goal

abbrev pub invariant-loop-e : goal.invariant-loop-e
invariant-loop-e l = Looking (lists_lent l.heads) l.key l.a l.e-end l.e
