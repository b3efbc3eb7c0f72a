use Rattle.counting.specs.Lent.{lists_lent}
use Rattle.indexing.proofs.LeafLaws.{Supporting}
use Rattle.indexing.proofs.leaf.unsupported.Given as goal

abbrev pub invariant-loop-a : goal.invariant-loop-a
invariant-loop-a l = Supporting (lists_lent l.heads) l.key l.value l.n l.a
