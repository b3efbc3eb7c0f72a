use Rattle.search.proofs.BranchLaws.{Low}
use Rattle.search.proofs.branch.lowest.Given as goal

abbrev pub invariant-loop-a : goal.invariant-loop-a
invariant-loop-a l = Low l.value l.n l.a
