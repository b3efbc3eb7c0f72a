use Rattle.search.specs.Lent.{assumed_lent}
use Rattle.search.proofs.SoftLaws.{Seen}
use Rattle.search.proofs.soft.Wishes.violated.Given as goal

abbrev pub invariant-loop-i : goal.invariant-loop-i
invariant-loop-i l = Seen (assumed_lent l.self) l.value l.found l.i
