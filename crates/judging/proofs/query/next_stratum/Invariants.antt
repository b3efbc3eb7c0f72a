use Rattle.cores.specs.Columns.{rests_of}
use Rattle.cores.proofs.Queries.{Falling}
use Rattle.judging.proofs.query.next_stratum.Given as goal

abbrev pub invariant-loop-r : goal.invariant-loop-r
invariant-loop-r l = Falling l.s (rests_of l.softs) l.best l.r-index
