use lib.ListN.{length}
use Rattle.indexing.proofs.FillLaws.{Basing}
use Rattle.indexing.proofs.fill.start.Given as goal

abbrev pub invariant-loop-r : goal.invariant-loop-r
invariant-loop-r l = Basing l.g.pool.now l.g.rows.now l.value (length l.g.rows.now) l.key l.broken l.r
