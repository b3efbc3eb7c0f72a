use Rattle.std.proofs.Common.{length}
use Rattle.choosing.proofs.FirstLaws.{Passing}
use Rattle.choosing.proofs.first.choose_all.Given as goal

abbrev pub invariant-loop-row : goal.invariant-loop-row
invariant-loop-row l = Passing l.rules.pool.now l.rules.rows.now (length l.rules.rows.now) l.row-index l.initial.tried l.tried
