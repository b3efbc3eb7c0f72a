use Rattle.std.proofs.Common.{length}
use Rattle.asp.specs.Sets.{set_of}
use Rattle.asp.proofs.Rounds.{Unviolated}
use Rattle.stability.proofs.stable.any_violated.Given as goal

abbrev pub invariant-loop-row : goal.invariant-loop-row
invariant-loop-row l = Unviolated (set_of l.m.bytes.now) l.rules.pool.now l.rules.rows.now (length l.rules.rows.now) l.row-index
