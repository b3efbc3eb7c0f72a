use Rattle.std.proofs.Common.{length}
use Rattle.asp.specs.Sets.{set_of}
use Rattle.asp.proofs.Rounds.{Closing, left}
use Rattle.stability.proofs.stable.close.Given as goal

abbrev pub invariant-loop-new : goal.invariant-loop-new
invariant-loop-new l = Closing l.rules.atoms (set_of l.m.bytes.now) l.rules.pool.now l.rules.rows.now (length l.rules.rows.now) l.x l.new

abbrev pub decreases-loop-new : goal.decreases-loop-new
decreases-loop-new l = left l.rules.atoms l.x l.new
