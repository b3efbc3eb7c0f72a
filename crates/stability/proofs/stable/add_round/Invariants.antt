use Rattle.std.proofs.Common.{length}
use Rattle.asp.specs.Sets.{set_of}
use Rattle.asp.proofs.Rounds.{Round}
use Rattle.stability.proofs.stable.add_round.Given as goal

abbrev pub invariant-loop-row : goal.invariant-loop-row
invariant-loop-row l = Round (set_of l.m.bytes.now) l.rules.pool.now l.rules.rows.now (length l.rules.rows.now) l.row-index l.initial.x l.x l.new
