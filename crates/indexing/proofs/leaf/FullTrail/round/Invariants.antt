use lib.ListN.{length}
use Rattle.asp.specs.Sets.{set_of}
use Rattle.asp.proofs.Rounds.{Round}
use Rattle.indexing.proofs.leaf.FullTrail.round.Given as goal

abbrev pub invariant-loop-r : goal.invariant-loop-r
invariant-loop-r l = Round (set_of l.self.value.now) l.self.listed.rules.pool.now l.self.listed.rules.rows.now (length l.self.listed.rules.rows.now) l.r l.initial.x l.x l.new
