use lib.ListN.{length}
use Rattle.asp.specs.Sets.{set_of}
use Rattle.asp.proofs.Rounds.{Closing, left}
use Rattle.indexing.proofs.leaf.FullTrail.is_least.Given as goal

abbrev pub invariant-loop-new : goal.invariant-loop-new
invariant-loop-new l = Closing l.self.listed.rules.atoms (set_of l.self.value.now) l.self.listed.rules.pool.now l.self.listed.rules.rows.now (length l.self.listed.rules.rows.now) l.x l.new

abbrev pub decreases-loop-new : goal.decreases-loop-new
decreases-loop-new l = left l.self.listed.rules.atoms l.x l.new
