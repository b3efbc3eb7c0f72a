use Rattle.asp.specs.Sets.{set_of}
use Rattle.asp.specs.Stable.{counts}
use Rattle.asp.proofs.Pairs.{PairsLeft}
use Rattle.asp.proofs.rules.Pairs.counts.Given as goal

abbrev pub invariant-loop-i : goal.invariant-loop-i
invariant-loop-i l = PairsLeft (counts (set_of l.m.bytes.now) (set_of l.x.bytes.now)) l.self.literals.now l.self.weights.now l.sum l.i
