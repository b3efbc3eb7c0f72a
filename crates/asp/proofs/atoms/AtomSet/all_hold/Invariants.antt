use Rattle.asp.specs.Sets.{set_of}
use Rattle.asp.proofs.Holding.{Left}
use Rattle.asp.proofs.atoms.AtomSet.all_hold.Given as goal

abbrev pub invariant-loop-l : goal.invariant-loop-l
invariant-loop-l l = Left (set_of l.self.bytes.now) (set_of l.x.bytes.now) l.literals l.l-index
