use Prim.Native.Nat.{◌-◌}
use Rattle.advancing.proofs.Advancing.{Running}
use Rattle.optimizer.specs.Lent.{source_lent}
use Rattle.optimizer.proofs.ground.Ground.run.Given as goal

abbrev pub invariant-loop-made : goal.invariant-loop-made
invariant-loop-made l = Running (source_lent l.self) l.budget l.initial.s l.s l.made

abbrev pub decreases-loop-made : goal.decreases-loop-made
decreases-loop-made l = l.budget - l.made
