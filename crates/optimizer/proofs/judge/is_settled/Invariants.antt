use lib.IntN.{pos}
use lib.ListN.{get_or}
use Rattle.asp.specs.Sets.{set_of}
use Rattle.asp.specs.Cost.{cost, level}
use Rattle.optimizer.proofs.Settled.{Settling}
use Rattle.optimizer.proofs.judge.is_settled.Given as goal

abbrev pub invariant-loop-l : goal.invariant-loop-l
invariant-loop-l at = Settling (λ j. cost (set_of at.m.bytes.now) (level (get_or at.objective.levels.now j (pos 0)) at.objective.entries.now)) at.lowers at.k at.l
