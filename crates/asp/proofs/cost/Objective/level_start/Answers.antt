use mir.Facts.{to_z-of_z}
use Rattle.asp.proofs.Paying.{summing_added, summing_done}
use Rattle.asp.proofs.cost.Objective.level_start.Goals as goal

pub loop-e-preserved : goal.loop-e-preserved
loop-e-preserved c = summing_added c.loop-e.invariant c.args.self.formed c.loop-e-test.true c.taken-sum.ensures.taken c.taken-sum.ensures.small

pub returns : goal.returns
returns c = rw (to_z-of_z c.ranges.priority) at (summing_done c.loop-e.invariant c.loop-e-test.false)
