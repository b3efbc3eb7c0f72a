use Rattle.std.proofs.Common.{arith}
use Rattle.cores.proofs.Loops.{add_next, add_end}
use Rattle.cores.proofs.recording.add.Goals as goal

pub loop-i-preserved : goal.loop-i-preserved
loop-i-preserved c = rw c.put_soft.ensures (add_next c.loop-i.invariant (omega arith) c.of_core.ensures)

pub returns : goal.returns
returns c = add_end c.loop-i.invariant (omega arith)
