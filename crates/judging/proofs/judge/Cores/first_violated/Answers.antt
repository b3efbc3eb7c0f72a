use Rattle.std.proofs.Common.{arith}
use Rattle.cores.proofs.Columns.{pass_next, pass_here, pass_end}
use Rattle.judging.proofs.judge.Cores.first_violated.Goals as goal

pub returns-then-violated : goal.returns-then-violated
returns-then-violated c = pass_here c.loop-p.invariant (omega arith) c.from-p.ensures c.violated.ensures c.if-violated.true

pub loop-p-preserved : goal.loop-p-preserved
loop-p-preserved c =
    pass_next c.loop-p.invariant (omega arith) c.from-p.ensures c.violated.ensures c.violated.auto.counts c.if-violated.false

pub returns : goal.returns
returns c = pass_end c.loop-p.invariant (omega arith)
