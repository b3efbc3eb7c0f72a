use Rattle.std.proofs.Common.{arith, ap, ◌∙◌}
use Rattle.cores.specs.Tables.{lighter_by}
use Rattle.cores.proofs.Loops.{lose_next, lose_end}
use Rattle.cores.proofs.recording.lose.Goals as goal

pub loop-m-preserved : goal.loop-m-preserved
loop-m-preserved c =
    rw c.put_soft.ensures (lose_next c.loop-m.invariant (omega arith) c.from-m.ensures (c.lighter.ensures ∙ ap (lighter_by c.args.s) c.soft_at-r.ensures))

pub returns : goal.returns
returns c = lose_end c.loop-m.invariant (omega arith)
