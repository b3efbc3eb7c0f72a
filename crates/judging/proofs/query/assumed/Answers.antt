use Rattle.std.proofs.Common.{arith}
use Rattle.cores.proofs.Queries.{pick_soft, leave_soft, pick_all}
use Rattle.judging.proofs.query.assumed.Goals as goal
use Rattle.judging.proofs.query.assumed.Goals.{then-s-r, else-s-r}

pub loop-i-preserved : goal.loop-i-preserved
loop-i-preserved c =
    elim c.if-s-r.branch [
      | then-s-r w ↦ pick_soft c.args.softs.now _ c.loop-i.invariant (omega arith) w.if-s-r.true w.places-is w.n-is
      | else-s-r w ↦ leave_soft c.args.softs.now _ c.loop-i.invariant (omega arith) w.if-s-r.false w.places-is w.n-is
    ]

pub returns : goal.returns
returns c = pick_all c.args.softs.now c.loop-i.invariant (omega arith)
