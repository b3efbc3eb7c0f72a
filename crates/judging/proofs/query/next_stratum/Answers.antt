use Rattle.std.proofs.Common.{arith, ◌∙◌}
use Rattle.cores.proofs.Queries.{fall_soft, skip_soft, fall_all}
use Rattle.judging.proofs.query.next_stratum.Goals as goal
use Rattle.judging.proofs.query.next_stratum.Goals.{then-r-s, else-r-s}

pub loop-r-preserved : goal.loop-r-preserved
loop-r-preserved c =
    elim c.if-r-s.branch [
      | then-r-s w ↦ fall_soft c.args.softs.now _ c.loop-r.invariant (omega arith) w.if-r-s.true (w.best-is ∙ w.max-best.ensures)
      | else-r-s w ↦ skip_soft c.args.softs.now _ c.loop-r.invariant (omega arith) w.if-r-s.false w.best-is
    ]

pub returns : goal.returns
returns c = fall_all c.args.softs.now c.loop-r.invariant (omega arith)
