use Rattle.std.proofs.Common.{arith, refl}
use Rattle.cores.proofs.Queries.{pair_next, pair_end}
use Rattle.judging.proofs.query.entries.Goals as goal

pub loop-p-preserved : goal.loop-p-preserved
loop-p-preserved c = pair_next c.loop-p.invariant (omega arith) refl c.put_entry-n.ensures

pub returns : goal.returns
returns c = pair_end c.loop-p.invariant (omega arith)
