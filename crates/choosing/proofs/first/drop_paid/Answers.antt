use Rattle.choosing.proofs.FirstLaws.{dropping_next, dropping_done}
use Rattle.choosing.proofs.first.drop_paid.Goals as goal

pub loop-e-preserved : goal.loop-e-preserved
loop-e-preserved c = dropping_next c.loop-e.invariant c.loop-e-test.true c.drop_entry.ensures

pub returns : goal.returns
returns c = dropping_done c.loop-e.invariant c.loop-e-test.false
