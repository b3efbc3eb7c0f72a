use Rattle.optimizer.proofs.Running.{starts_are}
use Rattle.optimizer.proofs.ground.Limited.fresh.Goals as goal

pub returns : goal.returns
returns c = starts_are _ c.level_starts.ensures c.fresh_over.ensures
