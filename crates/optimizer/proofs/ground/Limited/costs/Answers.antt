use Rattle.optimizer.proofs.Running.{costs_are}
use Rattle.optimizer.proofs.ground.Limited.costs.Goals as goal

pub returns : goal.returns
returns c = costs_are _ _ c.level_costs.ensures
