use Rattle.advancing.proofs.Advancing.{one_advance}
use Rattle.optimizer.proofs.ground.Ground.advance.Goals as goal

pub returns : goal.returns
returns c = one_advance _ _ c.run.ensures
