use Rattle.advancing.specs.Source.{levels_lent}
use Rattle.optimizer.proofs.Finishing.{better_level}
use Rattle.optimizer.proofs.ground.Limited.finish_level.Goals as goal

pub settle-requires-in-Model : goal.settle-requires-in-Model
settle-requires-in-Model c = better_level (levels_lent c.args.self.now.objective) c.args.w.now c.args.value.now c.requires.level c.keep_better.ensures
