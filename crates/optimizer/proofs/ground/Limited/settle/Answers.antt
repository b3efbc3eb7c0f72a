use Rattle.advancing.specs.Source.{levels_lent}
use Rattle.optimizer.proofs.Finishing.{settle_yes, settle_no}
use Rattle.optimizer.proofs.ground.Limited.settle.Goals as goal

pub returns-then-not-bounds_meet : goal.returns-then-not-bounds_meet
returns-then-not-bounds_meet c = settle_no (levels_lent c.args.self.now.objective) c.args.w.now c.bounds_meet.ensures c.if-not-bounds_meet.true

pub returns : goal.returns
returns c = settle_yes (levels_lent c.args.self.now.objective) c.args.w.now c.bounds_meet.ensures c.if-not-bounds_meet.false c.open_from.ensures
