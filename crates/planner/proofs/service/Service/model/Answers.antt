use Rattle.planner.proofs.Known.{known_atoms}
use Rattle.planner.proofs.service.Service.model.Goals as goal

pub fill_model-requires : goal.fill_model-requires
fill_model-requires c = known_atoms (c.args.self.now.sound _ c.in_ok-l.ensures.held)
