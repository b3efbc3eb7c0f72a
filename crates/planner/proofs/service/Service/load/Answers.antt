use Rattle.planner.proofs.Kept.{load_sound}
use Rattle.planner.proofs.service.Service.load.Goals as goal

pub invariant_of-self : goal.invariant_of-self
invariant_of-self c = record { sound = load_sound _ _ c.load.ensures c.args.self.now.sound }
