use Rattle.planner.proofs.Kept.{ran_sound}
use Rattle.planner.proofs.service.Service.run.Goals as goal

pub invariant_of-self : goal.invariant_of-self
invariant_of-self c = record { sound = λ x e. ran_sound (c.args.self.now.sound _ c.in-Some.is) c.args.budget c.run.ensures.moved e }
