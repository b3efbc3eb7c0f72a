use Rattle.planner.proofs.Kept.{fresh_sound}
use Rattle.planner.proofs.service.Service.clear.Goals as goal

pub invariant_of-self : goal.invariant_of-self
invariant_of-self c = record { sound = fresh_sound c.clear.ensures }
