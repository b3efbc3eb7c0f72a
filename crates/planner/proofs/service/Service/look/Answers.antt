use Rattle.std.proofs.Common.{arith}
use Rattle.planner.proofs.Known.{known_levels, known_level, known_figures}
use Rattle.planner.proofs.Moving.{look_is}
use Rattle.planner.proofs.service.Service.look.Goals as goal

pub shared_ref_as_front-result : goal.shared_ref_as_front-result
shared_ref_as_front-result c = omega (arith, known_levels (c.args.self.now.sound _ c.in-Some.is))

pub shared_ref_as_front-result-2 : goal.shared_ref_as_front-result-2
shared_ref_as_front-result-2 c = known_levels (c.args.self.now.sound _ c.in-Some.is)

pub shared_ref_as_front-upper_bound : goal.shared_ref_as_front-upper_bound
shared_ref_as_front-upper_bound c = known_levels (c.args.self.now.sound _ c.in-Some.is)

pub in_work-requires : goal.in_work-requires
in_work-requires c = known_level (c.args.self.now.sound _ c.in-Some.is)

pub returns : goal.returns
returns c = look_is _ c.in-Some.is (known_figures (c.args.self.now.sound _ c.in-Some.is) c.from.ensures c.upper_bound.ensures c.in_work.ensures.0 c.in_work.ensures.1)
