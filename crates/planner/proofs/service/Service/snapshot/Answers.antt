use Rattle.planner.proofs.Known.{known_level, known_figures}
use Rattle.planner.proofs.Moving.{look_is, front_given}
use Rattle.planner.proofs.service.Service.snapshot.Goals as goal

pub in_work-requires : goal.in_work-requires
in_work-requires c = known_level (c.args.self.now.sound _ c.in-Some.is)

pub returns : goal.returns
returns c =
    look_is _ c.in-Some.is
    (known_figures (c.args.self.now.sound _ c.in-Some.is) c.from.ensures (front_given c.in-Some.l.stored.counts.levels _ _ c.costs.ensures) c.in_work.ensures.0 c.in_work.ensures.1)
