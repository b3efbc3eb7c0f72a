use Rattle.planner.proofs.Moving.{advance_is}
use Rattle.planner.proofs.service.Service.advance.Goals as goal

pub returns : goal.returns
returns c = advance_is c.args.self.now.held c.run.new.self.held {x = c.in_ok-run.field-0} c.in_ok-run.ensures
