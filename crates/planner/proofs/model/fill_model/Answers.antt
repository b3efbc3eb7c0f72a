use Rattle.std.proofs.Common.{rules}
use Rattle.asp.specs.Sets.{set_of}
use Rattle.planner.specs.Calls.{byte_of}
use Rattle.planner.proofs.Filling.{front_starts, front_steps, front_short}
use Rattle.planner.proofs.model.fill_model.Goals as goal

pub returns-then-bytes-n : goal.returns-then-bytes-n
returns-then-bytes-n c = front_short (byte_of (set_of c.args.best.now)) _ _ c.if-bytes-n.true

pub loop-i-init : goal.loop-i-init
loop-i-init c = front_starts c.if-bytes-n.false

pub loop-i-preserved : goal.loop-i-preserved
loop-i-preserved c = front_steps c.loop-i.invariant (search rules) c.byte_of.ensures
