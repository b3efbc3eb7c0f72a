use Rattle.asp.specs.Sets.{set_of}
use Rattle.planner.specs.Calls.{byte_of}
use Rattle.planner.proofs.Filling.{Front}
use Rattle.planner.proofs.model.fill_model.Given as goal

abbrev pub invariant-loop-i : goal.invariant-loop-i
invariant-loop-i l = Front (byte_of (set_of l.best)) l.n l.initial.bytes l.bytes l.i
