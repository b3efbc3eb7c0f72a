use Rattle.asp.specs.Sets.{set_of}
use Rattle.asp.specs.Cost.{entry_cost}
use Rattle.asp.proofs.Paying.{Summing}
use Rattle.asp.proofs.cost.Objective.level_cost.Given as goal

abbrev pub invariant-loop-e : goal.invariant-loop-e
invariant-loop-e l = Summing (entry_cost (set_of l.m.bytes.now)) l.priority l.self.entries.now l.sum l.e-index
