use Rattle.asp.specs.Sets.{set_of}
use Rattle.asp.proofs.Paying.{Filling, cost_on}
use Rattle.asp.proofs.cost.Objective.level_costs.Given as goal

abbrev pub invariant-loop-i : goal.invariant-loop-i
invariant-loop-i l = Filling (cost_on (set_of l.m.bytes.now) l.self.entries.now) l.self.levels.now l.initial.costs l.i l.costs
