use Rattle.asp.proofs.Paying.{Filling, start_on}
use Rattle.asp.proofs.cost.Objective.level_starts.Given as goal

abbrev pub invariant-loop-i : goal.invariant-loop-i
invariant-loop-i l = Filling (start_on l.self.entries.now) l.self.levels.now l.initial.starts l.i l.starts
