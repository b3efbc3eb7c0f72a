use Rattle.cores.proofs.Loops.{Opening}
use Rattle.cores.proofs.level.LevelTables.opened.Given as goal

abbrev pub invariant-loop-e : goal.invariant-loop-e
invariant-loop-e l = Opening l.entries l.priority l.t l.e-index
