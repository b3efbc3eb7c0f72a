use Rattle.std.proofs.Common.{ap, replicate}
use Rattle.cores.specs.declared.soft.Soft.{Soft}
use Rattle.cores.specs.declared.level.LevelTables.{LevelTables}
use Rattle.cores.proofs.Loops.{free_is}
use Rattle.cores.proofs.level.LevelTables.empty.Goals as goal

abbrev cleared : Soft → LevelTables
cleared s = record { softs = replicate 4096 s; members = replicate 4096 0; ends = replicate 4097 0; count = 0; cores = 0; lower = 0 }

pub returns : goal.returns
returns c =
    let e = c.default-free.ensures in
    ap cleared (free_is c.default-free.result e.0 e.1.0 e.1.1.0 e.1.1.1)
