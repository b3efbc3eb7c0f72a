use Rattle.std.proofs.Common.{zero-le}
use Rattle.cores.proofs.Kept.{empty_sound}
use Rattle.cores_script.proofs.Laws.{zeros_literal, zeros_weight}
use Rattle.cores_script.proofs.world.World.new.Goals as goal

pub invariant_of-result : goal.invariant_of-result
invariant_of-result c = record { few = zero-le; atoms = zeros_literal; small = zeros_weight; sound = rw c.empty.ensures empty_sound }
