use Rattle.std.proofs.Common.{length}
use Rattle.cores_script.proofs.play.Given as goal

abbrev pub decreases-loop-op : goal.decreases-loop-op
decreases-loop-op g l = length l.script.rest.now
