use Rattle.std.proofs.Common.{◌≤◌, length}
use Rattle.cores_script.proofs.world.World.keep_core.Given as goal

abbrev pub invariant-loop-place : goal.invariant-loop-place
invariant-loop-place g l = length l.script.rest.now ≤ length l.fn.script.rest.now
