use Rattle.std.proofs.Common.{◌≤◌, length}
use Rattle.cores_script.proofs.world.World.weigh_set.Given as goal

abbrev pub invariant-loop : goal.invariant-loop
invariant-loop g l = length l.script.rest.now ≤ length l.fn.script.rest.now
