use Rattle.cores_script.proofs.Laws.{opens_sound}
use Rattle.cores_script.proofs.world.World.open_level.Goals as goal

pub invariant_of-self : goal.invariant_of-self
invariant_of-self g c =
    let w = c.args.self.now in
    record { few = w.few; atoms = w.atoms; small = w.small; sound = rw c.opened-self.ensures (opens_sound _ _ _ w.few w.atoms w.small) }
