use Rattle.std.proofs.Common.{◌<◌, ◌≤◌, length, refl, rules}
use Rattle.asp.specs.Program.{All}
use Rattle.cores.proofs.Kept.{core_counted, tried_sound}
use Rattle.cores.proofs.Members.{at_all}
use Rattle.cores_script.proofs.world.World.record.Goals as goal

pub invariant_of-self : goal.invariant_of-self
invariant_of-self g c =
    let w = c.args.self.now in
    let ms = c.args.core.now in
    let inside : All (λ m. m < w.tables.count) ms = at_all (λ m. m < w.tables.count) ms (λ k h. c.if-not-all_below.ensures.0 refl k h) in
    let some : 1 ≤ length ms = search rules in
    let counted = core_counted w.tables w.sound c.args.s ms some c.requires in
    record { few = w.few; atoms = w.atoms; small = w.small; sound = tried_sound w.tables w.sound c.args.s ms counted inside c.try_record.ensures }
