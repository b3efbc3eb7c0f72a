use Rattle.std.proofs.Common.{rules}
use Rattle.search.proofs.Kept.{after_step}
use Rattle.search_traces.proofs.Laws.{soft_formed}
use Rattle.search_traces.proofs.machine.Machine.step.Goals as goal

pub invariant_of-self : goal.invariant_of-self
invariant_of-self c =
    let m = c.args.self.now in
    record { wishes = m.wishes; sound = after_step _ _ _ m.listed.rules.atoms _ m.trail m.listed.rules.formed (soft_formed m.wishes (search rules)) m.sound c.step.ensures.stepped; tracks = c.step.ensures.tracks; wide = m.wide }
