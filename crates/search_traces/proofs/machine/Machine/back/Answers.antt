use Rattle.search.proofs.Kept.{after_back}
use Rattle.counting.specs.Lent.{bodies_lent, lists_lent}
use Rattle.stepping.proofs.StepLaws.{back_by, counted_back}
use Rattle.indexing.proofs.Moving.{back_is}
use Rattle.search_traces.proofs.machine.Machine.back.Goals as goal

pub invariant_of-self : goal.invariant_of-self
invariant_of-self c =
    let m = c.args.self.now in
    let z = back_by c.weighable-rules.ensures.bodies c.weighable-rules.ensures.lists _ c.back.ensures in
    let e = back_is (bodies_lent m.listed.rules) (lists_lent m.listed.lists) m.trail m.counters z in
    record { wishes = m.wishes; sound = after_back m.listed.rules.atoms m.trail e m.sound; tracks = counted_back m.listed.indexed m.sound.good m.tracks z; wide = m.wide }

pub returns-clause-back : goal.returns-clause-back
returns-clause-back c =
    let m = c.args.self.now in
    back_is (bodies_lent m.listed.rules) (lists_lent m.listed.lists) m.trail m.counters (back_by c.weighable-rules.ensures.bodies c.weighable-rules.ensures.lists _ c.back.ensures)
