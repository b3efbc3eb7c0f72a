use Rattle.indexing.proofs.Moving.{sound_small_values}
use Rattle.optimizer.proofs.query.Query.run.Goals as goal

pub fill-counters-requires-clause-indexed : goal.fill-counters-requires-clause-indexed
fill-counters-requires-clause-indexed c = rw c.readable-rules.ensures c.args.self.now.ground.listed.indexed

pub fill-counters-requires-clause-small : goal.fill-counters-requires-clause-small
fill-counters-requires-clause-small c = sound_small_values c.requires.sound_trail

pub invariant_of-walk : goal.invariant_of-walk
invariant_of-walk c =
    record { good_blame = c.requires.good_blame; sound_trail = c.requires.sound_trail; tracks = rw c.readable-rules.ensures at c.fill-counters.ensures }
