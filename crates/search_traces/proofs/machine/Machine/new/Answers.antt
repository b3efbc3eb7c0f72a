use mathlib.Core.Path.{ap, ◌∙◌}
use lib.ListN.{length}
use Rattle.counting.specs.declared.index.Index.{Index}
use Rattle.search.proofs.Kept.{after_fresh}
use Rattle.indexing.proofs.Moving.{sound_small_values}
use Rattle.search_traces.proofs.Laws.{program_indexed}
use Rattle.search_traces.proofs.machine.Machine.new.Goals as goal

pub invariant_of-listed : goal.invariant_of-listed
invariant_of-listed c = record { indexed = rw c.lent.ensures (program_indexed c.args.program.table.formed c.args.program.roomy c.requires) }

pub fill-counters-requires-clause-indexed : goal.fill-counters-requires-clause-indexed
fill-counters-requires-clause-indexed c = rw (c.readable-rules.ensures, c.lent.ensures) (program_indexed c.args.program.table.formed c.args.program.roomy c.requires)

pub fill-counters-requires-clause-small : goal.fill-counters-requires-clause-small
fill-counters-requires-clause-small c = sound_small_values (after_fresh 0 c.fresh-trail.ensures)

pub invariant_of-result : goal.invariant_of-result
invariant_of-result c = record { wishes = c.args.program.wishes; sound = after_fresh c.args.program.table.atoms c.fresh-trail.ensures; tracks = rw c.readable-rules.ensures at c.fill-counters.ensures; wide = ap (λ (o : Index). length o.rules) c.lent.ensures ∙ c.requires.wide }
