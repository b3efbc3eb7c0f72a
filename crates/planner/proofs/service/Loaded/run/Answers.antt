use Rattle.std.proofs.Common.{sym, subst}
use Rattle.indexing.proofs.Moving.{lists_indexed}
use Rattle.advancing.specs.Source.{Source, Prepared}
use Rattle.advancing.specs.Run.{Reached}
use Rattle.planner.proofs.Known.{known_formed, known_reached, known_prepared}
use Rattle.planner.proofs.Link.{lent_is}
use Rattle.planner.proofs.service.Loaded.run.Goals as goal

pub rules-rules-requires : goal.rules-rules-requires
rules-rules-requires c = known_formed c.requires

pub limited-limited-requires : goal.limited-limited-requires
limited-limited-requires c = known_formed c.requires

pub invariant_of-ground : goal.invariant_of-ground
invariant_of-ground c =
    let l = c.args.self.now in
    let lent = lent_is l.stored c.rules-rules.result c.limited-limited.result.objective c.rules-rules.ensures.atoms c.rules-rules.ensures.pool c.rules-rules.ensures.rows c.limited-limited.ensures in
    let prepared = subst (λ (S : Source). Prepared S l.prepared.conditions l.prepared.heads l.prepared.tried) (sym lent) (known_prepared c.requires) in
    record { indexed = rw c.lent.ensures (lists_indexed prepared.lists) }

pub invariant_of-ground-2 : goal.invariant_of-ground-2
invariant_of-ground-2 c =
    let l = c.args.self.now in
    let lent = lent_is l.stored c.rules-rules.result c.limited-limited.result.objective c.rules-rules.ensures.atoms c.rules-rules.ensures.pool c.rules-rules.ensures.rows c.limited-limited.ensures in
    record { ready = rw c.lent.ensures (subst (λ (S : Source). Prepared S l.prepared.conditions l.prepared.heads l.prepared.tried) (sym lent) (known_prepared c.requires)) }

pub run-made-requires : goal.run-made-requires
run-made-requires c =
    let l = c.args.self.now in
    let lent = lent_is l.stored c.rules-rules.result c.limited-limited.result.objective c.rules-rules.ensures.atoms c.rules-rules.ensures.pool c.rules-rules.ensures.rows c.limited-limited.ensures in
    subst (λ (S : Source). Reached S l.search) (sym lent) (known_reached c.requires)
