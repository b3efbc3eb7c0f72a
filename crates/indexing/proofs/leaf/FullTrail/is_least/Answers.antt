use borrow.Author.Rules.{rules}
use Rattle.indexing.proofs.LeafLaws.{in_set, least_found, same_closure}
use Rattle.asp.proofs.Rounds.{closing_start, closing_next, closing_less, closing_done}
use Rattle.indexing.proofs.leaf.FullTrail.is_least.Goals as goal

pub loop-new-init : goal.loop-new-init
loop-new-init c = search (closing_start, rules)

pub round-new-requires : goal.round-new-requires
round-new-requires c =
    let s = c.args.self.now in
    in_set s.listed.rules.formed s.leaf c.loop-new.invariant

pub returns-then-same : goal.returns-then-same
returns-then-same c =
    let s = c.args.self.now in
    least_found s.listed.rules.formed s.leaf (closing_next s.listed.rules.formed c.loop-new.invariant c.round-new.ensures) c.same.ensures (search rules)

pub loop-new-smaller : goal.loop-new-smaller
loop-new-smaller c = search (closing_less, rules)

pub loop-new-preserved : goal.loop-new-preserved
loop-new-preserved c = closing_next c.args.self.now.listed.rules.formed c.loop-new.invariant c.round-new.ensures

pub returns : goal.returns
returns c = search (same_closure, closing_done, rules)
