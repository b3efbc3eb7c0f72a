use borrow.Author.Rules.{rules}
use Rattle.indexing.proofs.FillLaws.{basing_start, basing_next, basing_few}
use Rattle.indexing.proofs.fill.start.Goals as goal

pub loop-r-init : goal.loop-r-init
loop-r-init c = search (basing_start, rules)

pub counted-broken-requires : goal.counted-broken-requires
counted-broken-requires c = search (basing_few, rules)

pub loop-r-preserved : goal.loop-r-preserved
loop-r-preserved c = search (basing_next, rules)
