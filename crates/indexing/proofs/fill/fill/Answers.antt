use borrow.Author.Rules.{rules as needs}
use Rattle.indexing.proofs.FillLaws.{filled_start, filled_next, filled_done}
use Rattle.indexing.proofs.fill.fill.Goals as goal

pub loop-a-init : goal.loop-a-init
loop-a-init c = search (filled_start, needs)

pub loop-a-preserved : goal.loop-a-preserved
loop-a-preserved c = search (filled_next, needs)

pub returns : goal.returns
returns c = search (filled_done, needs)
