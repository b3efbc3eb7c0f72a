use borrow.Author.Rules.{rules}
use Rattle.counting.proofs.CounterLaws.{weighing_next, weighing_done}
use Rattle.counting.proofs.views.WeighableRules.weigh_all.Goals as goal

pub loop-e-preserved : goal.loop-e-preserved
loop-e-preserved c = search (weighing_next, rules)

pub returns : goal.returns
returns c = search (weighing_done, rules)
