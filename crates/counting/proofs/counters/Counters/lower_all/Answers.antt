use borrow.Author.Rules.{rules}
use Rattle.counting.proofs.CounterLaws.{lowering_next, lowering_done}
use Rattle.counting.proofs.counters.Counters.lower_all.Goals as goal

pub loop-e-preserved : goal.loop-e-preserved
loop-e-preserved c = search (lowering_next, rules)

pub returns : goal.returns
returns c = search (lowering_done, rules)
