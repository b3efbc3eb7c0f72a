use borrow.Author.Rules.{rules}
use Rattle.counting.proofs.CounterLaws.{raising_next, raising_done}
use Rattle.counting.proofs.counters.Counters.raise_all.Goals as goal

pub loop-e-preserved : goal.loop-e-preserved
loop-e-preserved c = search (raising_next, rules)

pub returns : goal.returns
returns c = search (raising_done, rules)
