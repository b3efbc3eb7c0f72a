use Rattle.counting.proofs.CounterLaws.{shifted}
use borrow.Author.Rules.{rules}
use Rattle.counting.proofs.counters.Counters.shift.Goals as goal

pub returns : goal.returns
returns c = search (shifted, rules)
