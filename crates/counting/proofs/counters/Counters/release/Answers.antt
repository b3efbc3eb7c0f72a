use Rattle.counting.proofs.CounterLaws.{released_none, released_in, released_out}
use borrow.Author.Rules.{rules}
use Rattle.counting.proofs.counters.Counters.release.Goals as goal

pub returns-then-y-eq0 : goal.returns-then-y-eq0
returns-then-y-eq0 c = search (released_none, rules)

pub returns-then-y-eq1 : goal.returns-then-y-eq1
returns-then-y-eq1 c = search (released_in, rules)

pub returns : goal.returns
returns c = search (released_out, rules)
