use borrow.Author.Rules.{rules}
use Rattle.optimizer.proofs.Blaming.{among_here, among_next, among_done}
use Rattle.optimizer.proofs.blame.is_among.Goals as goal

pub returns-then-from-p : goal.returns-then-from-p
returns-then-from-p c = search (among_here, rules)

pub loop-q-preserved : goal.loop-q-preserved
loop-q-preserved c = among_next c.loop-q.invariant c.loop-q-test.true c.from.ensures c.if-from-p.false

pub returns : goal.returns
returns c = search (among_done, rules)
