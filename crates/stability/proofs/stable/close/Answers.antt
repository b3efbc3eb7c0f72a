use borrow.Author.Rules.{rules}
use Rattle.asp.proofs.Rounds.{closing_start, closing_next, closing_less, closing_done}
use Rattle.stability.proofs.stable.close.Goals as goal

pub loop-new-init : goal.loop-new-init
loop-new-init c = search (closing_start, rules)

pub loop-new-smaller : goal.loop-new-smaller
loop-new-smaller c = closing_less c.args.rules.formed c.loop-new.invariant c.loop-new-test.true c.add_round-new.ensures

pub loop-new-preserved : goal.loop-new-preserved
loop-new-preserved c = closing_next c.args.rules.formed c.loop-new.invariant c.add_round-new.ensures

pub returns : goal.returns
returns c = closing_done c.loop-new.invariant c.loop-new-test.false
