use borrow.Author.Rules.{rules}
use Rattle.optimizer.proofs.Blaming.{flagging_next, flagging_done}
use Rattle.optimizer.proofs.blame.flag.Goals as goal

pub loop-i-preserved : goal.loop-i-preserved
loop-i-preserved c = search (flagging_next, rules)

pub returns : goal.returns
returns c = search (flagging_done, rules)
