use borrow.Author.Rules.{rules}
use borrow.Author.Tests.{not-true, not-false}
use Rattle.optimizer.proofs.Finishing.{seek_next, seek_found, seek_end}
use Rattle.optimizer.proofs.finish.next_level.Goals as goal

pub returns-then-not-bounds_meet : goal.returns-then-not-bounds_meet
returns-then-not-bounds_meet c = (search (seek_found, not-true, rules), search rules)

pub loop-i-preserved : goal.loop-i-preserved
loop-i-preserved c = search (seek_next, not-false, rules)

pub returns : goal.returns
returns c = (search (seek_end, rules), search rules)
