use Rattle.counting.proofs.CounterLaws.{put_one}
use borrow.Author.Rules.{rules}
use Rattle.counting.proofs.weigh.put_at.Goals as goal

pub returns : goal.returns
returns c = search (put_one, rules)
