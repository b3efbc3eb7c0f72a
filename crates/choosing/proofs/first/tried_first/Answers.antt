use borrow.Author.Rules.{rules}
use Rattle.choosing.proofs.FirstLaws.{first_tried}
use Rattle.choosing.proofs.first.tried_first.Goals as goal

pub returns : goal.returns
returns c = search (first_tried, rules)
