use Rattle.indexing.proofs.FillLaws.{added}
use borrow.Author.Rules.{rules}
use Rattle.indexing.proofs.fill.add_atom.Goals as goal

pub returns : goal.returns
returns c = search (added, rules)
