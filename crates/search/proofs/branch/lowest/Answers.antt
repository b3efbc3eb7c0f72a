use borrow.Author.Rules.{rules}
use Rattle.search.proofs.BranchLaws.{low_found, low_last}
use Rattle.search.proofs.branch.lowest.Goals as goal

pub returns-then-value-a-eq0 : goal.returns-then-value-a-eq0
returns-then-value-a-eq0 c = search (low_found, rules)

pub returns : goal.returns
returns c = search (low_last, rules)
