use borrow.Author.Rules.{rules}
use Rattle.search.specs.Places.{drop_of}
use Rattle.search.proofs.trail.Places.take.Goals as goal

pub returns-clause-trail : goal.returns-clause-trail
unfolding drop_of
returns-clause-trail c = search rules
