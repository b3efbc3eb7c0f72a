use Rattle.search.proofs.StepLaws.{test_full, test_violated, test_open}
use borrow.Author.Rules.{rules}
use Rattle.search.proofs.soft.Wishes.test_unbroken.Goals as goal

pub returns-then-self-trail : goal.returns-then-self-trail
returns-then-self-trail c = search (test_full, rules)

pub returns-in-Some : goal.returns-in-Some
returns-in-Some c = search (test_violated, rules)

pub returns-in-None : goal.returns-in-None
returns-in-None c = search (test_open, rules)
