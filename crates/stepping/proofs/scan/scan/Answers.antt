use Rattle.stepping.proofs.ScanLaws.{scan_done, low_next}
use borrow.Author.Rules.{rules}
use Rattle.stepping.proofs.scan.scan.Goals as goal

pub returns-clause-found : goal.returns-clause-found
returns-clause-found c = search (scan_done, rules)

pub returns-clause-marked : goal.returns-clause-marked
returns-clause-marked c = search (low_next, rules)
