use Rattle.std.proofs.Common.{sym, subst}
use Rattle.indexing.specs.Sorting.{Readied}
use Rattle.advancing.specs.Source.{Source, rule_tables}
use Rattle.planner.proofs.Link.{lent_is, readied}
use Rattle.planner.proofs.load.load.Goals as goal

pub prepare-prepared-requires : goal.prepare-prepared-requires
prepare-prepared-requires c =
    let p = c.in_ok-stored.stored in
    let lent = lent_is p c.rules.result c.limited-limited.result.objective c.rules.ensures.atoms c.rules.ensures.pool c.rules.ensures.rows c.limited-limited.ensures in
    subst (λ (S : Source). Readied (rule_tables S)) (sym lent) (readied p c.in_ok-stored.ensures.formed)
