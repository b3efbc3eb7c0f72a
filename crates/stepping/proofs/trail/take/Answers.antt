use Rattle.counting.specs.Lent.{lists_lent}
use Rattle.stepping.proofs.MoveLaws.{drop_done, unnamed}
use Rattle.stepping.proofs.trail.take.Goals as goal

pub returns-then-not-is_named-clause-trail : goal.returns-then-not-is_named-clause-trail
returns-then-not-is_named-clause-trail c =
    drop_done _ _ _ c.args.trail.now c.args.t.now c.requires.2 c.atom-a.ensures c.forget.ensures c.take-l.ensures.trail (unnamed _ (lists_lent c.args.g.now.lists) _ c.is_named.ensures c.if-not-is_named.true _ _)

pub returns-clause-trail : goal.returns-clause-trail
returns-clause-trail c = drop_done _ _ _ c.args.trail.now c.args.t.now c.requires.2 c.atom-a.ensures c.forget.ensures c.take-l.ensures.trail c.reweigh.ensures
