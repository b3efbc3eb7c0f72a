use Rattle.counting.specs.Lent.{lists_lent}
use Rattle.stepping.proofs.MoveLaws.{put_done, unnamed}
use Rattle.stepping.proofs.trail.put.Goals as goal

pub returns-then-not-is_named : goal.returns-then-not-is_named
returns-then-not-is_named c =
    put_done _ _ _ _ c.args.trail.now c.args.t.now c.requires.1 c.atom-a.ensures c.side.ensures c.assign.ensures c.put.ensures (unnamed _ (lists_lent c.args.g.now.lists) _ c.is_named.ensures c.if-not-is_named.true _ _)

pub returns : goal.returns
returns c = put_done _ _ _ _ c.args.trail.now c.args.t.now c.requires.1 c.atom-a.ensures c.side.ensures c.assign.ensures c.put.ensures c.reweigh.ensures
