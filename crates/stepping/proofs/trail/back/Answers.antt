use mathlib.Core.Path.{sym, ◌∙◌}
use Rattle.stepping.proofs.MoveLaws.{back_next, back_here, back_none, dropped_shorter, dropped_len, other_small}
use Rattle.stepping.proofs.trail.back.Goals as goal

pub put-requires : goal.put-requires
put-requires c = (dropped_len c.loop-trail.invariant c.loop-trail-test.true c.take-l.ensures.trail, other_small c.loop-trail.invariant c.loop-trail-test.true c.take-l.ensures.literal c.complement.ensures)

pub returns-then-is_decision : goal.returns-then-is_decision
returns-then-is_decision c = back_here c.loop-trail.invariant c.loop-trail-test.true (sym c.is_decision.ensures ∙ c.if-is_decision.true) c.take-l.ensures.trail c.take-l.ensures.literal c.complement.ensures c.put.ensures

pub loop-trail-smaller : goal.loop-trail-smaller
loop-trail-smaller c = dropped_shorter c.loop-trail.invariant c.loop-trail-test.true c.take-l.ensures.trail

pub loop-trail-preserved : goal.loop-trail-preserved
loop-trail-preserved c = back_next c.loop-trail.invariant c.loop-trail-test.true (sym c.is_decision.ensures ∙ c.if-is_decision.false) c.take-l.ensures.trail

pub returns : goal.returns
returns c = back_none c.loop-trail.invariant c.loop-trail-test.false
