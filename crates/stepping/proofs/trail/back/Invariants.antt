use Rattle.stepping.proofs.MoveLaws.{Back}
use Rattle.counting.specs.Lent.{lists_lent}
use Rattle.counting.specs.Moves.{counted_trail}
use Rattle.counting.specs.Views.{bodies_weighed}
use Rattle.stepping.proofs.trail.back.Given as goal

abbrev pub invariant-loop-trail : goal.invariant-loop-trail
invariant-loop-trail l = Back (bodies_weighed l.g) (lists_lent l.g.lists) (counted_trail l.initial.trail l.initial.t) (counted_trail l.trail l.t)

abbrev pub decreases-loop-trail : goal.decreases-loop-trail
decreases-loop-trail l = l.trail.len
