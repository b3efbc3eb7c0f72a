use Rattle.optimizer.specs.Lent.{source_lent, query_lent}
use Rattle.optimizer.specs.Walking.{Same}
use Rattle.optimizer.proofs.Turning.{Turned-on}
use Rattle.optimizer.proofs.turn.Walk.turns.Given as goal

abbrev pub invariant-loop-made : goal.invariant-loop-made
invariant-loop-made l =
    let w = l.initial.self in
    Same w l.self × Turned-on (source_lent w.query.now.ground) (query_lent w.query.now) l.budget w.trail.now w.blame.now l.self.trail.now l.self.blame.now l.made
