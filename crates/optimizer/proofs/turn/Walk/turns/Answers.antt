use Rattle.std.proofs.Common.{rules, arith}
use Rattle.optimizer.proofs.Turning.{same_turn, turns_start, turns_next, turns_out, turns_done}
use Rattle.optimizer.proofs.turn.Walk.turns.Goals as goal

pub loop-made-init : goal.loop-made-init
loop-made-init c = (search rules, turns_start _ _ _)

pub returns-then-not-is_going-clause-turns : goal.returns-then-not-is_going-clause-turns
returns-then-not-is_going-clause-turns c =
    let w = c.loop-made.self in
    turns_out c.loop-made.invariant.1 c.loop-made-test.true (same_turn c.loop-made.invariant.0.0 w.trail.now w.blame.now c.turn-turn.ensures.turned) c.is_going.ensures c.if-not-is_going.true (omega arith)

pub loop-made-preserved : goal.loop-made-preserved
loop-made-preserved c =
    let w = c.loop-made.self in (
      search rules,
      turns_next c.loop-made.invariant.1 c.loop-made-test.true (same_turn c.loop-made.invariant.0.0 w.trail.now w.blame.now c.turn-turn.ensures.turned) c.is_going.ensures c.if-not-is_going.false,
    )

pub returns-clause-turns : goal.returns-clause-turns
returns-clause-turns c = turns_done c.loop-made.invariant.1 c.loop-made-test.false
