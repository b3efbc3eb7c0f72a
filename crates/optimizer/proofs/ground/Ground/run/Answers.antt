use Rattle.std.proofs.Common.{arith, ◌-◌, sym, ◌∙◌}
use Rattle.advancing.proofs.Advancing.{running_start, running_ready, running_end, running_rest}
use Rattle.advancing.proofs.Reached.{reached_steady}
use Rattle.optimizer.proofs.Running.{core_reach, core_long, core_ready, end_is, step_more, step_next, step_going}
use Rattle.optimizer.proofs.ground.Ground.run.Goals as goal

pub loop-made-init : goal.loop-made-init
loop-made-init c = running_start _ _ _

pub returns-then-not-is_running : goal.returns-then-not-is_running
returns-then-not-is_running c = running_rest c.loop-made.invariant c.is_running.ensures c.if-not-is_running.true

pub query_steps-steps-requires-clause-ready_query : goal.query_steps-steps-requires-clause-ready_query
query_steps-steps-requires-clause-ready_query c = (running_ready c.loop-made.invariant (reached_steady c.requires) 0).query

pub query_steps-steps-requires-clause-good_blame : goal.query_steps-steps-requires-clause-good_blame
query_steps-steps-requires-clause-good_blame c = (running_ready c.loop-made.invariant (reached_steady c.requires) 0).blame

pub query_steps-steps-requires-clause-sound_trail : goal.query_steps-steps-requires-clause-sound_trail
query_steps-steps-requires-clause-sound_trail c = (running_ready c.loop-made.invariant (reached_steady c.requires) 0).trail

pub query_steps-steps-requires-clause-sound_tables : goal.query_steps-steps-requires-clause-sound_tables
query_steps-steps-requires-clause-sound_tables c = (running_ready c.loop-made.invariant (reached_steady c.requires) 0).tables

pub overflow_add-made : goal.overflow_add-made
overflow_add-made c =
    let more = step_more c.loop-made.invariant (reached_steady c.requires) c.loop-made-test.true c.is_running.ensures c.if-not-is_running.false c.query_steps-steps.ensures in
    omega (arith, more, c.ranges.budget)

pub returns-then-is_going : goal.returns-then-is_going
returns-then-is_going c =
    step_going c.loop-made.invariant (reached_steady c.requires) c.loop-made-test.true c.is_running.ensures c.if-not-is_running.false c.query_steps-steps.ensures (sym c.is_going.ensures ∙ c.if-is_going.true) c.counted-s.ensures

pub end_query-requires-clause-level : goal.end_query-requires-clause-level
end_query-requires-clause-level c = λ p. (running_ready c.loop-made.invariant (reached_steady c.requires) 0).level p

pub end_query-requires-clause-blame : goal.end_query-requires-clause-blame
end_query-requires-clause-blame c =
    let r = running_ready c.loop-made.invariant (reached_steady c.requires) (c.args.budget - c.loop-made.made) in
    omega (arith, core_reach r c.query_steps-steps.ensures, core_long r c.query_steps-steps.ensures)

pub end_query-requires-clause-core : goal.end_query-requires-clause-core
end_query-requires-clause-core c = λ p x. core_ready (running_ready c.loop-made.invariant (reached_steady c.requires) (c.args.budget - c.loop-made.made)) c.query_steps-steps.ensures p x

pub loop-made-smaller : goal.loop-made-smaller
loop-made-smaller c =
    let more = step_more c.loop-made.invariant (reached_steady c.requires) c.loop-made-test.true c.is_running.ensures c.if-not-is_running.false c.query_steps-steps.ensures in
    omega (arith, more)

pub loop-made-preserved : goal.loop-made-preserved
loop-made-preserved c =
    step_next c.loop-made.invariant (reached_steady c.requires) c.loop-made-test.true c.is_running.ensures c.if-not-is_running.false c.query_steps-steps.ensures
    (end_is (running_ready c.loop-made.invariant (reached_steady c.requires) (c.args.budget - c.loop-made.made)) c.query_steps-steps.ensures (sym c.is_going.ensures ∙ c.if-is_going.false) c.counted-s.ensures c.end_query.ensures)

pub returns : goal.returns
returns c = running_end c.loop-made.invariant c.loop-made-test.false
