use Rattle.std.proofs.Common.{rules}
use Rattle.stepping.proofs.StepLaws.{back_by, put_by, after_cut, after_open, counted_back, counted_open}
use Rattle.search.proofs.StepLaws.{open_room, open_small}
use Rattle.stepping.proofs.step.step.Goals as goal

pub push-requires : goal.push-requires
push-requires c = (search (open_room, rules), open_small _ _ _ _ _ _ _ (rw c.requires.atoms c.args.g.now.rules.formed) c.requires.formed c.test-tested.ensures.tested c.in-Open.is)

pub returns-in-RuleBroken-clause-stepped : goal.returns-in-RuleBroken-clause-stepped
returns-in-RuleBroken-clause-stepped c = after_cut _ _ _ c.args.trail.now _ _ _ c.test-tested.ensures.tested c.in-RuleBroken.is (back_by c.weighable-rules.ensures.bodies c.weighable-rules.ensures.lists _ c.back.ensures)

pub returns-in-RuleBroken-clause-tracks : goal.returns-in-RuleBroken-clause-tracks
returns-in-RuleBroken-clause-tracks c = counted_back c.args.g.now.indexed c.requires.good c.test-tested.ensures.tracks (back_by c.weighable-rules.ensures.bodies c.weighable-rules.ensures.lists _ c.back.ensures)

pub returns-in-Open-clause-stepped : goal.returns-in-Open-clause-stepped
returns-in-Open-clause-stepped c =
    after_open _ _ _ _ _ c.args.trail.now _ _ _ (rw c.requires.atoms c.args.g.now.rules.formed) c.requires.formed c.test-tested.ensures.tested c.in-Open.is (put_by c.weighable-rules.ensures.bodies c.weighable-rules.ensures.lists _ _ _ c.push.ensures)

pub returns-in-Open-clause-tracks : goal.returns-in-Open-clause-tracks
returns-in-Open-clause-tracks c =
    counted_open (rw c.requires.atoms c.args.g.now.rules.formed) c.requires.formed c.args.g.now.indexed c.requires.good c.test-tested.ensures.tested c.test-tested.ensures.tracks c.in-Open.is (put_by c.weighable-rules.ensures.bodies c.weighable-rules.ensures.lists _ _ _ c.push.ensures)
