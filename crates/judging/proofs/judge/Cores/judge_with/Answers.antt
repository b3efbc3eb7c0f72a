use Rattle.cores.proofs.Columns.{found_first, found_second}
use Rattle.judging.proofs.judge.Cores.judge_with.Goals as goal

pub returns-in-Some : goal.returns-in-Some
returns-in-Some c =
    found_first c.args.places.now c.args.more.now c.first_violated.ensures c.in-Some.p c.in-Some.is

pub returns-in-None : goal.returns-in-None
returns-in-None c =
    found_second c.args.places.now c.args.more.now c.first_violated.ensures c.in-None.is c.first_violated-in-None.ensures
