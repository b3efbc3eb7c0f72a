use borrow.Author.Rules.{rules}
use mir.Syntax.{w64}
use mir.Val.{SFits}
use mir.Facts.{to_z-of_z}
use Rattle.asp.proofs.Paying.{filling_next, filling_done}
use Rattle.asp.proofs.cost.Objective.level_costs.Goals as goal

pub loop-i-preserved : goal.loop-i-preserved
loop-i-preserved c =
    let fits : SFits w64 c.level_cost.result = record { sfits = c.level_cost.type_inv } in
    rw (to_z-of_z fits) (search (filling_next, rules))

pub returns : goal.returns
returns c = filling_done c.loop-i.invariant c.loop-i-test.false c.loop-i.auto.i-end
