use Rattle.asp.specs.Tables.{is_choice}
use Rattle.counting.proofs.NumberCode.{head_chosen, head_none, head_one}
use Rattle.counting.proofs.weigh.WeightedRule.head_rest.Goals as goal

pub returns-in-Choice : goal.returns-in-Choice
unfolding is_choice
returns-in-Choice c = head_chosen c.args.self.pool.now c.args.self.row c.args.value.now (rw c.in-Choice.is)

pub returns-in-Plain : goal.returns-in-Plain
unfolding is_choice
returns-in-Plain c = head_none c.args.self.pool.now c.args.self.row c.args.value.now (rw c.in-Plain.is) c.if-self-eq0.true

pub returns-in-Plain-2 : goal.returns-in-Plain-2
unfolding is_choice
returns-in-Plain-2 c = head_one c.args.self.pool.now c.args.self.row c.args.value.now c.args.self.weighs (rw c.in-Plain.is) c.if-self-eq0.false (rw (c.from-first.ensures, c.from.ensures) at c.left_at.ensures)
