use borrow.Author.Tests.{ne_eqb}
use Rattle.asp.specs.Sets.{set_of}
use Rattle.asp.specs.Tables.{is_choice}
use Rattle.asp.proofs.RowLaws.{choice_unviolated, constraint_violated, plain_unviolated}
use Rattle.stability.proofs.stable.is_violated.Goals as goal

pub returns-in-Choice : goal.returns-in-Choice
unfolding is_choice
returns-in-Choice c = choice_unviolated (set_of c.args.m.bytes.now) c.args.pool.now c.args.row (rw c.in-Choice.is)

pub returns-then-row-eq0 : goal.returns-then-row-eq0
unfolding is_choice
returns-then-row-eq0 c = constraint_violated (set_of c.args.m.bytes.now) c.args.pool.now c.args.row (rw c.in-Plain.is) c.if-row-eq0.true c.body_holds.ensures

pub returns-else-row-eq0 : goal.returns-else-row-eq0
unfolding is_choice
returns-else-row-eq0 c =
    rw (ne_eqb c.args.row.heads 0 c.if-row-eq0.false) (plain_unviolated (set_of c.args.m.bytes.now) c.args.pool.now c.args.row (rw c.in-Plain.is) c.if-row-eq0.false)
