use Rattle.std.proofs.Common.{arith, sym, ◌∙◌}
use Rattle.console.proofs.Numbers.{valuing_other, valuing_next, valuing_out, valuing_done}
use Rattle.console.proofs.number.value_of.Goals as goal

pub returns-then-not-is_digit : goal.returns-then-not-is_digit
returns-then-not-is_digit c = valuing_other c.loop-b.invariant c.loop-b-test.true (sym c.is_digit.ensures ∙ c.if-not-is_digit.true)

pub returns-in_err-checked_mul : goal.returns-in_err-checked_mul
returns-in_err-checked_mul c = c.from_residual.ensures ∙ valuing_out c.loop-b.invariant c.loop-b-test.true (omega (arith, c.in_err-checked_mul.ensures))

pub returns-in_err-v : goal.returns-in_err-v
returns-in_err-v c = c.from_residual-in_err-v.ensures ∙ valuing_out c.loop-b.invariant c.loop-b-test.true (omega (arith, c.in_err-v.ensures, c.in_ok-checked_mul.ensures))

pub loop-b-preserved : goal.loop-b-preserved
loop-b-preserved c = valuing_next c.loop-b.invariant c.loop-b-test.true (sym c.is_digit.ensures ∙ c.if-not-is_digit.false) (omega (arith, c.in_ok-v.ensures, c.in_ok-checked_mul.ensures)) (omega (arith, c.in_ok-v.ensures))

pub returns : goal.returns
returns c = valuing_done c.loop-b.invariant (omega arith)
