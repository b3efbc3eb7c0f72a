use Rattle.console.proofs.Numbers.{Valuing}
use Rattle.console.proofs.number.value_of.Given as goal

abbrev pub invariant-loop-b : goal.invariant-loop-b
invariant-loop-b l = Valuing l.s l.v l.b-index
