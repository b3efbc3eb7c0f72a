use Rattle.std.specs.Prelude.{codes}
use Rattle.std.specs.Fmt.{HasWritten, IsPlainFormatter}
use Rattle.std.specs.List.{repeat}
use Rattle.console.proofs.print.dashes.Given as goal

abbrev pub invariant-loop : goal.invariant-loop
invariant-loop g l = IsPlainFormatter l.fn.f → HasWritten g.W.Write.write_str_gives l.fn.f (repeat l.counter (codes " -")) l.f
