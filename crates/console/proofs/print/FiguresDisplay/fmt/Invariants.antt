use Rattle.std.specs.Prelude.{IfSome, take}
use Rattle.std.specs.Fmt.{HasWritten, IsPlainFormatter}
use Rattle.console.specs.Print.{figures_text}
use Rattle.console.proofs.print.FiguresDisplay.fmt.Given as goal

abbrev pub invariant-loop-figure : goal.invariant-loop-figure
invariant-loop-figure g l =
    IsPlainFormatter l.fn.f → IfSome (figures_text g.T.Display.output (take l.figure-index l.self.0.now)) (λ bs. HasWritten g.W.Write.write_str_gives l.fn.f bs l.f)
