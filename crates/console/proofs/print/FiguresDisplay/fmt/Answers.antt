use Rattle.std.proofs.Common.{rules, arith}
use Rattle.std.proofs.lemmas.Grind.{common_steps}
use Rattle.console.specs.Print.{figures_text}
use Rattle.console.proofs.Figures.{figure_more}
use Rattle.console.proofs.print.FiguresDisplay.fmt.Goals as goal

pub loop-figure-init : goal.loop-figure-init
unfolding figures_text
loop-figure-init g c = grind (arith, common_steps)

pub loop-figure-preserved : goal.loop-figure-preserved
loop-figure-preserved g c p =
    figure_more g.T.Display.output g.W.Write.write_str_gives c.args.f.now c.loop-figure.f c.write.new.self c.in_ok-write.field-0 c.args.self.now.0.now c.loop-figure.figure-index c.figure-item.result
    (search rules) c.figure-item.is (c.loop-figure.invariant p) c.in_ok-write.ensures.writes
