use Rattle.std.proofs.Common.{rules}
use Rattle.console.proofs.Figures.{text_again}
use Rattle.console.proofs.print.dashes.Goals as goal

pub loop-preserved : goal.loop-preserved
loop-preserved g c p = search (text_again, rules)
