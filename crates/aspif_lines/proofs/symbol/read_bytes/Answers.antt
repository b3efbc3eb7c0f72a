use Rattle.aspif_lines.proofs.Names.{name_more}
use Rattle.aspif_lines.proofs.symbol.read_bytes.Goals as goal

pub loop-preserved : goal.loop-preserved
loop-preserved c = name_more c.loop.invariant c.loop-test.true c.goes_on.ensures c.if-not-goes_on.false c.skip.ensures
