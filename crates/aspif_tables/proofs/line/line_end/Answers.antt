use Rattle.std.proofs.Common.{length, arith}
use Rattle.std.proofs.lemmas.Slice.{between_to_end}
use Rattle.aspif_tables.proofs.Pieces.{end_first}
use Rattle.aspif_tables.proofs.line.line_end.Goals as goal

pub returns-clause-first : goal.returns-clause-first
returns-clause-first c =
    let s = c.args.s.now in
    let place = rw (between_to_end s c.args.at (length s) (omega arith)) at c.newline.ensures in
    end_first s c.args.at c.newline.result c.unwrap_or.result (omega arith) place c.unwrap_or.ensures
