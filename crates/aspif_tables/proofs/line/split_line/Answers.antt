use Rattle.std.proofs.Common.{length, ◌+◌, arith}
use Rattle.std.proofs.lemmas.Slice.{between_to_end}
use Rattle.aspif_tables.proofs.Pieces.{split_some}
use Rattle.aspif_tables.proofs.line.split_line.Goals as goal

pub returns-in-Some-clause-split : goal.returns-in-Some-clause-split
returns-in-Some-clause-split c =
    let s = c.args.s.now in
    rw (between_to_end s (c.in-Some.i + 1) (length s) (omega arith)) (split_some s c.in-Some.i c.in-Some.ensures)
