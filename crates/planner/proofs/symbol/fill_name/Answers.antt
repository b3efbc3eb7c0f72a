use Rattle.planner.proofs.Filling.{written_fills, name_fills}
use Rattle.planner.proofs.symbol.fill_name.Goals as goal

pub returns : goal.returns
returns c =
    name_fills c.args.text.now c.args.row c.args.bytes.now c.from-first.ensures c.from-length.ensures c.requires
    (written_fills _ c.args.bytes.now _ c.written.ensures c.write.ensures.0 c.write.ensures.1)
