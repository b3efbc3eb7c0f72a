use Rattle.std.proofs.Common.{refl, arith, length, ◌-◌}
use Rattle.aspif_lines.proofs.Names.{bytes_after}
use Rattle.asp.specs.Tables.{no_symbol}
use Rattle.aspif_tables.proofs.Added.{pushed_set, symbol_added}
use Rattle.aspif_tables.proofs.table.Stored.add_symbol.Goals as goal

pub returns : goal.returns
returns c =
    let line = c.in_ok-line.ensures in
    let s = c.args.s.now in
    let rest = c.args.rest.now.bytes.now in
    let part = c.requires.part in
    let before = length s - length rest in
    let name = rw (← part.is) at (bytes_after s before c.in_ok-line.line.name c.in_ok-line.line.length) in
    (symbol_added _ _ _ _ _ c.args.self.now.counts _ _ _ _ _ s _ c.requires.sound line.kept (pushed_set no_symbol _ _ _ (omega arith)) (omega (arith, line.small.inside, part.less)) c.requires.ends.0 c.requires.stored (rw name at line.answer) line.top, refl)
