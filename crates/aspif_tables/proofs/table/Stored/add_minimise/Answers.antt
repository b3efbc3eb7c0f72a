use Rattle.std.proofs.Common.{refl, arith}
use Rattle.aspif_fields.proofs.Signs.{back}
use Rattle.aspif_tables.proofs.Added.{minimise_added}
use Rattle.aspif_tables.proofs.table.Stored.add_minimise.Goals as goal

pub returns : goal.returns
returns c =
    let line = c.in_ok-line.ensures in
    let b = back c.in_ok-line.line.priority (omega (arith, line.small)) in
    let v = rw b at c.insert_level-levels.ensures.0 in
    (minimise_added _ _ _ _ c.args.self.now.counts _ _ _ _ _ line.kept c.args.end line.answer line.top v c.insert_level-levels.auto.levels, refl)
