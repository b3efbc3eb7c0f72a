use Rattle.std.proofs.Common.{refl, arith}
use Rattle.asp.specs.Tables.{no_row}
use Rattle.aspif_tables.proofs.Added.{pushed_set, rule_added}
use Rattle.aspif_tables.proofs.table.Stored.add_rule.Goals as goal

pub returns : goal.returns
returns c =
    let line = c.in_ok-row.ensures in
    (rule_added _ _ _ _ c.args.self.now.counts _ _ c.requires.sound line.kept (pushed_set no_row _ _ _ (omega arith)) line.good _ _ (omega arith) (omega (arith, c.extra_places.ensures)) c.args.end line.answer, refl)
