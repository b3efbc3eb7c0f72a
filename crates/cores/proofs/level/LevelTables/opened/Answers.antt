use mir.Facts.{to_z-of_z}
use Rattle.std.proofs.Common.{◌≡◌, arith, sym, ◌∙◌}
use Rattle.asp.specs.Tables.{entry_at}
use Rattle.cores.specs.Tables.{soft_of}
use Rattle.cores.proofs.Loops.{open_put_at, open_skip, open_stop}
use Rattle.cores.proofs.level.LevelTables.opened.Goals as goal
use Rattle.cores.proofs.level.LevelTables.opened.Goals.{then-weighs_on, else-weighs_on}

pub loop-e-preserved : goal.loop-e-preserved
loop-e-preserved c =
    elim c.if-weighs_on.branch [
      | then-weighs_on w ↦
          let x : w.of_entry.result ≡ soft_of (entry_at c.args.entries.now c.loop-e.e-index) = rw (to_z-of_z (record { sfits = w.paid_literal.type_inv }), w.paid_literal.ensures, w.size.ensures) at w.of_entry.ensures in
          open_put_at c.loop-e.invariant c.loop-e-test.true (sym c.weighs_on.ensures ∙ w.if-weighs_on.true) x w.put_soft.ensures w.t-is
      | else-weighs_on w ↦ open_skip c.loop-e.invariant c.loop-e-test.true (sym c.weighs_on.ensures ∙ w.if-weighs_on.false) w.t-is
    ]

pub returns : goal.returns
returns c = rw (to_z-of_z c.ranges.priority) at (open_stop c.loop-e.invariant (omega arith))
