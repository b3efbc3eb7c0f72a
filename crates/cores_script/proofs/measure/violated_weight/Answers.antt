use borrow.Author.Rules.{rules}
use Rattle.std.proofs.Common.{arith, ◌∙◌}
use Rattle.asp.specs.Sets.{set_of}
use Rattle.cores.proofs.Columns.{known_none}
use Rattle.cores.proofs.Lent.{level_sum}
use Rattle.cores_script.proofs.Measured.{sum_start, sum_yes, sum_no, sum_all}
use Rattle.cores_script.proofs.measure.violated_weight.Goals as goal
use Rattle.cores_script.proofs.measure.violated_weight.Goals.{then-violated, else-violated}

pub loop-p-init : goal.loop-p-init
loop-p-init c = search (sum_start, known_none, rules)

pub loop-p-preserved : goal.loop-p-preserved
loop-p-preserved c =
    elim c.if-violated.branch [
      | then-violated w ↦ sum_yes c.of-cores.result.softs.now c.loop-p.invariant (omega arith) c.violated.ensures c.violated.auto.counts w.if-violated.true _ w.from-total.ensures (omega arith) w.total-is
      | else-violated w ↦ sum_no c.of-cores.result.softs.now c.loop-p.invariant (omega arith) c.violated.ensures c.violated.auto.counts w.if-violated.false w.total-is
    ]

pub returns : goal.returns
returns c =
    let cores = c.of-cores.ensures in
    let sum = sum_all c.of-cores.result.softs.now c.loop-p.invariant (omega arith) in
    rw (cores.softs, cores.ends, cores.members) at sum ∙ level_sum c.args.t.now c.requires.sound_tables.formed (set_of c.args.model.bytes.now)
