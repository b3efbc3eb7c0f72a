use Rattle.asp.specs.Sets.{set_of}
use Rattle.cores.specs.Columns.{rests_of}
use Rattle.judging.specs.Lent.{tables_of}
use Rattle.cores_script.proofs.Measured.{Summing}
use Rattle.cores_script.proofs.measure.violated_weight.Given as goal

abbrev pub invariant-loop-p : goal.invariant-loop-p
invariant-loop-p l = Summing (tables_of l.cores) (set_of l.model.bytes.now) (rests_of l.cores.softs.now) l.counts l.total l.p
