use Rattle.asp.specs.Sets.{set_of}
use Rattle.cores.proofs.Columns.{Passing}
use Rattle.judging.specs.Lent.{tables_of}
use Rattle.judging.proofs.judge.Cores.first_violated.Given as goal

abbrev pub invariant-loop-p : goal.invariant-loop-p
invariant-loop-p l = Passing (tables_of l.self) (set_of l.model.bytes.now) l.places l.initial.counts l.counts l.p-index
