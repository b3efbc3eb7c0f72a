use Rattle.cores.specs.Columns.{rests_of}
use Rattle.cores.proofs.Queries.{Picking}
use Rattle.judging.proofs.query.assumed.Given as goal

abbrev pub invariant-loop-i : goal.invariant-loop-i
invariant-loop-i l = Picking l.s (rests_of l.softs) l.initial.places l.places l.n l.i
