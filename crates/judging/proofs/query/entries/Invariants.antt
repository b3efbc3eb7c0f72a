use Rattle.cores.specs.Columns.{literals_of, cores_of, pairs}
use Rattle.cores.proofs.Queries.{Pairing}
use Rattle.judging.proofs.query.entries.Given as goal

abbrev pub invariant-loop-p : goal.invariant-loop-p
invariant-loop-p l = Pairing (literals_of l.softs) (cores_of l.softs) l.assumed (pairs l.initial.places l.initial.wishes) (pairs l.places l.wishes) l.n l.p-index
