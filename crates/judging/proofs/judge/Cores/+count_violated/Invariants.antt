use Rattle.std.proofs.Common.{◌+◌, get_or}
use Rattle.asp.specs.Sets.{set_of}
use Rattle.cores.specs.Columns.{cores_of}
use Rattle.cores.proofs.Columns.{Counting}
use Rattle.judging.specs.Lent.{tables_of}
use Rattle.judging.proofs.judge.Cores.+count_violated.Given as goal

-- The core number falls from a soft literal to its core's members: counting core j stands at 2j, judging a soft literal of core c at 2c + 1.
abbrev pub decreases-count : goal.decreases-count
decreases-count l = l.j + l.j

abbrev pub decreases-violated : goal.decreases-violated
decreases-violated l = get_or (cores_of l.self.now.softs.now) l.p 0 + get_or (cores_of l.self.now.softs.now) l.p 0 + 1

abbrev pub invariant-count-loop-k : goal.invariant-count-loop-k
invariant-count-loop-k l = Counting (tables_of l.self) (set_of l.model.bytes.now) l.j l.k-end l.initial.counts l.counts l.k l.n
