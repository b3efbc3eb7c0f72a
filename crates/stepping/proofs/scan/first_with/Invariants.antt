use mathlib.Core.Path.{◌≡◌}
use Prim.Native.Nat.{◌+◌, ◌-◌}
use lib.ListN.{length}
use Rattle.asp.specs.Tables.{row_at}
use Rattle.search.specs.declared.scan.Found.TheVariants.{Clear}
use Rattle.counting.specs.Counts.{NoneBelow}
use Rattle.counting.specs.Views.{rules_read}
use Rattle.stepping.proofs.ScanLaws.{Inner}
use Rattle.stepping.proofs.scan.first_with.Given as goal

abbrev pub invariant-rules : goal.invariant-rules
invariant-rules l = NoneBelow l.key (length l.g.rows.now) l.want l.r × (l.found ≡ Clear)

abbrev pub decreases-rules : goal.decreases-rules
decreases-rules l = length l.g.rows.now - l.r

abbrev pub invariant-loop-k : goal.invariant-loop-k
invariant-loop-k l = Inner (rules_read l.g) l.value l.r l.mid (l.mid + (row_at l.g.rows.now l.r).literals) l.k
