use Rattle.std.proofs.Common.{length}
use Rattle.aspif.proofs.Onwards.{ReadUpTo}
use Rattle.aspif.proofs.text.read_lines.Given as goal

abbrev pub invariant-loop-next : goal.invariant-loop-next
invariant-loop-next l = ReadUpTo l.initial.p l.p l.s l.rest l.line

abbrev pub decreases-loop-next : goal.decreases-loop-next
decreases-loop-next l = length l.rest
