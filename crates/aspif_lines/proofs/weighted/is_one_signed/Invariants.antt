use Rattle.std.proofs.Common.{length}
use Rattle.aspif_lines.proofs.Pairs.{SignsLeft}
use Rattle.aspif_lines.proofs.weighted.is_one_signed.Given as goal

abbrev pub invariant-loop-l : goal.invariant-loop-l
invariant-loop-l l = SignsLeft l.rest l.fn.literals

abbrev pub decreases-loop-l : goal.decreases-loop-l
decreases-loop-l l = length l.rest
