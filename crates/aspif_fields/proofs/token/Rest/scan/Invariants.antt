use Rattle.std.proofs.Common.{length}
use Rattle.aspif_fields.proofs.Tokens.{Scanning}
use Rattle.aspif_fields.proofs.token.Rest.scan.Given as goal

abbrev pub invariant-loop-b : goal.invariant-loop-b
invariant-loop-b l = Scanning l.fn.self.bytes.now l.self.bytes.now l.v

abbrev pub decreases-loop-b : goal.decreases-loop-b
decreases-loop-b l = length l.self.bytes.now
