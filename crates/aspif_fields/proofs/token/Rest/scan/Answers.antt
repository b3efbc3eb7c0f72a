use Rattle.aspif_fields.proofs.Tokens.{scan_more}
use Rattle.aspif_fields.proofs.token.Rest.scan.Goals as goal

pub loop-b-preserved : goal.loop-b-preserved
loop-b-preserved c = scan_more _ _ _ _ _ _ c.loop-b.invariant c.in-Some.ensures (rw (← c.is_digit.ensures) c.if-is_digit.true) c.push-v.ensures c.skip.ensures
