use Rattle.std.proofs.Common.{◌≡◌, ◌+◌, ◌-◌, arith, pos}
use Rattle.asp.proofs.Spans.{span_part}
use Rattle.asp.proofs.literal.part.Goals as goal

pub returns : goal.returns
returns c =
    let whole : c.args.first + c.args.k - c.args.first ≡ c.args.k = omega arith in
    rw whole (span_part c.args.pool.now (pos 0) c.args.first c.args.k c.requires)
