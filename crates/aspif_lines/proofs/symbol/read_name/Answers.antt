use Rattle.aspif_lines.proofs.Names.{bytes_after}
use Rattle.aspif_lines.proofs.symbol.read_name.Goals as goal

pub returns-clause-answer : goal.returns-clause-answer
returns-clause-answer c =
    let e = rw (c.in-Some.ensures.1, bytes_after c.args.rest.now.bytes.now 1 0 c.args.m) at c.read_bytes.ensures.answer in
    rw c.in-Some.ensures.0 e
