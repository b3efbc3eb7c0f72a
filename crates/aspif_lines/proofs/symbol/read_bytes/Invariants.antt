use Rattle.aspif_lines.proofs.Names.{NameLeft}
use Rattle.aspif_lines.proofs.symbol.read_bytes.Given as goal

abbrev pub invariant-loop : goal.invariant-loop
invariant-loop l = NameLeft l.fn.rest.bytes.now l.rest.bytes.now l.m l.counter
