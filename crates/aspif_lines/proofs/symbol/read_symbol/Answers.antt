use Rattle.std.proofs.Common.{◌-◌, arith, length}
use Rattle.aspif_fields.proofs.Tokens.{natural_ending}
use Rattle.aspif_lines.specs.Text.{symbol_line}
use Rattle.aspif_lines.proofs.Names.{bytes_after}
use Rattle.aspif_lines.proofs.symbol.read_symbol.Goals as goal

pub overflow_sub-name : goal.overflow_sub-name
overflow_sub-name c = (natural_ending 1 64 _ _ _ c.in_ok-length.ensures.answer).less

pub returns-clause-answer : goal.returns-clause-answer
unfolding symbol_line
returns-clause-answer c =
    let s = c.args.rest.now.bytes.now in
    let after = c.read_natural.new.self.bytes.now in
    let end = natural_ending 1 64 _ _ _ c.in_ok-length.ensures.answer in
    let name = rw (← end.is) at (bytes_after s (length s - length after) 1 c.in_ok-length.length) in
    rw (← name, ← c.in_ok-length.ensures.answer, ← c.in_ok-read_name.ensures.answer, ← c.in_ok-shown.ensures.answer, ← c.in_ok-top.ensures.answer, c.in_ok-read_end.ensures)

pub returns-clause-small : goal.returns-clause-small
returns-clause-small c =
    let end = natural_ending 1 64 _ _ _ c.in_ok-length.ensures.answer in
    record {
      inside = omega (arith, end.less, c.in_ok-read_name.ensures.inside);
      some = c.in_ok-length.ensures.range.0;
      short = c.in_ok-length.ensures.range.1;
      few = c.in_ok-shown.ensures.range.1;
    }
