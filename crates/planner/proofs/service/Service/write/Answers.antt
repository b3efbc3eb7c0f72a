use Rattle.std.proofs.Common.{arith}
use Rattle.aspif.proofs.Uses.{bytes_part}
use Rattle.planner.proofs.Filling.{written_fills}
use Rattle.planner.proofs.Known.{known_text, known_end}
use Rattle.planner.proofs.Moving.{write_is}
use Rattle.planner.proofs.service.Service.write.Goals as goal

pub shared_ref_as_front-text : goal.shared_ref_as_front-text
shared_ref_as_front-text c = omega (arith, known_end (c.args.self.now.sound _ c.in_ok-l.ensures.held))

pub returns : goal.returns
returns c =
    let p = c.in_ok-l.l.now.stored in
    let t = bytes_part p.text 0 p.counts.text (omega (arith, known_text (c.args.self.now.sound _ c.in_ok-l.ensures.held))) in
    write_is _ c.in_ok-l.ensures.held c.args.bytes.now (rw t (written_fills _ c.args.bytes.now _ c.written.ensures c.write.ensures.0 c.write.ensures.1))
