use Rattle.std.proofs.Common.{arith}
use Rattle.planner.proofs.Known.{known_name, known_symbols}
use Rattle.planner.proofs.service.Service.name.Goals as goal

pub bounds-l-i : goal.bounds-l-i
bounds-l-i c = omega (arith, known_symbols (c.args.self.now.sound _ c.in_ok-l.ensures.held), c.if-l-i.false)

pub offset_bounds-l-i : goal.offset_bounds-l-i
offset_bounds-l-i c = omega (arith, known_symbols (c.args.self.now.sound _ c.in_ok-l.ensures.held), c.if-l-i.false)

pub fill_name-requires : goal.fill_name-requires
fill_name-requires c = known_name (c.args.self.now.sound _ c.in_ok-l.ensures.held) c.args.i c.if-l-i.false
