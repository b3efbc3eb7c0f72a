use Rattle.std.proofs.Common.{arith}
use Rattle.planner.proofs.Known.{known_symbol, known_symbols}
use Rattle.planner.proofs.service.Service.shown.Goals as goal

pub bounds-l-i : goal.bounds-l-i
bounds-l-i c = omega (arith, known_symbols (c.args.self.now.sound _ c.in_ok-l.ensures.held), c.if-l-i.false)

pub offset_bounds-l-i : goal.offset_bounds-l-i
offset_bounds-l-i c = omega (arith, known_symbols (c.args.self.now.sound _ c.in_ok-l.ensures.held), c.if-l-i.false)

pub is_shown-requires : goal.is_shown-requires
is_shown-requires c = known_symbol (c.args.self.now.sound _ c.in_ok-l.ensures.held) c.args.i c.if-l-i.false
