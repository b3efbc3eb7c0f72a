use mir.Syntax.{w32}
use mir.Val.{SFits}
use Rattle.std.proofs.Common.{refl, pos, get_or, rules}
use Rattle.advancing.specs.Source.{levels_lent}
use Rattle.optimizer.proofs.Finishing.{entries_small, begun_is, open_yes, open_no}
use Rattle.optimizer.proofs.ground.Limited.open_from.Goals as goal

pub opened-w-requires : goal.opened-w-requires
opened-w-requires c = record { few = c.args.self.now.formed.few; atoms = entries_small _ c.args.self.now.formed }

pub returns-then-levels-w : goal.returns-then-levels-w
returns-then-levels-w c = open_no (levels_lent c.args.self.now.objective) c.args.w.now c.args.j c.next_level-w.ensures.0 c.if-levels-w.true

pub returns : goal.returns
returns c =
    let L = levels_lent c.args.self.now.objective in
    let i = c.next_level-w.result in
    let w = c.args.w.now in
    let fits : SFits w32 (get_or L.levels i (pos 0)) = search rules in
    let begun = begun_is L i c.args.self.now.formed fits refl c.opened-w.ensures w c.next_stratum-w.ensures in
    open_yes L w c.args.j c.next_level-w.ensures.0 c.if-levels-w.false begun
