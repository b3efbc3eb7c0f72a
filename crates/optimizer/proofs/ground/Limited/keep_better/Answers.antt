use Rattle.advancing.specs.Source.{levels_lent}
use Rattle.optimizer.proofs.Finishing.{best_is, better_yes, better_no}
use Rattle.optimizer.proofs.ground.Limited.keep_better.Goals as goal

pub returns-then-not-is_cheaper : goal.returns-then-not-is_cheaper
returns-then-not-is_cheaper c = better_no (levels_lent c.args.self.now.objective) c.args.w.now c.args.value.now c.costs-figures.ensures c.is_cheaper.ensures c.if-not-is_cheaper.true

pub returns : goal.returns
returns c =
    let L = levels_lent c.args.self.now.objective in
    better_yes L c.args.w.now c.args.value.now c.costs-figures.ensures c.is_cheaper.ensures c.if-not-is_cheaper.false (best_is L c.args.w.now c.args.value.now c.costs-figures.ensures)
