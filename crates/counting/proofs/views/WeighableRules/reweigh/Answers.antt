use borrow.Author.Rules.{rules}
use Rattle.counting.proofs.CounterLaws.{weighed_all}
use Rattle.counting.proofs.NumberCode.{list_weighable}
use Rattle.counting.specs.Lent.{lists_lent}
use Rattle.counting.specs.Views.{bodies_weighed}
use Rattle.counting.proofs.views.WeighableRules.reweigh.Goals as goal

pub weigh_all-requires : goal.weigh_all-requires
weigh_all-requires c =
    let g = c.args.self.now in
    list_weighable (bodies_weighed g) (lists_lent g.lists) g.weighable c.requires (search rules) (search rules)

pub returns : goal.returns
returns c = search (weighed_all, rules)
