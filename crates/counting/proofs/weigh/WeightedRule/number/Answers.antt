use Rattle.counting.proofs.NumberCode.{number_is}
use Rattle.counting.proofs.weigh.WeightedRule.number.Goals as goal

pub returns-clause-value : goal.returns-clause-value
returns-clause-value c = number_is c.args.self.pool.now c.args.self.row c.args.value.now c.head_rest.ensures c.rest_number.ensures.value c.body_number.ensures.value
