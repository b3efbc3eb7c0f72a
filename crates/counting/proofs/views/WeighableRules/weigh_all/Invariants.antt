use Rattle.counting.specs.Views.{bodies_weighed}
use Rattle.counting.proofs.CounterLaws.{Weighing}
use Rattle.counting.proofs.views.WeighableRules.weigh_all.Given as goal

abbrev pub invariant-loop-e : goal.invariant-loop-e
invariant-loop-e l = Weighing (bodies_weighed l.self) l.value l.self.lists.rules.now l.from l.end l.initial.t l.t l.e
