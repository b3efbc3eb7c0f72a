use Rattle.std.proofs.Common.{arith}
use Rattle.std.proofs.lemmas.Grind.{common_steps}
use Rattle.counting.proofs.Weighing.{formed_weighable}
use Rattle.counting.proofs.listed.Listed.weighable.Goals as goal

pub invariant_of-result : goal.invariant_of-result
invariant_of-result c =
    let g = c.args.self.now in
    record { weighable = formed_weighable g.rules.formed g.indexed (grind (arith, common_steps)) }
