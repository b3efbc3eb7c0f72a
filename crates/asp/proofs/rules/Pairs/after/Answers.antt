use Rattle.std.proofs.lemmas.List.{take_rest}
use Rattle.asp.proofs.Pairs.{pairs_after}
use Rattle.asp.proofs.rules.Pairs.after.Goals as goal

pub invariant_of-result : goal.invariant_of-result
invariant_of-result c = rw (take_rest c.args.self.literals.now c.args.i, take_rest c.args.self.weights.now c.args.i) (record { formed = pairs_after c.args.self.formed c.requires })
