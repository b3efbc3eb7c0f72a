use Rattle.cores.proofs.Lent.{judging_formed}
use Rattle.judging.proofs.judge.Cores.of.Goals as goal

pub invariant_of-result : goal.invariant_of-result
invariant_of-result c = record { formed = rw (c.soft_literals.ensures, c.held.ensures) (judging_formed c.args.t.now c.requires.formed c.requires.ordered) }
