use Rattle.std.proofs.Common.{ℕ, List, take, ap, ◌∙◌}
use Rattle.std.proofs.lemmas.List.{take_min}
use Rattle.cores.specs.declared.soft.Soft.{Soft}
use Rattle.cores.specs.Level.{under}
use Rattle.cores.specs.Columns.{rests_of}
use Rattle.optimizer.proofs.finish.next_stratum.Goals as goal

pub returns : goal.returns
returns c =
    let ss = c.args.t.now.softs in
    let front = ap (λ (m : ℕ). take m ss) c.min-count.ensures ∙ take_min c.args.t.now.count ss in
    c.next_stratum.ensures ∙ ap (λ (xs : List Soft). under c.args.s (rests_of xs)) front
