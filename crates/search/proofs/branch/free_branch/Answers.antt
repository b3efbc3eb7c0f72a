use native.Mathlib.Omega.{arith}
use Rattle.search.proofs.BranchLaws.{lowest_le}
use Rattle.search.proofs.branch.free_branch.Goals as goal

pub free_literal-requires : goal.free_literal-requires
free_literal-requires c =
    let p = c.requires in
    omega (arith, lowest_le c.args.value.now c.args.n p.le_n, p.n_bound, p.a_value)
