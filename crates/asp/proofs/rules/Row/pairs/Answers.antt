use Rattle.std.proofs.Common.{arith, ◌≡◌, ◌+◌}
use Rattle.asp.proofs.Pairs.{pairs_parts}
use Rattle.asp.proofs.RowLaws.{row_pairs_formed}
use Rattle.asp.proofs.rules.Row.pairs.Goals as goal

pub invariant_of-result : goal.invariant_of-result
invariant_of-result c =
    rw (c.body_literals-literals.ensures, c.part-weights.ensures, c.body_first.ensures.value, c.from.ensures, c.from-2.ensures)
    (record { formed = row_pairs_formed c.requires (omega (arith, c.from-2.type_inv)) })

pub returns : goal.returns
returns c =
    let s = c.args.self in
    let gap : s.first + s.heads + s.literals + 1 ≡ s.first + s.heads + (s.literals + 1) = omega arith in
    rw (c.body_literals-literals.ensures, c.part-weights.ensures, c.body_first.ensures.value, c.from.ensures, c.from-2.ensures, gap)
    (pairs_parts c.args.pool.now (s.literals + 1) (s.first + s.heads) s.literals)
