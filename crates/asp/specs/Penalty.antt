-- The normal form of entries: penalties, with natural weights. A level's cost is its start plus what its penalties charge (`asp:Penalties` `cost_is`). Order 1.
-- Assumes nothing: these are definitions.
use Rattle.std.specs.Prelude.{List, map, ℕ, ℤ, pos, neg_ℤ, nat_abs, ◌+ℤ◌, ◌-ℤ◌}
use Rattle.asp.specs.Sets.{Set, pick}
use Rattle.asp.specs.Literal.{is_negative}
use Rattle.asp.specs.declared.entries.Entry.{Entry}
use Rattle.asp.specs.Program.{Literal}
use Rattle.asp.specs.Stable.{holds}
use Rattle.asp.specs.Cost.{total}

-- a literal that costs its weight where it holds: a wish for the complement
pub record Penalty : Type 0 where
  pub literal : Literal
  pub weight : ℕ

-- the literal that costs, for an entry of literal l and weight w. "each entry with weight above 0 is a wish for its literal's complement"; order 1: a weight -w
-- "counts as a fixed -w and a wish of weight w for the literal itself", so that its complement costs
abbrev pub paid_literal : Literal → ℤ → Literal
paid_literal l w = pick (is_negative w) (neg_ℤ l) l

abbrev pub penalty : Entry → Penalty
penalty e = record { literal = paid_literal e.literal e.weight; weight = nat_abs e.weight }

abbrev pub penalties : List Entry → List Penalty
penalties es = map penalty es

-- ---- what penalties charge a set, and weigh

abbrev pub penalty_charge : Set → Penalty → ℕ
penalty_charge M p = pick (holds M p.literal) p.weight 0

abbrev pub charge : Set → List Penalty → ℕ
charge M ps = total (map (penalty_charge M) ps)

abbrev pub bulk : List Penalty → ℕ
bulk ps = total (map (λ (p : Penalty). p.weight) ps)

-- ---- figures over a start

-- c above s
abbrev pub above : ℤ → ℕ → ℤ
above s c = s +ℤ pos c

-- how far z lies above s
abbrev pub rise : ℤ → ℤ → ℕ
rise s z = nat_abs (z -ℤ s)
