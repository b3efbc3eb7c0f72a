-- What a query run here asks of its rules and wishes. Assumes nothing: these are definitions.
use Rattle.std.specs.Prelude.{ℕ, ◌+◌, ◌<◌, ◌≤◌, List, length, ℤ, pos, get_or, nat_abs}
use Rattle.asp.specs.declared.rules.Row.{Row}
use Rattle.asp.specs.Sets.{In}
use Rattle.asp.specs.Tables.{row_at}
use Rattle.counting.specs.Counts.{sum_from}

-- the rules are few enough, and so are their places together
pub record Roomy (rows : List Row) : Type 0 where
  pub few : length rows ≤ 2048
  pub places : sum_from (λ r. (row_at rows r).heads + (row_at rows r).literals) 0 (length rows) ≤ 16384

pub record Wished (n : ℕ) (wished : List ℤ) : Type 0 where
  pub few : length wished ≤ 8
  pub atoms : (i : ℕ) → i < length wished → In n (nat_abs (get_or wished i (pos 0)))
