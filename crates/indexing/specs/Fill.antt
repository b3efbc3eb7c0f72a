-- What fills the table of numbers. Assumes nothing: these are definitions.
use Rattle.std.specs.Prelude.{◌≡◌, List, ℕ, ◌+◌, ◌*◌, ◌<◌, eqb, length, get_or, ℤ}
use Rattle.asp.specs.declared.rules.Row.{Row}
use Rattle.asp.specs.Sets.{pick}
use Rattle.asp.specs.Tables.{is_choice, is_weighted, row_at}
use Rattle.counting.specs.declared.index.Index.{Index}
use Rattle.counting.specs.declared.counters.Counters.{Counters}
use Rattle.counting.specs.Counters.{first, list_length, raise_from, weigh_number}
use Rattle.counting.specs.Counts.{broken_many}

unfoldable pub raise_list : Index → ℕ → Counters → Counters
raise_list o i t = raise_from o.rules (first o i) (list_length o i) t

-- the literals of the atom a, whose value is y
unfoldable pub added_of : Index → ℕ → ℕ → Counters → Counters
added_of o a y t = raise_list o (pick (eqb y 2) (a * 2) (a * 2 + 1)) (raise_list o (pick (eqb y 1) (a * 2 + 1) (a * 2)) t)

-- the number of a rule without conditions; order 2: that of one with a weighted body, by the values
abbrev pub base_of : List ℤ → List ℕ → Row → ℕ
base_of pool v w = pick (is_weighted w.body) (weigh_number pool v w) (pick (is_choice w.head) 2 0)

-- the first r rules have it
pub record Based (pool : List ℤ) (rows : List Row) (v key : List ℕ) (broken r : ℕ) : Type 0 where
  pub long : length key ≡ 2048
  pub each : (j : ℕ) → j < r → get_or key j 0 ≡ base_of pool v (row_at rows j)
  pub zero_many : broken ≡ broken_many key r
