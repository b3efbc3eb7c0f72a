-- What an entry costs on a level, and well-formed tables of entries and symbols. Assumes nothing: these are definitions.
use Rattle.std.specs.Prelude.{List, ℕ, ◌+◌, ◌≤◌, ◌<◌, ℤ, pos, length}
use Rattle.asp.specs.Sets.{Set, pick}
use Rattle.asp.specs.Literal.{same_ℤ}
use Rattle.asp.specs.Program.{All, LiteralIn}
use Rattle.asp.specs.Cost.{entry_cost, negative_part}
use Rattle.asp.specs.Tables.{condition_at, entry_at}
use Rattle.asp.specs.declared.entries.Entry.{Entry}
use Rattle.asp.specs.declared.symbols.SymbolRow.{SymbolRow}

-- what an entry adds to a sum over the level of priority p, if f says what it comes to
abbrev pub on_level : (Entry → ℤ) → ℤ → Entry → ℤ
on_level f p e = pick (same_ℤ p e.priority) (f e) (pos 0)

-- what it costs there, and what it takes off the start
abbrev pub paid : Set → ℤ → Entry → ℤ
paid M p e = on_level (entry_cost M) p e

abbrev pub taken : ℤ → Entry → ℤ
taken p e = on_level (λ (x : Entry). negative_part x.weight) p e

-- few enough that each sum fits, each with a literal of an atom from 1 to 1,024
pub record EntriesFormed (entries : List Entry) : Type 0 where
  pub few : length entries ≤ 65536
  pub atoms : (i : ℕ) → i < length entries → LiteralIn 1024 (entry_at entries i).literal

pub record SymbolFormed (conditions : List ℤ) (row : SymbolRow) : Type 0 where
  pub inside : row.condition + row.literals ≤ length conditions
  pub atoms : All (LiteralIn 1024) (condition_at conditions row)
