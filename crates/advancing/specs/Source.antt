-- The tables of a program that an optimization reads, and what they say. Assumes nothing: these are definitions.
use Rattle.std.specs.Prelude.{◌≡◌, List, ℕ, ◌≤◌, ℤ, pos, nat_abs, length, get_or}
use Rattle.asp.specs.declared.entries.Entry.{Entry}
use Rattle.asp.specs.Sets.{Set, set_of}
use Rattle.asp.specs.Program.{Rule, All, LiteralIn}
use Rattle.asp.specs.Cost.{level, start}
use Rattle.asp.specs.Penalty.{Penalty, penalties}
use Rattle.asp.specs.Tables.{span, rules_of, Formed}
use Rattle.asp.specs.declared.rules.Row.{Row}
use Rattle.asp.specs.declared.cost.Objective.{Objective}
use Rattle.asp.specs.Paying.{EntriesFormed}
use Rattle.search.specs.Scan.{Rules, rules}
use Rattle.choosing.specs.First.{tried_first}
use Rattle.counting.specs.declared.index.Index.{Index}
use Rattle.indexing.specs.Sorting.{Readied}
use Rattle.indexing.specs.Leaf.{Indexes}

-- the priorities of the levels, highest first, and the entries
pub record Levels : Type 0 where
  pub levels : List ℤ
  pub entries : List Entry

abbrev pub level_tables : List ℤ → List Entry → Levels
level_tables levels entries = record { levels = levels; entries = entries }

-- those that are lent
abbrev pub levels_lent : Objective → Levels
levels_lent o = level_tables o.levels.now o.entries.now

abbrev pub entries_in : Levels → List Entry
entries_in L = L.entries

-- how many levels
abbrev pub many : Levels → ℕ
many L = length L.levels

-- the level at place j, from 0, the highest
abbrev pub level_at : Levels → ℕ → List Entry
level_at L j = level (get_or L.levels j (pos 0)) (entries_in L)

abbrev pub levels_in : Levels → List (List Entry)
levels_in L = span (level_at L) 0 (many L)

-- where its bounds start, and its penalties: what it costs a set lies above the start by what they charge
abbrev pub start_at : Levels → ℕ → ℤ
start_at L j = start (level_at L j)

abbrev pub penalties_at : Levels → ℕ → List Penalty
penalties_at L j = penalties (level_at L j)

abbrev pub penalties_in : Levels → List (List Penalty)
penalties_in L = span (penalties_at L) 0 (many L)

-- atoms 1 to n, the rules, the levels
pub record Source : Type 0 where
  pub n : ℕ
  pub pool : List ℤ
  pub rows : List Row
  pub rulecount : ℕ
  pub levels : Levels

abbrev pub source : ℕ → List ℤ → List Row → ℕ → Levels → Source
source n pool rows rulecount levels = record { n = n; pool = pool; rows = rows; rulecount = rulecount; levels = levels }

abbrev pub rules_in : Source → List Rule
rules_in S = rules_of S.pool S.rows S.rulecount

abbrev pub rule_tables : Source → Rules
rule_tables S = rules S.pool S.rows S.rulecount

-- the atoms that a free branch tries in first
abbrev pub first_in : Source → Set
first_in S = tried_first (rules_in S) (penalties (entries_in S.levels))

-- a table of them
pub record Tries (S : Source) (tried : List ℕ) : Type 0 where
  pub tries : (a : ℕ) → set_of tried a ≡ first_in S a

-- what is made once for a program, at its load: the lists of its rules, and that table
pub record Prepared (S : Source) (o h : Index) (tried : List ℕ) : Type 0 where
  pub lists : Indexes (rule_tables S) o h
  pub table : Tries S tried

-- the tables are well formed: asp's conditions, and document 01's limits as far as the code needs them
pub record FormedLevels (L : Levels) : Type 0 where
  pub entries : EntriesFormed L.entries
  pub few : length L.entries ≤ 512
  pub levels_few : many L ≤ 8
  pub light : All (λ (e : Entry). nat_abs e.weight ≤ 1000000) (entries_in L)

pub record FormedSource (S : Source) : Type 0 where
  pub rules : Formed S.n S.pool S.rows S.rulecount
  pub levels : FormedLevels S.levels
  pub atoms : All (λ (e : Entry). LiteralIn S.n e.literal) (entries_in S.levels)
  pub readied : Readied (rule_tables S)
