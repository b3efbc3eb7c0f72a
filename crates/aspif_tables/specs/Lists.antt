-- The tables of a program while its lines are read, and what the code's answers about them mean. Assumes nothing: these are definitions.
use Rattle.std.specs.Prelude.{◌≡◌, true, false, not, List, [], ◌∷◌, ◌++◌, ℕ, ◌+◌, ◌≤◌, ◌<◌, max, ℤ, nat_abs, length, Option, Some, None, Result, Ok, Err, IfOk}
use Rattle.std.specs.Borrow.{Bor}
use Rattle.std.specs.Int.Signed.{lt_z}
use Rattle.asp.specs.declared.rules.BodyKind.{BodyKind}
use Rattle.asp.specs.declared.rules.Row.{Row}
use Rattle.asp.specs.declared.entries.Entry.{Entry}
use Rattle.asp.specs.declared.symbols.SymbolRow.{SymbolRow}
use Rattle.asp.specs.Sets.{pick}
use Rattle.asp.specs.Literal.{one_signed}
use Rattle.asp.specs.Program.{Rule, Symbol, highest, rule_atoms, atoms}
use Rattle.asp.specs.Tables.{literals_at, is_choice, is_weighted, is_mixed, row_at, rules_of, entries_of, symbol_row, symbols_of, Tables, program_of}
use Rattle.aspif_fields.specs.Fields.{got, bad}
use Rattle.aspif_fields.specs.Refusals.{refusal_number}
use Rattle.aspif_fields.specs.declared.refusal.Refusal.{Refusal}
use Rattle.aspif_lines.specs.Text.{rule_line, Minimise, minimise_line, symbol_line, line, pieces, Reading, insert, sum, rule_size, condition_size, name_size, Step, stop, last, goes}
use Rattle.aspif_lines.specs.Seen.{entry_atom, bytes_at, Kept}
use Rattle.aspif_tables.specs.declared.table.Counts.{Counts}
use Rattle.aspif_tables.specs.declared.table.Stored.{Stored}
use Rattle.aspif_tables.specs.declared.line.LineTurn.{LineTurn}
use Rattle.aspif_tables.specs.declared.line.LineTurn.TheVariants.{Last, Goes}

-- ---- the limits, by the counts

pub record Within (n : Counts) : Type 0 where
  pub rules : n.rules ≤ 2048
  pub used : n.used ≤ 16384
  pub entries : n.entries ≤ 512
  pub levels : n.levels ≤ 8
  pub symbols : n.symbols ≤ 512
  pub conditions : n.conditions ≤ 2048
  pub names : n.names ≤ 16384

-- ---- priorities, highest first, each once

abbrev pub Below : ℤ → List ℤ → Type 0
Below q [] = Unit {0}
Below q (r ∷ rs) = lt_z r q ≡ true

abbrev pub Descending : List ℤ → Type 0
Descending [] = Unit {0}
Descending (q ∷ qs) = Below q qs × Descending qs

-- ---- rows that lie inside their tables

-- order 2: the places of a weighted body beside those of its literals: its bound and their weights
abbrev pub extra_places : BodyKind → ℕ → ℕ
extra_places kind k = pick (is_weighted kind) (k + 1) 0

-- the place after a row's last
abbrev pub row_end : Row → ℕ
row_end r = r.first + r.heads + r.literals + extra_places r.body r.literals

-- the rules lie in the first `filled` places of the pool and take `used` of the literal table, a plain head has one atom at most, the kind of a weighted body says truly whether some atom stands with both signs
pub record RulesSound (pool : List ℤ) (rules : List Row) (n used filled : ℕ) : Type 0 where
  pub inside : (j : ℕ) → j < n → row_end (row_at rules j) ≤ filled
  pub single : (j : ℕ) → j < n → is_choice (row_at rules j).head ≡ false → (row_at rules j).heads ≤ 1
  pub signed : (j : ℕ) → j < n → is_weighted (row_at rules j).body ≡ true → is_mixed (row_at rules j).body ≡ not (one_signed (literals_at pool ((row_at rules j).first + (row_at rules j).heads) (row_at rules j).literals))
  pub size : sum rule_size (rules_of pool rules n) ≡ used
  pub room : filled ≤ used + used + n

-- names lie in the first `end` bytes of the text, conditions in the first `used` places of theirs and fill them
pub record SymbolsSound (text : List ℕ) (conditions : List ℤ) (symbols : List SymbolRow) (n used names end : ℕ) : Type 0 where
  pub inside : (j : ℕ) → j < n → ((symbol_row symbols j).name + (symbol_row symbols j).length ≤ end) × ((symbol_row symbols j).condition + (symbol_row symbols j).literals ≤ used)
  pub size : sum condition_size (symbols_of text conditions symbols n) ≡ used
  pub length : sum name_size (symbols_of text conditions symbols n) ≡ names

-- ---- one statement into the tables: what is read, and the tables with it; where it is refused, the other tables and the counts stay

abbrev pub rule_counts : Counts → ℕ → ℕ → ℕ → ℕ → Counts
rule_counts n used filled top end =
    record { rules = n.rules + 1; used = used; filled = filled; entries = n.entries; levels = n.levels; symbols = n.symbols; conditions = n.conditions; names = n.names; text = end; atoms = top }

pub record RuleAdded (pool : List ℤ) (rules : List Row) (pool' : List ℤ) (rules' : List Row) (n : Counts) (end : ℕ) (l : List ℕ) (m : Counts) : Type 0 where
  pub read : Rule
  pub line : rule_line l ≡ got read []
  pub grown : rules_of pool' rules' (n.rules + 1) ≡ rules_of pool rules n.rules ++ (read ∷ [])
  pub sound : RulesSound pool' rules' (n.rules + 1) m.used m.filled
  pub top : m.atoms ≡ max n.atoms (rule_atoms read)
  pub counts : m ≡ rule_counts n m.used m.filled m.atoms end
  pub long_pool : length pool' ≡ length pool
  pub long_rules : length rules' ≡ length rules

abbrev pub AddedRule : Stored → Stored → ℕ → List ℕ → Result (Unit {0}) Refusal → Type 0
AddedRule p q end l (Ok u) = RuleAdded p.pool p.rules q.pool q.rules p.counts end l q.counts × (q ≡ record p { pool = q.pool; rules = q.rules; counts = q.counts })
AddedRule p q end l (Err e) = (rule_line l ≡ bad (refusal_number e)) × (q ≡ record p { pool = q.pool; rules = q.rules })

abbrev pub minimise_counts : Counts → ℕ → ℕ → ℕ → ℕ → Counts
minimise_counts n entries levels top end =
    record { rules = n.rules; used = n.used; filled = n.filled; entries = entries; levels = levels; symbols = n.symbols; conditions = n.conditions; names = n.names; text = end; atoms = top }

pub record MinimiseAdded (entries : List Entry) (levels : List ℤ) (entries' : List Entry) (levels' : List ℤ) (n : Counts) (end : ℕ) (l : List ℕ) (m : Counts) : Type 0 where
  pub read : Minimise
  pub line : minimise_line l ≡ got read []
  pub grown : entries_of entries' m.entries ≡ entries_of entries n.entries ++ read.entries
  pub levelled : literals_at levels' 0 m.levels ≡ insert read.priority (literals_at levels 0 n.levels)
  pub top : m.atoms ≡ max n.atoms (highest entry_atom read.entries)
  pub counts : m ≡ minimise_counts n m.entries m.levels m.atoms end
  pub long_entries : length entries' ≡ length entries
  pub long_levels : length levels' ≡ length levels

abbrev pub AddedMinimise : Stored → Stored → ℕ → List ℕ → Result (Unit {0}) Refusal → Type 0
AddedMinimise p q end l (Ok u) =
    MinimiseAdded p.entries p.levels q.entries q.levels p.counts end l q.counts
    × (q ≡ record p { entries = q.entries; levels = q.levels; counts = q.counts })
AddedMinimise p q end l (Err e) = (minimise_line l ≡ bad (refusal_number e)) × (q ≡ record p { entries = q.entries; levels = q.levels })

abbrev pub symbol_counts : Counts → ℕ → ℕ → ℕ → ℕ → Counts
symbol_counts n conditions names top end =
    record { rules = n.rules; used = n.used; filled = n.filled; entries = n.entries; levels = n.levels; symbols = n.symbols + 1; conditions = conditions; names = names; text = end; atoms = top }

pub record SymbolAdded (text : List ℕ) (conditions : List ℤ) (symbols : List SymbolRow) (conditions' : List ℤ) (symbols' : List SymbolRow) (n : Counts) (end : ℕ) (l : List ℕ) (m : Counts) : Type 0 where
  pub read : Symbol
  pub line : symbol_line l ≡ got read []
  pub grown : symbols_of text conditions' symbols' (n.symbols + 1) ≡ symbols_of text conditions symbols n.symbols ++ (read ∷ [])
  pub sound : SymbolsSound text conditions' symbols' (n.symbols + 1) m.conditions m.names end
  pub top : m.atoms ≡ max n.atoms (highest nat_abs read.condition)
  pub counts : m ≡ symbol_counts n m.conditions m.names m.atoms end
  pub long_conditions : length conditions' ≡ length conditions
  pub long_symbols : length symbols' ≡ length symbols

abbrev pub AddedSymbol : Stored → Stored → ℕ → List ℕ → Result (Unit {0}) Refusal → Type 0
AddedSymbol p q end l (Ok u) =
    SymbolAdded p.text p.conditions p.symbols q.conditions q.symbols p.counts end l q.counts
    × (q ≡ record p { conditions = q.conditions; symbols = q.symbols; counts = q.counts })
AddedSymbol p q end l (Err e) = (symbol_line l ≡ bad (refusal_number e)) × (q ≡ record p { conditions = q.conditions; symbols = q.symbols })

abbrev pub final_counts : Counts → ℕ → Counts
final_counts n end =
    record { rules = n.rules; used = n.used; filled = n.filled; entries = n.entries; levels = n.levels; symbols = n.symbols; conditions = n.conditions; names = n.names; text = end; atoms = n.atoms }

-- ---- all tables

pub record Lists : Type 0 where
  pub text : List ℕ
  pub pool : List ℤ
  pub rules : List Row
  pub entries : List Entry
  pub levels : List ℤ
  pub conditions : List ℤ
  pub symbols : List SymbolRow

abbrev pub lists : List ℕ → List ℤ → List Row → List Entry → List ℤ → List ℤ → List SymbolRow → Lists
lists text pool rules entries levels conditions symbols =
    record { text = text; pool = pool; rules = rules; entries = entries; levels = levels; conditions = conditions; symbols = symbols }

-- The pools have room for one line beyond the limits, which are judged after the line.
pub record Sized (t : Lists) : Type 0 where
  pub text : length t.text ≡ 65537
  pub pool : length t.pool ≡ 37889
  pub rules : length t.rules ≡ 2049
  pub entries : length t.entries ≡ 1536
  pub levels : length t.levels ≡ 9
  pub conditions : length t.conditions ≡ 3072
  pub symbols : length t.symbols ≡ 513

abbrev pub tables : Lists → Counts → Tables
tables t n =
    record {
      text = t.text;
      pool = t.pool;
      rules = t.rules;
      rulecount = n.rules;
      levels = t.levels;
      levelcount = n.levels;
      entries = t.entries;
      entrycount = n.entries;
      conditions = t.conditions;
      symbols = t.symbols;
      symbolcount = n.symbols;
    }

-- what the tables hold: crate `asp`'s `program_of`, and the text
abbrev pub reading_of : Lists → Counts → Reading
reading_of t n = record { program = program_of (tables t n); text = bytes_at t.text 0 n.text }

pub record SoundLists (t : Lists) (n : Counts) : Type 0 where
  pub sized : Sized t
  pub rules : RulesSound t.pool t.rules n.rules n.used n.filled
  pub symbols : SymbolsSound t.text t.conditions t.symbols n.symbols n.conditions n.names n.text
  pub levels : Descending (literals_at t.levels 0 n.levels)
  pub atoms : n.atoms ≡ atoms (program_of (tables t n))

-- ---- the tables as the code holds them

-- nothing but so many bytes of text
abbrev pub no_counts : ℕ → Counts
no_counts used = record { rules = 0; used = 0; filled = 0; entries = 0; levels = 0; symbols = 0; conditions = 0; names = 0; text = used; atoms = 0 }

abbrev pub lists_of : Stored → Lists
lists_of p = lists p.text p.pool p.rules p.entries p.levels p.conditions p.symbols

abbrev pub reading_in : Stored → Reading
reading_in p = reading_of (lists_of p) p.counts

abbrev pub Sound : Stored → Type 0
Sound p = SoundLists (lists_of p) p.counts

-- ---- one line

-- the pieces that follow a line
abbrev pub followed : Option (Bor (List ℕ)) → List (List ℕ)
followed (Some s) = pieces s.now
followed None = []

-- a text whose first `used` bytes are followed by the line s and its byte 10, up to `end`
pub record Appended (text text' : List ℕ) (used : ℕ) (s : List ℕ) (end : ℕ) : Type 0 where
  pub ends : end ≡ used + length s + 1
  pub whole : bytes_at text' 0 end ≡ bytes_at text 0 used ++ line s
  pub kept : Kept 0 used text text'
  pub part : (a m : ℕ) → a + m ≤ length s → bytes_at text' (used + a) m ≡ bytes_at s a m

-- the lengths of a text, of its first line, and of what follows its byte 10
abbrev pub SplitLong : ℕ → ℕ → Option (Bor (List ℕ)) → Type 0
SplitLong n l (Some s) = l + 1 + length s.now ≡ n
SplitLong n l None = l ≡ n

-- what a line leads to, of the tables t
abbrev pub turn_of : Lists → Counts → Result LineTurn Refusal → Step
turn_of t n (Ok Last) = last (reading_of t n)
turn_of t n (Ok Goes) = goes (reading_of t n)
turn_of t n (Err e) = stop (refusal_number e)

abbrev pub seen_turn : Stored → Result LineTurn Refusal → Step
seen_turn p r = turn_of (lists_of p) p.counts r

abbrev pub TurnAfter : Stored → ℕ → Result LineTurn Refusal → Type 0
TurnAfter p end r = IfOk r (λ t. Sound p × (p.counts.text ≤ end))
