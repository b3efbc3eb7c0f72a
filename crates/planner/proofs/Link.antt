-- The tables that an optimization reads hold the program of the stored text: they are well formed, and rules, levels and costs are the program's. Assumes nothing.
use mathlib.Core.Path.{◌≡◌, refl, sym, ap, ◌∙◌, subst}
use mathlib.Core.List.{List, [], ◌∷◌, map}
use Prim.Native.Nat.{ℕ, zero, suc, ◌+◌, ◌≤◌, ◌<◌}
use native.Mathlib.Omega.{arith}
use native.Mathlib.Nat.{zero-add}
use native.Mathlib.Numerals.{add-one}
use lib.IntN.{ℤ, pos}
use lib.ListN.{length, get_or, take, drop}
use lib.Seq.{drop-cons, get_or-take, length-take-le}
use Rattle.asp.specs.declared.entries.Entry.{Entry}
use Rattle.asp.specs.declared.rules.Row.{Row}
use Rattle.asp.specs.declared.rules.RuleTable.{RuleTable}
use Rattle.asp.specs.declared.cost.Objective.{Objective}
use Rattle.asp.specs.Sets.{Set}
use Rattle.asp.specs.Program.{Symbol, Rule, All, LiteralIn, atoms}
use Rattle.asp.specs.Stable.{Stable}
use Rattle.asp.specs.Cost.{level, levels, weight, total, W, cost, costs, start, starts}
use Rattle.asp.specs.Tables.{span, no_entry, no_row, row_at, rule_at, rules_of, Formed, symbol_row, symbol_at, condition_at}
use Rattle.asp.specs.Paying.{SymbolFormed}
use Rattle.asp.proofs.Spans.{map_span, all_map, all_at, span_at}
use Rattle.cores.proofs.Spans.{get_d_span, span_ext}
use Rattle.aspif.specs.Store.{stored_program, WellFormed}
use Rattle.aspif_tables.specs.declared.table.Stored.{Stored}
use Rattle.aspif_lines.proofs.Spans.{span_same}
use Rattle.advancing.specs.Source.{many, entries_in, level_at, start_at, levels_in, rules_in, rule_tables, levels_lent, FormedLevels, FormedSource}
use Rattle.optimizer.specs.Tables.{source_by}
use Rattle.advancing.specs.Facts.{Model, costs_in, weight_in}
use Rattle.aspif_lines.specs.Text.{sum, rule_size}
use Rattle.indexing.specs.Sorting.{Readied}
use Rattle.indexing.proofs.Indexing.{ready}
use Rattle.planner.specs.Held.{source_of}
use Rattle.planner.proofs.Sizes.{sizes}

-- places of a list from i on
span_drop : {A : Type 0} (d : A) (xs : List A) (i k : ℕ) → i + k ≤ length xs → span (λ (j : ℕ). get_or xs j d) i k ≡ take k (drop i xs)
unfolding span
span_drop d xs i zero h = refl
span_drop d xs i (suc k) h =
    rw (drop-cons xs i d (omega arith), ← add-one i) (ap (λ (l : List _). get_or xs i d ∷ l) (span_drop d xs (i + 1) k (omega arith)))

pub span_take : {A : Type 0} (d : A) (xs : List A) (k : ℕ) → k ≤ length xs → span (λ (j : ℕ). get_or xs j d) 0 k ≡ take k xs
span_take d xs k h = span_drop d xs 0 k (omega arith)

map_twice : {A B C : Type 0} (g : B → C) (f : A → B) (xs : List A) → map g (map f xs) ≡ map (λ (x : A). g (f x)) xs
map_twice g f [] = refl
map_twice g f (x ∷ xs) = ap (λ (l : List _). g (f x) ∷ l) (map_twice g f xs)

-- ---- the rows as far as the table is filled

module _ (n : ℕ) (pool : List ℤ) (rows : List Row) (k : ℕ) (w : Formed n pool rows k) where
  front_rows : (r : ℕ) → r < k → row_at (take k rows) r ≡ row_at rows r
  front_rows r h = get_or-take k rows r no_row h

  pub front_many : length (take k rows) ≡ k
  front_many = length-take-le k rows w.long

  front_rules : rules_of pool (take k rows) (length (take k rows)) ≡ rules_of pool rows k
  front_rules = ap (rules_of pool (take k rows)) front_many ∙ span_ext (λ r. rule_at pool (row_at (take k rows) r)) (λ r. rule_at pool (row_at rows r)) 0 k (λ r a b. ap (rule_at pool) (front_rows r (omega (arith, b))))

  front_formed : Formed n pool (take k rows) (length (take k rows))
  front_formed = record {
    few = w.few;
    long = omega arith;
    row = λ r h. let b : r < k = omega (arith, h, front_many) in rw (front_rows r b) (w.row r b);
    atoms = rw front_rules w.atoms;
  }

module _ (p : Stored) (w : WellFormed p) where
  pub levels_reach : p.counts.levels ≤ length p.levels
  levels_reach = omega (arith, w.sized.levels, w.within.levels)

  pub levels_many : many (source_of p).levels ≡ p.counts.levels
  levels_many = length-take-le p.counts.levels p.levels levels_reach

  entries_reach : p.counts.entries ≤ length p.entries
  entries_reach = omega (arith, w.sized.entries, w.within.entries)

  entries_many : length (take p.counts.entries p.entries) ≡ p.counts.entries
  entries_many = length-take-le p.counts.entries p.entries entries_reach

  pub entries_is : take p.counts.entries p.entries ≡ (stored_program p).entries
  entries_is = sym (span_take no_entry p.entries p.counts.entries entries_reach)

  named_entries : All (λ (e : Entry). LiteralIn p.counts.atoms e.literal) (take p.counts.entries p.entries)
  named_entries = rw entries_is w.named.entries

  pub formed_levels : FormedLevels (source_of p).levels
  formed_levels =
      record {
        entries =
            record {
              few = omega (arith, entries_many, w.within.entries);
              atoms = all_at (λ (e : Entry). LiteralIn 1024 e.literal) no_entry (take p.counts.entries p.entries)
                  (all_map _ _ (λ (e : Entry) h. (h.0, omega (arith, h.1, w.formed.few))) (take p.counts.entries p.entries) named_entries);
            };
        few = omega (arith, entries_many, w.within.entries);
        levels_few = omega (arith, levels_many, w.within.levels);
        light = rw entries_is w.weights;
      }

  abbrev rows : List Row
  rows = take p.counts.rules p.rules

  rows_many : length rows ≡ p.counts.rules
  rows_many = front_many p.counts.atoms p.pool p.rules p.counts.rules w.formed

  pub rules_is : rules_in (source_of p) ≡ (stored_program p).rules
  rules_is = front_rules p.counts.atoms p.pool p.rules p.counts.rules w.formed

  pub formed_rules : Formed p.counts.atoms p.pool rows (length rows)
  formed_rules = front_formed p.counts.atoms p.pool p.rules p.counts.rules w.formed

  pub readied : Readied (rule_tables (source_of p))
  readied =
      ready formed_rules (omega (arith, rows_many, w.within.rules))
      (omega (arith, w.size, ap (sum rule_size) rules_is, sizes p.pool rows (length rows) formed_rules 0 (length rows) (omega arith)))

  -- THE TABLES ARE WELL FORMED
  pub formed_source : FormedSource (source_of p)
  formed_source = record {
    rules = formed_rules;
    levels = formed_levels;
    atoms = named_entries;
    readied = readied;
  }

  -- ---- THEY HOLD THE PROGRAM OF THE TEXT

  pub atoms_is : (source_of p).n ≡ atoms (stored_program p)
  atoms_is = w.atoms

  -- stable models of the one are stable models of the other
  pub model_stable : {M : Set} → Model (source_of p) M → Stable (stored_program p).rules M
  model_stable {M} m = subst (λ (rs : List Rule). Stable rs M) rules_is m

  pub stable_model : {M : Set} → Stable (stored_program p).rules M → Model (source_of p) M
  stable_model {M} m = subst (λ (rs : List Rule). Stable rs M) (sym rules_is) m

  pub priorities_is : take p.counts.levels p.levels ≡ (stored_program p).priorities
  priorities_is = sym (span_take (pos 0) p.levels p.counts.levels levels_reach)

  pub levels_is : levels_in (source_of p).levels ≡ levels (stored_program p)
  levels_is =
      let L = (source_of p).levels in
      let es = entries_in L in
      let k = p.counts.levels in
      ap (span (level_at L) 0) levels_many
      ∙ span_same (level_at L) (λ (j : ℕ). level (get_or p.levels j (pos 0)) es) 0 k (λ j l. ap (λ (q : ℤ). level q es) (get_or-take k p.levels j (pos 0) (omega arith)))
      ∙ sym (map_span (λ (q : ℤ). level q es) (λ (j : ℕ). get_or p.levels j (pos 0)) 0 k)
      ∙ ap (λ (xs : List Entry). map (λ (q : ℤ). level q xs) (stored_program p).priorities) entries_is

  pub weight_is : weight_in (source_of p) ≡ W (stored_program p)
  weight_is = ap (λ (l : List (List Entry)). total (map weight l)) levels_is

  pub costs_is : (M : Set) → costs_in (source_of p) M ≡ costs (stored_program p) M
  costs_is M = ap (map (cost M)) levels_is ∙ map_twice (cost M) (λ (q : ℤ). level q (stored_program p).entries) (stored_program p).priorities

  -- where the bounds start
  pub start_is : (j : ℕ) → j < many (source_of p).levels → start_at (source_of p).levels j ≡ get_or (starts (stored_program p)) j (pos 0)
  start_is j h =
      let L = (source_of p).levels in
      sym (get_d_span (start_at L) 0 (many L) (pos 0) j h ∙ ap (start_at L) (zero-add j))
      ∙ ap (λ (xs : List ℤ). get_or xs j (pos 0))
      (sym (map_span start (level_at L) 0 (many L)) ∙ ap (map start) levels_is ∙ map_twice start (λ (q : ℤ). level q (stored_program p).entries) (stored_program p).priorities)

  -- ---- symbols lie inside their tables

  module _ (i : ℕ) (h : i < p.counts.symbols) where
    pub name_inside : (symbol_row p.symbols i).name + (symbol_row p.symbols i).length ≤ length p.text
    name_inside = omega (arith, (w.symbols i h).0, w.text, w.sized.text)

    pub symbol_formed : SymbolFormed p.conditions (symbol_row p.symbols i)
    symbol_formed =
        record {
          inside = omega (arith, (w.symbols i h).1, w.within.conditions, w.sized.conditions);
          atoms =
              all_map (LiteralIn p.counts.atoms) (LiteralIn 1024) (λ z a. (a.0, omega (arith, a.1, w.formed.few))) (condition_at p.conditions (symbol_row p.symbols i))
              (span_at (λ (j : ℕ). symbol_at p.text p.conditions (symbol_row p.symbols j)) (λ (s : Symbol). All (LiteralIn p.counts.atoms) s.condition) 0 p.counts.symbols
              w.named.symbols i (omega arith) (omega arith));
        }

-- ---- what is lent of the tables is what the optimization reads

pub lent_is : (p : Stored) (r : RuleTable) (o : Objective) → r.atoms ≡ p.counts.atoms → r.pool.now ≡ p.pool → r.rows.now ≡ take p.counts.rules p.rules → levels_lent o ≡ (source_of p).levels → source_by r o ≡ source_of p
lent_is p r o a b c d = rw (a, b, c, d)
