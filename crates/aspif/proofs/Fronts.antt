-- The filled front of a stored program's tables is in shape, and says its program. Assumes nothing.
use mathlib.Core.Path.{◌≡◌, ap}
use mathlib.Core.List.{List}
use Prim.Native.Nat.{ℕ, ◌+◌, ◌<◌}
use native.Mathlib.Omega.{arith}
use lib.IntN.{ℤ, pos}
use lib.ListN.{length, take}
use lib.Seq.{get_or-take, length-take-le}
use Rattle.asp.specs.declared.rules.Row.{Row}
use Rattle.asp.specs.Tables.{no_row, row_at, rule_at, rules_of, no_entry, Formed}
use Rattle.asp.specs.Paying.{EntriesFormed}
use Rattle.asp.proofs.Spans.{span_part}
use Rattle.aspif_lines.proofs.Spans.{span_shift}
use Rattle.aspif.specs.Store.{stored_program, WellFormed}
use Rattle.aspif_tables.specs.declared.table.Stored.{Stored}
use Rattle.aspif.proofs.Uses.{entry_in}

-- the rows of a table's front
front_rules : (pool : List ℤ) (rows : List Row) (n : ℕ) → rules_of pool (take n rows) n ≡ rules_of pool rows n
front_rules pool rows n = span_shift (λ (r : ℕ). rule_at pool (row_at (take n rows) r)) (λ (r : ℕ). rule_at pool (row_at rows r)) 0 0 n (λ j l. let z : 0 + j ≡ j = omega arith in rw z (ap (rule_at pool) (get_or-take n rows j no_row l)))

module _ (p : Stored) (w : WellFormed p) where
  rows_long : length (take p.counts.rules p.rules) ≡ p.counts.rules
  rows_long = length-take-le p.counts.rules p.rules w.formed.long

  pub lent_rules : rules_of p.pool (take p.counts.rules p.rules) (length (take p.counts.rules p.rules)) ≡ (stored_program p).rules
  lent_rules = rw (rows_long, front_rules p.pool p.rules p.counts.rules)

  pub lent_formed : Formed p.counts.atoms p.pool (take p.counts.rules p.rules) (length (take p.counts.rules p.rules))
  lent_formed =
      record {
        few = w.formed.few;
        long = omega arith;
        row = λ r h. let l : r < p.counts.rules = omega (arith, rows_long) in rw (get_or-take p.counts.rules p.rules r no_row l) (w.formed.row r l);
        atoms = rw lent_rules w.formed.atoms;
      }

  pub lent_levels : take p.counts.levels p.levels ≡ (stored_program p).priorities
  lent_levels = span_part p.levels (pos 0) 0 p.counts.levels (omega (arith, w.within.levels, w.sized.levels))

  pub lent_entries : take p.counts.entries p.entries ≡ (stored_program p).entries
  lent_entries = span_part p.entries no_entry 0 p.counts.entries (omega (arith, w.within.entries, w.sized.entries))

  entries_long : length (take p.counts.entries p.entries) ≡ p.counts.entries
  entries_long = length-take-le p.counts.entries p.entries (omega (arith, w.within.entries, w.sized.entries))

  pub lent_objective : EntriesFormed (take p.counts.entries p.entries)
  lent_objective =
      record {
        few = omega (arith, entries_long, w.within.entries);
        atoms = λ i h.
            let l : i < p.counts.entries = omega (arith, entries_long) in
            let e = entry_in p w i l in
            rw (get_or-take p.counts.entries p.entries i no_entry l) (e.0.0, omega (arith, e.0, w.formed.few));
      }
