-- What the machine asks of a stored program. Assumes nothing.
use Rattle.std.proofs.Common.{◌≡◌, ℕ, false, List, length, ℤ, arith}
use Rattle.asp.specs.declared.rules.Row.{Row}
use Rattle.asp.specs.Sets.{Set}
use Rattle.asp.specs.Tables.{Formed}
use Rattle.search.specs.Scan.{rules}
use Rattle.search.specs.Soft.{assumed_entries, FormedSoft}
use Rattle.counting.specs.declared.index.Index.{Index}
use Rattle.counting.specs.Counts.{Indexed}
use Rattle.indexing.specs.Sorting.{Readied, Sorted}
use Rattle.indexing.proofs.Indexing.{ready, indexed}
use Rattle.search_traces.specs.Stored.{Roomy, Wished}

-- ---- the wishes, with any table of eight places for what is blamed

pub soft_formed : {n : ℕ} {w : List ℤ} → Wished n w → {b : List ℕ} → length b ≡ 8 → {f : Set} → FormedSoft n (assumed_entries w b (length w) f)
soft_formed f e = record { wished_long = omega arith; blamed_long = omega (arith, f.few); atoms = f.atoms }

-- ---- the lists of a stored program's rules can be made, and are its index

module _ {n : ℕ} {pool : List ℤ} {rows : List Row} (f : Formed n pool rows (length rows)) (r : Roomy rows) where
  pub program_readied : Readied (rules pool rows (length rows))
  program_readied = ready f r.few r.places

  pub program_indexed : {o : Index} → Sorted false (rules pool rows (length rows)) o → Indexed (rules pool rows (length rows)) o
  program_indexed {o} a = indexed (rules pool rows (length rows)) o program_readied a
