-- What the statements of a script make and print. Assumes nothing: these are definitions.
use Rattle.std.specs.Prelude.{List, ℕ, ltb, pos, length, codes, ◌++◌, decimal}
use Rattle.asp.specs.declared.entries.Entry.{Entry}
use Rattle.asp.specs.Sets.{pick}
use Rattle.asp.specs.Cost.{level}
use Rattle.asp.specs.Penalty.{penalties}
use Rattle.cores.specs.declared.soft.Soft.{Soft}
use Rattle.cores.specs.declared.level.LevelTables.{LevelTables}
use Rattle.cores.specs.Level.{under, assumed_from}
use Rattle.cores.specs.Columns.{cores_of, rests_of, entries_among}
use Rattle.cores.specs.Tables.{opened_tables}
use Rattle.cores_script.specs.declared.strata.Strata.{Strata}

-- the tables after a level of priority p is opened from the entries; a priority above 1,000 leaves them
abbrev pub after_opening : LevelTables → List Entry → ℕ → LevelTables
after_opening t es p = pick (ltb 1000 p) t (opened_tables (penalties (level (pos p) es)))

-- the stratum below s, how many soft literals are assumed at s, and how many of them are an entry's
abbrev pub strata_at : ℕ → List Soft → Strata
strata_at s ss = record {
  next = under s (rests_of ss);
  assumed = length (assumed_from s 0 (rests_of ss));
  entries = length (entries_among (cores_of ss) (assumed_from s 0 (rests_of ss)));
}

abbrev pub strata_text : Strata → List ℕ
strata_text t = decimal t.next ++ codes " " ++ decimal t.assumed ++ codes " " ++ decimal t.entries
