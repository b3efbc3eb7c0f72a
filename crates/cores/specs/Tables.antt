-- The code's tables of the level in work, and what they mean. Assumes nothing: these are definitions.
use Rattle.std.specs.Prelude.{◌≡◌, Bool, ◌&&◌, Result, Ok, Err, ltb, List, [], ◌∷◌, map, ℕ, zero, suc, ◌+◌, ◌-◌, ◌≤◌, ◌<◌, ℤ, pos, nat_abs, length, get_or, set, take, replicate}
use Rattle.asp.specs.Sets.{pick}
use Rattle.asp.specs.Literal.{same_ℤ}
use Rattle.std.proofs.lemmas.List.Edits.{sets}
use Rattle.asp.specs.Program.{Literal, All}
use Rattle.asp.specs.Penalty.{Penalty, paid_literal}
use Rattle.asp.specs.declared.entries.Entry.{Entry}
use Rattle.asp.specs.Tables.{span}
use Rattle.cores.specs.declared.soft.Soft.{Soft}
use Rattle.cores.specs.declared.level.LevelTables.{LevelTables}
use Rattle.cores.specs.declared.recording.Full.{Full}
use Rattle.cores.specs.Soft.{Kind, InOrder}
use Rattle.cores.specs.Level.{Level, weighty, core_fits}
use Rattle.cores.specs.Judging.{Judging, judging, kind_from, members_in}
use Rattle.cores.specs.Columns.{literals_of, cores_of, indices_of, rests_of}

abbrev pub no_soft : Soft
no_soft = record { literal = pos 0; core = 0; index = 0; weight = 0 }

abbrev pub entry_soft : Literal → ℕ → Soft
entry_soft l w = record { literal = l; core = 0; index = 0; weight = w }

abbrev pub core_soft : ℕ → ℕ → ℕ → Soft
core_soft j i w = record { literal = pos 0; core = j; index = i; weight = w }

abbrev pub lighter_by : ℕ → Soft → Soft
lighter_by s r = record { literal = r.literal; core = r.core; index = r.index; weight = r.weight - s }

abbrev pub empty_tables : LevelTables
empty_tables = record { softs = replicate 4096 no_soft; members = replicate 4096 0; ends = replicate 4097 0; count = 0; cores = 0; lower = 0 }

-- a level is opened: its soft literals at the front of the emptied table
abbrev pub softs_of : List Penalty → List Soft
softs_of es = map (λ (e : Penalty). entry_soft e.literal e.weight) (weighty es)

abbrev pub opened_tables : List Penalty → LevelTables
opened_tables es = record {
  softs = sets (replicate 4096 no_soft) 0 (softs_of es);
  members = replicate 4096 0;
  ends = replicate 4097 0;
  count = length (softs_of es);
  cores = 0;
  lower = 0;
}

-- an entry is of the level of a priority, with a weight that is not 0
abbrev pub weighs_on : ℤ → Entry → Bool
weighs_on q e = same_ℤ q e.priority && ltb 0 (nat_abs e.weight)

-- the soft literal of an entry, which its penalty's literal violates
abbrev pub soft_of : Entry → Soft
soft_of e = entry_soft (paid_literal e.literal e.weight) (nat_abs e.weight)

-- each member loses s
unfoldable pub lighten : ℕ → List ℕ → List Soft → List Soft
lighten s [] t = t
lighten s (m ∷ ms) t = lighten s ms (set t m (lighter_by s (get_or t m no_soft)))

-- n soft literals of core j, from the i-th on
unfoldable pub new_softs : ℕ → ℕ → ℕ → ℕ → List Soft
new_softs j i zero s = []
new_softs j i (suc n) s = core_soft j i s ∷ new_softs j (i + 1) n s

-- how many members the cores have
abbrev pub held_in : LevelTables → ℕ
held_in t = get_or t.ends t.cores 0

-- a core is recorded
abbrev pub recorded_tables : LevelTables → ℕ → List ℕ → LevelTables
recorded_tables t s ms = record {
  softs = sets (lighten s ms t.softs) t.count (new_softs (t.cores + 1) 1 (length ms - 1) s);
  members = sets t.members (held_in t) ms;
  ends = set t.ends (t.cores + 1) (held_in t + length ms);
  count = t.count + (length ms - 1);
  cores = t.cores + 1;
  lower = t.lower + s;
}

-- the counts are within the tables, and a core of n members is to be recorded: each core has a member, so there are no more cores than members
pub record Counted (t : LevelTables) (n : ℕ) : Type 0 where
  pub softs : t.count ≤ 4096
  pub members : held_in t ≤ 4096
  pub cores : t.cores ≤ held_in t
  pub some : 1 ≤ n
  pub few : n ≤ 4096

-- the same, and there is room for the core
pub record Room (t : LevelTables) (n : ℕ) : Type 0 where
  pub counted : Counted t n
  pub softs : t.count + (n - 1) ≤ 4096
  pub members : held_in t + n ≤ 4096

-- what recording a core answers, and the tables then
pub record Tried : Type 0 where
  pub answer : Result (Unit {0}) Full
  pub tables : LevelTables

abbrev pub tried : Result (Unit {0}) Full → LevelTables → Tried
tried r t = record { answer = r; tables = t }

abbrev pub full_tables : Full
full_tables = record {}

-- "If a core would pass either, it isn't recorded and the status is full."
abbrev pub tried_tables : LevelTables → ℕ → List ℕ → Tried
tried_tables t s ms = pick (core_fits t.count (held_in t) (length ms)) (tried (Ok tt) (recorded_tables t s ms)) (tried (Err full_tables) t)

-- ---- what the tables mean

abbrev pub kind_of : Soft → Kind
kind_of r = kind_from r.literal r.core r.index

abbrev pub level_of : LevelTables → Level
level_of t = record {
  kinds = map kind_of (take t.count t.softs);
  rests = rests_of (take t.count t.softs);
  cores = span (members_in t.ends t.members) 0 t.cores;
  lower = t.lower;
}

-- the tables are in shape
pub record FormedTables (t : LevelTables) : Type 0 where
  pub softs_len : length t.softs ≡ 4096
  pub members_len : length t.members ≡ 4096
  pub ends_len : length t.ends ≡ 4097
  pub softs_few : t.count ≤ 4096
  pub held_few : held_in t ≤ 4096
  pub cores_few : t.cores ≤ held_in t
  pub first : get_or t.ends 0 0 ≡ 0
  pub rising : (j : ℕ) → j < t.cores → get_or t.ends j 0 ≤ get_or t.ends (j + 1) 0
  pub within : (j : ℕ) → j ≤ t.cores → get_or t.ends j 0 ≤ held_in t
  pub inside : (k : ℕ) → k < held_in t → get_or t.members k 0 < t.count
  pub small : All (λ (r : Soft). nat_abs r.literal ≤ 1024) (take t.count t.softs)

-- the tables are in shape, and the core number falls
pub record SoundTables (t : LevelTables) : Type 0 where
  pub formed : FormedTables t
  pub ordered : InOrder (level_of t).kinds (level_of t).cores

-- ---- the tables, lent to a query

-- what records, ends and members that are lent are judged by
abbrev pub judging_of : List Soft → List ℕ → List ℕ → Judging
judging_of ss es ms = judging (literals_of ss) (cores_of ss) (indices_of ss) es ms

abbrev pub level_judging : LevelTables → Judging
level_judging t = judging_of (take t.count t.softs) (take (t.cores + 1) t.ends) (take (held_in t) t.members)
