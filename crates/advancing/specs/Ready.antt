-- What the tables of a query, its trail, its blame and the state are, for the code to read them. Assumes nothing: these are definitions.
use Rattle.std.specs.Prelude.{◌≡◌, List, ℕ, ◌+◌, ◌≤◌, ◌<◌, eqb, pos, nat_abs, length, get_or}
use Rattle.asp.specs.Sets.{In}
use Rattle.asp.specs.Program.{All, Distinct}
use Rattle.asp.specs.Stable.{member}
use Rattle.cores.specs.Judging.{FormedJudging}
use Rattle.cores.specs.Tables.{Counted}
use Rattle.advancing.specs.declared.state.Blame.{Blame}
use Rattle.advancing.specs.declared.state.Work.{Work}
use Rattle.advancing.specs.Source.{many, Source, FormedSource}
use Rattle.advancing.specs.Turn.{QueryTables, blamed_of}

-- how many soft literals the level has
abbrev pub softs : QueryTables → ℕ
softs q = length q.judging.literals

pub record ReadyQuery (S : Source) (q : QueryTables) : Type 0 where
  pub source : FormedSource S
  pub level : q.level ≤ many S.levels
  pub lowers_len : length q.lowers ≡ 8
  pub wished_in_lem : (i : ℕ) → i < length q.wished → In S.n (nat_abs (get_or q.wished i (pos 0)))
  pub wished_few : length q.wished ≤ 4096
  pub places_long : length q.places ≡ length q.wished
  pub places_apart : (i j : ℕ) → i < length q.places → j < length q.places → get_or q.places i 0 ≡ get_or q.places j 0 → i ≡ j
  pub places_in : All (λ m. m < softs q) q.places
  pub assumed_in_lem : All (λ m. m < softs q) q.assumed
  pub judging : FormedJudging q.judging
  pub few : softs q ≤ 4096

-- what is blamed: places of soft literals, none twice; and the flags say which of the entries' are
pub record GoodBlame (q : QueryTables) (b : Blame) : Type 0 where
  pub flags_len : length b.flags ≡ 4096
  pub core_len : length b.core ≡ 4096
  pub from_in : b.from ≤ 4096
  pub inside : All (λ m. m < softs q) (blamed_of b)
  pub distinct : Distinct (blamed_of b)
  pub flags : (i : ℕ) → i < length q.places → eqb (get_or b.flags i 0) 1 ≡ member (get_or q.places i 0) (blamed_of b)

-- a core can be recorded: its places are in the table, none of it is lighter than the stratum, and the bounds stay in range
pub record ReadyCore (w : Work) (ms : List ℕ) : Type 0 where
  pub counted : Counted w.tables (length ms)
  pub inside : All (λ m. m < 4096) ms
  pub bound : w.tables.lower + w.stratum ≤ 1000000000
  pub figure : nat_abs (get_or w.lowers w.level (pos 0)) ≤ 2000000000
