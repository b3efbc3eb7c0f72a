-- One step of a query, on the tables: the test, the judgement of a full trail, the move, the blame. Document 01, "Question and path"; what it leaves free is as docs/DECISIONS.md says.
-- Assumes nothing: these are definitions.
use Rattle.std.specs.Prelude.{Option, Some, None, Bool, true, false, ◌&&◌, List, [], ◌∷◌, ◌++◌, map, ℕ, zero, suc, ◌+◌, ◌-◌, eqb, ℤ, pos, neg_ℤ, length, get_or, set, drop}
use Rattle.asp.specs.Sets.{Set, set_of, pick}
use Rattle.asp.specs.Stable.{is_stable, member}
use Rattle.asp.specs.Literal.{same_ℤ}
use Rattle.asp.specs.Cost.{cost}
use Rattle.search.specs.declared.trail.Places.{Places}
use Rattle.search.specs.Places.{push_of, back_of}
use Rattle.search.specs.Soft.{AssumedEntries, assumed_entries}
use Rattle.search.specs.Step.{test_of}
use Rattle.search.specs.declared.step.Tested.{Tested}
use Rattle.search.specs.declared.step.Tested.TheVariants.{RuleBroken, Full, SoftViolated, Open}
use Rattle.cores.specs.Level.{assumed_from}
use Rattle.cores.specs.Judging.{Judging, violated_at, first_violated}
use Rattle.cores.specs.Columns.{entries_among}
use Rattle.cores.specs.declared.level.LevelTables.{LevelTables}
use Rattle.cores.specs.Tables.{level_of, level_judging}
use Rattle.advancing.specs.declared.state.Blame.{Blame}
use Rattle.advancing.specs.declared.state.Turn.{Turn}
use Rattle.advancing.specs.declared.state.Turn.TheVariants.{Going, Without, Model}
use Rattle.advancing.specs.declared.state.Judgement.{Judgement}
use Rattle.advancing.specs.declared.state.Judgement.TheVariants.{Wanted, Dead, Violated}
use Rattle.advancing.specs.Source.{Source, rules_in, rule_tables, level_at, first_in}

-- ---- what a query reads

-- the settled levels and their costs; the literals that the assumed soft literals of entries wish for, and their places; the places of all that are assumed; and the
-- tables by which they are judged
pub record QueryTables : Type 0 where
  pub level : ℕ
  pub lowers : List ℤ
  pub wished : List ℤ
  pub places : List ℕ
  pub assumed : List ℕ
  pub judging : Judging

abbrev pub query_tables : ℕ → List ℤ → List ℤ → List ℕ → List ℕ → Judging → QueryTables
query_tables level lowers wished ps as' j = record { level = level; lowers = lowers; wished = wished; places = ps; assumed = as'; judging = j }

-- "A question assumes the wishes with remaining weight at least the stratum": their places
abbrev pub assumed_in : LevelTables → ℕ → List ℕ
assumed_in t s = assumed_from s 0 (level_of t).rests

-- those of them that are an entry's
abbrev pub entry_places : LevelTables → ℕ → List ℕ
entry_places t s = entries_among (level_judging t).cores (assumed_in t s)

-- and the literals that these wish for: the complements of the entries' literals
abbrev pub wished_in : LevelTables → ℕ → List ℤ
wished_in t s = map (λ (p : ℕ). neg_ℤ (get_or (level_judging t).literals p (pos 0))) (entry_places t s)

unfoldable pub query_of : ℕ → List ℤ → LevelTables → ℕ → QueryTables
query_of level lowers t s = query_tables level lowers (wished_in t s) (entry_places t s) (assumed_in t s) (level_judging t)

-- the same from the columns of the tables: j, and the remaining weights
abbrev pub query_by : ℕ → List ℤ → Judging → List ℕ → ℕ → QueryTables
query_by level lowers j rests s =
    query_tables level lowers (map (λ (p : ℕ). neg_ℤ (get_or j.literals p (pos 0))) (entries_among j.cores (assumed_from s 0 rests)))
    (entries_among j.cores (assumed_from s 0 rests)) (assumed_from s 0 rests) j

-- ---- what is blamed

abbrev pub blamed_of : Blame → List ℕ
blamed_of b = drop b.from b.core

abbrev pub blame_tables : List ℕ → List ℕ → ℕ → Blame
blame_tables fs core from = record { flags = fs; core = core; from = from }

-- the soft literal of an entry, by its place i among those that the query assumes
abbrev pub blame_entry : List ℕ → ℕ → Blame → Blame
blame_entry ps i b = pick (eqb (get_or b.flags i 0) 1) b (blame_tables (set b.flags i 1) (set b.core (b.from - 1) (get_or ps i 0)) (b.from - 1))

-- the flag of each of the places that is p, from place i on
unfoldable pub flagged : ℕ → ℕ → List ℕ → List ℕ → List ℕ
flagged p i [] fs = fs
flagged p i (q ∷ ps) fs = flagged p (i + 1) ps (pick (eqb q p) (set fs i 1) fs)

-- any soft literal, by its place p
abbrev pub blame_place : List ℕ → ℕ → Blame → Blame
blame_place ps p b = pick (member p (blamed_of b)) b (blame_tables (flagged p 0 ps b.flags) (set b.core (b.from - 1) p) (b.from - 1))

-- ---- a full trail

-- the settled levels cost what they are settled at: j of them from place i on; `f` is what the set costs on each
unfoldable pub settled_from : (ℕ → ℤ) → List ℤ → ℕ → ℕ → Bool
settled_from f lowers i zero = true
settled_from f lowers i (suc j) = same_ℤ (f i) (get_or lowers i (pos 0)) && settled_from f lowers (i + 1) j

-- "a stable model that has the settled cost on every settled level"
abbrev pub in_class : Source → ℕ → List ℤ → Set → Bool
in_class S level lowers M = is_stable S.n (rules_in S) M && settled_from (λ j. cost M (level_at S.levels j)) lowers 0 level

abbrev pub soft_or_wanted : Option ℕ → Judgement
soft_or_wanted None = Wanted
soft_or_wanted (Some p) = Violated p

-- ".. and meets certain wishes": one that is blamed already comes first
abbrev pub judge_full : Source → QueryTables → List ℕ → List ℕ → Judgement
judge_full S q ms v = pick (in_class S q.level q.lowers (set_of v)) (soft_or_wanted (first_violated (violated_at q.judging (set_of v)) (ms ++ q.assumed))) Dead

-- ---- the step

pub record Turned : Type 0 where
  pub turn : Turn
  pub trail : Places
  pub blame : Blame

abbrev pub turned : Turn → Places → Blame → Turned
turned x t b = record { turn = x; trail = t; blame = b }

-- after a conflict: without a decision the query has ended
abbrev pub backed : Places → Blame → Turned
backed t b = pick (eqb t.len 0) (turned Without t b) (turned Going t b)

abbrev pub judged_turn : QueryTables → Places → Blame → Judgement → Turned
judged_turn q t b Wanted = turned Model t b
judged_turn q t b Dead = backed (back_of t) b
judged_turn q t b (Violated p) = backed (back_of t) (blame_place q.places p b)

abbrev pub turn_by : Source → QueryTables → Places → Blame → Tested → Turned
turn_by S q t b (RuleBroken r) = backed (back_of t) b
turn_by S q t b (SoftViolated i) = backed (back_of t) (blame_entry q.places i b)
turn_by S q t b (Open l) = turned Going (push_of l t) b
turn_by S q t b Full = judged_turn q t b (judge_full S q (blamed_of b) t.value)

abbrev pub assumed_by : Source → QueryTables → Blame → AssumedEntries
assumed_by S q b = assumed_entries q.wished b.flags (length q.wished) (first_in S)

unfoldable pub turn_of : Source → QueryTables → Places → Blame → Turned
turn_of S q t b = turn_by S q t b (test_of (rule_tables S) S.n (assumed_by S q b) t.value t.len)

-- ---- steps until the query ends or k are made

abbrev pub is_going : Turn → Bool
is_going Going = true
is_going Without = false
is_going Model = false

pub record Turns : Type 0 where
  pub turned : Turned
  pub made : ℕ

abbrev pub turns : Turned → ℕ → Turns
turns x m = record { turned = x; made = m }

abbrev pub one_more : Turns → Turns
one_more r = turns r.turned (suc r.made)

-- what is left to do after a step, with the steps that follow it in r
abbrev pub go_on : Turned → Turns → Turns
go_on x r = pick (is_going x.turn) r (turns x 0)

unfoldable pub turns_of : Source → QueryTables → ℕ → Places → Blame → Turns
turns_of S q zero t b = turns (turned Going t b) 0
turns_of S q (suc k) t b = one_more (go_on (turn_of S q t b) (turns_of S q k (turn_of S q t b).trail (turn_of S q t b).blame))
