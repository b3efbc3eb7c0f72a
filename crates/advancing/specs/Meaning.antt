-- What a state on tables means: a state of the machine of `optimum`, over sets and lists; and the tests of a trail that the tables come to, as that machine's tests.
-- Assumes nothing: these are definitions.
use Rattle.std.specs.Prelude.{Option, Some, None, Bool, true, false, ◌&&◌, List, [], ◌∷◌, ◌++◌, map, ℕ, zero, suc, ◌+◌, ◌-◌, eqb, ℤ, pos, neg_ℤ, length, get_or}
use Rattle.std.proofs.Math.Option.{none, some}
use Rattle.asp.specs.Sets.{Set, set_of, pick}
use Rattle.asp.specs.Stable.{is_stable, member, keep}
use Rattle.asp.specs.Penalty.{Penalty, charge, rise}
use Rattle.asp.specs.Tables.{span}
use Rattle.search.specs.Trail.{Trail, trail_set}
use Rattle.search.specs.Machine.{Verdict, conflict, wanted}
use Rattle.search.specs.Places.{trail_of, value_on}
use Rattle.search.specs.Soft.{assumed_entries}
use Rattle.search.specs.Step.{test_of}
use Rattle.search.specs.Link.{verdict_of}
use Rattle.cores.specs.Soft.{Kind, entry, derived, core_number, kind_at, violated}
use Rattle.cores.specs.Level as lev
use Rattle.cores.specs.Judging.{first_violated}
use Rattle.cores.specs.Tables.{level_of}
use Rattle.optimum.specs.Optimize.{State, first, working, optimum, incoherent, full, Tests}
use Rattle.optimum.specs.Optimize as abstract
use Rattle.advancing.specs.declared.state.Phase.{Phase}
use Rattle.advancing.specs.declared.state.Phase.TheVariants.{First, Level, Optimum, Incoherent, Full}
use Rattle.advancing.specs.declared.state.Work.{Work}
use Rattle.advancing.specs.declared.state.Search.{Search}
use Rattle.advancing.specs.Source.{Levels, Source, many, start_at, penalties_at, rules_in, rule_tables, first_in}
use Rattle.advancing.specs.Turn.{blamed_of}

-- ---- the levels before place j and their settled costs, newest first: penalties, and how far the costs lie above where the levels start

abbrev pub past_at : Levels → ℕ → List (List Penalty)
past_at L zero = []
past_at L (suc j) = penalties_at L j ∷ past_at L j

abbrev pub settled_at : Levels → List ℤ → ℕ → List ℕ
settled_at L lowers zero = []
settled_at L lowers (suc j) = rise (start_at L j) (get_or lowers j (pos 0)) ∷ settled_at L lowers j

-- the levels from place j on
abbrev pub later_at : Levels → ℕ → List (List Penalty)
later_at L j = span (penalties_at L) j (many L - j)

-- what the work means
abbrev pub work_of : Levels → Work → abstract.Work
work_of L w = record {
  past = past_at L w.level;
  settled = settled_at L w.lowers w.level;
  level = penalties_at L w.level;
  later = later_at L (w.level + 1);
  tables = level_of w.tables;
  stratum = w.stratum;
  best = λ a. eqb (get_or w.best a 0) 1;
}

-- ---- what a state means

abbrev pub meant_by : Levels → ℕ → Phase → Trail → List ℕ → Work → State
meant_by L c First t ms w = first c t
meant_by L c Level t ms w = working c (work_of L w) t ms
meant_by L c Optimum t ms w = optimum c (past_at L w.level) (settled_at L w.lowers w.level) (set_of w.best)
meant_by L c Incoherent t ms w = incoherent c
meant_by L c Full t ms w = full c (work_of L w)

-- the path that the tables hold
abbrev pub path_of : Search → Trail
path_of s = trail_of s.trail

-- where c advances were made: the figure of the state stays at 2^64 - 1, and the machine of `optimum` counts on
abbrev pub meant : Levels → ℕ → Search → State
meant L c s = meant_by L c s.phase (path_of s) (blamed_of s.blame) s.work

-- ---- the tests

-- the value of each atom: 0 undecided, 1 in, 2 out
abbrev pub values_of : Trail → List ℕ
values_of t = span (value_on t) 0 1025

-- the places of the assumed soft literals that are an entry's
abbrev pub entries_by : lev.Level → ℕ → List ℕ
entries_by l s = keep (λ p. eqb (core_number (kind_at l.kinds p)) 0) (lev.assumed s l)

-- "a wish for its literal's complement"
abbrev pub wish_by : Kind → ℤ
wish_by (entry l) = neg_ℤ l
wish_by (derived j i) = pos 0

abbrev pub wishes_by : lev.Level → ℕ → List ℤ
wishes_by l s = map (λ (p : ℕ). wish_by (kind_at l.kinds p)) (entries_by l s)

-- 1 for those of the places that are blamed
abbrev pub flags_by : List ℕ → List ℕ → List ℕ
flags_by ms ps = map (λ (p : ℕ). pick (member p ms) 1 0) ps

-- "has the settled cost on every settled level"
abbrev pub costs_by : Set → List (List Penalty) → List ℕ → Bool
costs_by M [] [] = true
costs_by M [] (b ∷ bs) = false
costs_by M (l ∷ ls) [] = false
costs_by M (l ∷ ls) (b ∷ bs) = eqb (charge M l) b && costs_by M ls bs

-- all that are assumed are met, or the one to blame
abbrev pub met_or : Option ℕ → Verdict
met_or None = wanted
met_or (Some p) = conflict (some p)

-- the verdict on the set of a trail that holds all atoms
abbrev pub set_verdict : Source → abstract.Work → List ℕ → Set → Verdict
set_verdict S w ms M =
    pick (is_stable S.n (rules_in S) M && costs_by M w.past w.settled)
    (met_or (first_violated (violated M w.tables.kinds w.tables.cores) (ms ++ lev.assumed w.stratum w.tables))) (conflict none)

abbrev pub test_work : Source → abstract.Work → List ℕ → Trail → Verdict
test_work S w ms t =
    verdict_of (λ i. get_or (entries_by w.tables w.stratum) i 0) (set_verdict S w ms (trail_set t))
    (test_of (rule_tables S) S.n
    (assumed_entries (wishes_by w.tables w.stratum) (flags_by ms (entries_by w.tables w.stratum)) (length (wishes_by w.tables w.stratum)) (first_in S)) (values_of t) (length t))

-- the first query: no settled level, and nothing is assumed
abbrev pub test_start : Source → Trail → Verdict
test_start S t =
    verdict_of (λ i. 0) (pick (is_stable S.n (rules_in S) (trail_set t)) wanted (conflict none)) (test_of (rule_tables S) S.n (assumed_entries [] [] 0 (first_in S)) (values_of t) (length t))

abbrev pub tests_of : Source → Tests
tests_of S = record { test_first = test_start S; test = test_work S }
