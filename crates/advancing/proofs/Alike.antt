-- An advance depends on what the tables of a program say, not on how they lie. Assumes nothing.
use mathlib.Core.Path.{◌≡◌, refl, ap, ap₂, ◌∙◌, fun_ext}
use mathlib.Core.Bool.{Bool, ◌&&◌}
use mathlib.Core.List.{List, ◌++◌}
use Prim.Native.Nat.{ℕ, zero, suc, ◌+◌, ◌-◌}
use lib.Dec.{ltb}
use lib.IntN.{ℤ, pos}
use lib.ListN.{length, get_or, take, drop, replicate}
use lib.Signed.{lt_z}
use Rattle.std.specs.Prelude.{is_err}
use Rattle.asp.specs.declared.entries.Entry.{Entry}
use Rattle.asp.specs.Sets.{Set, set_of, pick}
use Rattle.asp.specs.Program.{Rule}
use Rattle.asp.specs.Literal.{same_ℤ}
use Rattle.asp.specs.Penalty.{penalties}
use Rattle.asp.specs.Stable.{is_stable}
use Rattle.asp.specs.Cost.{cost, costs_at, starts_at, cheaper, level}
use Rattle.asp.specs.Tables.{literals_at}
use Rattle.search.specs.declared.trail.Places.{Places}
use Rattle.search.specs.Scan.{scan_of}
use Rattle.search.specs.Soft.{assumed_entries}
use Rattle.choosing.specs.First.{tried_first}
use Rattle.search.specs.Step.{test_by, test_of}
use Rattle.search.specs.declared.scan.Found.{Found}
use Rattle.search.specs.declared.step.Tested.{Tested}
use Rattle.search.specs.declared.step.Tested.TheVariants.{RuleBroken, Full as FullTrail, SoftViolated, Open}
use Rattle.search.proofs.ByRules.{scan_same}
use Rattle.cores.specs.Judging.{violated_at, first_violated}
use Rattle.cores.specs.Level.{greatest}
use Rattle.cores.specs.Tables.{level_of, opened_tables, Tried, tried_tables}
use Rattle.advancing.specs.declared.state.Phase.{Phase}
use Rattle.advancing.specs.declared.state.Phase.TheVariants.{First, Level, Optimum, Incoherent, Full}
use Rattle.advancing.specs.declared.state.Blame.{Blame}
use Rattle.advancing.specs.declared.state.Work.{Work}
use Rattle.advancing.specs.declared.state.Search.{Search}
use Rattle.advancing.specs.declared.state.Turn.{Turn}
use Rattle.advancing.specs.declared.state.Turn.TheVariants.{Going, Without, Model}
use Rattle.advancing.specs.declared.state.Judgement.TheVariants.{Dead}
use Rattle.advancing.specs.Source.{Levels, Source, many, level_at, entries_in, rules_in, rule_tables, FormedSource}
use Rattle.advancing.specs.Turn.{QueryTables, blamed_of, settled_from, in_class, soft_or_wanted, judge_full, Turned, judged_turn, turn_by, assumed_by, turn_of, is_going}
use Rattle.advancing.specs.State.{work, search as searchOf, is_running, fresh_search, fresh_for}
use Rattle.advancing.specs.Finish.{Placed, placed, next_from, begun_at, open_at, open_from, settle_of, costs_of, with_best, better_of, fallen, with_tables, tried_work, finish_first, finish_level, finish_of}
use Rattle.advancing.specs.Advance.{ended_query, finish_turn, work_query, bumped, advance_of, advances_of, made_by}

-- the same atoms, rules, levels and entries
pub record SameSource (S R : Source) : Type 0 where
  pub n : S.n ≡ R.n
  pub rules : rules_in S ≡ rules_in R
  pub levels : S.levels.levels ≡ R.levels.levels
  pub entries : entries_in S.levels ≡ entries_in R.levels

-- ---- the levels

module _ (L K : Levels) (e : L.levels ≡ K.levels) (i : entries_in L ≡ entries_in K) where
  many_same : many L ≡ many K
  many_same = ap length e

  level_same : (j : ℕ) → level_at L j ≡ level_at K j
  level_same j = ap₂ (λ (ls : List ℤ) (es : List Entry). level (get_or ls j (pos 0)) es) e i

  costs_same : (v : List ℕ) → costs_of L v ≡ costs_of K v
  costs_same v = ap₂ (λ (ls : List ℤ) (es : List Entry). costs_at (set_of v) (literals_at ls 0 (length ls)) es ++ drop (length ls) (replicate 8 (pos 0))) e i

  pub fresh_same : fresh_for L ≡ fresh_for K
  fresh_same = ap₂ (λ (ls : List ℤ) (es : List Entry). fresh_search (starts_at (literals_at ls 0 (length ls)) es ++ drop (length ls) (replicate 8 (pos 0)))) e i

  begun_same : (w : Work) (j : ℕ) → begun_at L w j ≡ begun_at K w j
  begun_same w j = ap (λ (es : List Entry). work j (opened_tables (penalties es)) (greatest (level_of (opened_tables (penalties es))).rests) w.lowers w.uppers w.best) (level_same j)

  open_at_same : (w : Work) (j : ℕ) → open_at L w j ≡ open_at K w j
  open_at_same w j =
      ap₂ (λ (m : ℕ) (x : Work). pick (ltb j m) (placed Level x) (placed Optimum (work j w.tables w.stratum w.lowers w.uppers w.best))) many_same (begun_same w j)

  open_same : (w : Work) (j : ℕ) → open_from L w j ≡ open_from K w j
  unfolding open_from
  open_same w j = ap (λ (m : ℕ). open_at L w (next_from w.lowers w.uppers j (m - j))) many_same ∙ open_at_same w (next_from w.lowers w.uppers j (many K - j))

  settle_same : (w : Work) → settle_of L w ≡ settle_of K w
  unfolding settle_of
  settle_same w = ap (λ (x : Placed). pick (same_ℤ (get_or w.uppers w.level (pos 0)) (get_or w.lowers w.level (pos 0))) x (placed Level w)) (open_same w (w.level + 1))

  best_same : (w : Work) (v : List ℕ) → with_best L w v ≡ with_best K w v
  best_same w v = ap (λ (us : List ℤ). work w.level w.tables w.stratum w.lowers us v) (costs_same v)

  better_same : (w : Work) (v : List ℕ) → better_of L w v ≡ better_of K w v
  unfolding better_of
  better_same w v =
      ap₂ (λ (m : ℕ) (us : List ℤ). pick (cheaper lt_z (take m us) (take m w.uppers)) (work w.level w.tables w.stratum w.lowers us v) w) many_same (costs_same v)

  tried_same : (w : Work) (x : Tried) → tried_work L w x ≡ tried_work K w x
  tried_same w x = ap (pick (is_err x.answer) (placed Full w)) (settle_same (with_tables w x.tables))

  first_same : (w : Work) (v : List ℕ) (y : Turn) → finish_first L w v y ≡ finish_first K w v y
  first_same w v Going = refl
  first_same w v Without = refl
  first_same w v Model = ap (λ (x : Work). open_from L x 0) (best_same w v) ∙ open_same (with_best K w v) 0

  work_same : (w : Work) (v ms : List ℕ) (y : Turn) → finish_level L w v ms y ≡ finish_level K w v ms y
  work_same w v ms Going = refl
  work_same w v ms Without = tried_same w (tried_tables w.tables w.stratum ms)
  work_same w v ms Model = ap (λ (x : Work). settle_of L (fallen x)) (better_same w v) ∙ settle_same (fallen (better_of K w v))

  finish_same : (p : Phase) (w : Work) (v ms : List ℕ) (y : Turn) → finish_of L p w v ms y ≡ finish_of K p w v ms y
  finish_same First w v ms y = first_same w v y
  finish_same Level w v ms y = work_same w v ms y
  finish_same Optimum w v ms y = refl
  finish_same Incoherent w v ms y = refl
  finish_same Full w v ms y = refl

-- ---- an advance

module _ (S R : Source) (f : FormedSource S) (g : FormedSource R) (e : SameSource S R) where
  class_same : (k : ℕ) (lowers : List ℤ) (M : Set) → in_class S k lowers M ≡ in_class R k lowers M
  class_same k lowers M =
      ap₂ (λ (b c : Bool). b && c) (ap₂ (λ (n : ℕ) (rs : List Rule). is_stable n rs M) e.n e.rules)
      (ap (λ (h : ℕ → ℤ). settled_from h lowers 0 k) (fun_ext (λ j. ap (cost M) (level_same S.levels R.levels e.levels e.entries j))))

  judge_same : (q : QueryTables) (ms v : List ℕ) → judge_full S q ms v ≡ judge_full R q ms v
  judge_same q ms v =
      ap (λ (b : Bool). pick b (soft_or_wanted (first_violated (violated_at q.judging (set_of v)) (ms ++ q.assumed))) Dead) (class_same q.level q.lowers (set_of v))

  turn_same : (q : QueryTables) (t : Places) (b : Blame) → turn_of S q t b ≡ turn_of R q t b
  unfolding turn_of
  turn_same q t b = ap (turn_by S q t b) tested ∙ go (test_of (rule_tables R) R.n (assumed_by R q b) t.value t.len)
    where
      tested : test_of (rule_tables S) S.n (assumed_by S q b) t.value t.len ≡ test_of (rule_tables R) R.n (assumed_by R q b) t.value t.len
      tested =
          ap₂ (λ (n : ℕ) (y : Found). test_by n (assumed_by S q b) t.value t.len y) e.n
          (scan_same S.n R.n S.pool R.pool S.rows R.rows S.rulecount R.rulecount f.rules g.rules e.rules t.value)
          ∙ ap (λ (h : Set). test_by R.n (assumed_entries q.wished b.flags (length q.wished) h) t.value t.len (scan_of (rule_tables R) t.value))
          (ap₂ (λ (rs : List Rule) (es : List Entry). tried_first rs (penalties es)) e.rules e.entries)

      go : (y : Tested) → turn_by S q t b y ≡ turn_by R q t b y
      go (RuleBroken r) = refl
      go FullTrail = ap (judged_turn q t b) (judge_same q (blamed_of b) t.value)
      go (SoftViolated i) = refl
      go (Open l) = refl

  after_same : (p : Phase) (c : ℕ) (w : Work) (x : Turned) → finish_turn S p c w x ≡ finish_turn R p c w x
  after_same p c w x =
      ap (λ (y : Placed). pick (is_going x.turn) (searchOf p c x.trail x.blame w) (ended_query c y))
      (finish_same S.levels R.levels e.levels e.entries p w x.trail.value (blamed_of x.blame) x.turn)

  pub advance_same : (s : Search) → advance_of S s ≡ advance_of R s
  unfolding advance_of
  advance_same s =
      ap (λ (y : Search). pick (is_running s.phase) y s)
      (ap (finish_turn S s.phase (bumped s.advances) s.work) (turn_same (work_query s.work) s.trail s.blame)
      ∙ after_same s.phase (bumped s.advances) s.work (turn_of R (work_query s.work) s.trail s.blame))

  pub advances_same : (k : ℕ) (s : Search) → advances_of S k s ≡ advances_of R k s
  unfolding advances_of
  advances_same zero s = refl
  advances_same (suc k) s = ap (advances_of S k) (advance_same s) ∙ advances_same k (advance_of R s)

  pub made_same : (k : ℕ) (s : Search) → made_by S k s ≡ made_by R k s
  unfolding made_by
  made_same zero s = refl
  made_same (suc k) s = ap (λ (m : ℕ). pick (is_running s.phase) (suc m) 0) (ap (made_by S k) (advance_same s) ∙ made_same k (advance_of R s))
