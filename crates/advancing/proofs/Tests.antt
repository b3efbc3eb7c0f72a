-- The verdict on the tables is the test of the machine of `optimum` (`Meaning`): it depends on the tables by what they mean only. Assumes nothing.
use Rattle.std.specs.Prelude.{Option, Some, None}
use mathlib.Core.Path.{◌≡◌, refl, sym, ap, ap₂, ◌∙◌, fun_ext}
use mathlib.Core.Bool.{Bool, true, false, ◌&&◌}
use mathlib.Core.List.{List, [], ◌∷◌, ◌++◌, map}
use mathlib.Core.Option.{none}
use Prim.Native.Nat.{ℕ, zero, suc, ◌+◌, ◌<◌, ◌≤◌}
use native.Mathlib.Nat.{zero-add}
use native.Mathlib.Omega.{arith}
use lib.Dec.{eqb, leb}
use lib.IntN.{ℤ, pos, neg_ℤ}
use lib.ListN.{length, get_or, take, get_or-map}
use lib.Seq.{ext_get_or}
use borrow.Author.Tests.{eqb-true}
use Rattle.std.specs.Prelude.{Option, Some, None}
use Rattle.asp.specs.Sets.{Set, pick}
use Rattle.asp.specs.Program.{All}
use Rattle.asp.specs.Stable.{is_stable, member, keep}
use Rattle.asp.specs.Literal.{same_ℤ}
use Rattle.asp.specs.Cost.{cost}
use Rattle.asp.specs.Penalty.{charge, rise}
use Rattle.asp.proofs.Penalties.{above_same}
use Rattle.asp.proofs.Spans.{length_span}
use Rattle.search.specs.Trail.{trail_set}
use Rattle.search.specs.Machine.{Verdict, conflict, wanted}
use Rattle.search.specs.declared.trail.Places.{Places}
use Rattle.search.specs.Places.{SoundTrail, trail_of, value_on}
use Rattle.search.specs.Scan.{Rules, scan_of}
use Rattle.search.specs.Soft.{assumed_entries, first_of, violated_from, violated_of}
use Rattle.search.specs.Branch.{branch_of}
use Rattle.search.specs.Step.{open_or, unbroken, test_by, test_of}
use Rattle.search.specs.Link.{verdict_of}
use Rattle.search.specs.declared.scan.Found.{Found}
use Rattle.search.specs.declared.scan.Found.TheVariants.{Broken, Breaker, Clear}
use Rattle.search.specs.declared.step.Tested.{Tested}
use Rattle.search.specs.declared.step.Tested.TheVariants.{Full}
use Rattle.search.proofs.Steps.{set_is, length_is}
use Rattle.cores.specs.Sums.{Holds}
use Rattle.cores.specs.Soft.{entry, derived, core_number, kind_at}
use Rattle.cores.specs.Level.{assumed_from}
use Rattle.cores.specs.Judging.{kind_from, violated_at, first_violated}
use Rattle.cores.specs.Tables.{SoundTables, no_soft, kind_of, level_of, level_judging}
use Rattle.cores.specs.declared.soft.Soft.{Soft}
use Rattle.cores.specs.declared.level.LevelTables.{LevelTables}
use Rattle.cores.proofs.Spans.{get_d_span}
use Rattle.cores.proofs.Lent.{judging_level}
use Rattle.advancing.specs.declared.state.Blame.{Blame}
use Rattle.advancing.specs.declared.state.Work.{Work}
use Rattle.advancing.specs.declared.state.Judgement.TheVariants.{Dead}
use Rattle.advancing.specs.Source.{Levels, Source, many, level_at, start_at, penalties_at, rules_in, rule_tables, first_in, FormedSource}
use Rattle.advancing.specs.Turn.{QueryTables, query_of, assumed_in, entry_places, wished_in, settled_from, in_class, soft_or_wanted, judge_full, blamed_of, assumed_by}
use Rattle.advancing.specs.State.{first_work}
use Rattle.advancing.specs.Advance.{work_query}
use Rattle.advancing.specs.Ready.{GoodBlame}
use Rattle.advancing.specs.Meaning.{past_at, settled_at, work_of, values_of, entries_by, wish_by, wishes_by, flags_by, costs_by, met_or, set_verdict, test_work, test_start}
use Rattle.advancing.proofs.Classes.{KindIn, entries_are, kind_of_lem, wished_long}
use Rattle.advancing.proofs.Figures.{Figured, cost_above}
use Rattle.advancing.proofs.Meanings.{OnLevel}
use Rattle.advancing.proofs.Verdicts.{name_of, verdict_by, verdict}

-- ---- the values and the length are the trail's

module _ {n : ℕ} {t : Places} (d : SoundTrail n t) where
  pub values_are : t.value ≡ values_of (trail_of t)
  values_are =
      ext_get_or 0 t.value (values_of (trail_of t)) (d.good.value_len ∙ sym (length_span (value_on (trail_of t)) 0 1025))
      (λ i h. d.valued i ∙ sym (get_d_span (value_on (trail_of t)) 0 1025 0 i (rw d.good.value_len at h) ∙ ap (value_on (trail_of t)) (zero-add i)))

-- ---- the test depends on which soft literals are blamed, however the flags say it

violated_same : (f : Set) (w : List ℤ) (fs gs : List ℕ) (k : ℕ) (v : List ℕ) (a : Option ℕ) (i m : ℕ) → ((j : ℕ) → j < i + m → eqb (get_or fs j 0) 1 ≡ eqb (get_or gs j 0) 1)
    → violated_from (assumed_entries w fs k f) v a i m ≡ violated_from (assumed_entries w gs k f) v a i m
unfolding violated_from
violated_same f w fs gs k v a i zero h = refl
violated_same f w fs gs k v a i (suc m) h =
    rw (h i (omega arith), violated_same f w fs gs k v (first_of a i) (i + 1) m (λ j l. h j (omega arith)), violated_same f w fs gs k v a (i + 1) m (λ j l. h j (omega arith)))

test_same : (f : Set) (g : Rules) (n : ℕ) (w : List ℤ) (fs gs : List ℕ) (k : ℕ) (v : List ℕ) (len : ℕ) → ((j : ℕ) → j < k → eqb (get_or fs j 0) 1 ≡ eqb (get_or gs j 0) 1)
    → test_of g n (assumed_entries w fs k f) v len ≡ test_of g n (assumed_entries w gs k f) v len
unfolding unbroken
test_same f g n w fs gs k v len h = go (scan_of g v)
  where
    same : violated_of (assumed_entries w fs k f) v ≡ violated_of (assumed_entries w gs k f) v
    same = violated_same f w fs gs k v None 0 k (λ j l. h j (omega arith))

    go : (y : Found) → test_by n (assumed_entries w fs k f) v len y ≡ test_by n (assumed_entries w gs k f) v len y
    go (Broken r) = refl
    go (Breaker l) = ap (λ (x : Option ℕ). pick (leb n len) Full (open_or (branch_of f w k v n (Breaker l)) x)) same
    go Clear = ap (λ (x : Option ℕ). pick (leb n len) Full (open_or (branch_of f w k v n Clear) x)) same

map_at : {A : Type 0} (d : A) (f : ℕ → A) (xs : List ℕ) (i : ℕ) → i < length xs → get_or (map f xs) i d ≡ f (get_or xs i 0)
map_at d f [] i h = absurd (omega arith)
map_at d f (x ∷ xs) zero h = refl
map_at d f (x ∷ xs) (suc i) h = map_at d f xs i (omega arith)

flag_is : (x : Bool) → eqb (pick x 1 0) 1 ≡ x
flag_is true = refl
flag_is false = refl

flags_are : (ms ps : List ℕ) (i : ℕ) → i < length ps → eqb (get_or (flags_by ms ps) i 0) 1 ≡ member (get_or ps i 0) ms
flags_are ms ps i h = ap (λ (x : ℕ). eqb x 1) (map_at 0 (λ (p : ℕ). pick (member p ms) 1 0) ps i h) ∙ flag_is (member (get_or ps i 0) ms)

-- ---- the soft literals of entries

number_of : (l : ℤ) (j i : ℕ) → core_number (kind_from l j i) ≡ j
number_of l j i = go (eqb j 0) refl
  where
    go : (b : Bool) → eqb j 0 ≡ b → core_number (pick b (entry l) (derived j i)) ≡ j
    go true e = sym (eqb-true j 0 e)
    go false e = refl

map_same : {A : Type 0} (P : ℕ → Type 0) (f g : ℕ → A) → ((p : ℕ) → P p → f p ≡ g p) → (xs : List ℕ) → All P xs → map f xs ≡ map g xs
map_same P f g h [] a = refl
map_same {A} P f g h (x ∷ xs) a = ap₂ (λ (y : A) (ys : List A). y ∷ ys) (h x a.0) (map_same P f g h xs a.1)

module _ (n : ℕ) (t : LevelTables) (s : ℕ) (ok : SoundTables t) (k : All (KindIn n) (level_of t).kinds) where
  abbrev softs_here : List Soft
  softs_here = take t.count t.softs

  number_at : (p : ℕ) → get_or (level_judging t).cores p 0 ≡ core_number (kind_at (level_of t).kinds p)
  number_at p =
      get_or-map (λ (r : Soft). r.core) softs_here p no_soft
      ∙ sym (ap core_number (get_or-map kind_of softs_here p no_soft) ∙ number_of (get_or softs_here p no_soft).literal (get_or softs_here p no_soft).core (get_or softs_here p no_soft).index)

  pub entries_same : entry_places t s ≡ entries_by (level_of t) s
  entries_same = ap (λ (f : ℕ → Bool). keep f (assumed_in t s)) (fun_ext (λ p. ap (λ (x : ℕ). eqb x 0) (number_at p)))

  pub wishes_same : wished_in t s ≡ wishes_by (level_of t) s
  wishes_same =
      map_same (λ (p : ℕ). Holds s (level_of t).rests p × (eqb (get_or (level_judging t).cores p 0) 0 ≡ true)) (λ (p : ℕ). neg_ℤ (get_or (level_judging t).literals p (pos 0)))
      (λ (p : ℕ). wish_by (kind_at (level_of t).kinds p)) (λ p z. sym (ap wish_by (kind_of_lem n t s ok k p z.1))) (entry_places t s) (entries_are n t s ok k)
      ∙ ap (map (λ (p : ℕ). wish_by (kind_at (level_of t).kinds p))) entries_same

-- ---- the settled costs

and_swap : (a b c : Bool) → (a && (b && c)) ≡ (b && (a && c))
and_swap true b c = refl
and_swap false true c = refl
and_swap false false c = refl

settled_last : (f : ℕ → ℤ) (lowers : List ℤ) (i k : ℕ) → settled_from f lowers i (suc k) ≡ (same_ℤ (f (i + k)) (get_or lowers (i + k) (pos 0)) && settled_from f lowers i k)
unfolding settled_from
settled_last f lowers i zero = let e : i + 0 ≡ i = omega arith in rw e
settled_last f lowers i (suc k) =
    let e : i + 1 + k ≡ i + suc k = omega arith in
    ap (λ (b : Bool). same_ℤ (f i) (get_or lowers i (pos 0)) && b) (settled_last f lowers (i + 1) k)
    ∙ and_swap (same_ℤ (f i) (get_or lowers i (pos 0))) (same_ℤ (f (i + 1 + k)) (get_or lowers (i + 1 + k) (pos 0))) (settled_from f lowers (i + 1) k)
    ∙ ap (λ (j : ℕ). same_ℤ (f j) (get_or lowers j (pos 0)) && settled_from f lowers i (suc k)) e

-- the settled costs, by what is charged
costs_same : (S : Source) (f : FormedSource S) (lowers : List ℤ) → Figured S.levels lowers → (M : Set) (j : ℕ) → j ≤ many S.levels
    → settled_from (λ i. cost M (level_at S.levels i)) lowers 0 j ≡ costs_by M (past_at S.levels j) (settled_at S.levels lowers j)
unfolding settled_from
costs_same S f lowers g M zero h = refl
costs_same S f lowers g M (suc j) h =
    settled_last (λ i. cost M (level_at S.levels i)) lowers 0 j
    ∙ ap₂ (λ (i : ℕ) (b : Bool). same_ℤ (cost M (level_at S.levels i)) (get_or lowers i (pos 0)) && b) (zero-add j) (costs_same S f lowers g M j (omega arith))
    ∙ ap (λ (b : Bool). b && costs_by M (past_at S.levels j) (settled_at S.levels lowers j))
    (ap₂ same_ℤ (cost_above S f M j) (g j (omega arith)) ∙ above_same (start_at S.levels j) (charge M (penalties_at S.levels j)) (rise (start_at S.levels j) (get_or lowers j (pos 0))))

judged_same : (c : Bool) (j : Option ℕ) → verdict_by (pick c (soft_or_wanted j) Dead) ≡ pick c (met_or j) (conflict none)
judged_same true None = refl
judged_same true (Some p) = refl
judged_same false j = refl

-- ---- THE VERDICT OF A LEVEL'S QUERY

module _ (S : Source) (f : FormedSource S) (w : Work) (o : OnLevel S w) {b : Blame} (g : GoodBlame (work_query w) b) (t : Places) (d : SoundTrail S.n t) where
  abbrev L : Levels
  L = S.levels

  abbrev q : QueryTables
  q = work_query w

  abbrev found : Set
  found = trail_set (trail_of t)

  places_are : q.places ≡ entries_by (level_of w.tables) w.stratum
  unfolding query_of
  places_are = entries_same S.n w.tables w.stratum o.sound o.kinds

  wished_are : q.wished ≡ wishes_by (level_of w.tables) w.stratum
  unfolding query_of
  wished_are = wishes_same S.n w.tables w.stratum o.sound o.kinds

  as_many : length q.wished ≡ length q.places
  unfolding query_of
  as_many = wished_long S.n w.tables w.stratum o.sound o.kinds

  full_same : verdict_by (judge_full S q (blamed_of b) t.value) ≡ set_verdict S (work_of L w) (blamed_of b) found
  unfolding query_of
  full_same =
      ap (λ (M : Set). verdict_by (pick (in_class S w.level w.lowers M) (soft_or_wanted (first_violated (violated_at (level_judging w.tables) M) (blamed_of b ++ assumed_in w.tables w.stratum))) Dead)) (set_is S.n t d)
      ∙ judged_same (in_class S w.level w.lowers found) (first_violated (violated_at (level_judging w.tables) found) (blamed_of b ++ assumed_in w.tables w.stratum))
      ∙ ap₂ (λ (c : Bool) (U : ℕ → Bool). pick (is_stable S.n (rules_in S) found && c) (met_or (first_violated U (blamed_of b ++ assumed_in w.tables w.stratum))) (conflict none))
      (costs_same S f w.lowers o.figured found w.level (omega (arith, o.level))) (fun_ext (λ p. judging_level w.tables o.sound.formed found p))

  test_is : test_of (rule_tables S) S.n (assumed_by S q b) t.value t.len
      ≡ test_of (rule_tables S) S.n
      (assumed_entries (wishes_by (level_of w.tables) w.stratum) (flags_by (blamed_of b) (entries_by (level_of w.tables) w.stratum)) (length (wishes_by (level_of w.tables) w.stratum)) (first_in S))
      (values_of (trail_of t)) (length (trail_of t))
  test_is =
      test_same (first_in S) (rule_tables S) S.n q.wished b.flags (flags_by (blamed_of b) q.places) (length q.wished) t.value t.len
      (λ i h. let k : i < length q.places = omega (arith, as_many) in g.flags i k ∙ sym (flags_are (blamed_of b) q.places i k))
      ∙ ap₂ (λ (ws : List ℤ) (ps : List ℕ). test_of (rule_tables S) S.n (assumed_entries ws (flags_by (blamed_of b) ps) (length ws) (first_in S)) t.value t.len) wished_are places_are
      ∙ ap₂ (λ (v : List ℕ) (k : ℕ). test_of (rule_tables S) S.n
      (assumed_entries (wishes_by (level_of w.tables) w.stratum) (flags_by (blamed_of b) (entries_by (level_of w.tables) w.stratum)) (length (wishes_by (level_of w.tables) w.stratum)) (first_in S)) v k)
      (values_are d) (sym (length_is S.n t d))

  pub level_test : verdict S q t b ≡ test_work S (work_of L w) (blamed_of b) (trail_of t)
  level_test =
      ap₂ (λ (j : Verdict) (y : Tested). verdict_of (name_of q) j y) full_same test_is
      ∙ ap (λ (ps : List ℕ). verdict_of (λ i. get_or ps i 0) (set_verdict S (work_of L w) (blamed_of b) found)
      (test_of (rule_tables S) S.n
      (assumed_entries (wishes_by (level_of w.tables) w.stratum) (flags_by (blamed_of b) (entries_by (level_of w.tables) w.stratum)) (length (wishes_by (level_of w.tables) w.stratum)) (first_in S))
      (values_of (trail_of t)) (length (trail_of t)))) places_are

-- ---- THE VERDICT OF THE FIRST QUERY

and_true : (x : Bool) → (x && true) ≡ x
and_true true = refl
and_true false = refl

module _ (S : Source) (b : Blame) (e : blamed_of b ≡ []) (t : Places) (d : SoundTrail S.n t) where
  abbrev seen_set : Set
  seen_set = trail_set (trail_of t)

  start_full : verdict_by (judge_full S (work_query (first_work S.levels)) (blamed_of b) t.value) ≡ pick (is_stable S.n (rules_in S) seen_set) wanted (conflict none)
  unfolding query_of assumed_from settled_from first_violated
  start_full =
      ap₂ (λ (M : Set) (ms : List ℕ). verdict_by (pick (in_class S 0 (first_work S.levels).lowers M) (soft_or_wanted (first_violated (violated_at (level_judging (first_work S.levels).tables) M) (ms ++ []))) Dead)) (set_is S.n t d) e
      ∙ judged_same (is_stable S.n (rules_in S) seen_set && true) None
      ∙ ap (λ (x : Bool). pick x wanted (conflict none)) (and_true (is_stable S.n (rules_in S) seen_set))

  start_test_is : test_of (rule_tables S) S.n (assumed_by S (work_query (first_work S.levels)) b) t.value t.len
      ≡ test_of (rule_tables S) S.n (assumed_entries [] [] 0 (first_in S)) (values_of (trail_of t)) (length (trail_of t))
  unfolding query_of assumed_from keep
  start_test_is =
      test_same (first_in S) (rule_tables S) S.n [] b.flags [] 0 t.value t.len (λ j h. absurd (omega arith))
      ∙ ap₂ (λ (v : List ℕ) (k : ℕ). test_of (rule_tables S) S.n (assumed_entries [] [] 0 (first_in S)) v k) (values_are d) (sym (length_is S.n t d))

  pub start_test : verdict S (work_query (first_work S.levels)) t b ≡ test_start S (trail_of t)
  unfolding query_of assumed_from keep
  start_test = ap₂ (λ (j : Verdict) (y : Tested). verdict_of (λ i. 0) j y) start_full start_test_is
