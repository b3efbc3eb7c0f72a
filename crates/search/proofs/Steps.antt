-- The test on the tables is document 01's, and right for the theory of `Search`; a step on the tables is a step of the machine over trails, and the tables go on
-- to say a trail. Assumes nothing.
use Rattle.std.specs.declared.option.Option.TheVariants as option
use mathlib.Core.Path.{◌≡◌, refl, sym, ap, ◌∙◌, subst, fun_ext}
use mathlib.Core.Bool.{Bool, true, false, not}
use mathlib.Core.List.{List, [], ◌∷◌}
use mathlib.Core.Logic.{◌⊎◌, inl, inr}
use mathlib.Core.Option.{Option, none, some}
use Prim.Native.Nat.{ℕ, zero, suc, ◌+◌, ◌<◌, ◌≤◌}
use native.Mathlib.Omega.{arith}
use lib.Dec.{T, eqb}
use lib.IntN.{ℤ, pos, negsuc, nat_abs}
use lib.ListN.{length, get_or, replicate, length-replicate}
use mir.Facts.{T_not}
use borrow.Author.Tests.{eq-eqb, ne_eqb, eqb-true, eqb-false}
use lib.Seq.{ext_get_or}
use Rattle.asp.specs.declared.rules.Row.{Row}
use Rattle.asp.specs.Sets.{Set, In, Only, pick, set_of}
use Rattle.asp.specs.Literal.{is_negative}
use Rattle.asp.specs.Program.{Rule, All}
use Rattle.asp.specs.Stable.{holds}
use Rattle.asp.specs.Tables.{span, literals_at, row_at, rule_at, rules_of, Formed}
use Rattle.search.specs.declared.scan.Found.{Found}
use Rattle.search.specs.declared.scan.Found.TheVariants.{Broken, Breaker, Clear}
use Rattle.search.specs.declared.step.Tested.{Tested}
use Rattle.search.specs.declared.step.Tested.TheVariants.{RuleBroken, Full, SoftViolated, Open}
use Rattle.search.specs.Trail.{decision, Trail, literal_of, NotOn, FormedTrail, Agrees, InAll, trail_set, flip}
use Rattle.search.specs.Query.{Query, broken_in, violated_in, Some, HoldsAll, RuleFails, SoftFails, Wanted, Conflict, IsOpen}
use Rattle.search.specs.Machine.{Verdict, open', conflict, wanted, running, blame, resume, advance_by}
use Rattle.search.specs.declared.trail.Places.{Places}
use Rattle.search.specs.declared.trail.Mark.{Mark}
use Rattle.search.specs.declared.trail.Mark.TheVariants.{Free, Decision}
use Rattle.search.specs.Places.{places, fresh_places, side_of, push_of, back_of, trail_at, trail_of, value_on, SoundTrail}
use Rattle.search.specs.Scan.{Rules, rules, scan_of}
use Rattle.search.specs.Soft.{AssumedEntries, wished_at, violated_of, FormedSoft}
use Rattle.search.specs.Branch.{branch_of}
use Rattle.search.specs.Step.{test_of, moved_by, step_of}
use Rattle.search.specs.Link.{table_query, verdict_of, back_state, state_by, state_of}
use Rattle.search.proofs.PlacesLaws.{good_put, good_back}
use Rattle.search.proofs.StepLaws.{NotBroken, Told, told}
use Rattle.search.proofs.Counts.{short, short_off, off_short, on_not, all_on}
use Rattle.search.proofs.Search.{Dead, OnSome, flip_formed, Problem, Sought, Says, GoodTrail, NoneMeets, good_advance, Paid, paid_advance}
use Rattle.search.proofs.Spent.{spent, Dearer}
use Rattle.search.proofs.Search as theory
use Rattle.search.proofs.Agree.{rule_on, soft_on, rule_all, all_rule, soft_all, all_soft, full_is, set_agrees}
use Rattle.search.proofs.Formed.{rule_in}
use Rattle.search.proofs.TrailTables.{BackSays, Rest, back_says, put_trail, put_values, put_empty, trail_length}
use Rattle.search.proofs.Scans.{ScanSays, scan_says, ViolatedSays, violated_says}
use Rattle.search.proofs.Opens.{Undecided, zero_off, branch_undecided}
use Rattle.search.proofs.Unbroken.{NoneBroken, fails_none}

-- ---- one of a span

some_span : {A : Type 0} (P : A → Type 0) (f : ℕ → A) (i k : ℕ) → Some P (span f i k) → (j : ℕ) × (i ≤ j) × (j < i + k) × P (f j)
unfolding span
some_span P f i zero x = absurd x
some_span P f i (suc k) (inl x) = (i, omega arith, omega arith, x)
some_span P f i (suc k) (inr x) =
    let r = some_span P f (i + 1) k x in
    (r.0, omega (arith, r.1), omega (arith, r.2), r.3)

span_some : {A : Type 0} (P : A → Type 0) (f : ℕ → A) (i k : ℕ) → (j : ℕ) → i ≤ j → j < i + k → P (f j) → Some P (span f i k)
unfolding span
span_some P f i zero j h l x = absurd (omega arith)
span_some P f i (suc k) j h l x = go (eqb i j) refl (span_some P f (i + 1) k j)
  where
    go : (b : Bool) → eqb i j ≡ b → (i + 1 ≤ j → j < i + 1 + k → P (f j) → Some P (span f (i + 1) k)) → P (f i) ⊎ Some P (span f (i + 1) k)
    go true e r = let z : i ≡ j = eqb-true i j e in inl (rw z x)
    go false e r = let z = eqb-false i j e in inr (r (omega arith) (omega arith) x)

yes : (b : Bool) → b ≡ true → T b
yes b e = rw e tt

no : (b : Bool) → b ≡ false → ¬ T b
no b e t = rw e at t

-- ---- fresh tables say the empty trail

all_same : {A : Type 0} (n i : ℕ) (d : A) → get_or (replicate n d) i d ≡ d
all_same zero i d = refl
all_same (suc n) zero d = refl
all_same (suc n) (suc i) d = all_same n i d

-- (The lengths are variables, since `replicate 1024 x` writes itself out.)
zeros_sound : (n a b c : ℕ) → a ≡ 1024 → b ≡ 1024 → c ≡ 1025 → SoundTrail n (places (replicate a (pos 0)) (replicate b Free) (replicate c 0) 0)
zeros_sound n a b c ea eb ec = record {
  good = record {
    lits_len = length-replicate a (pos 0) ∙ ea;
    marks_len = length-replicate b Free ∙ eb;
    value_len = length-replicate c 0 ∙ ec;
    short = omega arith;
    small = λ i. rw (all_same a i (pos 0)) (omega arith);
  };
  formed = tt;
  valued = λ i. all_same c i 0;
  empty = λ i h. (all_same a i (pos 0), all_same b i Free);
}

-- "A fresh path has 1,024 empty places"
pub fresh_sound : (n : ℕ) → SoundTrail n fresh_places
unfolding fresh_places
fresh_sound n = zeros_sound n 1024 1024 1025 refl refl refl

ended_zeros : (n a b c : ℕ) → a ≡ 1024 → b ≡ 1024 → c ≡ 1025 → (t : Places) → SoundTrail n t → t.len ≡ 0 → t ≡ places (replicate a (pos 0)) (replicate b Free) (replicate c 0) 0
ended_zeros n a b c ea eb ec t d e =
    let ls : t.lits ≡ replicate a (pos 0) = ext_get_or (pos 0) t.lits (replicate a (pos 0)) (d.good.lits_len ∙ sym (length-replicate a (pos 0) ∙ ea)) (λ i h. (d.empty i (omega arith)).0 ∙ sym (all_same a i (pos 0))) in
    let ms : t.marks ≡ replicate b Free = ext_get_or Free t.marks (replicate b Free) (d.good.marks_len ∙ sym (length-replicate b Free ∙ eb)) (λ i h. (d.empty i (omega arith)).1 ∙ sym (all_same b i Free)) in
    let v : t.value ≡ replicate c 0 = ext_get_or 0 t.value (replicate c 0) (d.good.value_len ∙ sym (length-replicate c 0 ∙ ec)) (λ i h. d.valued i ∙ ap (λ (k : ℕ). value_on (trail_at t.lits t.marks k) i) e ∙ sym (all_same c i 0)) in
    rw (← ls, ← ms, ← v, ← e)

-- the values by atom, read as asp reads a table of bytes, are the trail's set
side_set : (l : ℤ) → eqb (side_of l) 1 ≡ not (is_negative l)
side_set (pos a) = refl
side_set (negsuc a) = refl

value_set : (u : Trail) (a : ℕ) → eqb (value_on u a) 1 ≡ trail_set u a
value_set [] a = refl
value_set (s ∷ u) a = go (eqb a (nat_abs (literal_of s))) (value_set u a)
  where
    go : (b : Bool) → eqb (value_on u a) 1 ≡ trail_set u a → eqb (pick b (side_of (literal_of s)) (value_on u a)) 1 ≡ pick b (not (is_negative (literal_of s))) (trail_set u a)
    go true h = side_set (literal_of s)
    go false h = h

pub set_is : (n : ℕ) (t : Places) → SoundTrail n t → set_of t.value ≡ trail_set (trail_of t)
set_is n t d = fun_ext (λ a. ap (λ (x : ℕ). eqb x 1) (d.valued a) ∙ value_set (trail_of t) a)

-- ---- the moves: back and push

back_state_lem : (o : Option Trail) (t : Places) (ms : List ℕ) → BackSays o t → back_state t ms ≡ resume o ms
back_state_lem none t ms h = rw (eq-eqb t.len 0 h)
back_state_lem (some u) t ms h = rw (ne_eqb t.len 0 (λ e. omega (arith, h.1))) (ap (λ (x : Trail). running x ms) h.0)

back_formed : (n : ℕ) (o : Option Trail) (t : Places) → BackSays o t → OnSome (FormedTrail n) o → FormedTrail n (trail_of t)
back_formed n none t h w = rw h tt
back_formed n (some u) t h w = rw h.0 w

module _ (n : ℕ) (t : Places) (d : SoundTrail n t) where
  said : BackSays (flip (trail_of t)) (back_of t) × Rest (back_of t)
  said = back_says n t.len t.lits t.marks t.value d.good d.formed d.valued d.empty

  -- `back` is the machine's cut, or its end without a model
  pub back_advances : (b : Option ℕ) (ms : List ℕ) → back_state (back_of t) (blame b ms) ≡ advance_by (conflict b) (trail_of t) ms
  back_advances b ms = back_state_lem (flip (trail_of t)) (back_of t) (blame b ms) said.0

  pub back_resumes : (ms : List ℕ) → back_state (back_of t) ms ≡ resume (flip (trail_of t)) ms
  back_resumes ms = back_state_lem (flip (trail_of t)) (back_of t) ms said.0

  pub back_sound : SoundTrail n (back_of t)
  back_sound = record {
    good = good_back t.len t d.good d.good.short;
    formed = back_formed n (flip (trail_of t)) (back_of t) said.0 (flip_formed n (trail_of t) d.formed);
    valued = said.1.valued;
    empty = said.1.empty;
  }

  -- `push` is the machine's decision
  pub push_advances : (l : ℤ) (ms : List ℕ) → t.len < 1024 → running (trail_of (push_of l t)) ms ≡ advance_by (open' l) (trail_of t) ms
  push_advances l ms h = ap (λ (x : Trail). running x ms) (put_trail l Decision t d.good h)

  pub push_sound : (l : ℤ) → t.len < 1024 → n ≤ 1024 → In n (nat_abs l) → NotOn (nat_abs l) (trail_of t) → SoundTrail n (push_of l t)
  push_sound l h k i o =
      let e : trail_of (push_of l t) ≡ decision l ∷ trail_of t = put_trail l Decision t d.good h in
      let z : nat_abs l ≤ 1024 = omega (arith, i.1) in
      record {
        good = good_put l Decision t d.good h z;
        formed = rw e (i, o, d.formed);
        valued = rw e (put_values l Decision t d.good z d.valued);
        empty = put_empty l Decision t d.empty;
      }

  -- ---- what the trail has cost (`Spent`) rises with each move, and is bounded

  cut_by : (o : Option Trail) → Dearer n (spent n (trail_of t)) o → BackSays o (back_of t) → 1 ≤ (back_of t).len → spent n (trail_of t) < spent n (trail_of (back_of t))
  cut_by none c y h = absurd (omega (arith, y))
  cut_by (some u) c y h = rw y.0 c

  pub length_is : length (trail_of t) ≡ t.len
  length_is = trail_length t.lits t.marks t.len

  -- a trail of n literals holds all n atoms, and a shorter one does not
  pub full_holds : n ≤ t.len → HoldsAll n (trail_of t)
  full_holds h = all_on n (trail_of t) d.formed (rw length_is h)

  pub short_holds : t.len < n → ¬ HoldsAll n (trail_of t)
  short_holds h f = short_off n (trail_of t) (rw length_is h) f

-- ---- the test

module _ (n : ℕ) (pool : List ℤ) (rows : List Row) (count : ℕ) (f : Formed n pool rows count) (s : AssumedEntries) (q : FormedSoft n s) (t : Places) (d : SoundTrail n t) where
  abbrev g : Rules
  g = rules pool rows count

  abbrev u : Trail
  u = trail_of t

  abbrev x : Tested
  x = test_of g n s t.value t.len

  -- what each answer of the test says, in document 01's words
  abbrev pub TestSays : Tested → Type 0
  TestSays (RuleBroken r) = (r < count) × InAll u (λ M. T (broken_in M (rule_at pool (row_at rows r)))) × ((j : ℕ) → j < r → ¬ InAll u (λ M. T (broken_in M (rule_at pool (row_at rows j)))))
  TestSays Full = HoldsAll n u × (¬ RuleFails u (rules_of pool rows count))
  TestSays (SoftViolated i) = (¬ HoldsAll n u) × (¬ RuleFails u (rules_of pool rows count)) × (i < s.count) × InAll u (λ M. T (violated_in M (wished_at s i)))
  TestSays (Open l) = (¬ HoldsAll n u) × (¬ RuleFails u (rules_of pool rows count)) × (¬ SoftFails u (literals_at s.wished 0 s.count)) × In n (nat_abs l) × NotOn (nat_abs l) u

  rule_fails : ((j : ℕ) → j < count → rule_on u (rule_at pool (row_at rows j)) ≡ false) → ¬ RuleFails u (rules_of pool rows count)
  rule_fails h k =
      let r = some_span (λ (y : Rule). InAll u (λ M. T (broken_in M y))) (λ (j : ℕ). rule_at pool (row_at rows j)) 0 count k in
      let l : r.0 < count = omega (arith, r.2) in
      no (rule_on u (rule_at pool (row_at rows r.0))) (h r.0 l) (all_rule n u d.formed (rule_at pool (row_at rows r.0)) (rule_in n pool rows count f r.0 l) r.3)

  not_broken : (y : Found) → ScanSays (λ (r : ℕ). rule_on u (rule_at pool (row_at rows r))) count y → NotBroken y → ¬ RuleFails u (rules_of pool rows count)
  not_broken (Broken r) z b = absurd b
  not_broken (Breaker l) z b = rule_fails z
  not_broken Clear z b = rule_fails z

  scanned : ScanSays (λ (r : ℕ). rule_on u (rule_at pool (row_at rows r))) count (scan_of g t.value)
  scanned = scan_says n pool rows count f t.value u d.valued

  viewed : ViolatedSays (λ (i : ℕ). soft_on u (wished_at s i)) (λ (i : ℕ). eqb (get_or s.blamed i 0) 1) s.count (violated_of s t.value)
  viewed = violated_says n s q t.value u d.valued

  broken_says : (r : ℕ) → scan_of g t.value ≡ Broken r → TestSays (RuleBroken r)
  broken_says r e =
      let z : ScanSays (λ (j : ℕ). rule_on u (rule_at pool (row_at rows j))) count (Broken r) = rw e at scanned in (
        z.0,
        rule_all n u (rule_at pool (row_at rows r)) (rule_in n pool rows count f r z.0) (yes (rule_on u (rule_at pool (row_at rows r))) z.1),
        λ j l k. no (rule_on u (rule_at pool (row_at rows j))) (z.2 j l) (all_rule n u d.formed (rule_at pool (row_at rows j)) (rule_in n pool rows count f j (omega (arith, z.0))) k),
      )

  soft_fails : ((i : ℕ) → i < s.count → soft_on u (wished_at s i) ≡ false) → ¬ SoftFails u (literals_at s.wished 0 s.count)
  soft_fails h k =
      let r = some_span (λ (l : ℤ). InAll u (λ M. T (violated_in M l))) (λ (j : ℕ). get_or s.wished j (pos 0)) 0 s.count k in
      let l : r.0 < s.count = omega (arith, r.2) in
      no (soft_on u (wished_at s r.0)) (h r.0 l) (all_soft n u d.formed (wished_at s r.0) (q.atoms r.0 l).0 r.3)

  violated_fails : (i : ℕ) → violated_of s t.value ≡ option.Some i → (i < s.count) × InAll u (λ M. T (violated_in M (wished_at s i)))
  violated_fails i e =
      let z : ViolatedSays (λ (j : ℕ). soft_on u (wished_at s j)) (λ (j : ℕ). eqb (get_or s.blamed j 0) 1) s.count (option.Some i) = rw e at viewed in
      (z.0, soft_all u (wished_at s i) (q.atoms i z.0).0 (yes (soft_on u (wished_at s i)) z.1))

  branches : t.len < n → Undecided n t.value (branch_of s.first s.wished s.count t.value n (scan_of g t.value))
  branches h = branch_undecided n pool rows count f s q t.value u d.valued (rw (length_is n t d) h)

  says_by : (y : Tested) → Told n s t.value t.len (scan_of g t.value) y → TestSays y
  says_by (RuleBroken r) z = broken_says r z
  says_by Full z = (full_holds n t d z.1, not_broken (scan_of g t.value) scanned z.0)
  says_by (SoftViolated i) z =
      let v = violated_fails i z.2 in
      (short_holds n t d z.1, not_broken (scan_of g t.value) scanned z.0, v.0, v.1)
  says_by (Open l) z =
      let b = branches z.1 in
      let o : NotOn (nat_abs l) u = rw z.3 (zero_off u _ (sym (d.valued _) ∙ b.1)) in
      (short_holds n t d z.1, not_broken (scan_of g t.value) scanned z.0, soft_fails (rw z.2 at viewed), rw z.3 b.0, o)

  -- The test is document 01's.
  pub test_says : TestSays x
  test_says = says_by x (told g n s t.value t.len)

  -- ---- a step on the tables is a step of the machine over trails

  open_room : (l : ℤ) → x ≡ Open l → t.len < n
  open_room l e = let z : Told n s t.value t.len (scan_of g t.value) (Open l) = rw e at (told g n s t.value t.len) in z.1

  pub step_advances : (name : ℕ → ℕ) (j : Verdict) (ms : List ℕ) → (¬ (x ≡ Full)) → state_of name (step_of g n s t) ms ≡ advance_by (verdict_of name j x) u ms
  step_advances name j ms k = go x refl
    where
      go : (y : Tested) → x ≡ y → state_by name y (moved_by y t) ms ≡ advance_by (verdict_of name j y) u ms
      go (RuleBroken r) e = back_advances n t d none ms
      go Full e = absurd (k e)
      go (SoftViolated i) e = back_advances n t d (some (name i)) ms
      go (Open l) e = push_advances n t d l ms (omega (arith, open_room l e, f.few))

  pub open_short : (l : ℤ) → x ≡ Open l → t.len < 1024
  open_short l e = omega (arith, open_room l e, f.few)

  pub step_sound : SoundTrail n (step_of g n s t).trail
  step_sound = go x refl test_says
    where
      go : (y : Tested) → x ≡ y → TestSays y → SoundTrail n (moved_by y t)
      go (RuleBroken r) e z = back_sound n t d
      go Full e z = d
      go (SoftViolated i) e z = back_sound n t d
      go (Open l) e z = push_sound n t d l (omega (arith, open_room l e, f.few)) f.few z.3 z.4

  -- ---- wanted, conflict and open, for any class of sought sets

  rule_conflict : (r : ℕ) → TestSays (RuleBroken r) → RuleFails u (rules_of pool rows count)
  rule_conflict r z = span_some (λ (y : Rule). InAll u (λ M. T (broken_in M y))) (λ (j : ℕ). rule_at pool (row_at rows j)) 0 count r (omega arith) (omega (arith, z.0)) z.1

  soft_conflict : (i : ℕ) → TestSays (SoftViolated i) → SoftFails u (literals_at s.wished 0 s.count)
  soft_conflict i z = span_some (λ (l : ℤ). InAll u (λ M. T (violated_in M l))) (λ (j : ℕ). get_or s.wished j (pos 0)) 0 s.count i (omega arith) (omega (arith, z.2)) z.3

  module _ (Goal : Set → Type 0) where
    -- what each answer is, in document 01's words; a full trail is wanted just if its set is sought
    abbrev pub Exact : Tested → Type 0
    Exact (RuleBroken r) = Conflict (table_query g n s Goal) u
    Exact Full = (Goal (trail_set u) → Wanted (table_query g n s Goal) u) × ((¬ Goal (trail_set u)) → Conflict (table_query g n s Goal) u)
    Exact (SoftViolated i) = Conflict (table_query g n s Goal) u
    Exact (Open l) = IsOpen (table_query g n s Goal) u

    exact_by : (y : Tested) → TestSays y → Exact y
    exact_by (RuleBroken r) z = inr (inl (rule_conflict r z))
    exact_by Full z = (λ h. (z.0, h), λ h. inl (z.0, λ w. h w.1))
    exact_by (SoftViolated i) z = inr (inr (soft_conflict i z))
    exact_by (Open l) z = (λ w. z.0 w.0, fine)
      where
        fine : ¬ Conflict (table_query g n s Goal) u
        fine (inl c) = z.0 c.0
        fine (inr (inl c)) = z.1 c
        fine (inr (inr c)) = z.2 c

    pub exact : Exact x
    exact = exact_by x test_says

  -- ---- the test is right for the theory

  module _ (Class : Set → Type 0) (Assumes : ℕ → Type 0) (Met : Set → ℕ → Type 0) (name : ℕ → ℕ)
      (unbroken : (M : Set) → Class M → NoneBroken (rules_of pool rows count) M)
      (assumes : (i : ℕ) → i < s.count → Assumes (name i))
      (meets : (M : Set) (i : ℕ) → i < s.count → Met M (name i) → T (holds M (wished_at s i))) where
    abbrev P : Problem
    P = record { n = n; Class = Class; Assumed = Assumes; Met = Met }

    right_by : (j : Verdict) (y : Tested) → TestSays y → (y ≡ Full → Says P u j) → Says P u (verdict_of name j y)
    right_by j (RuleBroken r) z k = λ M c a. fails_none u (rules_of pool rows count) M (rule_conflict r z) (unbroken M c) a
    right_by j Full z k = k refl
    right_by j (SoftViolated i) z k = (assumes i z.2, λ M c a. T_not (holds M (wished_at s i)) (meets M i z.2 c.1) (z.3 M a))
    right_by j (Open l) z k = (off_short n u (nat_abs l) d.formed z.3 (on_not u (nat_abs l) z.4), z.3, z.4)

    -- for the caller's verdict j on a full trail
    pub test_right : (j : Verdict) → (x ≡ Full → Says P u j) → Says P u (verdict_of name j x)
    test_right j k = right_by j x test_says k

    -- ---- a step on the tables keeps the invariant of the search, with its count

    pub step_good : (ms : List ℕ) → (¬ (x ≡ Full)) → GoodTrail P u ms → theory.Good P (state_of name (step_of g n s t) ms)
    step_good ms k h = rw (step_advances name wanted ms k) (good_advance P u ms (verdict_of name wanted x) (test_right wanted (λ e. absurd (k e))) h)

    pub step_paid : (k : ℕ) (ms : List ℕ) → (¬ (x ≡ Full)) → k ≤ spent n u → Paid P (suc k) (state_of name (step_of g n s t) ms)
    step_paid k ms o h = rw (step_advances name wanted ms o) (paid_advance P k u ms (verdict_of name wanted x) (short n u d.formed) h)

    -- and so does the cut of a full trail on which the caller's verdict is a conflict

    pub cut_good : (b : Option ℕ) (ms : List ℕ) → Says P u (conflict b) → GoodTrail P u ms → theory.Good P (back_state (back_of t) (blame b ms))
    cut_good b ms y h = rw (back_advances n t d b ms) (good_advance P u ms (conflict b) y h)

    pub cut_paid : (k : ℕ) (b : Option ℕ) (ms : List ℕ) → k ≤ spent n u → Paid P (suc k) (back_state (back_of t) (blame b ms))
    cut_paid k b ms h = rw (back_advances n t d b ms) (paid_advance P k u ms (conflict b) (short n u d.formed) h)

-- ---- for the caller's verdict on a full trail: what its set refutes, the trail does

pub full_dead : (n : ℕ) (u : Trail) → FormedTrail n u → HoldsAll n u → (Goal : Set → Type 0) → ((M : Set) → Goal M → Only n M) → (¬ Goal (trail_set u)) → Dead Goal u
full_dead n u w h Goal o k = λ M m a. k (subst Goal (full_is n u w h M (o M m) a) m)

-- ---- wanted and conflict exclude each other, where a sought set breaks no rule and has what is wished

all_hold_lem : (u : Trail) (M : Set) (ls : List ℤ) → All (λ (l : ℤ). T (holds M l)) ls → SoftFails u ls → Agrees M u → ⊥
all_hold_lem u M [] h c a = c
all_hold_lem u M (l ∷ ls) h (inl c) a = T_not (holds M l) h.0 (c M a)
all_hold_lem u M (l ∷ ls) h (inr c) a = all_hold_lem u M ls h.1 c a

pub wanted_fine : (q : Query) (u : Trail) → FormedTrail q.n u → ((M : Set) → q.Sought M → NoneBroken q.rules M) → ((M : Set) → q.Sought M → All (λ (l : ℤ). T (holds M l)) q.wished)
    → Wanted q u → ¬ Conflict q u
wanted_fine q u w b h m (inl c) = c.1 m
wanted_fine q u w b h m (inr (inl c)) = fails_none u q.rules (trail_set u) c (b (trail_set u) m.1) (set_agrees q.n u w)
wanted_fine q u w b h m (inr (inr c)) = all_hold_lem u (trail_set u) q.wished (h (trail_set u) m.1) c (set_agrees q.n u w)
