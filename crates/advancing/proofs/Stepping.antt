-- One step of a query on the tables: what its calls ask, and that it keeps the trail and the blame in order. Assumes nothing.
use mathlib.Core.Path.{◌≡◌, refl, sym, ap, ap₂, ◌∙◌, subst, fun_ext}
use mathlib.Core.Bool.{Bool, true, false, ◌||◌, true≢false}
use mathlib.Core.List.{List, [], ◌∷◌, ◌++◌}
use mathlib.Core.Logic.{◌≢◌}
use Prim.Native.Nat.{ℕ, zero, suc, ◌+◌, ◌-◌, ◌≤◌, ◌<◌}
use native.Mathlib.Decide.{ℕ_discrete}
use native.Mathlib.Omega.{arith}
use lib.Dec.{eqb}
use lib.ListN.{length, get_or, set, drop, replicate, length-set, length-replicate, get_or-replicate}
use lib.Seq.{drop-cons, drop-set-lt, get_or-set_same, get_or-set_other}
use borrow.Author.Tests.{eq-eqb, ne_eqb, eqb-false}
use Rattle.std.specs.Prelude.{Option, Some, None}
use Rattle.asp.specs.Sets.{Set, set_of, pick}
use Rattle.asp.specs.Program.{All, Out, Distinct}
use Rattle.asp.specs.Stable.{member}
use Rattle.search.specs.declared.trail.Places.{Places}
use Rattle.search.specs.Places.{SoundTrail, back_of}
use Rattle.search.specs.Soft.{assumed_entries, FormedSoft}
use Rattle.search.specs.Step.{test_of}
use Rattle.search.specs.declared.step.Tested.{Tested}
use Rattle.search.specs.declared.step.Tested.TheVariants.{RuleBroken, Full, SoftViolated, Open}
use Rattle.search.proofs.Steps.{back_sound, test_says, step_sound}
use Rattle.cores.specs.Sums.{Holds}
use Rattle.cores.proofs.Sums.{members_weigh, wsum_replicate_one}
use Rattle.cores.specs.Judging.{violated_at, first_violated}
use Rattle.advancing.specs.declared.state.Blame.{Blame}
use Rattle.advancing.specs.declared.state.Turn.TheVariants.{Going, Without}
use Rattle.advancing.specs.declared.state.Judgement.{Judgement}
use Rattle.advancing.specs.declared.state.Judgement.TheVariants.{Wanted, Dead, Violated}
use Rattle.advancing.specs.Source.{Source, rule_tables, first_in, Tries}
use Rattle.advancing.specs.Turn.{QueryTables, blame_tables, blamed_of, blame_entry, blame_place, flagged, in_class, soft_or_wanted, judge_full, turned, backed, judged_turn, turn_by, assumed_by, turn_of}
use Rattle.advancing.specs.Ready.{softs, ReadyQuery, GoodBlame}

clash : {A : Type 0} → true ≡ false → A
clash q = absurd (true≢false q)

-- ---- a list of different numbers below k has at most k of them

below_holds : (k : ℕ) (ms : List ℕ) → All (λ m. m < k) ms → All (Holds 1 (replicate k 1)) ms
below_holds k [] a = tt
below_holds k (m ∷ ms) a = ((rw (length-replicate {A = ℕ} k 1) a.0, rw (get_or-replicate {A = ℕ} k m 1 0 a.0) (omega arith)), below_holds k ms a.1)

pub different : (k : ℕ) (ms : List ℕ) → Distinct ms → All (λ m. m < k) ms → length ms ≤ k
different k ms d a =
    let h = members_weigh 1 ms (replicate k 1) d (below_holds k ms a) in
    let e = wsum_replicate_one 1 k in
    omega (arith, h, e)

not_member : (m : ℕ) (ms : List ℕ) → member m ms ≡ false → Out m ms
unfolding member
not_member m [] e = tt
not_member m (x ∷ xs) e = go (eqb m x) refl e (not_member m xs)
  where
    go : (b : Bool) → eqb m x ≡ b → (b || member m xs) ≡ false → (member m xs ≡ false → Out m xs) → (m ≢ x) × Out m xs
    go true q k f = clash k
    go false q k f = (λ z. eqb-false m x q z, f k)

pub all_at : (P : ℕ → Type 0) (ps : List ℕ) → All P ps → (i : ℕ) → i < length ps → P (get_or ps i 0)
all_at P [] a i h = absurd (omega arith)
all_at P (x ∷ ps) a zero h = a.0
all_at P (x ∷ ps) a (suc i) h = all_at P ps a.1 i (omega arith)

-- the table and what it says are one set
pub first_is : {S : Source} {tried : List ℕ} → Tries S tried → set_of tried ≡ first_in S
first_is h = fun_ext h.tries

module _ {S : Source} {q : QueryTables} {b : Blame} (r : ReadyQuery S q) (g : GoodBlame q b) where
  -- there is room for one more
  pub blame_room : (p : ℕ) → p < softs q → member p (blamed_of b) ≡ false → 1 ≤ b.from
  blame_room p h e = go b.from refl
    where
      many : b.from ≡ 0 → length (blamed_of b) ≡ 4096
      many z = rw z g.core_len

      go : (k : ℕ) → b.from ≡ k → 1 ≤ b.from
      go zero z = absurd (omega (arith, different (softs q) (p ∷ blamed_of b) (not_member p (blamed_of b) e, g.distinct) (h, g.inside), many z, r.few))
      go (suc k) z = omega arith

  pub entry_room : (i : ℕ) → i < length q.places → (get_or b.flags i 0 ≡ 1 → ⊥) → 1 ≤ b.from
  entry_room i h f = blame_room (get_or q.places i 0) (all_at (λ m. m < softs q) q.places r.places_in i h) (sym (g.flags i h) ∙ ne_eqb (get_or b.flags i 0) 1 f)

-- ---- a new place in front

pub drop_front : (core : List ℕ) (from p : ℕ) → 1 ≤ from → from ≤ length core → drop (from - 1) (set core (from - 1) p) ≡ p ∷ drop from core
drop_front core from p h l =
    let e : from ≡ suc (from - 1) = omega arith in
    drop-cons (set core (from - 1) p) (from - 1) 0 (rw length-set (omega arith))
    ∙ ap₂ (λ (x : ℕ) (xs : List ℕ). x ∷ xs) (get_or-set_same core (from - 1) p 0 (omega arith)) (drop-set-lt (suc (from - 1)) core (from - 1) p (omega arith) ∙ ap (λ (k : ℕ). drop k core) (sym e))

module _ {S : Source} {q : QueryTables} {b : Blame} (r : ReadyQuery S q) (g : GoodBlame q b) where
  -- a new place p, with flags that say of each entry's place whether it is p or was flagged
  added : (p : ℕ) (fs : List ℕ) → p < softs q → member p (blamed_of b) ≡ false → length fs ≡ 4096
      → ((i : ℕ) → i < length q.places → eqb (get_or fs i 0) 1 ≡ (eqb (get_or q.places i 0) p || eqb (get_or b.flags i 0) 1))
      → GoodBlame q (blame_tables fs (set b.core (b.from - 1) p) (b.from - 1))
  unfolding member
  added p fs h e l f =
      let room = blame_room r g p h e in
      let front : drop (b.from - 1) (set b.core (b.from - 1) p) ≡ p ∷ blamed_of b = drop_front b.core b.from p room (rw g.core_len g.from_in) in
      record {
        flags_len = l;
        core_len = length-set b.core (b.from - 1) p ∙ g.core_len;
        from_in = omega (arith, g.from_in);
        inside = rw front (h, g.inside);
        distinct = rw front (not_member p (blamed_of b) e, g.distinct);
        flags = λ i k. rw front (f i k ∙ ap (λ (x : Bool). eqb (get_or q.places i 0) p || x) (g.flags i k));
      }

  pub entry_good : (i : ℕ) → i < length q.places → GoodBlame q (blame_entry q.places i b)
  entry_good i h = go (eqb (get_or b.flags i 0) 1) refl
    where
      here : eqb (get_or b.flags i 0) 1 ≡ false → member (get_or q.places i 0) (blamed_of b) ≡ false
      here e = sym (g.flags i h) ∙ e

      flag : eqb (get_or b.flags i 0) 1 ≡ false → (j : ℕ) → j < length q.places
          → eqb (get_or (set b.flags i 1) j 0) 1 ≡ (eqb (get_or q.places j 0) (get_or q.places i 0) || eqb (get_or b.flags j 0) 1)
      flag e j k = by (ℕ_discrete j i)
        where
          by : Dec (j ≡ i) → eqb (get_or (set b.flags i 1) j 0) 1 ≡ (eqb (get_or q.places j 0) (get_or q.places i 0) || eqb (get_or b.flags j 0) 1)
          by (yes z) = rw (z, get_or-set_same b.flags i 1 0 (omega (arith, g.flags_len, r.wished_few, r.places_long)), eq-eqb (get_or q.places i 0) (get_or q.places i 0) refl)
          by (no z) = rw (get_or-set_other b.flags i j 1 0 z, ne_eqb (get_or q.places j 0) (get_or q.places i 0) (λ y. z (r.places_apart j i k h y)))

      go : (x : Bool) → eqb (get_or b.flags i 0) 1 ≡ x → GoodBlame q (pick x b (blame_tables (set b.flags i 1) (set b.core (b.from - 1) (get_or q.places i 0)) (b.from - 1)))
      go true e = g
      go false e =
          added (get_or q.places i 0) (set b.flags i 1) (all_at (λ m. m < softs q) q.places r.places_in i h) (here e) (length-set b.flags i 1 ∙ g.flags_len) (flag e)

-- the flags of the places that are p
flagged_long : (p i : ℕ) (ps fs : List ℕ) → length (flagged p i ps fs) ≡ length fs
unfolding flagged
flagged_long p i [] fs = refl
flagged_long p i (x ∷ ps) fs = flagged_long p (i + 1) ps (pick (eqb x p) (set fs i 1) fs) ∙ go (eqb x p)
  where
    go : (b : Bool) → length (pick b (set fs i 1) fs) ≡ length fs
    go true = length-set fs i 1
    go false = refl

flagged_before : (p i : ℕ) (ps fs : List ℕ) (j : ℕ) → j < i → get_or (flagged p i ps fs) j 0 ≡ get_or fs j 0
unfolding flagged
flagged_before p i [] fs j h = refl
flagged_before p i (x ∷ ps) fs j h = flagged_before p (i + 1) ps (pick (eqb x p) (set fs i 1) fs) j (omega arith) ∙ go (eqb x p)
  where
    go : (b : Bool) → get_or (pick b (set fs i 1) fs) j 0 ≡ get_or fs j 0
    go true = get_or-set_other fs i j 1 0 (λ e. no_less e)
      where
        no_less : j ≡ i → ⊥
        no_less e = omega arith
    go false = refl

flagged_at : (p i : ℕ) (ps fs : List ℕ) (j : ℕ) → j < length ps → i + j < length fs → get_or (flagged p i ps fs) (i + j) 0 ≡ pick (eqb (get_or ps j 0) p) 1 (get_or fs (i + j) 0)
unfolding flagged
flagged_at p i [] fs j h l = absurd (omega arith)
flagged_at p i (x ∷ ps) fs zero h l =
    let e : i + 0 ≡ i = omega arith in
    rw e (flagged_before p (i + 1) ps (pick (eqb x p) (set fs i 1) fs) i (omega arith) ∙ go (eqb x p))
  where
    go : (b : Bool) → get_or (pick b (set fs i 1) fs) i 0 ≡ pick b 1 (get_or fs i 0)
    go true = get_or-set_same fs i 1 0 (omega arith)
    go false = refl
flagged_at p i (x ∷ ps) fs (suc j) h l =
    let e : i + suc j ≡ i + 1 + j = omega arith in
    rw e (flagged_at p (i + 1) ps (pick (eqb x p) (set fs i 1) fs) j (omega arith) (long (eqb x p)) ∙ ap (pick (eqb (get_or ps j 0) p) 1) (go (eqb x p)))
  where
    long : (b : Bool) → i + 1 + j < length (pick b (set fs i 1) fs)
    long true = rw length-set (omega arith)
    long false = omega arith

    go : (b : Bool) → get_or (pick b (set fs i 1) fs) (i + 1 + j) 0 ≡ get_or fs (i + 1 + j) 0
    go true = get_or-set_other fs i (i + 1 + j) 1 0 (λ z. no_more z)
      where
        no_more : i + 1 + j ≡ i → ⊥
        no_more z = omega arith
    go false = refl

pick_flag : (b : Bool) (x : ℕ) → eqb (pick b 1 x) 1 ≡ (b || eqb x 1)
pick_flag true x = refl
pick_flag false x = refl

module _ {S : Source} {q : QueryTables} {b : Blame} (r : ReadyQuery S q) (g : GoodBlame q b) where
  pub place_good : (p : ℕ) → p < softs q → GoodBlame q (blame_place q.places p b)
  place_good p h = go (member p (blamed_of b)) refl
    where
      flag : (i : ℕ) → i < length q.places → eqb (get_or (flagged p 0 q.places b.flags) i 0) 1 ≡ (eqb (get_or q.places i 0) p || eqb (get_or b.flags i 0) 1)
      flag i k =
          let z : 0 + i ≡ i = omega arith in
          ap (λ (n : ℕ). eqb n 1) (rw z at (flagged_at p 0 q.places b.flags i k (omega (arith, g.flags_len, r.places_long, r.wished_few)))) ∙ pick_flag (eqb (get_or q.places i 0) p) (get_or b.flags i 0)

      go : (x : Bool) → member p (blamed_of b) ≡ x → GoodBlame q (pick x b (blame_tables (flagged p 0 q.places b.flags) (set b.core (b.from - 1) p) (b.from - 1)))
      go true e = g
      go false e = added r g p (flagged p 0 q.places b.flags) h e (flagged_long p 0 q.places b.flags ∙ g.flags_len) flag

  -- ---- a violated soft literal has a place in the table

  first_in_lem : (P : ℕ → Type 0) (U : ℕ → Bool) (ps : List ℕ) → All P ps → (p : ℕ) → Some p ≡ first_violated U ps → P p
  unfolding first_violated
  first_in_lem P U [] a p e = let z : ◌≡◌ {A = ℕ} 0 1 = cc in absurd (omega arith)
  first_in_lem P U (x ∷ ps) a p e = go (U x) refl (first_in_lem P U ps a.1 p) e
    where
      go : (y : Bool) → U x ≡ y → (Some p ≡ first_violated U ps → P p) → Some p ≡ pick y (Some x) (first_violated U ps) → P p
      go true z f k = let w : p ≡ x = cc in rw w a.0
      go false z f k = f k

  all_both : (P : ℕ → Type 0) (xs ys : List ℕ) → All P xs → All P ys → All P (xs ++ ys)
  all_both P [] ys h k = k
  all_both P (x ∷ xs) ys h k = (h.0, all_both P xs ys h.1 k)

  pub violated_in_lem : (v : List ℕ) {p : ℕ} → Violated p ≡ judge_full S q (blamed_of b) v → p < softs q
  violated_in_lem v {p} e = go (in_class S q.level q.lowers (set_of v)) refl e
    where
      soft : (j : Option ℕ) → Violated p ≡ soft_or_wanted j → j ≡ first_violated (violated_at q.judging (set_of v)) (blamed_of b ++ q.assumed) → p < softs q
      soft None k z = let w : ◌≡◌ {A = ℕ} 0 1 = cc in absurd (omega arith)
      soft (Some x) k z =
          let w : p ≡ x = cc in
          rw w (first_in_lem (λ m. m < softs q) (violated_at q.judging (set_of v)) (blamed_of b ++ q.assumed) (all_both (λ m. m < softs q) (blamed_of b) q.assumed g.inside r.assumed_in_lem) x z)

      go : (x : Bool) → in_class S q.level q.lowers (set_of v) ≡ x → Violated p ≡ pick x (soft_or_wanted (first_violated (violated_at q.judging (set_of v)) (blamed_of b ++ q.assumed))) Dead → p < softs q
      go true z k = soft (first_violated (violated_at q.judging (set_of v)) (blamed_of b ++ q.assumed)) k refl
      go false z k = let w : ◌≡◌ {A = ℕ} 0 1 = cc in absurd (omega arith)

  pub soft_formed : FormedSoft S.n (assumed_by S q b)
  soft_formed = record { wished_long = omega arith; blamed_long = omega (arith, g.flags_len, r.wished_few); atoms = r.wished_in_lem }

  -- the same with the set that a table says
  pub soft_formed_by : {tried : List ℕ} → Tries S tried → FormedSoft S.n (assumed_entries q.wished b.flags (length q.wished) (set_of tried))
  soft_formed_by h = subst (λ (f : Set). FormedSoft S.n (assumed_entries q.wished b.flags (length q.wished) f)) (sym (first_is h)) soft_formed

  -- ---- after a step

  module _ (t : Places) (d : SoundTrail S.n t) where
    backed_sound : (b₁ : Blame) → SoundTrail S.n (backed (back_of t) b₁).trail
    backed_sound b₁ = go (eqb (back_of t).len 0)
      where
        go : (x : Bool) → SoundTrail S.n (pick x (turned Without (back_of t) b₁) (turned Going (back_of t) b₁)).trail
        go true = back_sound S.n t d
        go false = back_sound S.n t d

    backed_blame : (b₁ : Blame) → GoodBlame q b₁ → GoodBlame q (backed (back_of t) b₁).blame
    backed_blame b₁ k = go (eqb (back_of t).len 0)
      where
        go : (x : Bool) → GoodBlame q (pick x (turned Without (back_of t) b₁) (turned Going (back_of t) b₁)).blame
        go true = k
        go false = k

    judged_sound : (j : Judgement) → SoundTrail S.n (judged_turn q t b j).trail
    judged_sound Wanted = d
    judged_sound Dead = backed_sound b
    judged_sound (Violated p) = backed_sound (blame_place q.places p b)

    judged_blame : (j : Judgement) → j ≡ judge_full S q (blamed_of b) t.value → GoodBlame q (judged_turn q t b j).blame
    judged_blame Wanted e = g
    judged_blame Dead e = backed_blame b g
    judged_blame (Violated p) e = backed_blame (blame_place q.places p b) (place_good p (violated_in_lem t.value e))

    abbrev x : Tested
    x = test_of (rule_tables S) S.n (assumed_by S q b) t.value t.len

    pub violated_entry : {i : ℕ} → x ≡ SoftViolated i → i < length q.places
    violated_entry {i} e =
        let z = rw e at (test_says S.n S.pool S.rows S.rulecount r.source.rules (assumed_by S q b) soft_formed t d) in
        omega (arith, z.2, r.places_long)

    pub turn_sound : SoundTrail S.n (turn_of S q t b).trail
    unfolding turn_of
    turn_sound = go x refl
      where
        go : (y : Tested) → x ≡ y → SoundTrail S.n (turn_by S q t b y).trail
        go (RuleBroken k) e = backed_sound b
        go (SoftViolated i) e = backed_sound (blame_entry q.places i b)
        go Full e = judged_sound (judge_full S q (blamed_of b) t.value)
        go (Open l) e = rw e at (step_sound S.n S.pool S.rows S.rulecount r.source.rules (assumed_by S q b) soft_formed t d)

    pub turn_blame : GoodBlame q (turn_of S q t b).blame
    unfolding turn_of
    turn_blame = go x refl
      where
        go : (y : Tested) → x ≡ y → GoodBlame q (turn_by S q t b y).blame
        go (RuleBroken k) e = backed_blame b g
        go (SoftViolated i) e = backed_blame (blame_entry q.places i b) (entry_good r g i (violated_entry e))
        go Full e = judged_blame (judge_full S q (blamed_of b) t.value) refl
        go (Open l) e = g
