-- The ways that a test and a step go, from what their calls say. Assumes nothing.
use mathlib.Core.Path.{◌≡◌, refl, ap, ap₂, ◌∙◌}
use mathlib.Core.Bool.{Bool, true, false}
use mathlib.Core.Logic.{◌⊎◌, inl, inr}
use mathlib.Core.List.{List}
use Prim.Native.Nat.{ℕ, zero, suc, ◌≤◌}
use lib.IntN.{ℤ, pos, neg_ℤ, nat_abs}
use lib.ListN.{get_or}
use mir.Syntax.{w32}
use mir.Val.{to_z, of_z}
use Rattle.asp.specs.declared.rules.Row.{Row}
use Rattle.asp.specs.Sets.{pick}
use Rattle.asp.specs.Tables.{Formed}
use Rattle.search.specs.declared.scan.Found.{Found}
use Rattle.search.specs.declared.scan.Found.TheVariants.{Broken, Breaker, Clear}
use Rattle.search.specs.declared.step.Tested.{Tested}
use Rattle.search.specs.declared.step.Tested.TheVariants.{RuleBroken, Full, SoftViolated, Open}
use Rattle.search.specs.declared.trail.Places.{Places}
use Rattle.search.specs.declared.trail.Mark.{Mark}
use Rattle.search.specs.declared.trail.Mark.TheVariants.{Free, Decision, Flipped}
use Rattle.search.specs.Places.{is_decision, put_of, drop_of, back_from, Good}
use Rattle.search.specs.Scan.{Rules, rules, scan_of}
use Rattle.search.specs.Soft.{AssumedEntries, FormedSoft}
use Rattle.search.specs.Branch.{DecidedBelow, LowestIs}
use Rattle.search.specs.Step.{unbroken, test_by, test_of, stepped, step_of}
use Rattle.search.proofs.StepLaws.{step_broken, step_full, step_violated, step_open, open_small}
use Rattle.counting.specs.declared.index.Index.{Index}
use Rattle.counting.specs.declared.counters.Counters.{Counters}
use Rattle.counting.specs.Counters.{counters, marks, Bodies, bodies}
use Rattle.counting.specs.Moves.{CountedTrail, counted_trail, put_all, drop_all, back_all_from, back_all}
use Rattle.counting.specs.Counts.{MarksRight, Tracks, Indexed, Told}
use Rattle.counting.proofs.Telling.{told}
use Rattle.counting.proofs.Counting.{put_counted, back_counted}

-- ---- the test

module _ (n : ℕ) (s : AssumedEntries) (v : List ℕ) (len : ℕ) {f : Found} where
  pub by_broken : {r : ℕ} → f ≡ Broken r → RuleBroken r ≡ test_by n s v len f
  by_broken q = rw q

  pub by_breaker : {l : ℤ} → f ≡ Breaker l → {x : Tested} → x ≡ unbroken n s v len f → x ≡ test_by n s v len f
  by_breaker q z = rw q (rw q at z)

  pub by_clear : f ≡ Clear → {x : Tested} → x ≡ unbroken n s v len f → x ≡ test_by n s v len f
  by_clear q z = rw q (rw q at z)

pub test_done : (g : Rules) (n : ℕ) (s : AssumedEntries) (v : List ℕ) (len : ℕ) {f : Found} → f ≡ scan_of g v → {x : Tested} → x ≡ test_by n s v len f → x ≡ test_of g n s v len
test_done g n s v len e q = q ∙ ap (test_by n s v len) e

module _ {pool : List ℤ} {rows : List Row} {count : ℕ} {o : Index} {v : List ℕ} {t : Counters} where
  pub counted_told : Indexed (rules pool rows count) o → Tracks (rules pool rows count) o v t → Told (rules pool rows count) v t.key
  counted_told i k = told (rules pool rows count) o i v t k

  pub counted_marked : Tracks (rules pool rows count) o v t → MarksRight count t
  counted_marked k = k.marked

  pub relow : Tracks (rules pool rows count) o v t → {b l z c : ℕ} → MarksRight count (counters t.key (marks b l z c)) → {n a : ℕ} → LowestIs v n a → Tracks (rules pool rows count) o v (counters t.key (marks b l z a))
  relow k h w = record { marked = record { long = h.long; broken = h.broken; low = h.low; zero = h.zero }; small = k.small; each = k.each; below = w.below }

  pub counted_below : Tracks (rules pool rows count) o v t → DecidedBelow v t.marks.atom
  counted_below k = k.below

-- ---- the trail after a move is the one of the machine

put_trail : (bs : Bodies) (o : Index) (l : ℤ) (m : Mark) (h : CountedTrail) → (put_all bs o l m h).trail ≡ put_of l m h.trail
unfolding put_all
put_trail bs o l m h = refl

drop_trail : (bs : Bodies) (o : Index) (k : ℕ) (h : CountedTrail) → (drop_all bs o k h).trail ≡ drop_of k h.trail
unfolding drop_all
drop_trail bs o k h = refl

pub back_trail : (bs : Bodies) (o : Index) (k : ℕ) (h : CountedTrail) → (back_all_from bs o k h).trail ≡ back_from k h.trail
unfolding back_all_from back_from drop_all put_all
back_trail bs o zero h = refl
back_trail bs o (suc k) h = go (is_decision (get_or h.trail.marks k Free)) (back_trail bs o k (drop_all bs o k h))
  where
    go : (b : Bool) → (back_all_from bs o k (drop_all bs o k h)).trail ≡ back_from k (drop_of k h.trail)
        → (pick b (put_all bs o (neg_ℤ (get_or h.trail.lits k (pos 0))) Flipped (drop_all bs o k h)) (back_all_from bs o k (drop_all bs o k h))).trail ≡ pick b (put_of (neg_ℤ (get_or h.trail.lits k (pos 0))) Flipped (drop_of k h.trail)) (back_from k (drop_of k h.trail))
    go true r = refl
    go false r = r

-- ---- a move by equal bodies and lists

module _ {b c : Bodies} {o p : Index} (e : b ≡ c) (q : o ≡ p) (h : CountedTrail) {x : CountedTrail} where
  pub put_by : (l : ℤ) (m : Mark) → x ≡ put_all b o l m h → x ≡ put_all c p l m h
  put_by l m z = z ∙ ap₂ (λ (d : Bodies) (i : Index). put_all d i l m h) e q

  pub back_by : x ≡ back_all b o h → x ≡ back_all c p h
  back_by z = z ∙ ap₂ (λ (d : Bodies) (i : Index). back_all d i h) e q

-- ---- the step

module _ (g : Rules) (n : ℕ) (s : AssumedEntries) (t : Places) (bs : Bodies) (o : Index) (y : Counters) {x : Tested} where
  pub after_broken : x ≡ test_of g n s t.value t.len → {r : ℕ} → x ≡ RuleBroken r → {t₁ : Places} {y₁ : Counters} → counted_trail t₁ y₁ ≡ back_all bs o (counted_trail t y) → stepped x t₁ ≡ step_of g n s t
  after_broken e q z = step_broken g n s t e q (ap (λ (h : CountedTrail). h.trail) z ∙ back_trail bs o t.len (counted_trail t y))

  pub after_violated : x ≡ test_of g n s t.value t.len → {i : ℕ} → x ≡ SoftViolated i → {t₁ : Places} {y₁ : Counters} → counted_trail t₁ y₁ ≡ back_all bs o (counted_trail t y) → stepped x t₁ ≡ step_of g n s t
  after_violated e q z = step_violated g n s t e q (ap (λ (h : CountedTrail). h.trail) z ∙ back_trail bs o t.len (counted_trail t y))

  pub after_cut : x ≡ test_of g n s t.value t.len → ((r : ℕ) × (x ≡ RuleBroken r)) ⊎ ((i : ℕ) × (x ≡ SoftViolated i)) → {t₁ : Places} {y₁ : Counters} → counted_trail t₁ y₁ ≡ back_all bs o (counted_trail t y) → stepped x t₁ ≡ step_of g n s t
  after_cut e (inl q) z = after_broken e q.1 z
  after_cut e (inr q) z = after_violated e q.1 z

pub after_full : (g : Rules) (n : ℕ) (s : AssumedEntries) (t : Places) {x : Tested} → x ≡ test_of g n s t.value t.len → x ≡ Full → stepped x t ≡ step_of g n s t
after_full g n s t e q = step_full g n s t e q

pub after_open : (pool : List ℤ) (rows : List Row) (count n : ℕ) (s : AssumedEntries) (t : Places) (bs : Bodies) (o : Index) (y : Counters) {x : Tested} {l : ℤ} → Formed n pool rows count → FormedSoft n s
    → x ≡ test_of (rules pool rows count) n s t.value t.len → x ≡ Open l → {t₁ : Places} {y₁ : Counters} → counted_trail t₁ y₁ ≡ put_all bs o (to_z w32 (of_z w32 l)) Decision (counted_trail t y) → stepped (Open l) t₁ ≡ step_of (rules pool rows count) n s t
after_open pool rows count n s t bs o y {l = l} f w e q z = step_open pool rows count n s t f w e q (ap (λ (h : CountedTrail). h.trail) z ∙ put_trail bs o (to_z w32 (of_z w32 l)) Decision (counted_trail t y))

module _ {g : Rules} {o : Index} {t : Places} {y : Counters} (i : Indexed g o) (f : Good t) (k : Tracks g o t.value y) {t₁ : Places} {y₁ : Counters} where
  pub counted_back : counted_trail t₁ y₁ ≡ back_all (bodies g.pool g.rows) o (counted_trail t y) → Tracks g o t₁.value y₁
  counted_back z =
      let c = back_counted g o i t.len (counted_trail t y) f f.short k in
      let p : t₁.value ≡ (back_all (bodies g.pool g.rows) o (counted_trail t y)).trail.value = ap (λ (h : CountedTrail). h.trail.value) z in
      let q : y₁ ≡ (back_all (bodies g.pool g.rows) o (counted_trail t y)).counters = ap (λ (h : CountedTrail). h.counters) z in
      rw (p, q) c

  pub counted_push : (l : ℤ) → nat_abs l ≤ 1024 → counted_trail t₁ y₁ ≡ put_all (bodies g.pool g.rows) o l Decision (counted_trail t y) → Tracks g o t₁.value y₁
  counted_push l s z =
      let c = put_counted g o i l Decision (counted_trail t y) f.value_len s k in
      let p : t₁.value ≡ (put_all (bodies g.pool g.rows) o l Decision (counted_trail t y)).trail.value = ap (λ (h : CountedTrail). h.trail.value) z in
      let q : y₁ ≡ (put_all (bodies g.pool g.rows) o l Decision (counted_trail t y)).counters = ap (λ (h : CountedTrail). h.counters) z in
      rw (p, q) c

pub counted_open : {pool : List ℤ} {rows : List Row} {count n : ℕ} {o : Index} {s : AssumedEntries} {t : Places} {y : Counters} {x : Tested} → Formed n pool rows count → FormedSoft n s → Indexed (rules pool rows count) o → Good t
    → x ≡ test_of (rules pool rows count) n s t.value t.len → Tracks (rules pool rows count) o t.value y → {l : ℤ} → x ≡ Open l
    → {t₁ : Places} {y₁ : Counters} → counted_trail t₁ y₁ ≡ put_all (bodies pool rows) o (to_z w32 (of_z w32 l)) Decision (counted_trail t y) → Tracks (rules pool rows count) o t₁.value y₁
counted_open {pool} {rows} {count} {n} {s = s} {t = t} f w i g e k {l} q z = counted_push i g k (to_z w32 (of_z w32 l)) (open_small pool rows count n s t.value t.len f w e q) z
