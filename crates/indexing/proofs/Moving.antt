-- The moves keep `Equipped`; a full trail that the machine's test leaves is a leaf. Assumes nothing.
use Rattle.std.specs.Prelude.{Option, Some, None}
use mathlib.Core.Path.{◌≡◌, refl, sym, ap, ◌∙◌}
use mathlib.Core.Bool.{Bool, true, false}
use mathlib.Core.List.{List, [], ◌∷◌}
use Prim.Native.Nat.{ℕ, zero, suc, ◌+◌, ◌≤◌, ◌<◌}
use native.Mathlib.Omega.{arith}
use lib.Dec.{eqb, leb, eqb→eq}
use lib.IntN.{ℤ, nat_abs}
use lib.ListN.{get_or, replicate}
use borrow.Author.Tests.{eqb-true, eqb-false, leb-true}
use Rattle.asp.specs.declared.rules.Row.{Row}
use Rattle.asp.specs.Sets.{In, pick}
use Rattle.search.specs.declared.trail.Places.{Places}
use Rattle.search.specs.Places.{places, Good, SoundTrail, side_of, value_on, trail_of, back_of}
use Rattle.asp.specs.Literal.{is_negative}
use Rattle.asp.proofs.Signed.{clash}
use Rattle.search.specs.Trail.{Trail, literal_of, FormedTrail}
use Rattle.search.specs.Scan.{Rules, rules, is_all, note_of, scan_from, scan_of, rest_of, Readable}
use Rattle.search.specs.Soft.{AssumedEntries, violated_of}
use Rattle.search.specs.Branch.{branch_of}
use Rattle.search.specs.Step.{open_or, unbroken, test_by, test_of, Stepped, stepped, moved_by, step_of}
use Rattle.search.specs.declared.scan.Rest.{Rest}
use Rattle.search.specs.declared.scan.Rest.TheVariants.{All, One, Off}
use Rattle.search.specs.declared.scan.Found.{Found}
use Rattle.search.specs.declared.scan.Found.TheVariants.{Broken, Breaker, Clear}
use Rattle.search.specs.declared.step.Tested.{Tested}
use Rattle.search.specs.declared.step.Tested.TheVariants.{RuleBroken, Full, SoftViolated, Open}
use Rattle.search.proofs.Counts.{on_not, all_on}
use Rattle.search.proofs.Opens.{zero_off}
use Rattle.search.proofs.TrailTables.{trail_length}
use Rattle.counting.specs.Counts.{Tells}
use Rattle.counting.proofs.Telling.{told}
use Rattle.counting.specs.declared.counters.Marks.{Marks}
use Rattle.counting.specs.declared.index.Index.{Index}
use Rattle.counting.specs.declared.counters.Counters.{Counters}
use Rattle.counting.specs.Counters.{counters, Bodies, bodies}
use Rattle.counting.specs.Moves.{CountedTrail, counted_trail, back_all}
use Rattle.counting.specs.Counts.{Tracks, Indexed}
use Rattle.stepping.proofs.StepLaws.{back_trail, counted_back}
use Rattle.indexing.specs.Leaf.{Whole, Leaf, Indexes, Equipped}
use Rattle.indexing.proofs.Indexing.{indexed}

module _ {g : Rules} {o h : Index} {v : List ℕ} {t : Counters} (x : Equipped g o h v t) where
  pub equipped_indexed : Indexed g o
  equipped_indexed = indexed g o x.readied x.conditions

  pub equipped_tracks : Tracks g o v t
  equipped_tracks = x.counted

  pub equipped_after : {v₁ : List ℕ} {t₁ : Counters} → Tracks g o v₁ t₁ → Equipped g o h v₁ t₁
  equipped_after k = record { readied = x.readied; conditions = x.conditions; heads = x.heads; counted = k }

pub back_is : (bs : Bodies) (o : Index) (t : Places) (y : Counters) {t₁ : Places} {y₁ : Counters} → counted_trail t₁ y₁ ≡ back_all bs o (counted_trail t y) → t₁ ≡ back_of t
back_is bs o t y z = ap (λ (h : CountedTrail). h.trail) z ∙ back_trail bs o t.len (counted_trail t y)

pub back_equipped : {g : Rules} {o h : Index} {t : Places} {y : Counters} → Equipped g o h t.value y → Good t → {t₁ : Places} {y₁ : Counters} → counted_trail t₁ y₁ ≡ back_all (bodies g.pool g.rows) o (counted_trail t y) → Equipped g o h t₁.value y₁
back_equipped x f z = equipped_after x (counted_back (equipped_indexed x) f x.counted z)

module _ {g : Rules} {o h : Index} (x : Indexes g o h) where
  pub lists_indexed : Indexed g o
  lists_indexed = indexed g o x.readied x.conditions

  -- the numbers filled in for the values of a trail
  pub equipped : {v : List ℕ} {t : Counters} → Tracks g o v t → Equipped g o h v t
  equipped e = record { readied = x.readied; conditions = x.conditions; heads = x.heads; counted = e }

pub lists_readable : {g : Rules} {o h : Index} → Indexes g o h → Readable g
lists_readable x = x.readied.readable

-- ---- a full trail

side_small : (l : ℤ) → side_of l ≤ 2
side_small l = go (is_negative l)
  where
    go : (b : Bool) → pick b 2 1 ≤ 2
    go true = omega arith
    go false = omega arith

pub value_small : (t : Trail) (a : ℕ) → value_on t a ≤ 2
value_small [] a = omega arith
value_small (s ∷ t) a = go (eqb a (nat_abs (literal_of s))) (value_small t a)
  where
    go : (b : Bool) → value_on t a ≤ 2 → pick b (side_of (literal_of s)) (value_on t a) ≤ 2
    go true r = side_small (literal_of s)
    go false r = r

value_in : (n : ℕ) (t : Trail) → FormedTrail n t → (a : ℕ) → (value_on t a ≡ 0 → ⊥) → In n a
value_in n [] w a h = absurd (h refl)
value_in n (s ∷ t) w a h = go (eqb a (nat_abs (literal_of s))) refl h (value_in n t w.2 a)
  where
    go : (b : Bool) → eqb a (nat_abs (literal_of s)) ≡ b → (pick b (side_of (literal_of s)) (value_on t a) ≡ 0 → ⊥) → ((value_on t a ≡ 0 → ⊥) → In n a) → In n a
    go true e k r = rw (eqb-true a (nat_abs (literal_of s)) e) w.0
    go false e k r = r k

module _ {n : ℕ} {t : Places} (s : SoundTrail n t) where
  pub sound_small_values : (a : ℕ) → get_or t.value a 0 ≤ 2
  sound_small_values a = rw (s.valued a) (value_small (trail_of t) a)

  whole : n ≤ t.len → Whole n t.value
  whole l = record {
    full = λ a i e. on_not (trail_of t) a (zero_off (trail_of t) a (sym (s.valued a) ∙ e)) (all_on n (trail_of t) s.formed (rw (trail_length t.lits t.marks t.len) l) a i);
    only = record { only = λ a u. value_in n (trail_of t) s.formed a (λ e. let z = eqb→eq (get_or t.value a 0) 1 u in absurd (omega (arith, s.valued a))) };
  }

is_all_lem : (x : Rest) → is_all x ≡ false → x ≡ All → ⊥
is_all_lem x e q = clash (sym e ∙ ap is_all q)

abbrev IsBroken : Found → Type 0
IsBroken (Broken r) = Unit {0}
IsBroken (Breaker l) = ⊥
IsBroken Clear = ⊥

scan_broken : (p : ℕ → Rest) (a : Found) (r k j : ℕ) → r ≤ j → j < r + k → p j ≡ All → IsBroken (scan_from p a r k)
unfolding scan_from
scan_broken p a r zero j l u e = absurd (omega arith)
scan_broken p a r (suc k) j l u e = go (is_all (p r)) refl (scan_broken p (note_of a (p r)) (r + 1) k j)
  where
    go : (b : Bool) → is_all (p r) ≡ b → (r + 1 ≤ j → j < r + 1 + k → p j ≡ All → IsBroken (scan_from p (note_of a (p r)) (r + 1) k)) → IsBroken (pick b (Broken r) (scan_from p (note_of a (p r)) (r + 1) k))
    go true q f = tt
    go false q f = near (eqb r j) refl
      where
        near : (b : Bool) → eqb r j ≡ b → IsBroken (scan_from p (note_of a (p r)) (r + 1) k)
        near true z = let y : r ≡ j = eqb-true r j z in absurd (is_all_lem (p r) q (rw y e))
        near false z = let y = eqb-false r j z in f (omega arith) (omega arith) e

tells_zero : (x : Rest) (k : ℕ) → Tells x k → k ≡ 0 → x ≡ All
tells_zero All k t e = refl
tells_zero (One l) k t e = absurd (omega arith)
tells_zero Off k t e = absurd (omega arith)

abbrev IsFull : Tested → Type 0
IsFull Full = Unit {0}
IsFull (RuleBroken r) = ⊥
IsFull (SoftViolated i) = ⊥
IsFull (Open l) = ⊥

full_long : (n : ℕ) (s : AssumedEntries) (v : List ℕ) (len : ℕ) (f : Found) → IsFull (unbroken n s v len f) → n ≤ len
unfolding unbroken
full_long n s v len f = go (leb n len) refl (violated_of s v)
  where
    go : (b : Bool) → leb n len ≡ b → (x : Option ℕ) → IsFull (pick b Full (open_or (branch_of s.first s.wished s.count v n f) x)) → n ≤ len
    go true e x u = leb-true n len e
    go false e (Some i) u = absurd u
    go false e None u = absurd u

full_says : (n : ℕ) (s : AssumedEntries) (v : List ℕ) (len : ℕ) (f : Found) → IsFull (test_by n s v len f) → (n ≤ len) × (IsBroken f → ⊥)
full_says n s v len (Broken r) u = absurd u
full_says n s v len (Breaker l) u = (full_long n s v len (Breaker l) u, λ k. k)
full_says n s v len Clear u = (full_long n s v len Clear u, λ k. k)

-- A full trail that the test leaves to the judge is a leaf.
module _ {n : ℕ} {pool : List ℤ} {rows : List Row} {count : ℕ} (s : AssumedEntries) (t : Places) {t₁ : Places} {o h : Index} {y : Counters} {x : Tested} where
  pub full_leaf : stepped x t₁ ≡ step_of (rules pool rows count) n s t → x ≡ Full → SoundTrail n t₁ → Equipped (rules pool rows count) o h t₁.value y → Leaf (rules pool rows count) n o h t₁.value y
  full_leaf e q f k =
      let g = rules pool rows count in
      let z : test_of (rules pool rows count) n s t.value t.len ≡ Full = sym (ap (λ (w : Stepped). w.tested) e) ∙ q in
      let m : t₁ ≡ t = ap (λ (w : Stepped). w.trail) e ∙ ap (λ (w : Tested). moved_by w t) z in
      let u : test_of (rules pool rows count) n s t₁.value t₁.len ≡ Full = rw m z in
      let i : IsFull (test_of (rules pool rows count) n s t₁.value t₁.len) = rw u tt in
      let says = full_says n s t₁.value t₁.len (scan_of (rules pool rows count) t₁.value) i in
      record {
        readied = k.readied;
        conditions = k.conditions;
        heads = k.heads;
        counted = k.counted;
        whole = whole f says.0;
        unbroken = record {
          unbroken = λ r c w. says.1 (scan_broken (rest_of (rules pool rows count) t₁.value) Clear 0 count r (omega arith) (omega arith)
              (tells_zero (rest_of (rules pool rows count) t₁.value r) (get_or y.key r 0) ((told (rules pool rows count) o (equipped_indexed k) t₁.value y k.counted).each r c) w));
        };
      }

pub leaf_equipped : {g : Rules} {n : ℕ} {o h : Index} {v : List ℕ} {t : Counters} → Leaf g n o h v t → Equipped g o h v t
leaf_equipped l = record { readied = l.readied; conditions = l.conditions; heads = l.heads; counted = l.counted }

pub zeros_small : (n e : ℕ) → get_or (replicate n 0) e 0 < 2048
zeros_small zero e = omega arith
zeros_small (suc n) zero = omega arith
zeros_small (suc n) (suc e) = zeros_small n e
