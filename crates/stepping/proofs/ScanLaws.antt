-- What holds in the two loops of the scan, and what it comes to. Assumes nothing.
use mathlib.Core.Path.{◌≡◌, refl, sym, ap, ◌∙◌}
use mathlib.Core.Bool.{Bool, true, false, ◌&&◌}
use mathlib.Core.List.{List, [], ◌∷◌}
use Prim.Native.Nat.{ℕ, zero, suc, ◌+◌, ◌-◌, ◌^◌, ◌≤◌, ◌<◌}
use native.Mathlib.Omega.{arith}
use mir.Syntax.{w64}
use mir.Val.{Fits}
use lib.Dec.{eqb, ltb}
use lib.IntN.{ℤ, pos, nat_abs}
use lib.ListN.{length, get_or}
use borrow.Author.Tests.{eqb-true, eqb-false, ltb-true, ltb-false, eq-eqb, ne_eqb}
use Rattle.asp.specs.declared.rules.Row.{Row}
use Rattle.asp.specs.Sets.{pick, ind}
use Rattle.asp.specs.Literal.{same_ℤ}
use Rattle.asp.specs.Tables.{span, is_choice, is_weighted}
use Rattle.asp.proofs.Signed.{clash}
use Rattle.search.specs.Places.{truth_at}
use Rattle.search.specs.declared.scan.Rest.{Rest}
use Rattle.search.specs.declared.scan.Rest.TheVariants.{All, One, Off}
use Rattle.search.specs.declared.scan.Found.{Found}
use Rattle.search.specs.declared.scan.Found.TheVariants.{Broken, Breaker, Clear}
use Rattle.search.specs.Scan.{Rules, rules, row_of, Readable, cond_at, conditions, free_of, meet_of, meets, begins, head_rest, weighted_rest, rest_of, is_all, note_of, scan_from, scan_of}
use Rattle.search.specs.Weigh.{both_rest}
use Rattle.search.proofs.ScanLaws.{off_stays}
use Rattle.counting.specs.declared.counters.Marks.{Marks}
use Rattle.counting.specs.Counters.{counters, marks}
use Rattle.counting.specs.Moves.{RowWeighs}
use Rattle.counting.specs.Counts.{MarksRight, Tells, Told, NoneBelow, NoneIn, SpotSays, spotted_of, Spotted}
use Rattle.counting.proofs.Sums.{sum_part, sum_none}

-- ---- small functions

pub sought_one : (b : ℕ) → b ≡ 0 → ◌≡◌ {A = ℕ} 1 (pick (eqb b 0) 1 0)
sought_one b e = rw (eq-eqb b 0 e)

pub sought_none : (b : ℕ) → (b ≡ 0 → ⊥) → ◌≡◌ {A = ℕ} 0 (pick (eqb b 0) 1 0)
sought_none b e = rw (ne_eqb b 0 e)

module _ (b r low : ℕ) where
  pub lowest_here : b ≡ 0 → r ≡ pick (eqb b 0) r low
  lowest_here e = rw (eq-eqb b 0 e)

  pub lowest_kept : (b ≡ 0 → ⊥) → low ≡ pick (eqb b 0) r low
  lowest_kept e = rw (ne_eqb b 0 e)

module _ (k x : ℕ) where
  pub differs_not : k ≡ x → false ≡ pick (eqb k x) false true
  differs_not e = rw (eq-eqb k x e)

  pub differs_so : (k ≡ x → ⊥) → true ≡ pick (eqb k x) false true
  differs_so e = rw (ne_eqb k x e)

-- ---- the loops

pub record Inner (g : Rules) (v : List ℕ) (r mid end k : ℕ) : Type 0 where
  pub inside : end ≤ length g.pool
  pub last : end ≡ (row_of g r).first + (row_of g r).heads + (row_of g r).literals
  pub from : (row_of g r).first ≤ k
  pub rest : meets v All (span (cond_at g.pool mid) k (end - k)) ≡ rest_of g v r

-- ---- sixteen rules at once

not_here : (key : List ℕ) (w r : ℕ) {x : Bool} → x ≡ pick (eqb (get_or key r 0) w) false true → x ≡ true → get_or key r 0 ≡ w → ⊥
not_here key w r e q = go (eqb (get_or key r 0) w) refl (sym e ∙ q)
  where
    go : (b : Bool) → eqb (get_or key r 0) w ≡ b → pick b false true ≡ true → get_or key r 0 ≡ w → ⊥
    go true p z y = clash z
    go false p z y = eqb-false (get_or key r 0) w p y

none_both : (key : List ℕ) (w r k m : ℕ) → NoneIn key w r k → NoneIn key w (r + k) m → NoneIn key w r (k + m)
none_both key w r k m p q = record { passed = λ j a b. go j a b (ltb j (r + k)) refl }
  where
    go : (j : ℕ) → r ≤ j → j < r + (k + m) → (b : Bool) → ltb j (r + k) ≡ b → get_or key j 0 ≡ w → ⊥
    go j a b true e = p.passed j a (ltb-true j (r + k) e)
    go j a b false e = q.passed j (ltb-false j (r + k) e) (omega arith)

none_one : (key : List ℕ) (w r : ℕ) → (get_or key r 0 ≡ w → ⊥) → NoneIn key w r 1
none_one key w r h = record { passed = λ j a b. let z : j ≡ r = omega arith in rw z h }

-- both of two halves
both : (x y : Bool) → (x && y) ≡ true → (x ≡ true) × (y ≡ true)
both true true e = (refl, refl)
both true false e = absurd (clash e)
both false y e = absurd (clash e)

pub two_none : (key : List ℕ) (w r : ℕ) {x y : Bool} → x ≡ pick (eqb (get_or key r 0) w) false true → y ≡ pick (eqb (get_or key (r + 1) 0) w) false true → (x && y) ≡ true → NoneIn key w r 2
two_none key w r {x} {y} e f q = let z = both x y q in none_both key w r 1 1 (none_one key w r (not_here key w r e z.0)) (none_one key w (r + 1) (not_here key w (r + 1) f z.1))

pub half_none : (key : List ℕ) (w r k : ℕ) {x y : Bool} → (x ≡ true → NoneIn key w r k) → (y ≡ true → NoneIn key w (r + k) k) → (x && y) ≡ true → NoneIn key w r (k + k)
half_none key w r k {x} {y} e f q = let z = both x y q in none_both key w r k k (e z.0) (f z.1)

pub none_false : (key : List ℕ) (w r k : ℕ) → false ≡ true → NoneIn key w r k
none_false key w r k e = absurd (clash e)

module _ {key : List ℕ} {count w r : ℕ} (o : NoneBelow key count w r) where
  -- the rule's number is another
  pub below_next : {x : Bool} → x ≡ pick (eqb (get_or key r 0) w) false true → x ≡ true → NoneBelow key count w (r + 1)
  below_next e q = record { passed = λ j l c. go j l c (eqb j r) refl }
    where
      go : (j : ℕ) → j < r + 1 → j < count → (b : Bool) → eqb j r ≡ b → get_or key j 0 ≡ w → ⊥
      go j l c true p = let z : j ≡ r = eqb-true j r p in rw z (not_here key w r e q)
      go j l c false p = let z = eqb-false j r p in o.passed j (omega arith) c

  -- those of sixteen rules are others
  pub below_skip : {x : Bool} → (x ≡ true → NoneIn key w r 16) → x ≡ true → NoneBelow key count w (r + 16)
  below_skip e q = record { passed = λ j l c. go j l c (ltb j r) refl }
    where
      go : (j : ℕ) → j < r + 16 → j < count → (b : Bool) → ltb j r ≡ b → get_or key j 0 ≡ w → ⊥
      go j l c true p = o.passed j (ltb-true j r p) c
      go j l c false p = (e q).passed j (ltb-false j r p) (omega arith)

-- the rule's number is the one looked for
pub here : (key : List ℕ) (w r : ℕ) {x : Bool} → x ≡ pick (eqb (get_or key r 0) w) false true → x ≡ false → get_or key r 0 ≡ w
here key w r e q = go (eqb (get_or key r 0) w) refl (sym e ∙ q)
  where
    go : (b : Bool) → eqb (get_or key r 0) w ≡ b → pick b false true ≡ false → get_or key r 0 ≡ w
    go true p z = eqb-true (get_or key r 0) w p
    go false p z = absurd (clash (sym z))

-- a rule with a number below 2 is not off
not_off : (s : Rest) (k : ℕ) → Tells s k → k ≤ 1 → s ≡ Off → ⊥
not_off All k t l e = let z : ◌≡◌ {A = ℕ} 0 1 = cc in omega arith
not_off (One x) k t l e = let z : ◌≡◌ {A = ℕ} 0 1 = cc in omega arith
not_off Off k t l e = omega arith

row_all : (v : List ℕ) (pool : List ℤ) (s : Rest) (b c d : ℕ) → meets v s (span (cond_at pool (b + c)) b (b + c + d - b)) ≡ meets v s (span (cond_at pool (b + c)) b (c + d))
row_all v pool s b c d = let q : b + c + d - b ≡ c + d = omega arith in rw q

module _ (g : Rules) (r : ℕ) where
  pub weighted_row : Readable g → r < g.count → is_weighted (row_of g r).body ≡ true → RowWeighs g.pool (row_of g r)
  weighted_row f c z = record { weighted = z; single = f.single r c; inside = f.weighed r c z; small = f.small r c }

module _ (g : Rules) (v key : List ℕ) (w r : ℕ) where
  short : Told g v key → w ≤ 1 → r < g.count → get_or key r 0 ≡ w → rest_of g v r ≡ Off → ⊥
  short t l h e = not_off (rest_of g v r) (get_or key r 0) (t.each r h) (omega arith)

  pub inner_start : Readable g → Told g v key → w ≤ 1 → r < g.count → get_or key r 0 ≡ w → is_weighted (row_of g r).body ≡ false
      → {k mid e : ℕ} → k ≡ (row_of g r).first → mid ≡ (row_of g r).first + (row_of g r).heads → e ≡ (row_of g r).literals → Inner g v r mid (mid + e) k
  inner_start f t l c q u ek em ee = rw (ek, em, ee) (record {
    inside = f.inside r c;
    last = refl;
    from = omega arith;
    rest = row_all v g.pool All (row_of g r).first (row_of g r).heads (row_of g r).literals ∙ normal (is_weighted (row_of g r).body) u (short t l c q);
  })
    where
      go : (b : Bool) → is_choice (row_of g r).head ≡ b → (meets v (pick b Off All) (conditions g.pool (row_of g r)) ≡ Off → ⊥) → meets v All (conditions g.pool (row_of g r)) ≡ meets v (pick b Off All) (conditions g.pool (row_of g r))
      go true p n = absurd (n (off_stays v (conditions g.pool (row_of g r))))
      go false p n = refl

      normal : (b : Bool) → b ≡ false → (pick b (both_rest (head_rest g.pool v (row_of g r)) (weighted_rest g.pool v (row_of g r))) (meets v (begins (row_of g r).head) (conditions g.pool (row_of g r))) ≡ Off → ⊥)
          → meets v All (conditions g.pool (row_of g r)) ≡ pick b (both_rest (head_rest g.pool v (row_of g r)) (weighted_rest g.pool v (row_of g r))) (meets v (begins (row_of g r).head) (conditions g.pool (row_of g r)))
      normal true z n = absurd (clash (sym z))
      normal false z n = go (is_choice (row_of g r).head) refl n

  -- order 2: a rule with a weighted body
  pub weighted_here : Told g v key → w ≤ 1 → r < g.count → get_or key r 0 ≡ w → is_weighted (row_of g r).body ≡ true
      → {s : Rest} → s ≡ both_rest (head_rest g.pool v (row_of g r)) (weighted_rest g.pool v (row_of g r)) → {f : Found} → f ≡ spotted_of s r → SpotSays g v w f r
  weighted_here t l c number u {s} es ef = rw ef (go s (rest ∙ sym es))
    where
      rest : rest_of g v r ≡ both_rest (head_rest g.pool v (row_of g r)) (weighted_rest g.pool v (row_of g r))
      rest = rw u

      go : (s : Rest) → rest_of g v r ≡ s → SpotSays g v w (spotted_of s r) r
      go All z = let y : Tells All (get_or key r 0) = rw z at (t.each r c) in (refl, c, sym number ∙ y, z)
      go (One x) z = let y : Tells (One x) (get_or key r 0) = rw z at (t.each r c) in (c, sym number ∙ y, z)
      go Off z = absurd (short t l c number z)

module _ (v : List ℕ) (s : Rest) (pool : List ℤ) (mid k e : ℕ) where
  cond_more : k < e → meets v s (span (cond_at pool mid) k (e - k)) ≡ meets v (meet_of v s (cond_at pool mid k)) (span (cond_at pool mid) (k + 1) (e - (k + 1)))
  unfolding meets span
  cond_more h = let q : e - k ≡ suc (e - (k + 1)) = omega arith in rw q

  cond_none : e ≤ k → meets v s (span (cond_at pool mid) k (e - k)) ≡ s
  unfolding meets span
  cond_none h = let q : e - k ≡ 0 = omega arith in rw q

is_all_lem : (s : Rest) → is_all s ≡ true → s ≡ All
is_all_lem All q = refl
is_all_lem (One l) q = absurd (clash q)
is_all_lem Off q = absurd (clash q)

-- one literal that is left stays the only one, or the rule is off
data Stays (l : ℤ) : Rest → Type 0 where
  alone : Stays l (One l)
  off : Stays l Off

one_stays : (v : List ℕ) (l : ℤ) (s : Rest) (ls : List ℤ) → Stays l s → Stays l (meets v s ls)
unfolding meets
one_stays v l s [] h = h
one_stays v l s (x ∷ ls) h = one_stays v l (meet_of v s x) ls (go (eqb (truth_at v x) 1) (eqb (truth_at v x) 0) s h)
  where
    same : (b : Bool) → Stays l (pick b (One l) Off)
    same true = alone
    same false = off

    go : (b d : Bool) (s : Rest) → Stays l s → Stays l (pick b s (pick d (free_of s x) Off))
    go true d s h = h
    go false true All h = elim h [ ]
    go false true (One y) alone = same (same_ℤ l x)
    go false true Off off = off
    go false false s h = off

stays_is : (l : ℤ) (s : Rest) → Stays l s → (s ≡ Off → ⊥) → s ≡ One l
stays_is l All x n = elim x [ ]
stays_is l (One y) alone n = refl
stays_is l Off off n = absurd (n refl)

module _ {g : Rules} {v : List ℕ} {r mid end k : ℕ} where
  pub inner_next : Inner g v r mid end k → k < end → {s : Rest} → s ≡ meet_of v All (cond_at g.pool mid k) → {x : Bool} → x ≡ is_all s → x ≡ true → Inner g v r mid end (k + 1)
  inner_next i h {s} e a q =
      let z : meet_of v All (cond_at g.pool mid k) ≡ All = sym e ∙ is_all_lem s (sym a ∙ q) in
      record {
        inside = i.inside;
        last = i.last;
        from = omega (arith, i.from);
        rest = ap (λ (x : Rest). meets v x (span (cond_at g.pool mid) (k + 1) (end - (k + 1)))) (sym z) ∙ sym (cond_more v All g.pool mid k end h) ∙ i.rest;
      }

  -- its conditions are done: all are true
  pub broken_here : (key : List ℕ) (w : ℕ) → Inner g v r mid end k → end ≤ k → Told g v key → r < g.count → get_or key r 0 ≡ w → SpotSays g v w (Broken r) r
  broken_here key w i h t c q =
      let z : rest_of g v r ≡ All = sym i.rest ∙ cond_none v All g.pool mid k end h in
      let y : Tells All (get_or key r 0) = rw z at (t.each r c) in
      (refl, c, sym q ∙ y, z)

  -- one is not true: it is undecided, and no other is
  pub breaker_here : (key : List ℕ) (w : ℕ) → Inner g v r mid end k → k < end → Told g v key → w ≤ 1 → r < g.count → get_or key r 0 ≡ w
      → {s : Rest} → s ≡ meet_of v All (cond_at g.pool mid k) → {y : Bool} → y ≡ is_all s → y ≡ false → {f : Found} → f ≡ note_of Clear s → SpotSays g v w f r
  breaker_here key w i h t l c q {s} es ey qy ef = rw ef (go s es (sym ey ∙ qy))
    where
      rest : rest_of g v r ≡ meets v (meet_of v All (cond_at g.pool mid k)) (span (cond_at g.pool mid) (k + 1) (end - (k + 1)))
      rest = sym i.rest ∙ cond_more v All g.pool mid k end h

      go : (s : Rest) → s ≡ meet_of v All (cond_at g.pool mid k) → is_all s ≡ false → SpotSays g v w (note_of Clear s) r
      go All p n = absurd (clash (sym n))
      go (One x) p n =
          let a : rest_of g v r ≡ meets v (One x) (span (cond_at g.pool mid) (k + 1) (end - (k + 1))) = rest ∙ ap (λ (z : Rest). meets v z (span (cond_at g.pool mid) (k + 1) (end - (k + 1)))) (sym p) in
          let b : rest_of g v r ≡ One x = stays_is x (rest_of g v r) (rw a (one_stays v x (One x) (span (cond_at g.pool mid) (k + 1) (end - (k + 1))) alone)) (short g v key w r t l c q) in
          let y : Tells (One x) (get_or key r 0) = rw b at (t.each r c) in
          (c, sym q ∙ y, b)
      go Off p n = absurd (short g v key w r t l c q (rest ∙ ap (λ (z : Rest). meets v z (span (cond_at g.pool mid) (k + 1) (end - (k + 1)))) (sym p) ∙ off_stays v (span (cond_at g.pool mid) (k + 1) (end - (k + 1)))))

pub spotted_all : (s : Rest) (r : ℕ) → s ≡ All → Broken r ≡ spotted_of s r
spotted_all s r e = rw e

pub spotted_one : (s : Rest) (r : ℕ) {l : ℤ} → s ≡ One l → Breaker l ≡ spotted_of s r
spotted_one s r e = rw e

pub spotted_off : (s : Rest) (r : ℕ) → s ≡ Off → Clear ≡ spotted_of s r
spotted_off s r e = rw e

-- ---- what the calls ask

module _ (g : Rules) {r k h : ℕ} where
  pub mid_in_lem : Readable g → r < g.count → length g.pool < 2 ^ 64 → k ≡ (row_of g r).first → h ≡ (row_of g r).heads → Fits w64 (k + h)
  mid_in_lem f l z ek eh = omega (arith, f.inside r l)

module _ {g : Rules} {v : List ℕ} {r mid end k : ℕ} (i : Inner g v r mid end k) where
  pub place_in : k < end → k < length g.pool
  place_in h = omega (arith, i.inside)

  pub literal_in : Readable g → r < g.count → k < end → nat_abs (get_or g.pool k (pos 0)) ≤ 1024
  literal_in f l h = f.small r l k i.from (omega (arith, i.last))

-- ---- the scan by the numbers is the scan of all rules

module _ (p : ℕ → Rest) where
  from_broken : (a : Found) (i k r : ℕ) → i ≤ r → r < i + k → ((j : ℕ) → i ≤ j → j < r → is_all (p j) ≡ false) → is_all (p r) ≡ true → scan_from p a i k ≡ Broken r
  unfolding scan_from
  from_broken a i zero r x y h e = absurd (omega arith)
  from_broken a i (suc k) r x y h e = go (eqb i r) refl (from_broken (note_of a (p i)) (i + 1) k r)
    where
      go : (b : Bool) → eqb i r ≡ b → (i + 1 ≤ r → r < i + 1 + k → ((j : ℕ) → i + 1 ≤ j → j < r → is_all (p j) ≡ false) → is_all (p r) ≡ true → scan_from p (note_of a (p i)) (i + 1) k ≡ Broken r)
          → pick (is_all (p i)) (Broken i) (scan_from p (note_of a (p i)) (i + 1) k) ≡ Broken r
      go true q n = let z : i ≡ r = eqb-true i r q in rw (z, e)
      go false q n = let z = eqb-false i r q in rw (h i (omega arith) (omega arith)) (n (omega arith) (omega arith) (λ j s t. h j (omega arith) t) e)

  from_kept : (l : ℤ) (i k : ℕ) → ((j : ℕ) → i ≤ j → j < i + k → is_all (p j) ≡ false) → scan_from p (Breaker l) i k ≡ Breaker l
  unfolding scan_from
  from_kept l i zero h = refl
  from_kept l i (suc k) h = rw (h i (omega arith) (omega arith)) (from_kept l (i + 1) k (λ j a b. h j (omega arith) (omega arith)))

  from_breaker : (l : ℤ) (i k r : ℕ) → i ≤ r → r < i + k → ((j : ℕ) → i ≤ j → j < i + k → is_all (p j) ≡ false) → ((j : ℕ) → i ≤ j → j < r → p j ≡ Off) → p r ≡ One l → scan_from p Clear i k ≡ Breaker l
  unfolding scan_from
  from_breaker l i zero r x y h g e = absurd (omega arith)
  from_breaker l i (suc k) r x y h g e = go (eqb i r) refl (from_breaker l (i + 1) k r)
    where
      go : (b : Bool) → eqb i r ≡ b → (i + 1 ≤ r → r < i + 1 + k → ((j : ℕ) → i + 1 ≤ j → j < i + 1 + k → is_all (p j) ≡ false) → ((j : ℕ) → i + 1 ≤ j → j < r → p j ≡ Off) → p r ≡ One l → scan_from p Clear (i + 1) k ≡ Breaker l)
          → pick (is_all (p i)) (Broken i) (scan_from p (note_of Clear (p i)) (i + 1) k) ≡ Breaker l
      go true q n = let z : i ≡ r = eqb-true i r q in rw (z, e) (from_kept l (r + 1) k (λ j a b. h j (omega arith) (omega arith)))
      go false q n = let z = eqb-false i r q in rw (g i (omega arith) (omega arith)) (n (omega arith) (omega arith) (λ j a b. h j (omega arith) (omega arith)) (λ j a b. g j (omega arith) b) e)

  from_clear : (i k : ℕ) → ((j : ℕ) → i ≤ j → j < i + k → p j ≡ Off) → scan_from p Clear i k ≡ Clear
  unfolding scan_from
  from_clear i zero h = refl
  from_clear i (suc k) h = rw (h i (omega arith) (omega arith)) (from_clear (i + 1) k (λ j a b. h j (omega arith) (omega arith)))

tells_not : (s : Rest) (k : ℕ) → Tells s k → (k ≡ 0 → ⊥) → is_all s ≡ false
tells_not All k t n = absurd (n t)
tells_not (One l) k t n = refl
tells_not Off k t n = refl

tells_off : (s : Rest) (k : ℕ) → Tells s k → (k ≡ 0 → ⊥) → (k ≡ 1 → ⊥) → s ≡ Off
tells_off All k t n m = absurd (n t)
tells_off (One l) k t n m = absurd (m t)
tells_off Off k t n m = refl

module _ (g : Rules) (v key : List ℕ) (m : Marks) (t : Told g v key) (k : MarksRight g.count (counters key m)) where
  -- where no rule is broken, no number is 0
  no_zero : m.broken ≡ 0 → (j : ℕ) → j < g.count → get_or key j 0 ≡ 0 → ⊥
  no_zero e j h z = let y = sum_part (λ r. ind (eqb (get_or key r 0) 0)) j 0 g.count (omega arith) (omega arith) in absurd (omega (arith, k.broken, rw (eq-eqb (get_or key j 0) 0 z) at y))

  no_zeros : ((j : ℕ) → j < g.count → get_or key j 0 ≡ 0 → ⊥) → m.broken ≡ 0
  no_zeros h = k.broken ∙ sum_none (λ r. ind (eqb (get_or key r 0) 0)) 0 g.count (λ j a b. ap ind (ne_eqb (get_or key j 0) 0 (h j (omega arith))))

  unbroken : m.broken ≡ 0 → (f : Found) (r : ℕ) → NoneBelow key g.count 1 r → SpotSays g v 1 f r → f ≡ scan_of g v
  unbroken e (Broken b) r p s = absurd (omega (arith, s.2))
  unbroken e (Breaker l) r p s = sym (from_breaker (rest_of g v) l 0 g.count r (omega arith) (omega (arith, s.0))
      (λ j a b. tells_not (rest_of g v j) (get_or key j 0) (t.each j (omega arith)) (no_zero e j (omega arith)))
      (λ j a b. tells_off (rest_of g v j) (get_or key j 0) (t.each j (omega (arith, s.0))) (no_zero e j (omega (arith, s.0))) (p.passed j b (omega (arith, s.0)))) s.2)
  unbroken e Clear r p s = sym (from_clear (rest_of g v) 0 g.count (λ j a b. tells_off (rest_of g v j) (get_or key j 0) (t.each j (omega arith)) (no_zero e j (omega arith)) (p.passed j (omega arith) (omega arith))))

  broken : (m.broken ≡ 0 → ⊥) → (f : Found) (r : ℕ) → NoneBelow key g.count 0 r → SpotSays g v 0 f r → f ≡ scan_of g v
  broken n (Broken b) r p s = ap Broken s.0 ∙ sym (from_broken (rest_of g v) Clear 0 g.count r (omega arith) (omega (arith, s.1))
      (λ j a b. tells_not (rest_of g v j) (get_or key j 0) (t.each j (omega (arith, s.1))) (p.passed j b (omega (arith, s.1)))) (ap is_all s.3))
  broken n (Breaker l) r p s = absurd (omega (arith, s.1))
  broken n Clear r p s = absurd (n (no_zeros (λ j h. p.passed j (omega arith) h)))

  pub scan_done : {w : ℕ} {f : Found} {r : ℕ} → w ≡ pick (eqb m.broken 0) 1 0 → Spotted g v key w f r → f ≡ scan_of g v
  scan_done {w} {f} {r} e s = go (eqb m.broken 0) refl (rw e at s)
    where
      go : (b : Bool) → eqb m.broken 0 ≡ b → Spotted g v key (pick b 1 0) f r → f ≡ scan_of g v
      go true q s = unbroken (eqb-true m.broken 0 q) f r s.below s.says
      go false q s = broken (eqb-false m.broken 0 q) f r s.below s.says

  pub low_done : {w : ℕ} {f : Found} {r : ℕ} → w ≡ pick (eqb m.broken 0) 1 0 → Spotted g v key w f r → {x : ℕ} → x ≡ pick (eqb m.broken 0) r m.low → {z : ℕ} → z ≡ pick (eqb m.broken 0) g.count r → {a : ℕ} → MarksRight g.count (counters key (marks m.broken x z a))
  low_done {w} {f} {r} e s ex ez = rw (ex, ez) (record { long = k.long; broken = k.broken; low = go (eqb m.broken 0) refl (rw e at s); zero = none (eqb m.broken 0) refl (rw e at s) })
    where
      some : (x : ℕ) → (x ≡ 0 → ⊥) → (x ≡ 1 → ⊥) → 2 ≤ x
      some x a b = omega arith

      positive : (x : ℕ) → (x ≡ 0 → ⊥) → 1 ≤ x
      positive x a = omega arith

      go : (b : Bool) → eqb m.broken 0 ≡ b → Spotted g v key (pick b 1 0) f r → (j : ℕ) → j < pick b r m.low → j < g.count → 2 ≤ get_or key j 0
      go true q s j l c = some (get_or key j 0) (no_zero (eqb-true m.broken 0 q) j c) (s.below.passed j l c)
      go false q s j l c = k.low j l c

      none : (b : Bool) → eqb m.broken 0 ≡ b → Spotted g v key (pick b 1 0) f r → (j : ℕ) → j < pick b g.count r → j < g.count → 1 ≤ get_or key j 0
      none true q s j l c = positive (get_or key j 0) (no_zero (eqb-true m.broken 0 q) j c)
      none false q s j l c = positive (get_or key j 0) (s.below.passed j l c)

pub start_passed : {count : ℕ} {key : List ℕ} {m : Marks} → MarksRight count (counters key m) → {w : ℕ} → w ≡ pick (eqb m.broken 0) 1 0 → {x : ℕ} → x ≡ pick (eqb m.broken 0) m.low m.zero → NoneBelow key count w x
start_passed {count} {key} {m} k e q = rw (e, q) (go (eqb m.broken 0))
  where
    go : (b : Bool) → NoneBelow key count (pick b 1 0) (pick b m.low m.zero)
    go true = record { passed = λ j l c z. absurd (omega (arith, k.low j l c)) }
    go false = record { passed = λ j l c z. absurd (omega (arith, k.zero j l c)) }

pub low_next : {pool : List ℤ} {rows : List Row} {count : ℕ} {v key : List ℕ} {m : Marks} → Told (rules pool rows count) v key → MarksRight count (counters key m) → {w r : ℕ} {f : Found} → Spotted (rules pool rows count) v key w f r → w ≡ pick (eqb m.broken 0) 1 0
    → {x : ℕ} → x ≡ pick (eqb m.broken 0) r m.low → {z : ℕ} → z ≡ pick (eqb m.broken 0) count r → {b : ℕ} → b ≡ m.broken → {a : ℕ} → MarksRight count (counters key (marks b x z a))
low_next {pool} {rows} {count} {v} {key} {m} t k s e ex ez eb = rw eb (low_done (rules pool rows count) v key m t k e s ex ez)

pub want_small : (b : ℕ) {w : ℕ} → w ≡ pick (eqb b 0) 1 0 → w ≤ 1
want_small b e = rw e (go (eqb b 0))
  where
    go : (x : Bool) → pick x 1 0 ≤ 1
    go true = omega arith
    go false = omega arith
