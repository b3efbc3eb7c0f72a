-- What a store to the tables of a trail is for its trail. Assumes nothing.
use mathlib.Core.Path.{◌≡◌, refl, sym, ap, ◌∙◌}
use mathlib.Core.Bool.{Bool, true, false}
use mathlib.Core.List.{List, [], ◌∷◌}
use mathlib.Core.Option.{Option, none, some}
use Prim.Native.Nat.{ℕ, zero, suc, ◌<◌, ◌≤◌}
use native.Mathlib.Numerals.{add-one}
use native.Mathlib.Omega.{arith}
use lib.Dec.{eqb}
use lib.IntN.{ℤ, pos, neg_ℤ, nat_abs}
use lib.ListN.{length, get_or, set}
use lib.Seq.{get_or-set_same, get_or-set_other}
use borrow.Author.Tests.{ne_eqb, eqb-true, eqb-false}
use Rattle.asp.specs.Sets.{pick}
use Rattle.asp.proofs.Signed.{abs_neg}
use Rattle.search.specs.Trail.{flipped, Trail, literal_of, NotOn, FormedTrail, flip}
use Rattle.search.specs.declared.trail.Places.{Places}
use Rattle.search.specs.declared.trail.Mark.{Mark}
use Rattle.search.specs.declared.trail.Mark.TheVariants.{Free, Flipped}
use Rattle.search.specs.Places.{places, side_of, is_decision, put_of, drop_of, back_from, Good, marked_by, trail_at, trail_of, value_on}
use Rattle.search.proofs.PlacesLaws.{good_drop}

pub literal_marked : (b : Bool) (l : ℤ) → literal_of (marked_by b l) ≡ l
literal_marked true l = refl
literal_marked false l = refl

-- the values are those of the trail; the places from k on are empty
abbrev pub Valued : List ℕ → Trail → Type 0
Valued v t = (a : ℕ) → get_or v a 0 ≡ value_on t a

abbrev pub Empty : List ℤ → List Mark → ℕ → Type 0
Empty ls ms k = (i : ℕ) → k ≤ i → (get_or ls i (pos 0) ≡ pos 0) × (get_or ms i Free ≡ Free)

-- ---- the trail

trail_set_lem : (ls : List ℤ) (ms : List Mark) (i : ℕ) (l : ℤ) (m : Mark) (k : ℕ) → k ≤ i → trail_at (set ls i l) (set ms i m) k ≡ trail_at ls ms k
trail_set_lem ls ms i l m zero h = refl
trail_set_lem ls ms i l m (suc k) h =
    rw (get_or-set_other ls i k l (pos 0) (λ e. omega arith), get_or-set_other ms i k m Free (λ e. omega arith), trail_set_lem ls ms i l m k (omega arith))

pub put_trail : (l : ℤ) (m : Mark) (t : Places) → Good t → t.len < 1024 → trail_of (put_of l m t) ≡ marked_by (is_decision m) l ∷ trail_of t
unfolding put_of
put_trail l m t g h =
    rw (add-one, get_or-set_same t.lits t.len l (pos 0) (omega (arith, g.lits_len)), get_or-set_same t.marks t.len m Free (omega (arith, g.marks_len)), trail_set_lem t.lits t.marks t.len l m t.len (omega arith))

pub trail_length : (ls : List ℤ) (ms : List Mark) (k : ℕ) → length (trail_at ls ms k) ≡ k
trail_length ls ms zero = refl
trail_length ls ms (suc k) = ap suc (trail_length ls ms k)

-- ---- the values

value_set : (v : List ℕ) (x s a : ℕ) → x < length v → get_or (set v x s) a 0 ≡ pick (eqb a x) s (get_or v a 0)
value_set v x s a h = go (eqb a x) refl
  where
    go : (b : Bool) → eqb a x ≡ b → get_or (set v x s) a 0 ≡ pick b s (get_or v a 0)
    go true e = rw (eqb-true a x e) (get_or-set_same v x s 0 h)
    go false e = get_or-set_other v x a s 0 (eqb-false a x e)

pub put_values : (l : ℤ) (m : Mark) (t : Places) → Good t → nat_abs l ≤ 1024 → Valued t.value (trail_of t) → Valued (put_of l m t).value (marked_by (is_decision m) l ∷ trail_of t)
unfolding put_of
put_values l m t g h w a =
    rw (literal_marked (is_decision m) l, ← w a) (value_set t.value (nat_abs l) (side_of l) a (omega (arith, g.value_len)))

pub value_off : (t : Trail) (a : ℕ) → NotOn a t → value_on t a ≡ 0
value_off [] a h = refl
value_off (s ∷ t) a h = rw (ne_eqb a (nat_abs (literal_of s)) h.0) (value_off t a h.1)

drop_values : (v : List ℕ) (x s : ℕ) (t : Trail) → x < length v → NotOn x t → ((a : ℕ) → get_or v a 0 ≡ pick (eqb a x) s (value_on t a)) → Valued (set v x 0) t
drop_values v x s t h o w a = value_set v x 0 a h ∙ go (eqb a x) refl
  where
    go : (b : Bool) → eqb a x ≡ b → pick b 0 (get_or v a 0) ≡ value_on t a
    go true e = sym (rw (eqb-true a x e) (value_off t x o))
    go false e = rw e at (w a)

-- ---- the empty places

pub put_empty : (l : ℤ) (m : Mark) (t : Places) → Empty t.lits t.marks t.len → Empty (put_of l m t).lits (put_of l m t).marks (put_of l m t).len
unfolding put_of
put_empty l m t e i h =
    rw (get_or-set_other t.lits t.len i l (pos 0) (λ q. omega arith), get_or-set_other t.marks t.len i m Free (λ q. omega arith)) (e i (omega arith))

drop_empty : (ls : List ℤ) (ms : List Mark) (k : ℕ) → k < length ls → k < length ms → Empty ls ms (suc k) → Empty (set ls k (pos 0)) (set ms k Free) k
drop_empty ls ms k h j e i b = go (eqb i k) refl
  where
    go : (x : Bool) → eqb i k ≡ x → (get_or (set ls k (pos 0)) i (pos 0) ≡ pos 0) × (get_or (set ms k Free) i Free ≡ Free)
    go true q = let z : i ≡ k = eqb-true i k q in rw z (get_or-set_same ls k (pos 0) (pos 0) h, get_or-set_same ms k Free Free j)
    go false q =
        let z = eqb-false i k q in
        rw (get_or-set_other ls k i (pos 0) (pos 0) z, get_or-set_other ms k i Free Free z) (e i (omega arith))

-- ---- back

-- what the cut of the trail says of the tables after it
abbrev pub BackSays : Option Trail → Places → Type 0
BackSays none t = t.len ≡ 0
BackSays (some u) t = (trail_of t ≡ u) × (1 ≤ t.len)

-- and the rest that they say
pub record Rest (t : Places) : Type 0 where
  pub valued : Valued t.value (trail_of t)
  pub empty : Empty t.lits t.marks t.len

put_len : (l : ℤ) (m : Mark) (t : Places) → 1 ≤ (put_of l m t).len
unfolding put_of
put_len l m t = omega arith

-- the literal at k is flipped, or taken away
module _ (n k : ℕ) (ls : List ℤ) (ms : List Mark) (v : List ℕ) (g : Good (places ls ms v (suc k))) (w : FormedTrail n (trail_at ls ms (suc k))) (i : Valued v (trail_at ls ms (suc k))) (z : Empty ls ms (suc k)) where
  abbrev l : ℤ
  l = get_or ls k (pos 0)

  abbrev d : Places
  d = places (set ls k (pos 0)) (set ms k Free) (set v (nat_abs l) 0) k

  same : nat_abs (literal_of (marked_by (is_decision (get_or ms k Free)) l)) ≡ nat_abs l
  same = ap nat_abs (literal_marked (is_decision (get_or ms k Free)) l)

  drop_good : Good d
  unfolding drop_of
  drop_good = good_drop k (places ls ms v (suc k)) g (omega (arith, g.short))

  drop_trail : trail_of d ≡ trail_at ls ms k
  drop_trail = trail_set_lem ls ms k (pos 0) Free k (omega arith)

  drop_valued : Valued d.value (trail_at ls ms k)
  drop_valued =
      drop_values v (nat_abs l) (side_of (literal_of (marked_by (is_decision (get_or ms k Free)) l))) (trail_at ls ms k) (omega (arith, g.small k, g.value_len)) (rw same at w.1)
      (λ a. rw same at (i a))

  dropped : Rest d
  dropped = record { valued = rw drop_trail drop_valued; empty = drop_empty ls ms k (omega (arith, g.lits_len, g.short)) (omega (arith, g.marks_len, g.short)) z }

  flipped_says : BackSays (some (flipped (neg_ℤ l) ∷ trail_at ls ms k)) (put_of (neg_ℤ l) Flipped d) × Rest (put_of (neg_ℤ l) Flipped d)
  flipped_says =
      let e : trail_of (put_of (neg_ℤ l) Flipped d) ≡ flipped (neg_ℤ l) ∷ trail_of d = put_trail (neg_ℤ l) Flipped d drop_good (omega (arith, g.short)) in
      let h : nat_abs (neg_ℤ l) ≤ 1024 = rw abs_neg (g.small k) in (
        (e ∙ rw drop_trail, put_len (neg_ℤ l) Flipped d),
        record {
          valued = rw e (put_values (neg_ℤ l) Flipped d drop_good h dropped.valued);
          empty = put_empty (neg_ℤ l) Flipped d dropped.empty;
        },
      )

  either : BackSays (flip (trail_at ls ms k)) (back_from k d) × Rest (back_from k d) → (b : Bool)
      → BackSays (flip (marked_by b l ∷ trail_at ls ms k)) (pick b (put_of (neg_ℤ l) Flipped d) (back_from k d)) × Rest (pick b (put_of (neg_ℤ l) Flipped d) (back_from k d))
  either r true = flipped_says
  either r false = r

module _ (n : ℕ) where
  pub back_says : (k : ℕ) (ls : List ℤ) (ms : List Mark) (v : List ℕ) → Good (places ls ms v k) → FormedTrail n (trail_at ls ms k) → Valued v (trail_at ls ms k) → Empty ls ms k
      → BackSays (flip (trail_at ls ms k)) (back_from k (places ls ms v k)) × Rest (back_from k (places ls ms v k))
  unfolding back_from drop_of
  back_says zero ls ms v g w i z = (refl, record { valued = i; empty = z })
  back_says (suc k) ls ms v g w i z =
      let d = dropped n k ls ms v g w i z in
      let t = drop_trail n k ls ms v g w i z in
      either n k ls ms v g w i z
      (rw t at
      (back_says k (set ls k (pos 0)) (set ms k Free) (set v (nat_abs (get_or ls k (pos 0))) 0) (drop_good n k ls ms v g w i z) (rw t w.2) d.valued d.empty))
      (is_decision (get_or ms k Free))
