-- The equations that the moves follow. Assumes nothing.
use mathlib.Core.Path.{◌≡◌, refl, sym, ap, ap₂, ◌∙◌}
use mathlib.Core.Bool.{Bool, true, false}
use mathlib.Core.List.{List}
use Prim.Native.Nat.{ℕ, zero, suc, ◌+◌, ◌-◌, ◌≤◌, ◌<◌}
use native.Mathlib.Omega.{arith}
use lib.Dec.{ltb}
use lib.IntN.{ℤ, pos, neg_ℤ, nat_abs}
use lib.ListN.{get_or}
use mir.Syntax.{w32}
use mir.Val.{to_z, of_z}
use mir.Facts.{to_z-of_z}
use Rattle.asp.proofs.Signed.{abs_neg, small_fits}
use Rattle.search.specs.declared.trail.Places.{Places}
use Rattle.search.specs.declared.trail.Mark.{Mark}
use Rattle.search.specs.declared.trail.Mark.TheVariants.{Free, Decision, Flipped}
use Rattle.search.specs.Places.{is_decision, side_of, put_of, drop_of, Good}
use Rattle.search.proofs.PlacesLaws.{good_drop}
use Rattle.counting.specs.declared.index.Index.{Index}
use Rattle.counting.specs.declared.counters.Counters.{Counters}
use Rattle.counting.specs.Counters.{decide_of, release_of, Bodies, weigh_of}
use Rattle.counting.specs.Moves.{CountedTrail, counted_trail, put_all, drop_all, back_all_from, back_all}
use Rattle.counting.proofs.CounterLaws.{weigh_none}

-- a small i32 read back
back_to : (l : ℤ) → nat_abs l ≤ 1024 → to_z w32 (of_z w32 l) ≡ l
back_to l h = to_z-of_z (small_fits l h)

pub atom_small : (l : ℤ) → nat_abs l ≤ 1024 → {a : ℕ} → a ≡ nat_abs (to_z w32 (of_z w32 l)) → a ≤ 1024
atom_small l h e = rw (e, back_to l h) h

pub back_small : (l : ℤ) → nat_abs l ≤ 1024 → nat_abs (to_z w32 (of_z w32 l)) ≤ 1024
back_small l h = rw (back_to l h) h

module _ (bs : Bodies) (o : Index) (l : ℤ) (mark : Mark) (t : Places) (y : Counters) where
  pub put_done : nat_abs l ≤ 1024 → {a s : ℕ} → a ≡ nat_abs (to_z w32 (of_z w32 l)) → s ≡ side_of (to_z w32 (of_z w32 l))
      → {y₁ : Counters} → y₁ ≡ decide_of o a s (release_of o a (get_or t.value a 0) y) → {t₁ : Places} → t₁ ≡ put_of (to_z w32 (of_z w32 l)) mark t
      → {y₂ : Counters} → y₂ ≡ weigh_of bs o a t₁.value y₁ → counted_trail t₁ y₂ ≡ put_all bs o l mark (counted_trail t y)
  unfolding put_all
  put_done h ea es ey et ez = rw (ez, et, ey, ea, es, back_to l h)

-- the same, where no rule with a weighted body names the atom
module _ (bs : Bodies) (o : Index) (a : ℕ) {b : Bool} (eb : b ≡ ltb (get_or o.starts (2050 + a) 0) (get_or o.starts (2050 + a + 1) 0)) (q : b ≡ false) where
  pub unnamed : (v : List ℕ) (y : Counters) → y ≡ weigh_of bs o a v y
  unnamed v y = sym (weigh_none bs o a v y (sym eb ∙ q))

pub push_done : (bs : Bodies) (o : Index) (l : ℤ) (h : CountedTrail) → nat_abs l ≤ 1024 → {h₁ : CountedTrail} → h₁ ≡ put_all bs o (to_z w32 (of_z w32 l)) Decision h → h₁ ≡ put_all bs o l Decision h
push_done bs o l h s e = rw (back_to l s) at e

module _ (bs : Bodies) (o : Index) (k : ℕ) (t : Places) (y : Counters) where
  pub drop_done : nat_abs (get_or t.lits k (pos 0)) ≤ 1024 → {a : ℕ} → a ≡ nat_abs (to_z w32 (of_z w32 (get_or t.lits k (pos 0))))
      → {y₁ : Counters} → y₁ ≡ release_of o a (get_or t.value a 0) y → {t₁ : Places} → t₁ ≡ drop_of k t
      → {y₂ : Counters} → y₂ ≡ weigh_of bs o a t₁.value y₁ → counted_trail t₁ y₂ ≡ drop_all bs o k (counted_trail t y)
  unfolding drop_all
  drop_done h ea ey et ez = rw (ez, et, ey, ea, back_to (get_or t.lits k (pos 0)) h)

-- ---- the way back

pub record Back (bs : Bodies) (o : Index) (h₀ h : CountedTrail) : Type 0 where
  pub good : Good h.trail
  pub rest : back_all bs o h ≡ back_all bs o h₀

pub back_start : (bs : Bodies) (o : Index) (h : CountedTrail) → Good h.trail → Back bs o h h
back_start bs o h g = record { good = g; rest = refl }

module _ (bs : Bodies) (o : Index) (h : CountedTrail) (j : ℕ) where
  from_next : (k : ℕ) → k ≡ suc j → is_decision (get_or h.trail.marks j Free) ≡ false → back_all_from bs o k h ≡ back_all_from bs o j (drop_all bs o j h)
  unfolding back_all_from
  from_next k e q = rw (e, q)

  from_here : (k : ℕ) → k ≡ suc j → is_decision (get_or h.trail.marks j Free) ≡ true → back_all_from bs o k h ≡ put_all bs o (neg_ℤ (get_or h.trail.lits j (pos 0))) Flipped (drop_all bs o j h)
  unfolding back_all_from
  from_here k e q = rw (e, q)

  drop_len : (drop_all bs o j h).trail.len ≡ j
  unfolding drop_all drop_of
  drop_len = refl

  drop_good : Good h.trail → j < 1024 → Good (drop_all bs o j h).trail
  unfolding drop_all
  drop_good g l = good_drop j h.trail g l

module _ {bs : Bodies} {o : Index} {h₀ h : CountedTrail} (i : Back bs o h₀ h) (p : 0 < h.trail.len) where
  abbrev j : ℕ
  j = h.trail.len - 1

  pub back_next : is_decision (get_or h.trail.marks j Free) ≡ false → {h₁ : CountedTrail} → h₁ ≡ drop_all bs o j h → Back bs o h₀ h₁
  back_next q e = rw e (record {
    good = drop_good bs o h j i.good (omega (arith, i.good.short));
    rest = ap (λ (z : ℕ). back_all_from bs o z (drop_all bs o j h)) (drop_len bs o h j) ∙ (sym (from_next bs o h j h.trail.len (omega arith) q) ∙ i.rest);
  })

  pub dropped_shorter : {h₁ : CountedTrail} → h₁ ≡ drop_all bs o j h → h₁.trail.len < h.trail.len
  dropped_shorter e = let q = ap (λ (x : CountedTrail). x.trail.len) e ∙ drop_len bs o h j in omega (arith, q)

  pub dropped_len : {h₁ : CountedTrail} → h₁ ≡ drop_all bs o j h → h₁.trail.len < 1024
  dropped_len e = let q = ap (λ (x : CountedTrail). x.trail.len) e ∙ drop_len bs o h j in omega (arith, q, i.good.short)

  taken : {l : ℤ} → l ≡ get_or h.trail.lits j (pos 0) → to_z w32 (of_z w32 l) ≡ get_or h.trail.lits j (pos 0)
  taken e = rw e (back_to (get_or h.trail.lits j (pos 0)) (i.good.small j))

  pub taken_small : {l : ℤ} → l ≡ get_or h.trail.lits j (pos 0) → nat_abs (to_z w32 (of_z w32 l)) ≤ 1024
  taken_small e = rw (taken e) (i.good.small j)

  other : {l c : ℤ} → l ≡ get_or h.trail.lits j (pos 0) → c ≡ neg_ℤ (to_z w32 (of_z w32 l)) → to_z w32 (of_z w32 c) ≡ neg_ℤ (get_or h.trail.lits j (pos 0))
  other e q = rw (q, taken e) (back_to (neg_ℤ (get_or h.trail.lits j (pos 0))) (rw abs_neg (i.good.small j)))

  pub other_small : {l c : ℤ} → l ≡ get_or h.trail.lits j (pos 0) → c ≡ neg_ℤ (to_z w32 (of_z w32 l)) → nat_abs (to_z w32 (of_z w32 c)) ≤ 1024
  other_small e q = rw (other e q, abs_neg) (i.good.small j)

  pub back_here : is_decision (get_or h.trail.marks j Free) ≡ true → {h₁ : CountedTrail} → h₁ ≡ drop_all bs o j h
      → {l c : ℤ} → l ≡ get_or h.trail.lits j (pos 0) → c ≡ neg_ℤ (to_z w32 (of_z w32 l)) → {h₂ : CountedTrail} → h₂ ≡ put_all bs o (to_z w32 (of_z w32 c)) Flipped h₁ → h₂ ≡ back_all bs o h₀
  back_here q e el ec f = f ∙ ap₂ (λ (z : ℤ) (x : CountedTrail). put_all bs o z Flipped x) (other el ec) e ∙ sym (from_here bs o h j h.trail.len (omega arith) q) ∙ i.rest

pub back_none : {bs : Bodies} {o : Index} {h₀ h : CountedTrail} → Back bs o h₀ h → h.trail.len ≤ 0 → h ≡ back_all bs o h₀
unfolding back_all_from
back_none {bs} {o} {h₀} {h} i p = go h.trail.len refl
  where
    go : (k : ℕ) → h.trail.len ≡ k → h ≡ back_all bs o h₀
    go zero e = ap (λ (k : ℕ). back_all_from bs o k h) (sym e) ∙ i.rest
    go (suc k) e = absurd (omega (arith, e, p))
