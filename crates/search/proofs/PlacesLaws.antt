-- What the moves keep. Assumes nothing.
use mathlib.Core.Path.{◌≡◌, refl}
use mathlib.Core.Bool.{Bool, true, false}
use mathlib.Core.List.{List}
use Prim.Native.Nat.{ℕ, zero, suc, ◌≤◌, ◌<◌}
use native.Mathlib.Omega.{arith}
use lib.Dec.{eqb}
use lib.IntN.{ℤ, pos, neg_ℤ, nat_abs}
use lib.ListN.{length, get_or, set, length-set}
use lib.Seq.{get_or-set_same, get_or-set_other}
use borrow.Author.Tests.{eqb-true, eqb-false}
use Rattle.asp.specs.Sets.{pick}
use Rattle.asp.proofs.Signed.{abs_neg}
use Rattle.search.specs.declared.trail.Places.{Places}
use Rattle.search.specs.declared.trail.Mark.{Mark}
use Rattle.search.specs.declared.trail.Mark.TheVariants.{Free, Flipped}
use Rattle.search.specs.Places.{is_decision, put_of, drop_of, back_from, Good}

small_set : (ls : List ℤ) (k : ℕ) (l : ℤ) → k < length ls → nat_abs l ≤ 1024 → ((i : ℕ) → nat_abs (get_or ls i (pos 0)) ≤ 1024) → (i : ℕ) → nat_abs (get_or (set ls k l) i (pos 0)) ≤ 1024
small_set ls k l h s all i = go (eqb i k) refl
  where
    go : (b : Bool) → eqb i k ≡ b → nat_abs (get_or (set ls k l) i (pos 0)) ≤ 1024
    go true e = rw (eqb-true i k e, get_or-set_same ls k l (pos 0) h) s
    go false e = rw (get_or-set_other ls k i l (pos 0) (eqb-false i k e)) (all i)

pub good_put : (l : ℤ) (m : Mark) (t : Places) → Good t → t.len < 1024 → nat_abs l ≤ 1024 → Good (put_of l m t)
unfolding put_of
good_put l m t g h s = record {
  lits_len = rw length-set g.lits_len;
  marks_len = rw length-set g.marks_len;
  value_len = rw length-set g.value_len;
  short = omega arith;
  small = small_set t.lits t.len l (omega (arith, g.lits_len)) s g.small;
}

pub good_drop : (k : ℕ) (t : Places) → Good t → k < 1024 → Good (drop_of k t)
unfolding drop_of
good_drop k t g h = record {
  lits_len = rw length-set g.lits_len;
  marks_len = rw length-set g.marks_len;
  value_len = rw length-set g.value_len;
  short = omega arith;
  small = small_set t.lits k (pos 0) (omega (arith, g.lits_len)) (omega arith) g.small;
}

drop_len : (k : ℕ) (t : Places) → (drop_of k t).len ≡ k
unfolding drop_of
drop_len k t = refl

pub good_back : (k : ℕ) (t : Places) → Good t → k ≤ 1024 → Good (back_from k t)
unfolding back_from
good_back zero t g h = g
good_back (suc k) t g h = go (is_decision (get_or t.marks k Free)) (good_back k (drop_of k t) d (omega arith))
  where
    d : Good (drop_of k t)
    d = good_drop k t g (omega arith)

    go : (b : Bool) → Good (back_from k (drop_of k t)) → Good (pick b (put_of (neg_ℤ (get_or t.lits k (pos 0))) Flipped (drop_of k t)) (back_from k (drop_of k t)))
    go true r = good_put _ Flipped (drop_of k t) d (rw (drop_len k t) (omega arith)) (rw abs_neg (g.small k))
    go false r = r
