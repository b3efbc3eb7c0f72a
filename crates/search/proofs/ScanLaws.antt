-- The conditions of a rule: their atoms are small, and one that is false is never made up for. Assumes nothing.
use mathlib.Core.Path.{◌≡◌, refl, ap, ◌∙◌}
use mathlib.Core.Bool.{Bool, true, false}
use mathlib.Core.List.{List, [], ◌∷◌}
use Prim.Native.Nat.{ℕ, ◌≤◌}
use lib.Dec.{eqb, ltb}
use lib.IntN.{ℤ, pos, neg_ℤ, nat_abs}
use lib.ListN.{get_or}
use Rattle.asp.specs.Sets.{pick}
use Rattle.asp.proofs.Signed.{abs_neg}
use Rattle.search.specs.Places.{truth_at}
use Rattle.search.specs.declared.scan.Rest.{Rest}
use Rattle.search.specs.declared.scan.Rest.TheVariants.{All, One, Off}
use Rattle.search.specs.Scan.{cond_at, free_of, meet_of, meets}

by_sign : (b : Bool) (l : ℤ) → nat_abs l ≤ 1024 → nat_abs (pick b (neg_ℤ l) l) ≤ 1024
by_sign true l h = rw abs_neg h
by_sign false l h = h

pub cond_small : (pool : List ℤ) (mid k : ℕ) → nat_abs (get_or pool k (pos 0)) ≤ 1024 → nat_abs (cond_at pool mid k) ≤ 1024
cond_small pool mid k h = by_sign (ltb k mid) (get_or pool k (pos 0)) h

pick_same : (b d : Bool) (x : Rest) → pick b x (pick d x x) ≡ x
pick_same true d x = refl
pick_same false true x = refl
pick_same false false x = refl

pub off_stays : (v : List ℕ) (ls : List ℤ) → meets v Off ls ≡ Off
unfolding meets
off_stays v [] = refl
off_stays v (l ∷ ls) = ap (λ (s : Rest). meets v s ls) (pick_same (eqb (truth_at v l) 1) (eqb (truth_at v l) 0) Off) ∙ off_stays v ls

-- ---- one more condition, by what is left of it alone

module _ (v : List ℕ) (s : Rest) (l : ℤ) where
  pub met_all : All ≡ meet_of v All l → s ≡ meet_of v s l
  met_all = go (eqb (truth_at v l) 1) (eqb (truth_at v l) 0)
    where
      go : (a b : Bool) → All ≡ pick a All (pick b (One l) Off) → s ≡ pick a s (pick b (free_of s l) Off)
      go true b e = refl
      go false true e = cc
      go false false e = cc

  pub met_one : {k : ℤ} → One k ≡ meet_of v All l → {r : Rest} → r ≡ free_of s l → r ≡ meet_of v s l
  met_one {k} e {r} f = go (eqb (truth_at v l) 1) (eqb (truth_at v l) 0) e
    where
      go : (a b : Bool) → One k ≡ pick a All (pick b (One l) Off) → r ≡ pick a s (pick b (free_of s l) Off)
      go true b q = cc
      go false true q = f
      go false false q = cc

  pub met_off : Off ≡ meet_of v All l → Off ≡ meet_of v s l
  met_off = go (eqb (truth_at v l) 1) (eqb (truth_at v l) 0)
    where
      go : (a b : Bool) → Off ≡ pick a All (pick b (One l) Off) → Off ≡ pick a s (pick b (free_of s l) Off)
      go true b e = cc
      go false true e = cc
      go false false e = refl
