-- What holds of each undecided condition of the rules holds of the one that a scan notes. Assumes nothing.
use mathlib.Core.Path.{◌≡◌, refl}
use mathlib.Core.Bool.{Bool, true, false, ◌&&◌}
use mathlib.Core.List.{List}
use Prim.Native.Nat.{ℕ, zero, suc, ◌+◌, ◌-◌, ◌≤◌, ◌<◌}
use native.Mathlib.Omega.{arith}
use lib.Dec.{eqb, leb}
use lib.IntN.{ℤ, pos, nat_abs}
use lib.ListN.{get_or}
use borrow.Author.Tests.{eqb-true, le-ltb}
use Rattle.asp.specs.declared.rules.HeadKind.{HeadKind}
use Rattle.asp.specs.Sets.{pick}
use Rattle.asp.specs.Literal.{same_ℤ}
use Rattle.asp.specs.Program.{Weighed}
use Rattle.asp.specs.Tables.{span, is_choice, is_weighted, is_mixed, pair_at, pairs_at, bound_at}
use Rattle.search.specs.declared.scan.Rest.{Rest}
use Rattle.search.specs.declared.scan.Rest.TheVariants.{All, One, Off}
use Rattle.search.specs.declared.scan.Found.{Found}
use Rattle.search.specs.declared.scan.Found.TheVariants.{Broken, Breaker, Clear}
use Rattle.search.specs.Places.{truth_at}
use Rattle.search.specs.Weigh.{least_at, worth, breaker_of, body_rest, both_rest}
use Rattle.search.specs.Scan.{Rules, row_of, Readable, cond_at, free_of, meet_of, meets, begins, head_rest, weighted_rest, rest_of, is_all, note_of, scan_from, scan_of}
use Rattle.search.specs.Branch.{NotedAs, Noted}
use Rattle.search.proofs.ScanLaws.{cond_small}

module _ (P : ℤ → Type 0) where
  -- P holds of the literal that is left alone
  abbrev Alone : Rest → Type 0
  Alone All = Unit {0}
  Alone (One l) = P l
  Alone Off = Unit {0}

  pick_alone : (b : Bool) (x y : Rest) → Alone x → Alone y → Alone (pick b x y)
  pick_alone true x y p q = p
  pick_alone false x y p q = q

  free_alone : (s : Rest) (l : ℤ) → Alone s → P l → Alone (free_of s l)
  free_alone All l p q = q
  free_alone (One f) l p q = pick_alone (same_ℤ f l) (One f) Off p tt
  free_alone Off l p q = tt

  meet_alone : (v : List ℕ) (s : Rest) (l : ℤ) → Alone s → (truth_at v l ≡ 0 → P l) → Alone (meet_of v s l)
  meet_alone v s l p q = pick_alone (eqb (truth_at v l) 1) s _ p (go (eqb (truth_at v l) 0) refl)
    where
      go : (b : Bool) → eqb (truth_at v l) 0 ≡ b → Alone (pick b (free_of s l) Off)
      go true e = free_alone s l p (q (eqb-true (truth_at v l) 0 e))
      go false e = tt

  meets_alone : (v : List ℕ) (pool : List ℤ) (s : Rest) (mid k n : ℕ) → ((i : ℕ) → k ≤ i → i < k + n → truth_at v (cond_at pool mid i) ≡ 0 → P (cond_at pool mid i)) → Alone s
      → Alone (meets v s (span (cond_at pool mid) k n))
  unfolding meets span
  meets_alone v pool s mid k zero h p = p
  meets_alone v pool s mid k (suc n) h p =
      meets_alone v pool (meet_of v s (cond_at pool mid k)) mid (k + 1) n (λ i a b. h i (omega arith) (omega arith)) (meet_alone v s (cond_at pool mid k) p (h k (omega arith) (omega arith)))

  note_alone : (a : Found) (s : Rest) → NotedAs P a → Alone s → NotedAs P (note_of a s)
  note_alone (Broken r) s p q = tt
  note_alone (Breaker l) s p q = p
  note_alone Clear All p q = tt
  note_alone Clear (One l) p q = q
  note_alone Clear Off p q = tt

  pick_noted : (b : Bool) (x y : Found) → NotedAs P x → NotedAs P y → NotedAs P (pick b x y)
  pick_noted true x y p q = p
  pick_noted false x y p q = q

  from_noted : (p : ℕ → Rest) (a : Found) (r n : ℕ) → ((i : ℕ) → i < r + n → Alone (p i)) → NotedAs P a → NotedAs P (scan_from p a r n)
  unfolding scan_from
  from_noted p a r zero h q = q
  from_noted p a r (suc n) h q =
      pick_noted (is_all (p r)) (Broken r) _ tt (from_noted p (note_of a (p r)) (r + 1) n (λ i b. h i (omega arith)) (note_alone a (p r) q (h r (omega arith))))

  begins_alone : (k : HeadKind) → Alone (begins k)
  begins_alone k = pick_alone (is_choice k) Off All tt tt

  -- order 2: a weighted body, and a head with it
  breaker_alone : (mixed : Bool) (v : List ℕ) (lack : ℕ) (all : List Weighed) (pool : List ℤ) (gap k n : ℕ) → ((i : ℕ) → k ≤ i → i < k + n → truth_at v (get_or pool i (pos 0)) ≡ 0 → P (get_or pool i (pos 0)))
      → Alone (breaker_of mixed v lack all (span (pair_at pool gap) k n))
  unfolding breaker_of span
  breaker_alone mixed v lack all pool gap k zero h = tt
  breaker_alone mixed v lack all pool gap k (suc n) h =
      go (eqb (truth_at v (get_or pool k (pos 0))) 0) refl (breaker_alone mixed v lack all pool gap (k + 1) n (λ i a b. h i (omega arith) (omega arith)))
    where
      go : (b : Bool) → eqb (truth_at v (get_or pool k (pos 0))) 0 ≡ b → Alone (breaker_of mixed v lack all (span (pair_at pool gap) (k + 1) n))
          → Alone (pick (b && leb lack (worth mixed all (pair_at pool gap k))) (One (get_or pool k (pos 0))) (breaker_of mixed v lack all (span (pair_at pool gap) (k + 1) n)))
      go true e r = pick_alone (leb lack (worth mixed all (pair_at pool gap k))) (One (get_or pool k (pos 0))) _ (h k (omega arith) (omega arith) (eqb-true (truth_at v (get_or pool k (pos 0))) 0 e)) r
      go false e r = r

  body_alone : (mixed : Bool) (v : List ℕ) (b : ℕ) (pool : List ℤ) (gap k n : ℕ) → ((i : ℕ) → k ≤ i → i < k + n → truth_at v (get_or pool i (pos 0)) ≡ 0 → P (get_or pool i (pos 0)))
      → Alone (body_rest mixed v b (pairs_at pool gap k n))
  unfolding body_rest
  body_alone mixed v b pool gap k n h =
      pick_alone (leb b (least_at mixed v (pairs_at pool gap k n))) All _ tt (breaker_alone mixed v (b - least_at mixed v (pairs_at pool gap k n)) (pairs_at pool gap k n) pool gap k n h)

  both_alone : (r s : Rest) → Alone r → Alone s → Alone (both_rest r s)
  both_alone All s p q = q
  both_alone (One f) All p q = p
  both_alone (One f) (One l) p q = tt
  both_alone (One f) Off p q = tt
  both_alone Off s p q = tt

  pub noted_as : (g : Rules) (v : List ℕ)
      → ((r : ℕ) → r < g.count → (k : ℕ) → (row_of g r).first ≤ k → k < (row_of g r).first + (row_of g r).heads + (row_of g r).literals → truth_at v (cond_at g.pool ((row_of g r).first + (row_of g r).heads) k) ≡ 0 → P (cond_at g.pool ((row_of g r).first + (row_of g r).heads) k))
      → NotedAs P (scan_of g v)
  noted_as g v h =
      from_noted (rest_of g v) Clear 0 g.count
      (λ r b. pick_alone (is_weighted (row_of g r).body) _ _
      (both_alone (head_rest g.pool v (row_of g r)) (weighted_rest g.pool v (row_of g r))
      (meets_alone v g.pool (begins (row_of g r).head) ((row_of g r).first + (row_of g r).heads) (row_of g r).first (row_of g r).heads (λ k x y. h r (omega arith) k x (omega arith)) (begins_alone (row_of g r).head))
      (body_alone (is_mixed (row_of g r).body) v (bound_at g.pool (row_of g r)) g.pool ((row_of g r).literals + 1) ((row_of g r).first + (row_of g r).heads) (row_of g r).literals
      (λ k x y z. let e : cond_at g.pool ((row_of g r).first + (row_of g r).heads) k ≡ get_or g.pool k (pos 0) = rw (le-ltb k ((row_of g r).first + (row_of g r).heads) x) in rw e at (h r (omega arith) k (omega arith) (omega arith) (rw e z)))))
      (meets_alone v g.pool (begins (row_of g r).head) ((row_of g r).first + (row_of g r).heads) (row_of g r).first ((row_of g r).heads + (row_of g r).literals) (λ k x y. h r (omega arith) k x (omega arith)) (begins_alone (row_of g r).head)))
      tt

pub noted : (g : Rules) (v : List ℕ) → Readable g → Noted (scan_of g v)
noted g v f = noted_as (λ l. nat_abs l ≤ 1024) g v (λ r b k x y z. cond_small g.pool ((row_of g r).first + (row_of g r).heads) k (f.small r b k x y))

-- the same, as a caller of `scan` knows it
pub found_noted : (g : Rules) (v : List ℕ) {f : Found} → f ≡ scan_of g v → Readable g → Noted f
found_noted g v e h = rw e (noted g v h)
