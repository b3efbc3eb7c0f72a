-- The number of a rule with a weighted body: it depends on the values of the atoms that the rule names, and a list of such rules gets theirs. Assumes nothing.
use mathlib.Core.Path.{◌≡◌, refl, sym, ap, ap₂, ◌∙◌}
use mathlib.Core.Bool.{Bool, true, false}
use mathlib.Core.List.{List, [], ◌∷◌}
use mathlib.Core.Logic.{◌⊎◌, inl, inr}
use Prim.Native.Nat.{ℕ, zero, suc, ◌+◌, ◌-◌, ◌≤◌, ◌<◌}
use native.Mathlib.Omega.{arith}
use lib.Dec.{eqb, ltb}
use lib.IntN.{ℤ, pos, neg_ℤ, nat_abs}
use lib.ListN.{get_or, set}
use borrow.Author.Tests.{eqb-true, eqb-false}
use Rattle.asp.specs.declared.rules.Row.{Row}
use Rattle.asp.specs.Sets.{pick, ind}
use Rattle.asp.specs.Program.{Weighed}
use Rattle.asp.specs.Tables.{span, is_choice, is_mixed, pair_at, pairs_at, bound_at}
use Rattle.asp.proofs.Signed.{abs_neg}
use Rattle.search.specs.Places.{truth_at}
use Rattle.search.specs.declared.scan.Rest.{Rest}
use Rattle.search.specs.declared.scan.Rest.TheVariants.{All, Off}
use Rattle.search.specs.Scan.{cond_at, free_of, meet_of, meets, head_conditions}
use Rattle.search.specs.Weigh.{owed_at, met_at, least_at, breaker_of, body_rest}
use Rattle.search.proofs.ScanLaws.{off_stays}
use Rattle.counting.specs.declared.counters.Counters.{Counters}
use Rattle.counting.specs.Counters.{counters, rest_number, weigh_number, Bodies, number_of, put_marks, put_at, renew_at, weigh_from}
use Rattle.counting.specs.Counts.{sum_from, count_from, MarksRight}
use Rattle.counting.proofs.Marking.{put_marked, put_at_lem, put_other}

-- ---- it depends on the values of the atoms that the rule names

module _ (v w : List ℕ) where
  abbrev Alike : ℤ → Type 0
  Alike l = truth_at v l ≡ truth_at w l

  abbrev AllAlike : List Weighed → Type 0
  AllAlike [] = Unit {0}
  AllAlike (p ∷ ps) = Alike p.literal × AllAlike ps

  met_alike : (ps : List Weighed) → AllAlike ps → met_at v ps ≡ met_at w ps
  unfolding met_at
  met_alike [] h = refl
  met_alike (p ∷ ps) h = rw (h.0, met_alike ps h.1)

  owed_alike : (ps : List Weighed) → AllAlike ps → owed_at v ps ≡ owed_at w ps
  unfolding owed_at
  owed_alike [] h = refl
  owed_alike (p ∷ ps) h = rw (h.0, owed_alike ps h.1)

  least_alike : (mixed : Bool) (ps : List Weighed) → AllAlike ps → least_at mixed v ps ≡ least_at mixed w ps
  least_alike true ps h = owed_alike ps h
  least_alike false ps h = met_alike ps h

  breaker_alike : (mixed : Bool) (lack : ℕ) (all ps : List Weighed) → AllAlike ps → breaker_of mixed v lack all ps ≡ breaker_of mixed w lack all ps
  unfolding breaker_of
  breaker_alike mixed lack all [] h = refl
  breaker_alike mixed lack all (p ∷ ps) h = rw (h.0, breaker_alike mixed lack all ps h.1)

  body_alike : (mixed : Bool) (b : ℕ) (ps : List Weighed) → AllAlike ps → body_rest mixed v b ps ≡ body_rest mixed w b ps
  unfolding body_rest
  body_alike mixed b ps h = rw (least_alike mixed ps h, breaker_alike mixed (b - least_at mixed w ps) ps ps h)

  pairs_alike : (pool : List ℤ) (gap i k : ℕ) → ((j : ℕ) → i ≤ j → j < i + k → Alike (get_or pool j (pos 0))) → AllAlike (span (pair_at pool gap) i k)
  unfolding span
  pairs_alike pool gap i zero h = tt
  pairs_alike pool gap i (suc k) h = (h i (omega arith) (omega arith), pairs_alike pool gap (i + 1) k (λ j a b. h j (omega arith) (omega arith)))

  meet_alike : (s : Rest) (l : ℤ) → Alike l → meet_of v s l ≡ meet_of w s l
  meet_alike s l h = ap (λ (x : ℕ). pick (eqb x 1) s (pick (eqb x 0) (free_of s l) Off)) h

  meets_alike : (pool : List ℤ) (mid : ℕ) (s : Rest) (i k : ℕ) → ((j : ℕ) → i ≤ j → j < i + k → Alike (cond_at pool mid j)) → meets v s (span (cond_at pool mid) i k) ≡ meets w s (span (cond_at pool mid) i k)
  unfolding span meets
  meets_alike pool mid s i zero h = refl
  meets_alike pool mid s i (suc k) h =
      ap (λ (x : Rest). meets v x (span (cond_at pool mid) (i + 1) k)) (meet_alike s (cond_at pool mid i) (h i (omega arith) (omega arith)))
      ∙ meets_alike pool mid (meet_of w s (cond_at pool mid i)) (i + 1) k (λ j a b. h j (omega arith) (omega arith))

  truth_alike : (l : ℤ) → get_or v (nat_abs l) 0 ≡ get_or w (nat_abs l) 0 → Alike l
  truth_alike l e = rw e

  cond_abs : (b : Bool) (z : ℤ) → nat_abs (pick b (neg_ℤ z) z) ≡ nat_abs z
  cond_abs true z = abs_neg z
  cond_abs false z = refl

  -- the values of the atoms at the places that count are the same
  pub number_alike : (pool : List ℤ) (x : Row)
      → ((k : ℕ) → pick (is_choice x.head) (x.first + x.heads) x.first ≤ k → k < x.first + x.heads + x.literals → get_or v (nat_abs (get_or pool k (pos 0))) 0 ≡ get_or w (nat_abs (get_or pool k (pos 0))) 0)
      → weigh_number pool v x ≡ weigh_number pool w x
  unfolding weigh_number
  number_alike pool x h =
      ap₂ (λ (a b : Rest). rest_number a + rest_number b) (head (is_choice x.head) refl)
      (body_alike (is_mixed x.body) (bound_at pool x) (pairs_at pool (x.literals + 1) (x.first + x.heads) x.literals)
      (pairs_alike pool (x.literals + 1) (x.first + x.heads) x.literals (λ j a b. truth_alike (get_or pool j (pos 0)) (h j (low (is_choice x.head) j a) (omega arith)))))
    where
      low : (b : Bool) (j : ℕ) → x.first + x.heads ≤ j → pick b (x.first + x.heads) x.first ≤ j
      low true j a = a
      low false j a = omega arith

      head : (b : Bool) → is_choice x.head ≡ b → meets v (pick b Off All) (head_conditions pool x) ≡ meets w (pick b Off All) (head_conditions pool x)
      head true e = off_stays v (head_conditions pool x) ∙ sym (off_stays w (head_conditions pool x))
      head false e =
          meets_alike pool (x.first + x.heads) All x.first x.heads
          (λ j a b. truth_alike (cond_at pool (x.first + x.heads) j)
          (let z : nat_abs (cond_at pool (x.first + x.heads) j) ≡ nat_abs (get_or pool j (pos 0)) = cond_abs (ltb j (x.first + x.heads)) (get_or pool j (pos 0)) in rw z (h j (rw e a) (omega arith))))

-- ---- a rule gets its number

module _ (count : ℕ) (few : count ≤ 2048) (r k : ℕ) (t : Counters) (m : MarksRight count t) (h : r < count) where
  pub renew_marked : MarksRight count (renew_at r k t)
  renew_marked = go (eqb (get_or t.key r 0) k)
    where
      go : (b : Bool) → MarksRight count (pick b t (put_at r k t))
      go true = m
      go false = put_marked count few r k t m h

  renew_at_lem : get_or (renew_at r k t).key r 0 ≡ k
  renew_at_lem = go (eqb (get_or t.key r 0) k) refl
    where
      go : (b : Bool) → eqb (get_or t.key r 0) k ≡ b → get_or (pick b t (put_at r k t)).key r 0 ≡ k
      go true e = eqb-true (get_or t.key r 0) k e
      go false e = put_at_lem count few r k t m h

  renew_other : (j : ℕ) → (j ≡ r → ⊥) → get_or (renew_at r k t).key j 0 ≡ get_or t.key j 0
  renew_other j n = go (eqb (get_or t.key r 0) k)
    where
      go : (b : Bool) → get_or (pick b t (put_at r k t)).key j 0 ≡ get_or t.key j 0
      go true = refl
      go false = put_other count few r k t m h j n

renew_atom : (r k : ℕ) (t : Counters) → (renew_at r k t).marks.atom ≡ t.marks.atom
unfolding put_at
renew_atom r k t = go (eqb (get_or t.key r 0) k)
  where
    go : (b : Bool) → (pick b t (counters (set t.key r k) (put_marks r (get_or t.key r 0) k t.marks))).marks.atom ≡ t.marks.atom
    go true = refl
    go false = refl

-- ---- a list of rules gets their numbers

module _ (count : ℕ) (few : count ≤ 2048) (b : Bodies) (v rs : List ℕ) where
  put_all_atom : (e k : ℕ) (t : Counters) → (weigh_from b v rs e k t).marks.atom ≡ t.marks.atom
  unfolding weigh_from
  put_all_atom e zero t = refl
  put_all_atom e (suc k) t = put_all_atom (e + 1) k (renew_at (get_or rs e 0) (number_of b v (get_or rs e 0)) t) ∙ renew_atom (get_or rs e 0) (number_of b v (get_or rs e 0)) t

  pub weigh_marked : (e k : ℕ) (t : Counters) → MarksRight count t → ((x : ℕ) → e ≤ x → x < e + k → get_or rs x 0 < count) → MarksRight count (weigh_from b v rs e k t)
  unfolding weigh_from
  weigh_marked e zero t m i = m
  weigh_marked e (suc k) t m i =
      weigh_marked (e + 1) k (renew_at (get_or rs e 0) (number_of b v (get_or rs e 0)) t) (renew_marked count few (get_or rs e 0) (number_of b v (get_or rs e 0)) t m (i e (omega arith) (omega arith))) (λ x p q. i x (omega arith) (omega arith))

  pub weigh_atom : (e k : ℕ) (t : Counters) → (weigh_from b v rs e k t).marks.atom ≡ t.marks.atom
  weigh_atom = put_all_atom

  -- a rule in the list has its number, one that has it already keeps it
  pub weigh_has : (e k : ℕ) (t : Counters) → MarksRight count t → ((x : ℕ) → e ≤ x → x < e + k → get_or rs x 0 < count) → (r : ℕ) → r < count
      → ((count_from rs r e k ≡ 0 → ⊥) ⊎ (get_or t.key r 0 ≡ number_of b v r)) → get_or (weigh_from b v rs e k t).key r 0 ≡ number_of b v r
  unfolding weigh_from sum_from
  weigh_has e zero t m i r h (inl n) = absurd (n refl)
  weigh_has e zero t m i r h (inr q) = q
  weigh_has e (suc k) t m i r h c =
      weigh_has (e + 1) k (renew_at (get_or rs e 0) (number_of b v (get_or rs e 0)) t) (renew_marked count few (get_or rs e 0) (number_of b v (get_or rs e 0)) t m here) (λ x p q. i x (omega arith) (omega arith)) r h (go (eqb (get_or rs e 0) r) refl c)
    where
      here : get_or rs e 0 < count
      here = i e (omega arith) (omega arith)

      go : (y : Bool) → eqb (get_or rs e 0) r ≡ y → (ind y + count_from rs r (e + 1) k ≡ 0 → ⊥) ⊎ (get_or t.key r 0 ≡ number_of b v r)
          → (count_from rs r (e + 1) k ≡ 0 → ⊥) ⊎ (get_or (renew_at (get_or rs e 0) (number_of b v (get_or rs e 0)) t).key r 0 ≡ number_of b v r)
      go true q c = let z : get_or rs e 0 ≡ r = eqb-true (get_or rs e 0) r q in inr (rw z (renew_at_lem count few r (number_of b v r) t m h))
      go false q (inl n) = inl (λ z. n (omega arith))
      go false q (inr p) = inr (renew_other count few (get_or rs e 0) (number_of b v (get_or rs e 0)) t m here r (λ z. eqb-false (get_or rs e 0) r q (sym z)) ∙ p)

  -- one that is not in the list keeps its own
  pub weigh_keeps : (e k : ℕ) (t : Counters) → MarksRight count t → ((x : ℕ) → e ≤ x → x < e + k → get_or rs x 0 < count) → (r : ℕ) → count_from rs r e k ≡ 0 → get_or (weigh_from b v rs e k t).key r 0 ≡ get_or t.key r 0
  unfolding weigh_from sum_from
  weigh_keeps e zero t m i r c = refl
  weigh_keeps e (suc k) t m i r c =
      weigh_keeps (e + 1) k (renew_at (get_or rs e 0) (number_of b v (get_or rs e 0)) t) (renew_marked count few (get_or rs e 0) (number_of b v (get_or rs e 0)) t m here) (λ x p q. i x (omega arith) (omega arith)) r (omega arith)
      ∙ renew_other count few (get_or rs e 0) (number_of b v (get_or rs e 0)) t m here r (λ z. absurd (go (eqb (get_or rs e 0) r) refl z))
    where
      here : get_or rs e 0 < count
      here = i e (omega arith) (omega arith)

      go : (y : Bool) → eqb (get_or rs e 0) r ≡ y → r ≡ get_or rs e 0 → ⊥
      go true q z = absurd (omega (arith, rw q at c))
      go false q z = eqb-false (get_or rs e 0) r q (sym z)
