-- The conditions of a rule under the values of a trail: each is true just if it is on the trail. Assumes nothing.
use mathlib.Core.Path.{◌≡◌, refl, ap, ◌∙◌}
use mathlib.Core.Bool.{Bool, true, false, not, ◌&&◌, ◌||◌}
use mathlib.Core.List.{List, [], ◌∷◌}
use Prim.Native.Nat.{ℕ, zero, suc, ◌+◌, ◌≤◌}
use native.Mathlib.Omega.{arith}
use lib.Dec.{eqb}
use lib.IntN.{ℤ, pos, negsuc, neg_ℤ, nat_abs}
use lib.ListN.{get_or}
use borrow.Author.Tests.{lt-ltb, le-ltb, eqb-true}
use Rattle.asp.specs.declared.rules.Row.{Row}
use Rattle.asp.specs.Sets.{Set, pick}
use Rattle.asp.specs.Literal.{same_ℤ, is_negative}
use Rattle.asp.specs.Program.{RuleIn}
use Rattle.asp.specs.Stable.{holds}
use Rattle.asp.specs.Tables.{span, literals_at, named, atoms_at, is_choice, is_weighted, plain_head, head_at, rule_at, RowIn}
use Rattle.asp.proofs.Signed.{abs_neg, clash}
use Rattle.search.specs.declared.scan.Rest.{Rest}
use Rattle.search.specs.declared.scan.Rest.TheVariants.{All, One, Off}
use Rattle.search.specs.Trail.{Trail, literal_of, on, trail_set}
use Rattle.search.specs.Places.{side_of, truth_of, truth_at, value_on}
use Rattle.search.specs.Scan.{cond_at, conditions, head_conditions, free_of, meet_of, meets, is_all}
use Rattle.search.proofs.Agree.{lit_on, lits_on, head_on, rule_on, soft_on}
use Rattle.search.proofs.TrailTables.{Valued}
use Rattle.search.proofs.Formed.{plain_head_lem}

-- ---- literals that are the same

pub same_is : (a b : ℤ) → same_ℤ a b ≡ true → a ≡ b
same_is (pos m) (pos n) q = ap pos (eqb-true m n q)
same_is (pos m) (negsuc n) q = absurd (clash q)
same_is (negsuc m) (pos n) q = absurd (clash q)
same_is (negsuc m) (negsuc n) q = ap negsuc (eqb-true m n q)

-- ---- one literal: true by the values just if it is on the trail, false just if its complement is

-- a literal by the value of its atom
abbrev pub by : Bool → ℤ → Bool
by b l = pick (is_negative l) (not b) b

pub holds_by : (M : Set) (l : ℤ) → by (M (nat_abs l)) l ≡ holds M l
holds_by M (pos a) = refl
holds_by M (negsuc a) = refl

true_here : (l x : ℤ) → eqb (truth_of l (side_of x)) 1 ≡ by (not (is_negative x)) l
true_here (pos a) (pos b) = refl
true_here (pos a) (negsuc b) = refl
true_here (negsuc a) (pos b) = refl
true_here (negsuc a) (negsuc b) = refl

true_at : (t : Trail) (l : ℤ) (a : ℕ) → eqb (truth_of l (value_on t a)) 1 ≡ (on t a && by (trail_set t a) l)
true_at [] l a = refl
true_at (s ∷ t) l a = go (eqb a (nat_abs (literal_of s))) (true_at t l a)
  where
    go : (b : Bool) → eqb (truth_of l (value_on t a)) 1 ≡ (on t a && by (trail_set t a) l)
        → eqb (truth_of l (pick b (side_of (literal_of s)) (value_on t a))) 1 ≡ ((b || on t a) && by (pick b (not (is_negative (literal_of s))) (trail_set t a)) l)
    go true h = true_here l (literal_of s)
    go false h = h

false_here : (l x : ℤ) → 1 ≤ nat_abs l → eqb (truth_of l (side_of x)) 2 ≡ by (not (is_negative x)) (neg_ℤ l)
false_here (pos zero) x h = absurd (omega arith)
false_here (pos (suc a)) (pos b) h = refl
false_here (pos (suc a)) (negsuc b) h = refl
false_here (negsuc a) (pos b) h = refl
false_here (negsuc a) (negsuc b) h = refl

false_at : (t : Trail) (l : ℤ) (a : ℕ) → 1 ≤ nat_abs l → eqb (truth_of l (value_on t a)) 2 ≡ (on t a && by (trail_set t a) (neg_ℤ l))
false_at [] l a h = refl
false_at (s ∷ t) l a h = go (eqb a (nat_abs (literal_of s))) (false_at t l a h)
  where
    go : (b : Bool) → eqb (truth_of l (value_on t a)) 2 ≡ (on t a && by (trail_set t a) (neg_ℤ l))
        → eqb (truth_of l (pick b (side_of (literal_of s)) (value_on t a))) 2 ≡ ((b || on t a) && by (pick b (not (is_negative (literal_of s))) (trail_set t a)) (neg_ℤ l))
    go true q = false_here l (literal_of s) h
    go false q = q

-- ---- the conditions of a rule

module _ (t : Trail) where
  -- from mid on the conditions are the body
  body_conds : (pool : List ℤ) (mid k d : ℕ) → mid ≤ k → span (cond_at pool mid) k d ≡ literals_at pool k d
  unfolding span
  body_conds pool mid k zero h = refl
  body_conds pool mid k (suc d) h = rw (le-ltb k mid h, body_conds pool mid (k + 1) d (omega arith))

  pub plain_on : (pool : List ℤ) (b c d : ℕ) → c ≤ 1 → (c ≡ 1 → pos (named (get_or pool b (pos 0))) ≡ get_or pool b (pos 0))
      → lits_on t (span (cond_at pool (b + c)) b (c + d)) ≡ (head_on t (plain_head (atoms_at pool b c)) && lits_on t (literals_at pool (b + c) d))
  unfolding span lits_on
  plain_on pool b zero d l h =
      let e : b + 0 ≡ b = omega arith in
      let z : 0 + d ≡ d = omega arith in
      rw (e, z) (ap (lits_on t) (body_conds pool b b d (omega arith)))
  plain_on pool b (suc zero) d l h =
      let z : 1 + d ≡ suc d = omega arith in
      rw (z, lt-ltb b (b + 1) (omega arith), h refl, body_conds pool (b + 1) (b + 1) d (omega arith))
  plain_on pool b (suc (suc c)) d l h = absurd (omega arith)

  -- order 2: those of a head alone
  head_on_lem : (pool : List ℤ) (b c : ℕ) → c ≤ 1 → (c ≡ 1 → pos (named (get_or pool b (pos 0))) ≡ get_or pool b (pos 0)) → lits_on t (span (cond_at pool (b + c)) b c) ≡ head_on t (plain_head (atoms_at pool b c))
  unfolding span lits_on
  head_on_lem pool b zero l h = refl
  head_on_lem pool b (suc zero) l h = rw (lt-ltb b (b + 1) (omega arith), h refl) (and_yes_true (lit_on t (neg_ℤ (get_or pool b (pos 0)))))
    where
      and_yes_true : (x : Bool) → (x && true) ≡ x
      and_yes_true true = refl
      and_yes_true false = refl
  head_on_lem pool b (suc (suc c)) l h = absurd (omega arith)

  pub heads_on : (n : ℕ) (pool : List ℤ) (x : Row) → RowIn pool x → RuleIn n (rule_at pool x) → is_choice x.head ≡ false → lits_on t (head_conditions pool x) ≡ head_on t (head_at pool x)
  heads_on n pool x r i e = rw e (head_on_lem pool x.first x.heads (r.single e) (plain_head_lem n pool x r i e))

  -- the conditions of a rule that is no choice
  pub conds_on : (n : ℕ) (pool : List ℤ) (x : Row) → RowIn pool x → RuleIn n (rule_at pool x) → is_choice x.head ≡ false → is_weighted x.body ≡ false
      → lits_on t (conditions pool x) ≡ rule_on t (rule_at pool x)
  conds_on n pool x r i e q = rw (e, q) (plain_on pool x.first x.heads x.literals (r.single e) (plain_head_lem n pool x r i e))

module _ (v : List ℕ) (t : Trail) (w : Valued v t) where
  pub true_on : (l : ℤ) → eqb (truth_at v l) 1 ≡ lit_on t l
  true_on l = rw (w (nat_abs l), ← holds_by (trail_set t) l) (true_at t l (nat_abs l))

  pub false_on : (l : ℤ) → 1 ≤ nat_abs l → eqb (truth_at v l) 2 ≡ soft_on t l
  false_on l h = rw (w (nat_abs l)) (false_at t l (nat_abs l) h ∙ there)
    where
      there : (on t (nat_abs l) && by (trail_set t (nat_abs l)) (neg_ℤ l)) ≡ lit_on t (neg_ℤ l)
      there = rw (← holds_by (trail_set t) (neg_ℤ l), abs_neg)

  -- ---- one rule: all its conditions are on the trail

  and_true : (b : Bool) → b ≡ (b && true)
  and_true true = refl
  and_true false = refl

  and_false : (b : Bool) → false ≡ (b && false)
  and_false true = refl
  and_false false = refl

  and_assoc : (a b c : Bool) → ((a && b) && c) ≡ (a && (b && c))
  and_assoc true b c = refl
  and_assoc false b c = refl

  pick_off : (b : Bool) (f : ℤ) → is_all (pick b (One f) Off) ≡ false
  pick_off true f = refl
  pick_off false f = refl

  free_all : (s : Rest) (l : ℤ) → is_all (free_of s l) ≡ false
  free_all All l = refl
  free_all (One f) l = pick_off (same_ℤ f l) f
  free_all Off l = refl

  meet_all : (s : Rest) (l : ℤ) → is_all (meet_of v s l) ≡ (is_all s && eqb (truth_at v l) 1)
  meet_all s l = go (eqb (truth_at v l) 1) (eqb (truth_at v l) 0)
    where
      go : (b d : Bool) → is_all (pick b s (pick d (free_of s l) Off)) ≡ (is_all s && b)
      go true d = and_true (is_all s)
      go false true = free_all s l ∙ and_false (is_all s)
      go false false = and_false (is_all s)

  pub meets_all : (s : Rest) (ls : List ℤ) → is_all (meets v s ls) ≡ (is_all s && lits_on t ls)
  unfolding meets lits_on
  meets_all s [] = and_true (is_all s)
  meets_all s (l ∷ ls) =
      meets_all (meet_of v s l) ls
      ∙ ap (λ (b : Bool). b && lits_on t ls) (meet_all s l ∙ ap (λ (b : Bool). is_all s && b) (true_on l))
      ∙ and_assoc (is_all s) (lit_on t l) (lits_on t ls)
