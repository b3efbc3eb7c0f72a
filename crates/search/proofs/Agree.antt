-- A trail and the sets that agree with it: a literal holds in all of them just if it is on the trail; a rule is broken in all of them just if all its
-- conditions are on the trail; a soft literal of an entry is violated in all of them just if its complement is on the trail. Assumes nothing.
use mathlib.Core.Path.{◌≡◌, refl, sym, ap, ◌∙◌, subst, fun_ext}
use mathlib.Core.Bool.{Bool, true, false, not, ◌&&◌, ◌||◌}
use mathlib.Core.List.{List, [], ◌∷◌}
use mathlib.Core.Logic.{◌⊎◌, inl, inr, ⊎_map}
use Prim.Native.Nat.{ℕ, zero, suc, ◌+◌, ◌-◌, ◌≤◌, min}
use native.Mathlib.Omega.{arith}
use native.Mathlib.Decide.{dec_le}
use lib.Dec.{T, eqb, eqb_refl, leb, leb→le, le→leb}
use lib.IntN.{ℤ, pos, negsuc, neg_ℤ, nat_abs}
use mir.Facts.{and_yes, yes_and, or_yes}
use borrow.Author.Tests.{eqb-true}
use Rattle.asp.specs.Sets.{Set, In, Only, pick}
use Rattle.asp.specs.Literal.{is_negative}
use Rattle.asp.specs.Program.{Literal, Weighed, Body, normal, weighted, Head, constraint, plain, choice, Rule, All, LiteralIn, BodyIn, HeadIn, RuleIn}
use Rattle.asp.specs.Stable.{holds, all_hold, counts, body_holds}
use Rattle.asp.proofs.Literals.{holds_complement}
use Rattle.search.specs.Trail.{Trail, literal_of, on, NotOn, FormedTrail, Agrees, InAll, trail_set}
use Rattle.search.specs.Query.{no_head_in, broken_in, violated_in, HoldsAll, RuleFails}
use Rattle.search.specs.Weigh.{total}
use Rattle.search.proofs.Counts.{not_on, yes_or_left, yes_or_right}
use Rattle.search.proofs.Totals.{PairsIn, sum_same, sum_mono, by_atoms, Rises, by_pair, none_by, counts_by}

-- ---- the tests on a trail

-- the literal is on the trail
abbrev pub lit_on : Trail → Literal → Bool
lit_on t l = on t (nat_abs l) && holds (trail_set t) l

unfoldable pub lits_on : Trail → List Literal → Bool
lits_on t [] = true
lits_on t (l ∷ ls) = lit_on t l && lits_on t ls

-- the conditions of a rule: its body and, for a plain rule with a head, the head's complement; a choice rule has none
abbrev pub head_on : Trail → Head → Bool
head_on t constraint = true
head_on t (plain h) = lit_on t (neg_ℤ (pos h))
head_on t (choice hs) = false

-- Order 2: the least weight that a pair adds in the sets that agree with the trail, with the pairs ps after it. A decided literal: its weight if it is on the
-- trail, else 0. An undecided one: what the weights of its complement among ps exceed those of the literal itself there, up to its own weight; so 0 unless the
-- atom stands in the body with both signs.
abbrev pub pair_owed : Trail → Weighed → List Weighed → ℕ
pair_owed t p ps = pick (on t (nat_abs p.literal)) (pick (holds (trail_set t) p.literal) p.weight 0) (min p.weight (total (neg_ℤ p.literal) ps - total p.literal ps))

-- the least weight that the pairs count in the sets that agree with the trail
unfoldable pub owed : Trail → List Weighed → ℕ
owed t [] = 0
owed t (p ∷ ps) = pair_owed t p ps + owed t ps

abbrev pub body_on : Trail → Body → Bool
body_on t (normal ls) = lits_on t ls
body_on t (weighted b ps) = leb b (owed t ps)

abbrev pub rule_on : Trail → Rule → Bool
rule_on t r = head_on t r.head && body_on t r.body

unfoldable pub rules_on : Trail → List Rule → Bool
rules_on t [] = false
rules_on t (r ∷ rs) = rule_on t r || rules_on t rs

-- a soft literal of an entry fails where the complement of its wished literal is on the trail
abbrev pub soft_on : Trail → Literal → Bool
soft_on t l = lit_on t (neg_ℤ l)

-- ---- the trail's own set agrees with it, and so does one that differs off the trail

abbrev put : ℕ → Bool → Set → Set
put a b M x = pick (eqb x a) b (M x)

put_at_lem : (a : ℕ) (b : Bool) (M : Set) → pick (eqb a a) b (M a) ≡ b
put_at_lem a b M = go (eqb a a) (eqb_refl a)
  where
    go : (t : Bool) → T t → pick t b (M a) ≡ b
    go true t = refl
    go false t = absurd t

put_else : (x a : ℕ) (b : Bool) (M : Set) → (¬ (a ≡ x)) → pick (eqb x a) b (M x) ≡ M x
put_else x a b M k = go (eqb x a) refl
  where
    go : (t : Bool) → eqb x a ≡ t → pick t b (M x) ≡ M x
    go true e = absurd (k (sym (eqb-true x a e)))
    go false e = refl

put_off : (a : ℕ) (b : Bool) (M : Set) (l : ℤ) → (¬ (a ≡ nat_abs l)) → T (holds M l) → T (holds (put a b M) l)
put_off a b M (pos x) k h = rw (put_else x a b M k) h
put_off a b M (negsuc x) k h = rw (put_else (suc x) a b M k) h

put_agrees : (a : ℕ) (b : Bool) (M : Set) (t : Trail) → NotOn a t → Agrees M t → Agrees (put a b M) t
put_agrees a b M [] k g = tt
put_agrees a b M (s ∷ t) k g = (put_off a b M (literal_of s) k.0 g.0, put_agrees a b M t k.1 g.1)

holds_put : (l : ℤ) (M : Set) → T (holds (put (nat_abs l) (not (is_negative l)) M) l)
holds_put (pos a) M = rw (put_at_lem a true M) tt
holds_put (negsuc a) M = rw (put_at_lem (suc a) false M) tt

against : (l : ℤ) (M : Set) → T (holds (put (nat_abs l) (is_negative l) M) l) → ⊥
against (pos a) M h = rw (put_at_lem a false M) at h
against (negsuc a) M h = rw (put_at_lem (suc a) true M) at h

pub set_agrees : (n : ℕ) (t : Trail) → FormedTrail n t → Agrees (trail_set t) t
set_agrees n [] w = tt
set_agrees n (s ∷ t) w = (holds_put (literal_of s) (trail_set t), put_agrees (nat_abs (literal_of s)) (not (is_negative (literal_of s))) (trail_set t) t w.1 (set_agrees n t w.2))

-- ---- a set that agrees is the trail's own set on the trail's atoms

holds_sign : (M : Set) (l : ℤ) → T (holds M l) → M (nat_abs l) ≡ not (is_negative l)
holds_sign M (pos a) h = is_true (M a) h
  where
    is_true : (b : Bool) → T b → b ≡ true
    is_true true t = refl
    is_true false t = absurd t
holds_sign M (negsuc a) h = is_false (M (suc a)) h
  where
    is_false : (b : Bool) → T (not b) → b ≡ false
    is_false true t = absurd t
    is_false false t = refl

pub set_same : (t : Trail) (M : Set) (a : ℕ) → Agrees M t → T (on t a) → M a ≡ trail_set t a
set_same [] M a g x = absurd x
set_same (s ∷ t) M a g x = go (eqb a (nat_abs (literal_of s))) refl (set_same t M a g.1)
  where
    go : (b : Bool) → eqb a (nat_abs (literal_of s)) ≡ b → (T (on t a) → M a ≡ trail_set t a) → M a ≡ pick b (not (is_negative (literal_of s))) (trail_set t a)
    go true e f = let y : a ≡ nat_abs (literal_of s) = eqb-true a (nat_abs (literal_of s)) e in rw y (holds_sign M (literal_of s) g.0)
    go false e f = f (rw e at x)

holds_at : (M N : Set) (l : ℤ) → M (nat_abs l) ≡ N (nat_abs l) → holds M l ≡ holds N l
holds_at M N (pos a) e = e
holds_at M N (negsuc a) e = ap not e

-- ---- literals: both ways

pub lit_all : (t : Trail) (l : ℤ) → T (lit_on t l) → InAll t (λ M. T (holds M l))
lit_all t l x M g =
    let h = and_yes (on t (nat_abs l)) (holds (trail_set t) l) x in
    rw (holds_at M (trail_set t) l (set_same t M (nat_abs l) g h.0)) h.1

pub all_lit : (n : ℕ) (t : Trail) → FormedTrail n t → (l : ℤ) → InAll t (λ M. T (holds M l)) → T (lit_on t l)
all_lit n t w l h = go (on t (nat_abs l)) refl
  where
    go : (b : Bool) → on t (nat_abs l) ≡ b → T (b && holds (trail_set t) l)
    go true e = h (trail_set t) (set_agrees n t w)
    go false e = absurd (against l (trail_set t) (h (put (nat_abs l) (is_negative l) (trail_set t))
        (put_agrees (nat_abs l) (is_negative l) (trail_set t) t (not_on t (nat_abs l) (λ x. rw e at x)) (set_agrees n t w))))

pub lits_all : (t : Trail) (ls : List ℤ) → T (lits_on t ls) → InAll t (λ M. T (all_hold M M ls))
unfolding lits_on all_hold
lits_all t [] x M g = tt
lits_all t (l ∷ ls) x M g =
    let h = and_yes (lit_on t l) (lits_on t ls) x in
    yes_and (holds M l) (all_hold M M ls) (lit_all t l h.0 M g) (lits_all t ls h.1 M g)

pub all_lits : (n : ℕ) (t : Trail) → FormedTrail n t → (ls : List ℤ) → InAll t (λ M. T (all_hold M M ls)) → T (lits_on t ls)
unfolding lits_on all_hold
all_lits n t w [] h = tt
all_lits n t w (l ∷ ls) h =
    yes_and (lit_on t l) (lits_on t ls) (all_lit n t w l (λ M g. (and_yes (holds M l) (all_hold M M ls) (h M g)).0))
    (all_lits n t w ls (λ M g. (and_yes (holds M l) (all_hold M M ls) (h M g)).1))

-- ---- order 2: the least weight over the sets that agree

-- what an atom gives at least: the side it is on; undecided, the lesser of its two totals
abbrev pub side_on : Trail → ℕ → ℕ → ℕ → ℕ
side_on t x P N = pick (on t x) (pick (trail_set t x) P N) (min P N)

pub owed_by : (n : ℕ) (t : Trail) (ps : List Weighed) → PairsIn n ps → owed t ps ≡ by_atoms (side_on t) n ps
unfolding owed
owed_by n t [] i = sym (none_by (side_on t) (λ x. nothing (on t x) (trail_set t x)) n)
  where
    nothing : (a b : Bool) → ◌≡◌ {A = ℕ} (pick a (pick b 0 0) (min 0 0)) 0
    nothing true true = refl
    nothing true false = refl
    nothing false b = omega arith
owed_by n t (p ∷ ps) i =
    ap (λ (x : ℕ). pair_owed t p ps + x) (owed_by n t ps i.1) ∙ sym (by_pair (side_on t) n p ps (pair_owed t p ps) i.0 (rises p.literal i.0))
  where
    rises : (l : ℤ) → LiteralIn n l → (P N : ℕ) → total (pos (nat_abs l)) ps ≡ P → total (neg_ℤ (pos (nat_abs l))) ps ≡ N
        → Rises (side_on t) l p.weight (pick (on t (nat_abs l)) (pick (holds (trail_set t) l) p.weight 0) (min p.weight (total (neg_ℤ l) ps - total l ps))) P N
    rises (pos zero) j P N e f = absurd (omega arith)
    rises (pos (suc a)) j P N e f =
        rw (e, f) (elim (on t (suc a)) as (λ b. pick b (pick (trail_set t (suc a)) (p.weight + P) N) (min (p.weight + P) N)
        ≡ pick b (pick (trail_set t (suc a)) p.weight 0) (min p.weight (N - P)) + pick b (pick (trail_set t (suc a)) P N) (min P N))
        [ true ↦ elim (trail_set t (suc a)) as (λ b. pick b (p.weight + P) N ≡ pick b p.weight 0 + pick b P N) [ true ↦ refl | false ↦ omega arith ] | false ↦ omega arith ])
    rises (negsuc a) j P N e f =
        rw (e, f) (elim (on t (suc a)) as (λ b. pick b (pick (trail_set t (suc a)) P (p.weight + N)) (min P (p.weight + N))
        ≡ pick b (pick (not (trail_set t (suc a))) p.weight 0) (min p.weight (P - N)) + pick b (pick (trail_set t (suc a)) P N) (min P N))
        [ true ↦ elim (trail_set t (suc a)) as (λ b. pick b P (p.weight + N) ≡ pick (not b) p.weight 0 + pick b P N) [ true ↦ omega arith | false ↦ refl ] | false ↦ omega arith ])

-- every set that agrees counts at least that much
pub owed_le : (n : ℕ) (t : Trail) (ps : List Weighed) → PairsIn n ps → (M : Set) → Agrees M t → owed t ps ≤ counts M M ps
owed_le n t ps i M g =
    rw (owed_by n t ps i, counts_by n M ps i) (sum_mono n _ _ (λ x j. less x (total (pos x) ps) (total (neg_ℤ (pos x)) ps) (on t x) refl))
  where
    less : (x P N : ℕ) (b : Bool) → on t x ≡ b → pick b (pick (trail_set t x) P N) (min P N) ≤ pick (M x) P N
    less x P N true e = rw (set_same t M x g (rw e tt)) (omega arith)
    less x P N false e = elim (M x) as (λ c. min P N ≤ pick c P N) [ true ↦ omega arith | false ↦ omega arith ]

-- the set that agrees and takes the lesser side of every undecided atom
pub lightest : Trail → List Weighed → Set
lightest t ps x = pick (on t x) (trail_set t x) (leb (total (pos x) ps) (total (neg_ℤ (pos x)) ps))

agrees_like : (M N : Set) (t u : Trail) → ((a : ℕ) → T (on u a) → N a ≡ M a) → ((a : ℕ) → T (on t a) → T (on u a)) → Agrees M t → Agrees N t
agrees_like M N [] u f h g = tt
agrees_like M N (s ∷ t) u f h g = (
  rw (holds_at N M (literal_of s) (f (nat_abs (literal_of s)) (h (nat_abs (literal_of s)) (yes_or_left (eqb (nat_abs (literal_of s)) (nat_abs (literal_of s))) (on t (nat_abs (literal_of s))) (eqb_refl (nat_abs (literal_of s))))))) g.0,
  agrees_like M N t u f (λ a x. h a (yes_or_right (eqb a (nat_abs (literal_of s))) (on t a) x)) g.1,
)

pub lightest_agrees : (n : ℕ) (t : Trail) → FormedTrail n t → (ps : List Weighed) → Agrees (lightest t ps) t
unfolding lightest
lightest_agrees n t w ps = agrees_like (trail_set t) (lightest t ps) t t (λ a x. here a (on t a) refl x) (λ a x. x) (set_agrees n t w)
  where
    here : (a : ℕ) (b : Bool) → on t a ≡ b → T (on t a) → pick (on t a) (trail_set t a) (leb (total (pos a) ps) (total (neg_ℤ (pos a)) ps)) ≡ trail_set t a
    here a true e x = rw e
    here a false e x = absurd (rw e at x)

-- and it counts just that
pub lightest_counts : (n : ℕ) (t : Trail) (ps : List Weighed) → PairsIn n ps → counts (lightest t ps) (lightest t ps) ps ≡ owed t ps
unfolding lightest
lightest_counts n t ps i =
    counts_by n (lightest t ps) ps i
    ∙ sum_same n _ _ (λ x j. equal x (total (pos x) ps) (total (neg_ℤ (pos x)) ps) (on t x) (leb (total (pos x) ps) (total (neg_ℤ (pos x)) ps)) refl) ∙ sym (owed_by n t ps i)
  where
    equal : (x P N : ℕ) (b c : Bool) → leb P N ≡ c → pick (pick b (trail_set t x) c) P N ≡ pick b (pick (trail_set t x) P N) (min P N)
    equal x P N true c e = refl
    equal x P N false true e = let h : P ≤ N = leb→le P N (rw e tt) in omega arith
    equal x P N false false e = let h : ¬ (P ≤ N) = λ l. no c' (le→leb P N l) in omega arith
      where
        c' : leb P N ≡ false
        c' = e

        no : leb P N ≡ false → T (leb P N) → ⊥
        no q x = rw q at x

-- ---- rules: both ways

head_is : (M : Set) (h : ℕ) → 1 ≤ h → holds M (neg_ℤ (pos h)) ≡ not (M h)
head_is M zero k = absurd (omega arith)
head_is M (suc h) k = refl

head_all : (n : ℕ) (t : Trail) (h : Head) → HeadIn n h → T (head_on t h) → InAll t (λ M. T (no_head_in M h))
head_all n t constraint i x M g = tt
head_all n t (plain h) i x M g = rw (← head_is M h i.0) (lit_all t (neg_ℤ (pos h)) x M g)
head_all n t (choice hs) i x M g = x

all_head : (n : ℕ) (t : Trail) → FormedTrail n t → (h : Head) → HeadIn n h → InAll t (λ M. T (no_head_in M h)) → T (head_on t h)
all_head n t w constraint i k = tt
all_head n t w (plain h) i k = all_lit n t w (neg_ℤ (pos h)) (λ M g. rw (head_is M h i.0) (k M g))
all_head n t w (choice hs) i k = k (trail_set t) (set_agrees n t w)

body_all : (n : ℕ) (t : Trail) (b : Body) → BodyIn n b → T (body_on t b) → InAll t (λ M. T (body_holds M M b))
body_all n t (normal ls) i x M g = lits_all t ls x M g
body_all n t (weighted b ps) i x M g = le→leb b (counts M M ps) (omega (arith, leb→le b (owed t ps) x, owed_le n t ps i M g))

all_body : (n : ℕ) (t : Trail) → FormedTrail n t → (b : Body) → BodyIn n b → InAll t (λ M. T (body_holds M M b)) → T (body_on t b)
all_body n t w (normal ls) i k = all_lits n t w ls k
all_body n t w (weighted b ps) i k = rw (← lightest_counts n t ps i) (k (lightest t ps) (lightest_agrees n t w ps))

-- A rule is broken in every set that agrees just if all its conditions are on the trail.
pub rule_all : (n : ℕ) (t : Trail) (r : Rule) → RuleIn n r → T (rule_on t r) → InAll t (λ M. T (broken_in M r))
rule_all n t r i x M g =
    let h = and_yes (head_on t r.head) (body_on t r.body) x in
    yes_and (no_head_in M r.head) (body_holds M M r.body) (head_all n t r.head i.0 h.0 M g) (body_all n t r.body i.1 h.1 M g)

pub all_rule : (n : ℕ) (t : Trail) → FormedTrail n t → (r : Rule) → RuleIn n r → InAll t (λ M. T (broken_in M r)) → T (rule_on t r)
all_rule n t w r i k =
    yes_and (head_on t r.head) (body_on t r.body)
    (all_head n t w r.head i.0 (λ M g. (and_yes (no_head_in M r.head) (body_holds M M r.body) (k M g)).0))
    (all_body n t w r.body i.1 (λ M g. (and_yes (no_head_in M r.head) (body_holds M M r.body) (k M g)).1))

pub rules_all : (n : ℕ) (t : Trail) (rs : List Rule) → All (RuleIn n) rs → T (rules_on t rs) → RuleFails t rs
unfolding rules_on
rules_all n t [] i x = x
rules_all n t (r ∷ rs) i x = ⊎_map (rule_all n t r i.0) (rules_all n t rs i.1) (or_yes (rule_on t r) (rules_on t rs) x)

pub all_rules : (n : ℕ) (t : Trail) → FormedTrail n t → (rs : List Rule) → All (RuleIn n) rs → RuleFails t rs → T (rules_on t rs)
unfolding rules_on
all_rules n t w [] i k = k
all_rules n t w (r ∷ rs) i (inl k) = yes_or_left (rule_on t r) (rules_on t rs) (all_rule n t w r i.0 k)
all_rules n t w (r ∷ rs) i (inr k) = yes_or_right (rule_on t r) (rules_on t rs) (all_rules n t w rs i.1 k)

-- ---- soft literals of entries: both ways

violated_is : (M : Set) (l : ℤ) → 1 ≤ nat_abs l → violated_in M l ≡ holds M (neg_ℤ l)
violated_is M l h = sym (holds_complement M l h)

pub soft_all : (t : Trail) (l : ℤ) → 1 ≤ nat_abs l → T (soft_on t l) → InAll t (λ M. T (violated_in M l))
soft_all t l h x M g = rw (violated_is M l h) (lit_all t (neg_ℤ l) x M g)

pub all_soft : (n : ℕ) (t : Trail) → FormedTrail n t → (l : ℤ) → 1 ≤ nat_abs l → InAll t (λ M. T (violated_in M l)) → T (soft_on t l)
all_soft n t w l h k = all_lit n t w (neg_ℤ l) (λ M g. rw (violated_is M l h) at (k M g))

-- ---- a set with no atom outside 1 to n that agrees with a trail that holds all n atoms is the trail's set

pub set_only : (n : ℕ) (t : Trail) → FormedTrail n t → Only n (trail_set t)
set_only n t w = record { only = λ a x. go n t w a x }
  where
    go : (n : ℕ) (t : Trail) → FormedTrail n t → (a : ℕ) → T (trail_set t a) → In n a
    go n [] w a x = absurd x
    go n (s ∷ t) w a x = by (eqb a (nat_abs (literal_of s))) refl x (go n t w.2 a)
      where
        by : (b : Bool) → eqb a (nat_abs (literal_of s)) ≡ b → T (pick b (not (is_negative (literal_of s))) (trail_set t a)) → (T (trail_set t a) → In n a) → In n a
        by true e y r = subst (In n) (sym (eqb-true a (nat_abs (literal_of s)) e)) w.0
        by false e y r = r y

in_or : (n a : ℕ) → In n a ⊎ (¬ In n a)
in_or n a = elim (dec_le 1 a) [ yes h ↦ elim (dec_le a n) [ yes k ↦ inl (h, k) | no k ↦ inr (λ i. k i.1) ] | no h ↦ inr (λ i. h i.0) ]

outside : (b : Bool) → (T b → ⊥) → b ≡ false
outside true k = absurd (k tt)
outside false k = refl

pub full_is : (n : ℕ) (t : Trail) → FormedTrail n t → HoldsAll n t → (M : Set) → Only n M → Agrees M t → M ≡ trail_set t
full_is n t w f M k g = fun_ext (λ a. go a (in_or n a))
  where
    go : (a : ℕ) → In n a ⊎ (¬ In n a) → M a ≡ trail_set t a
    go a (inl i) = set_same t M a g (f a i)
    go a (inr i) = outside (M a) (λ x. i (k.only a x)) ∙ sym (outside (trail_set t a) (λ x. i ((set_only n t w).only a x)))
