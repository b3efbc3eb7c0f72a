-- The closure of a program's rules is the least closed set, and the test `is_stable` says just which sets are stable. Assumes nothing.
use mathlib.Core.Bool.{Bool, true, false, not, ◌||◌, beq}
use mathlib.Core.List.{List, [], ◌∷◌}
use mathlib.Core.Logic.{◌⊎◌, inl, inr, ⊎_elim}
use Prim.Native.Nat.{ℕ, zero, suc, ◌≤◌, zero-le}
use native.Mathlib.Omega.{arith}
use lib.Dec.{T, eqb, eqb→eq, leb→le, le→leb}
use lib.IntN.{ℤ, pos, negsuc}
use mir.Facts.{and_yes, yes_and, or_yes}
use Rattle.asp.specs.Sets.{Set, Sub, In, Only, same, pick}
use Rattle.asp.specs.Program.{Literal, Weighed, Body, normal, weighted, Head, constraint, plain, choice, Rule, All, HeadIn, RuleIn}
use Rattle.asp.specs.Stable.{holds_in, all_hold, counts, body_holds, member, head_adds, rule_adds, adds, any_violated, Closed, Stable, closure, is_stable}
use Rattle.asp.proofs.Closure.{Upto, upto_sub, sub_upto, upto_suc, sub_trans, inside, at_rest, iterate_only}

pub yes_or_left : (x y : Bool) → T x → T (x || y)
yes_or_left true y t = tt
yes_or_left false y t = absurd t

pub yes_or_right : (x y : Bool) → T y → T (x || y)
yes_or_right true y t = tt
yes_or_right false y t = t

-- ---- what the rules add grows with the set that they add to

pub literal_mono : {X Y : Set} → (M : Set) → Sub X Y → (l : ℤ) → T (holds_in M X l) → T (holds_in M Y l)
literal_mono M h (pos a) t = h.sub a t
literal_mono M h (negsuc a) t = t

pub literals_mono : {X Y : Set} → (M : Set) → Sub X Y → (ls : List Literal) → T (all_hold M X ls) → T (all_hold M Y ls)
unfolding all_hold
literals_mono M h [] t = tt
literals_mono {X} {Y} M h (l ∷ ls) t =
    let s = and_yes (holds_in M X l) (all_hold M X ls) t in
    yes_and (holds_in M Y l) (all_hold M Y ls) (literal_mono M h l s.0) (literals_mono M h ls s.1)

-- order 2: so does what a weighted body counts
pick_mono : (x y : Bool) (w : ℕ) → (T x → T y) → pick x w 0 ≤ pick y w 0
pick_mono true true w f = omega arith
pick_mono true false w f = absurd (f tt)
pick_mono false y w f = zero-le

pub counts_mono : {X Y : Set} → (M : Set) → Sub X Y → (ps : List Weighed) → counts M X ps ≤ counts M Y ps
unfolding counts
counts_mono M h [] = omega arith
counts_mono {X} {Y} M h (p ∷ ps) =
    omega (arith, pick_mono (holds_in M X p.literal) (holds_in M Y p.literal) p.weight (literal_mono M h p.literal), counts_mono M h ps)

pub body_mono : {X Y : Set} → (M : Set) → Sub X Y → (b : Body) → T (body_holds M X b) → T (body_holds M Y b)
body_mono M h (normal ls) t = literals_mono M h ls t
body_mono {X} {Y} M h (weighted b ps) t = le→leb b (counts M Y ps) (omega (arith, leb→le b (counts M X ps) t, counts_mono M h ps))

pub rule_mono : {X Y : Set} → (M : Set) → Sub X Y → (r : Rule) (a : ℕ) → T (rule_adds M r X a) → T (rule_adds M r Y a)
rule_mono {X} {Y} M h r a t =
    let s = and_yes (body_holds M X r.body) (head_adds M r.head a) t in
    yes_and (body_holds M Y r.body) (head_adds M r.head a) (body_mono M h r.body s.0) s.1

adds_mono_at : {X Y : Set} → (M : Set) → Sub X Y → (rs : List Rule) (a : ℕ) → T (adds M rs X a) → T (adds M rs Y a)
unfolding adds
adds_mono_at M h [] a t = t
adds_mono_at {X} {Y} M h (r ∷ rs) a t =
    ⊎_elim (λ s. yes_or_left (rule_adds M r Y a) (adds M rs Y a) (rule_mono M h r a s))
    (λ s. yes_or_right (rule_adds M r Y a) (adds M rs Y a) (adds_mono_at M h rs a s))
    (or_yes (rule_adds M r X a) (adds M rs X a) t)

pub adds_mono : (M : Set) (rs : List Rule) (X Y : Set) → Sub X Y → Sub (adds M rs X) (adds M rs Y)
adds_mono M rs X Y h = record { sub = λ a t. adds_mono_at M h rs a t }

-- ---- what they add is among the atoms 1 to n

pub member_in : (n : ℕ) (hs : List ℕ) → All (In n) hs → (a : ℕ) → T (member a hs) → In n a
unfolding member
member_in n [] i a t = absurd t
member_in n (h ∷ hs) i a t = go (or_yes (eqb a h) (member a hs) t) (member_in n hs i.1 a)
  where
    go : T (eqb a h) ⊎ T (member a hs) → (T (member a hs) → In n a) → In n a
    go (inl e) f = rw (eqb→eq a h e) i.0
    go (inr s) f = f s

pub head_in : (n : ℕ) (M : Set) (h : Head) → HeadIn n h → (a : ℕ) → T (head_adds M h a) → In n a
head_in n M constraint i a t = absurd t
head_in n M (plain h) i a t = rw (eqb→eq a h t) i
head_in n M (choice hs) i a t = member_in n hs i a (and_yes (M a) (member a hs) t).1

adds_in : (n : ℕ) (M : Set) (rs : List Rule) → All (RuleIn n) rs → (X : Set) (a : ℕ) → T (adds M rs X a) → In n a
unfolding adds
adds_in n M [] i X a t = absurd t
adds_in n M (r ∷ rs) i X a t =
    ⊎_elim (λ s. head_in n M r.head i.0.0 a (and_yes (body_holds M X r.body) (head_adds M r.head a) s).1)
    (adds_in n M rs i.1 X a)
    (or_yes (rule_adds M r X a) (adds M rs X a) t)

pub adds_only : (n : ℕ) (M : Set) (rs : List Rule) → All (RuleIn n) rs → (X : Set) → Only n (adds M rs X)
adds_only n M rs i X = record { only = adds_in n M rs i X }

-- ---- the closure

-- the iterated closure is the least closed set
pub closure_closed : (n : ℕ) (rs : List Rule) → All (RuleIn n) rs → (M : Set) → Closed rs M (closure n rs M)
closure_closed n rs i M = at_rest (adds M rs) (adds_mono M rs) n (adds_only n M rs i)

pub closure_least : (n : ℕ) (rs : List Rule) (M X : Set) → Closed rs M X → Sub (closure n rs M) X
closure_least n rs M X c = inside (adds M rs) (adds_mono M rs) X c (suc n)

pub closure_only : (n : ℕ) (rs : List Rule) → All (RuleIn n) rs → (M : Set) → Only n (closure n rs M)
closure_only n rs i M = iterate_only (adds M rs) (adds_mono M rs) n (adds_only n M rs i) (suc n)

-- ---- the test `same`

beq_yes : (x y : Bool) → T (beq x y) → (T x → T y) × (T y → T x)
beq_yes true true t = (λ s. s, λ s. s)
beq_yes true false t = absurd t
beq_yes false true t = absurd t
beq_yes false false t = (λ s. s, λ s. s)

yes_beq : (x y : Bool) → (T x → T y) → (T y → T x) → T (beq x y)
yes_beq true true f g = tt
yes_beq true false f g = f tt
yes_beq false true f g = g tt
yes_beq false false f g = tt

pub same_yes : (n : ℕ) (X Y : Set) → T (same n X Y) → Upto n X Y × Upto n Y X
unfolding same
same_yes zero X Y t = (record { upto = λ a i s. absurd (omega arith) }, record { upto = λ a i s. absurd (omega arith) })
same_yes (suc n) X Y t =
    let h = and_yes (beq (X (suc n)) (Y (suc n))) (same n X Y) t in
    let b = beq_yes (X (suc n)) (Y (suc n)) h.0 in
    let s = same_yes n X Y h.1 in
    (upto_suc s.0 b.0, upto_suc s.1 b.1)

pub yes_same : (n : ℕ) (X Y : Set) → Upto n X Y → Upto n Y X → T (same n X Y)
unfolding same
yes_same zero X Y f g = tt
yes_same (suc n) X Y f g =
    yes_and (beq (X (suc n)) (Y (suc n))) (same n X Y)
    (yes_beq (X (suc n)) (Y (suc n)) (f.upto (suc n) (omega arith)) (g.upto (suc n) (omega arith)))
    (yes_same n X Y (record { upto = λ a i t. f.upto a (omega arith) t }) (record { upto = λ a i t. g.upto a (omega arith) t }))

-- ---- the test is right

module _ (n : ℕ) (rs : List Rule) (heads : All (RuleIn n) rs) where
  -- a stable model has no atom outside 1 to n
  pub stable_only : (M : Set) → Stable rs M → Only n M
  stable_only M s =
      let c = closure_only n rs heads M in
      let h = s.least (closure n rs M) (closure_closed n rs heads M) in
      record { only = λ a t. c.only a (h.sub a t) }

  pub stable_yes : (M : Set) → Only n M → T (is_stable n rs M) → Stable rs M
  stable_yes M o t =
      let h = and_yes (not (any_violated M rs)) (same n M (closure n rs M)) t in
      let s = same_yes n M (closure n rs M) h.1 in
      let up : Sub M (closure n rs M) = sub_upto o s.0 in
      let down : Sub (closure n rs M) M = sub_upto (closure_only n rs heads M) s.1 in
      record {
        unviolated = h.0;
        closed = sub_trans (adds_mono M rs M (closure n rs M) up) (sub_trans (closure_closed n rs heads M) down);
        least = λ X c. sub_trans up (closure_least n rs M X c);
      }

  pub yes_stable : (M : Set) → Stable rs M → T (is_stable n rs M)
  yes_stable M s =
      yes_and (not (any_violated M rs)) (same n M (closure n rs M)) s.unviolated
      (yes_same n M (closure n rs M)
      (upto_sub (s.least (closure n rs M) (closure_closed n rs heads M)))
      (upto_sub (closure_least n rs M M s.closed)))
