-- The search, for any class of sets that is sought, any soft literals that are assumed, and any test of a trail that is right (`Says`): an advance keeps what was
-- refuted refuted and the trail well formed, and its count stays within what the trail has spent, below 2 ^ (n + 1) - 1. Assumes nothing.
use mathlib.Core.Path.{◌≡◌, refl, sym, subst}
use mathlib.Core.Bool.{Bool, true, false, ◌||◌}
use mathlib.Core.List.{List, [], ◌∷◌}
use mathlib.Core.Option.{Option, none, some}
use mathlib.Core.Logic.{⊎_elim}
use Prim.Native.Nat.{ℕ, suc, ◌+◌, ◌^◌, ◌≤◌, ◌<◌}
use native.Mathlib.Omega.{arith}
use lib.Dec.{T, eqb}
use lib.IntN.{ℤ, neg_ℤ, nat_abs, neg_ℤ-neg_ℤ}
use lib.ListN.{length}
use mir.Facts.{or_yes, eqb_yes, yes_eqb}
use Rattle.asp.specs.Sets.{Set, In, pick}
use Rattle.asp.specs.Program.{All, Out, Distinct}
use Rattle.asp.specs.Stable.{holds, member}
use Rattle.asp.proofs.Signed.{abs_neg}
use Rattle.asp.proofs.Literals.{holds_complement}
use Rattle.search.specs.Trail.{decision, flipped, Trail, NotOn, FormedTrail, Agrees, trail_set, flip}
use Rattle.search.specs.Machine.{Verdict, open', conflict, wanted, QueryState, running, without, model, blame, resume, advance_by}
use Rattle.search.proofs.Spent.{spent, spent_le, Dearer, flip_dearer}

-- ---- what is refuted

-- no set that is sought agrees with the trail
abbrev pub Dead : (Set → Type 0) → Trail → Type 0
Dead Goal t = (M : Set) → Goal M → Agrees M t → ⊥

-- under each flipped literal the other way is dead
abbrev pub Tried : (Set → Type 0) → Trail → Type 0
Tried Goal [] = Unit {0}
Tried Goal (decision l ∷ t) = Tried Goal t
Tried Goal (flipped l ∷ t) = Dead Goal (decision (neg_ℤ l) ∷ t) × Tried Goal t

-- P holds of the trail after a cut, if there is one
abbrev pub OnSome : (Trail → Type 0) → Option Trail → Type 0
OnSome P none = Unit {0}
OnSome P (some t) = P t

-- after a cut; where there is nothing left to cut, nothing is sought
abbrev pub TriedOr : (Set → Type 0) → Option Trail → Type 0
TriedOr Goal none = (M : Set) → Goal M → ⊥
TriedOr Goal (some t) = Tried Goal t

-- ---- what a cut keeps

pub flip_formed : (n : ℕ) (t : Trail) → FormedTrail n t → OnSome (FormedTrail n) (flip t)
flip_formed n [] w = tt
flip_formed n (decision l ∷ t) w = rw abs_neg w
flip_formed n (flipped l ∷ t) w = flip_formed n t w.2

pub flip_short : (n : ℕ) (t : Trail) → length t ≤ n → OnSome (λ u. length u ≤ n) (flip t)
flip_short n [] h = tt
flip_short n (decision l ∷ t) h = h
flip_short n (flipped l ∷ t) h = flip_short n t (omega arith)

module _ (Goal : Set → Type 0) where
  -- both ways are dead, so the trail is
  both_dead : (l : ℤ) (t : Trail) → 1 ≤ nat_abs l → Dead Goal (decision (neg_ℤ l) ∷ t) → Dead Goal (flipped l ∷ t) → Dead Goal t
  both_dead l t h d₁ d₂ M g a = go (holds M l) refl
    where
      go : (b : Bool) → holds M l ≡ b → ⊥
      go true e = d₂ M g (rw e tt, a)
      go false e = d₁ M g (rw (holds_complement M l h, e) tt, a)

  pub flip_tried : (n : ℕ) (t : Trail) → FormedTrail n t → Tried Goal t → Dead Goal t → TriedOr Goal (flip t)
  flip_tried n [] w r d = λ M g. d M g tt
  flip_tried n (decision l ∷ t) w r d = (λ M g a. d M g (rw neg_ℤ-neg_ℤ at a.0, a.1), r)
  flip_tried n (flipped l ∷ t) w r d = flip_tried n t w.2 r.1 (both_dead l t w.0.0 r.0 d)

-- less is sought: what was dead stays so
pub dead_less : (G H : Set → Type 0) (t : Trail) → ((M : Set) → H M → G M) → Dead G t → Dead H t
dead_less G H t f d = λ M h a. d M (f M h) a

pub tried_less : (G H : Set → Type 0) (t : Trail) → ((M : Set) → H M → G M) → Tried G t → Tried H t
tried_less G H [] f r = tt
tried_less G H (decision l ∷ t) f r = tried_less G H t f r
tried_less G H (flipped l ∷ t) f r = (dead_less G H (decision (neg_ℤ l) ∷ t) f r.0, tried_less G H t f r.1)

-- ---- what is blamed

not_member : (m : ℕ) (ms : List ℕ) → (¬ T (member m ms)) → Out m ms
unfolding member
not_member m [] h = tt
not_member m (x ∷ xs) h = (λ e. h (left (eqb m x) (member m xs) (yes_eqb e)), not_member m xs (λ t. h (right (eqb m x) (member m xs) t)))
  where
    left : (a b : Bool) → T a → T (a || b)
    left true b t = tt
    left false b t = absurd t

    right : (a b : Bool) → T b → T (a || b)
    right true b t = tt
    right false b t = t

member_all : (P : ℕ → Type 0) (m : ℕ) (ms : List ℕ) → T (member m ms) → All P ms → P m
unfolding member
member_all P m [] h a = absurd h
member_all P m (x ∷ xs) h a = ⊎_elim (λ e. subst P (sym (eqb_yes e)) a.0) (λ t. member_all P m xs t a.1) (or_yes (eqb m x) (member m xs) h)

blame_distinct : (b : Option ℕ) (ms : List ℕ) → Distinct ms → Distinct (blame b ms)
blame_distinct none ms d = d
blame_distinct (some m) ms d = go (member m ms) refl
  where
    go : (x : Bool) → member m ms ≡ x → Distinct (pick x ms (m ∷ ms))
    go true e = d
    go false e = (not_member m ms (λ t. rw e at t), d)

-- P holds of the one that is blamed, if one is
abbrev pub OfSome : (ℕ → Type 0) → Option ℕ → Type 0
OfSome P none = Unit {0}
OfSome P (some m) = P m

blame_keeps : (P : ℕ → Type 0) (b : Option ℕ) (ms : List ℕ) → OfSome P b → All P ms → All P (blame b ms)
blame_keeps P none ms h a = a
blame_keeps P (some m) ms h a = go (member m ms)
  where
    go : (x : Bool) → All P (pick x ms (m ∷ ms))
    go true = a
    go false = (h, a)

-- all that are blamed then were blamed before, or are the new one
blame_all : (P : ℕ → Type 0) (b : Option ℕ) (ms : List ℕ) → All P (blame b ms) → All P ms × OfSome P b
blame_all P none ms a = (a, tt)
blame_all P (some m) ms a = go (member m ms) refl a
  where
    go : (x : Bool) → member m ms ≡ x → All P (pick x ms (m ∷ ms)) → All P ms × P m
    go true e a = (a, member_all P m ms (rw e tt) a)
    go false e a = (a.1, a.0)

-- ---- the problem of a query

-- what a query is about: atoms 1 to n; a class of sets; which soft literals, by number, it assumes; which of them a set meets
pub record Problem : Type 1 where
  pub n : ℕ
  pub Class : Set → Type 0
  pub Assumed : ℕ → Type 0
  pub Met : Set → ℕ → Type 0

module _ (P : Problem) where
  open P use {n, Class, Assumed, Met}

  -- what it seeks: sets of the class that meet all that is assumed
  abbrev pub Sought : Set → Type 0
  Sought M = Class M × ((m : ℕ) → Assumed m → Met M m)

  -- the weaker thing that its conflicts refute: sets of the class that meet what is blamed
  abbrev pub Meets : List ℕ → Set → Type 0
  Meets ms M = Class M × All (Met M) ms

  -- ---- what each verdict says of the trail

  abbrev pub Says : Trail → Verdict → Type 0
  Says t (open' l) = (length t < n) × In n (nat_abs l) × NotOn (nat_abs l) t
  Says t (conflict none) = Dead Class t
  Says t (conflict (some m)) = Assumed m × Dead (λ M. Class M × Met M m) t
  Says t wanted = Sought (trail_set t)

  -- ---- the invariant

  pub record GoodTrail (t : Trail) (ms : List ℕ) : Type 0 where
    pub formed : FormedTrail n t
    pub short : length t ≤ n
    pub tried : Tried (Meets ms) t
    pub distinct : Distinct ms
    pub assumed : All Assumed ms

  -- no set of the class meets the blamed ones together
  pub record NoneMeets (ms : List ℕ) : Type 0 where
    pub none_meets : (M : Set) → Meets ms M → ⊥
    pub distinct : Distinct ms
    pub assumed : All Assumed ms

  abbrev pub Good : QueryState → Type 0
  Good (running t ms) = GoodTrail t ms
  Good (without ms) = NoneMeets ms
  Good (model M) = Sought M

  pub good_start : GoodTrail [] []
  good_start = record { formed = tt; short = omega arith; tried = tt; distinct = tt; assumed = tt }

  good_resume : (o : Option Trail) (ms : List ℕ) → OnSome (FormedTrail n) o → OnSome (λ t. length t ≤ n) o → TriedOr (Meets ms) o → Distinct ms → All Assumed ms → Good (resume o ms)
  good_resume none ms w h r d a = record { none_meets = r; distinct = d; assumed = a }
  good_resume (some t) ms w h r d a = record { formed = w; short = h; tried = r; distinct = d; assumed = a }

  conflict_dead : (t : Trail) (b : Option ℕ) → Says t (conflict b) → Dead (λ M. Class M × OfSome (Met M) b) t
  conflict_dead t none d = λ M g a. d M g.0 a
  conflict_dead t (some m) d = d.1

  -- a conflict keeps it, however what is blamed is kept: ms₁ has all that was blamed, and b
  pub good_cut : (t : Trail) (b : Option ℕ) (ms ms₁ : List ℕ) → Says t (conflict b) → ((Q : ℕ → Type 0) → All Q ms₁ → All Q ms × OfSome Q b) → Distinct ms₁ → All Assumed ms₁
      → GoodTrail t ms → Good (resume (flip t) ms₁)
  good_cut t b ms ms₁ r f d a g =
      let u : Tried (Meets ms₁) t = tried_less (Meets ms) (Meets ms₁) t (λ M h. (h.0, (f (Met M) h.1).0)) g.tried in
      let z : Dead (Meets ms₁) t = λ M h. conflict_dead t b r M (h.0, (f (Met M) h.1).1) in
      good_resume (flip t) ms₁ (flip_formed n t g.formed) (flip_short n t g.short) (flip_tried (Meets ms₁) n t g.formed u z) d a

  conflict_assumed : (t : Trail) (b : Option ℕ) → Says t (conflict b) → OfSome Assumed b
  conflict_assumed t none r = tt
  conflict_assumed t (some m) r = r.0

  -- an advance keeps it: what a program's loop cites, for what its own test has said
  pub good_advance : (t : Trail) (ms : List ℕ) (x : Verdict) → Says t x → GoodTrail t ms → Good (advance_by x t ms)
  good_advance t ms (open' l) r g = record { formed = (r.1, r.2, g.formed); short = r.0; tried = g.tried; distinct = g.distinct; assumed = g.assumed }
  good_advance t ms (conflict b) r g =
      good_cut t b ms _ r (λ Q a. blame_all Q b ms a) (blame_distinct b ms g.distinct) (blame_keeps Assumed b ms (conflict_assumed t b r) g.assumed) g
  good_advance t ms wanted r g = r

  -- ---- the count: k steps were made at most, as the trail says

  abbrev pub Paid : ℕ → QueryState → Type 0
  Paid k (running t ms) = k ≤ spent n t
  Paid k (without ms) = k + 1 ≤ 2 ^ suc n
  Paid k (model M) = k + 1 ≤ 2 ^ suc n

  paid_resume : (k b : ℕ) (o : Option Trail) (ms : List ℕ) → k ≤ b → b + 2 ≤ 2 ^ suc n → Dearer n b o → Paid (suc k) (resume o ms)
  paid_resume k b none ms h l d = omega arith
  paid_resume k b (some t) ms h l d = omega arith

  pub paid_advance : (k : ℕ) (t : Trail) (ms : List ℕ) (x : Verdict) → length t ≤ n → k ≤ spent n t → Paid (suc k) (advance_by x t ms)
  paid_advance k t ms (open' l) h c = omega arith
  paid_advance k t ms (conflict b) h c = paid_resume k (spent n t) (flip t) (blame b ms) c (spent_le n t h) (flip_dearer n t h)
  paid_advance k t ms wanted h c = omega (arith, spent_le n t h)
