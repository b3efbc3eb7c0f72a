-- `models` lists the stable models of a program: each of them, and no other set. Assumes nothing.
use mathlib.Core.Path.{◌≡◌, refl, sym, ap, subst, ◌∙◌, fun_ext}
use mathlib.Core.Bool.{Bool, true, false, not, ◌&&◌, ◌||◌, cond}
use mathlib.Core.List.{List, [], ◌∷◌, ◌++◌, map}
use mathlib.Core.Logic.{◌⊎◌, inl, inr}
use Prim.Native.Nat.{ℕ, zero, suc, ◌<◌}
use native.Mathlib.Nat.{eq-or-lt_of_le}
use native.Mathlib.Omega.{arith}
use lib.Dec.{T, eqb, eqb→eq}
use mir.Facts.{and_yes, or_yes}
use borrow.Author.Tests.{eq-eqb}
use Rattle.asp.specs.Sets.{Set, In, Only}
use Rattle.asp.specs.Program.{Rule, All, RuleIn}
use Rattle.asp.specs.Stable.{member, Stable, is_stable, listed, subsets, keep, models}
use Rattle.asp.proofs.Stability.{stable_only, stable_yes, yes_stable}

-- M is the set of one of the lists
abbrev pub OneOf : Set → List (List ℕ) → Type 0
OneOf M [] = ⊥
OneOf M (xs ∷ xss) = (M ≡ listed xs) ⊎ OneOf M xss

-- ---- every set of the atoms 1 to n is among `subsets n`, and every one there is such a set

one_left : (M : Set) (xss yss : List (List ℕ)) → OneOf M xss → OneOf M (xss ++ yss)
one_left M [] yss h = absurd h
one_left M (xs ∷ xss) yss (inl e) = inl e
one_left M (xs ∷ xss) yss (inr h) = inr (one_left M xss yss h)

one_right : (M : Set) (xss yss : List (List ℕ)) → OneOf M yss → OneOf M (xss ++ yss)
one_right M [] yss h = h
one_right M (xs ∷ xss) yss h = inr (one_right M xss yss h)

one_of_both : (M : Set) (xss yss : List (List ℕ)) → OneOf M (xss ++ yss) → OneOf M xss ⊎ OneOf M yss
one_of_both M [] yss h = inr h
one_of_both M (xs ∷ xss) yss (inl e) = inl (inl e)
one_of_both M (xs ∷ xss) yss (inr h) = go (one_of_both M xss yss h)
  where
    go : OneOf M xss ⊎ OneOf M yss → OneOf M (xs ∷ xss) ⊎ OneOf M yss
    go (inl k) = inl (inr k)
    go (inr k) = inr k

-- the set less an atom
without : ℕ → Set → Set
without n M a = M a && not (eqb a n)

with_again : (n : ℕ) (M : Set) → M n ≡ true → (xs : List ℕ) → without n M ≡ listed xs → M ≡ listed (n ∷ xs)
unfolding member without
with_again n M t xs e = fun_ext (λ a. go a (eqb a n) refl)
  where
    there : (a : ℕ) → (M a && not (eqb a n)) ≡ member a xs
    there a = ap (λ (X : Set). X a) e

    go : (a : ℕ) (b : Bool) → eqb a n ≡ b → M a ≡ (eqb a n || member a xs)
    go a true q = rw (q, eqb→eq a n (rw q tt)) t
    go a false q = rw q (simple (M a) ∙ rw q at (there a))
      where
        simple : (x : Bool) → x ≡ (x && not false)
        simple true = refl
        simple false = refl

one_map : (n : ℕ) (M : Set) → M n ≡ true → (xss : List (List ℕ)) → OneOf (without n M) xss → OneOf M (map (λ xs. n ∷ xs) xss)
one_map n M t [] h = absurd h
one_map n M t (xs ∷ xss) (inl e) = inl (with_again n M t xs e)
one_map n M t (xs ∷ xss) (inr h) = inr (one_map n M t xss h)

only_pred : (n : ℕ) (M : Set) → Only (suc n) M → M (suc n) ≡ false → Only n M
only_pred n M o f = record { only = λ a t. go a t (eq-or-lt_of_le (o.only a t).1) }
  where
    go : (a : ℕ) → T (M a) → (a ≡ suc n) ⊎ (a < suc n) → In n a
    go a t (inl e) = absurd (rw (e, f) at t)
    go a t (inr h) = omega (arith, o.only a t)

without_here : (n : ℕ) (M : Set) → without n M n ≡ false
unfolding without
without_here n M = rw (eq-eqb n n refl) (go (M n))
  where
    go : (x : Bool) → (x && false) ≡ false
    go true = refl
    go false = refl

without_only : (n : ℕ) (M : Set) → Only n M → (k : ℕ) → Only n (without k M)
unfolding without
without_only n M o k = record { only = λ a t. o.only a (and_yes (M a) (not (eqb a k)) t).0 }

no_atoms : (M : Set) → Only 0 M → M ≡ listed []
unfolding member
no_atoms M o = fun_ext (λ a. go a (M a) refl)
  where
    go : (a : ℕ) (b : Bool) → M a ≡ b → M a ≡ false
    go a true q = absurd (omega (arith, o.only a (rw q tt)))
    go a false q = q

pub subsets_all : (n : ℕ) (M : Set) → Only n M → OneOf M (subsets n)
unfolding subsets
subsets_all zero M o = inl (no_atoms M o)
subsets_all (suc n) M o = go (M (suc n)) refl (subsets_all n)
  where
    go : (b : Bool) → M (suc n) ≡ b → ((X : Set) → Only n X → OneOf X (subsets n)) → OneOf M (subsets n ++ map (λ xs. suc n ∷ xs) (subsets n))
    go true q f =
        one_right M (subsets n) (map (λ xs. suc n ∷ xs) (subsets n))
        (one_map (suc n) M q (subsets n) (f (without (suc n) M) (only_pred n (without (suc n) M) (without_only (suc n) M o (suc n)) (without_here (suc n) M))))
    go false q f = one_left M (subsets n) (map (λ xs. suc n ∷ xs) (subsets n)) (f M (only_pred n M o q))

-- ---- all atoms of a list of `subsets n` are in 1 to n

all_join : {A : Type 0} (P : A → Type 0) (xs ys : List A) → All P xs → All P ys → All P (xs ++ ys)
all_join P [] ys h k = k
all_join P (x ∷ xs) ys h k = (h.0, all_join P xs ys h.1 k)

all_map : {A : Type 0} (P Q : A → Type 0) (f : A → A) → ((x : A) → P x → Q (f x)) → (xs : List A) → All P xs → All Q (map f xs)
all_map P Q f g [] h = tt
all_map P Q f g (x ∷ xs) h = (g x h.0, all_map P Q f g xs h.1)

all_weaken : {A : Type 0} (P Q : A → Type 0) → ((x : A) → P x → Q x) → (xs : List A) → All P xs → All Q xs
all_weaken P Q g [] h = tt
all_weaken P Q g (x ∷ xs) h = (g x h.0, all_weaken P Q g xs h.1)

subsets_only : (n : ℕ) → All (λ xs. Only n (listed xs)) (subsets n)
unfolding subsets member
subsets_only zero = (record { only = λ a t. absurd t }, tt)
subsets_only (suc n) =
    all_join (λ xs. Only (suc n) (listed xs)) (subsets n) (map (λ xs. suc n ∷ xs) (subsets n))
    (all_weaken (λ xs. Only n (listed xs)) (λ xs. Only (suc n) (listed xs)) wider (subsets n) (subsets_only n))
    (all_map (λ xs. Only n (listed xs)) (λ xs. Only (suc n) (listed xs)) (λ xs. suc n ∷ xs) more (subsets n) (subsets_only n))
  where
    wider : (xs : List ℕ) → Only n (listed xs) → Only (suc n) (listed xs)
    wider xs o = record { only = λ a t. omega (arith, o.only a t) }

    more : (xs : List ℕ) → Only n (listed xs) → Only (suc n) (listed (suc n ∷ xs))
    more xs o = record { only = λ a t. go a (or_yes (eqb a (suc n)) (member a xs) t) }
      where
        go : (a : ℕ) → T (eqb a (suc n)) ⊎ T (member a xs) → In (suc n) a
        go a (inl e) = omega (arith, eqb→eq a (suc n) e)
        go a (inr s) = omega (arith, o.only a s)

-- ---- the lists that a test keeps

kept : (f : List ℕ → Bool) (M : Set) (xss : List (List ℕ)) → OneOf M xss → ((xs : List ℕ) → M ≡ listed xs → T (f xs)) → OneOf M (keep f xss)
unfolding keep
kept f M [] h g = absurd h
kept f M (xs ∷ xss) h g = go (f xs) refl h (λ k. kept f M xss k g)
  where
    go : (b : Bool) → f xs ≡ b → OneOf M (xs ∷ xss) → (OneOf M xss → OneOf M (keep f xss)) → OneOf M (cond (f xs) (xs ∷ keep f xss) (keep f xss))
    go true q (inl e) k = rw q (inl e)
    go true q (inr r) k = rw q (inr (k r))
    go false q (inl e) k = absurd (rw q at (g xs e))
    go false q (inr r) k = rw q (k r)

keeps : (f : List ℕ → Bool) (P : List ℕ → Type 0) (M : Set) (xss : List (List ℕ)) → All P xss → OneOf M (keep f xss)
    → (xs : List ℕ) × (M ≡ listed xs) × P xs × T (f xs)
unfolding keep
keeps f P M [] e h = absurd h
keeps f P M (xs ∷ xss) e h = go (f xs) refl h (keeps f P M xss e.1)
  where
    go : (b : Bool) → f xs ≡ b → OneOf M (cond (f xs) (xs ∷ keep f xss) (keep f xss))
        → (OneOf M (keep f xss) → (ys : List ℕ) × (M ≡ listed ys) × P ys × T (f ys)) → (ys : List ℕ) × (M ≡ listed ys) × P ys × T (f ys)
    go true q h k = one (rw q at h)
      where
        one : (M ≡ listed xs) ⊎ OneOf M (keep f xss) → (ys : List ℕ) × (M ≡ listed ys) × P ys × T (f ys)
        one (inl m) = (xs, m, e.0, rw q tt)
        one (inr r) = k r
    go false q h k = k (rw q at h)

-- ---- exactly the stable models

module _ (n : ℕ) (rs : List Rule) (heads : All (RuleIn n) rs) where
  pub models_all : (M : Set) → Stable rs M → OneOf M (models n rs)
  models_all M s =
      kept (λ xs. is_stable n rs (listed xs)) M (subsets n) (subsets_all n M (stable_only n rs heads M s))
      (λ xs e. subst (λ (X : Set). T (is_stable n rs X)) e (yes_stable n rs heads M s))

  pub models_only : (M : Set) → OneOf M (models n rs) → Stable rs M
  models_only M h = go (keeps (λ xs. is_stable n rs (listed xs)) (λ xs. Only n (listed xs)) M (subsets n) (subsets_only n) h)
    where
      go : (xs : List ℕ) × (M ≡ listed xs) × Only n (listed xs) × T (is_stable n rs (listed xs)) → Stable rs M
      go k = subst (λ (X : Set). Stable rs X) (sym k.1) (stable_yes n rs heads (listed k.0) k.2 k.3)
