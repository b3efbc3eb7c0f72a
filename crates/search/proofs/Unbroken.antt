-- A stable model breaks no rule. Assumes nothing.
use mathlib.Core.Path.{◌≡◌, refl}
use mathlib.Core.Bool.{Bool, true, false, not, ◌||◌}
use mathlib.Core.List.{List, [], ◌∷◌}
use mathlib.Core.Logic.{inl, inr}
use Prim.Native.Nat.{ℕ}
use lib.Dec.{T, eqb_refl}
use mir.Facts.{and_yes, yes_and, T_not}
use Rattle.asp.specs.Sets.{Set}
use Rattle.asp.specs.Program.{Head, constraint, plain, choice, Rule, All}
use Rattle.asp.specs.Stable.{body_holds, rule_adds, adds, constraint_fails, any_violated, Stable}
use Rattle.search.specs.Trail.{Trail, Agrees}
use Rattle.search.specs.Query.{broken_in, no_head_in, RuleFails}
use Rattle.search.proofs.Counts.{yes_or_left, yes_or_right}

-- M breaks none of the rules
abbrev pub NoneBroken : List Rule → Set → Type 0
NoneBroken rs M = All (λ (r : Rule). ¬ T (broken_in M r)) rs

not_or : (a b : Bool) → T (not (a || b)) → T (not a) × T (not b)
not_or true b x = absurd x
not_or false b x = (tt, x)

rule_kept : (M : Set) (r : Rule) → T (not (constraint_fails M r)) → ((a : ℕ) → T (rule_adds M r M a) → T (M a)) → ¬ T (broken_in M r)
rule_kept M r x f k = go r.head refl (and_yes (no_head_in M r.head) (body_holds M M r.body) k)
  where
    go : (h : Head) → r.head ≡ h → T (no_head_in M r.head) × T (body_holds M M r.body) → ⊥
    go constraint e y = T_not (body_holds M M r.body) y.1 (rw e at x)
    go (plain h) e y = T_not (M h) (f h (yes_and (body_holds M M r.body) _ y.1 (rw e (eqb_refl h)))) (rw e at y.0)
    go (choice hs) e y = rw e at y.0

pub kept_all : (rs : List Rule) (M : Set) → T (not (any_violated M rs)) → ((a : ℕ) → T (adds M rs M a) → T (M a)) → NoneBroken rs M
unfolding any_violated adds
kept_all [] M x f = tt
kept_all (r ∷ rs) M x f =
    let y = not_or (constraint_fails M r) (any_violated M rs) x in
    (rule_kept M r y.0 (λ a z. f a (yes_or_left (rule_adds M r M a) (adds M rs M a) z)), kept_all rs M y.1 (λ a z. f a (yes_or_right (rule_adds M r M a) (adds M rs M a) z)))

pub stable_unbroken : (rs : List Rule) (M : Set) → Stable rs M → NoneBroken rs M
stable_unbroken rs M s = kept_all rs M s.unviolated s.closed.sub

-- so no set that breaks no rule agrees with a trail in whose sets a rule is broken
pub fails_none : (t : Trail) (rs : List Rule) (M : Set) → RuleFails t rs → NoneBroken rs M → Agrees M t → ⊥
fails_none t [] M f b g = f
fails_none t (r ∷ rs) M (inl f) b g = b.0 (f M g)
fails_none t (r ∷ rs) M (inr f) b g = fails_none t rs M f b.1 g
