-- That each atom of the rules is one of 1 to n is said in one way only. Assumes nothing.
use mathlib.Core.List.{List, [], ◌∷◌}
use Prim.Native.Nat.{ℕ}
use Rattle.std.specs.Coded.{×_prop, Unit-prop, le_prop}
use Rattle.asp.specs.Sets.{In}
use Rattle.asp.specs.Program.{All, LiteralIn, Weighed, Body, normal, weighted, BodyIn, Head, constraint, plain, choice, HeadIn, Rule, RuleIn}

pub all-prop : {A : Type 0} (P : A → Type 0) → ((x : A) → IsProp (P x)) → (xs : List A) → IsProp (All P xs)
all-prop P f [] = Unit-prop
all-prop P f (x ∷ xs) = ×_prop (f x) (all-prop P f xs)

in-prop : (n a : ℕ) → IsProp (In n a)
in-prop n a = ×_prop le_prop le_prop

body_in-prop : (n : ℕ) (b : Body) → IsProp (BodyIn n b)
body_in-prop n (normal ls) = all-prop (LiteralIn n) (λ l. ×_prop le_prop le_prop) ls
body_in-prop n (weighted b ps) = all-prop (λ (p : Weighed). LiteralIn n p.literal) (λ p. ×_prop le_prop le_prop) ps

head_in-prop : (n : ℕ) (h : Head) → IsProp (HeadIn n h)
head_in-prop n constraint = Unit-prop
head_in-prop n (plain a) = ×_prop le_prop le_prop
head_in-prop n (choice hs) = all-prop (In n) (in-prop n) hs

pub rules_in-prop : (n : ℕ) (rs : List Rule) → IsProp (All (RuleIn n) rs)
rules_in-prop n rs = all-prop (RuleIn n) (λ r. ×_prop (head_in-prop n r.head) (body_in-prop n r.body)) rs
