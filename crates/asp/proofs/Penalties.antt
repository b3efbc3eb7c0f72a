-- A level's cost is its start plus what its penalties charge; its weight is theirs; and figures over one start compare as what they are above it. Assumes nothing.
use mathlib.Core.Path.{◌≡◌, refl, sym, ap, ap₂, ◌∙◌}
use mathlib.Core.Bool.{Bool, true, false, not, cond}
use mathlib.Core.List.{List, [], ◌∷◌}
use mathlib.Core.Logic.{inl, inr}
use Prim.Native.Nat.{ℕ, zero, suc, ◌+◌, ◌-◌, ◌≤◌, zero-le}
use native.Mathlib.Omega.{arith}
use lib.Dec.{eqb, ltb}
use lib.IntN.{ℤ, pos, negsuc, neg_ℤ, nat_abs, ◌+ℤ◌, ◌-ℤ◌, +ℤ_assoc, +ℤ_comm, +ℤ_idl, +ℤ_idr, +ℤ_invl, +ℤ_invr, neg_ℤ-+ℤ}
use lib.ListN.{length}
use lib.Signed.{lt_z}
use borrow.Author.Tests.{ltb-true, ltb-false, eq-eqb, eqb-true}
use Rattle.asp.specs.Sets.{Set, pick}
use Rattle.asp.specs.Literal.{same_ℤ, is_negative}
use Rattle.asp.specs.Program.{Literal, All}
use Rattle.asp.specs.declared.entries.Entry.{Entry}
use Rattle.asp.specs.Stable.{holds}
use Rattle.asp.specs.Cost.{level, total, total_ℤ, weight, cost, negative_part, start, cheaper, NoDearer}
use Rattle.asp.specs.Penalty.{paid_literal, penalty, penalties, penalty_charge, charge, bulk, above, rise}
use Rattle.asp.proofs.Literals.{holds_complement}
use Rattle.asp.proofs.Signed.{abs_neg, same_refl, same_true, sum_size}

-- what holds of all entries holds of a level's
pub level_all : (P : Entry → Type 0) (q : ℤ) (es : List Entry) → All P es → All P (level q es)
unfolding level
level_all P q [] a = tt
level_all P q (e ∷ es) a =
    elim (same_ℤ q e.priority) as (λ b. All P (pick b (e ∷ level q es) (level q es))) [ true ↦ (a.0, level_all P q es a.1) | false ↦ level_all P q es a.1 ]

-- literals are of atoms from 1 on
abbrev pub Named : List Entry → Type 0
Named = All (λ (e : Entry). 1 ≤ nat_abs e.literal)

-- ---- sums

left_comm : (a b c : ℤ) → a +ℤ (b +ℤ c) ≡ b +ℤ (a +ℤ c)
left_comm a b c = sym (+ℤ_assoc a b c) ∙ ap (λ (z : ℤ). z +ℤ c) (+ℤ_comm a b) ∙ +ℤ_assoc b a c

swap : (a b c d : ℤ) → (a +ℤ b) +ℤ (c +ℤ d) ≡ (a +ℤ c) +ℤ (b +ℤ d)
swap a b c d = simp (+ℤ_assoc, +ℤ_comm, left_comm)

-- ---- the literal that costs is of the entry's atom

pub paid_atom : (l w : ℤ) → nat_abs (paid_literal l w) ≡ nat_abs l
paid_atom l (pos w) = refl
paid_atom l (negsuc w) = search abs_neg

-- ---- one entry: "It counts as a fixed -w and a wish of weight w for the literal itself."

entry_is : (M : Set) (l : Literal) (w : ℤ) → 1 ≤ nat_abs l → pick (holds M l) w (pos 0) ≡ negative_part w +ℤ pos (pick (holds M (paid_literal l w)) (nat_abs w) 0)
entry_is M l (pos w) h = go (holds M l)
  where
    go : (b : Bool) → pick b (pos w) (pos 0) ≡ pos 0 +ℤ pos (pick b w 0)
    go true = sym (+ℤ_idl (pos w))
    go false = refl
entry_is M l (negsuc w) h = rw wished (go (holds M l))
  where
    -- the literal that costs is the complement
    wished : holds M (paid_literal l (negsuc w)) ≡ not (holds M l)
    wished = holds_complement M l h

    go : (b : Bool) → pick b (negsuc w) (pos 0) ≡ negsuc w +ℤ pos (pick (not b) (suc w) 0)
    go true = sym (+ℤ_idr (negsuc w))
    go false = sym (+ℤ_invl (pos (suc w)))

-- ---- THE COST OF A LEVEL IS ITS START PLUS WHAT ITS PENALTIES CHARGE

pub cost_is : (M : Set) (es : List Entry) → Named es → cost M es ≡ above (start es) (charge M (penalties es))
unfolding total total_ℤ
cost_is M [] h = refl
cost_is M (e ∷ es) h =
    ap₂ (λ (x y : ℤ). x +ℤ y) (entry_is M e.literal e.weight h.0) (cost_is M es h.1)
    ∙ swap (negative_part e.weight) (pos (penalty_charge M (penalty e))) (start es) (pos (charge M (penalties es)))

-- "sum the weights without their signs": what the penalties weigh
pub bulk_is : (es : List Entry) → bulk (penalties es) ≡ weight es
unfolding total total_ℤ
bulk_is [] = refl
bulk_is (e ∷ es) = ap (λ (x : ℕ). nat_abs e.weight + x) (bulk_is es)

negative_size : (w : ℤ) → nat_abs (negative_part w) ≤ nat_abs w
negative_size (pos w) = zero-le
negative_size (negsuc w) = omega arith

-- a start is no farther from 0 than the level weighs
pub start_size : (es : List Entry) → nat_abs (start es) ≤ weight es
unfolding total total_ℤ
start_size [] = zero-le
start_size (e ∷ es) = omega (arith, sum_size (negative_part e.weight) (start es), negative_size e.weight, start_size es)

-- ---- how far a figure lies above a start

pub rise_above : (s : ℤ) (c : ℕ) → rise s (above s c) ≡ c
rise_above s c =
    ap nat_abs (ap (λ (z : ℤ). z +ℤ neg_ℤ s) (+ℤ_comm s (pos c)) ∙ +ℤ_assoc (pos c) s (neg_ℤ s) ∙ ap (λ (z : ℤ). pos c +ℤ z) (+ℤ_invr s) ∙ +ℤ_idr (pos c))

pub above_none : (s : ℤ) → above s 0 ≡ s
above_none s = +ℤ_idr s

pub rise_none : (s : ℤ) → rise s s ≡ 0
rise_none s = ap (rise s) (sym (above_none s)) ∙ rise_above s 0

-- z lies above s
abbrev pub IsAbove : ℤ → ℤ → Type 0
IsAbove s z = z ≡ above s (rise s z)

pub is_above : (s : ℤ) {z : ℤ} (c : ℕ) → z ≡ above s c → IsAbove s z
is_above s c e = e ∙ ap (above s) (sym (ap (rise s) e ∙ rise_above s c))

pub above_more : (s : ℤ) (c d : ℕ) → above (above s c) d ≡ above s (c + d)
above_more s c d = +ℤ_assoc s (pos c) (pos d)

pub above_inj : (s : ℤ) (c d : ℕ) → above s c ≡ above s d → c ≡ d
above_inj s c d e = sym (rise_above s c) ∙ ap (rise s) e ∙ rise_above s d

-- equal just if what lies above the start is
pub above_same : (s : ℤ) (c d : ℕ) → same_ℤ (above s c) (above s d) ≡ eqb c d
above_same s c d = go (same_ℤ (above s c) (above s d)) (eqb c d) refl refl
  where
    clash : false ≡ true → ⊥
    clash q = let z : ◌≡◌ {A = ℕ} 0 1 = cc in omega arith

    go : (x y : Bool) → same_ℤ (above s c) (above s d) ≡ x → eqb c d ≡ y → x ≡ y
    go true true p q = refl
    go false false p q = refl
    go true false p q = absurd (clash (sym q ∙ eq-eqb c d (above_inj s c d (same_true (above s c) (above s d) p))))
    go false true p q = absurd (clash (sym p ∙ ap (λ (n : ℕ). same_ℤ (above s n) (above s d)) (eqb-true c d q) ∙ same_refl (above s d)))

-- ---- the order of figures

-- a test of order by the difference
pub less_by : (a b : ℤ) → lt_z a b ≡ is_negative (a -ℤ b)
less_by (pos a) (pos zero) = go (ltb a 0) refl
  where
    go : (x : Bool) → ltb a 0 ≡ x → x ≡ false
    go true q = absurd (omega (arith, ltb-true a 0 q))
    go false q = refl
less_by (pos a) (pos (suc b)) = go (ltb a (suc b))
  where
    go : (x : Bool) → x ≡ is_negative (cond x (negsuc (suc b - suc a)) (pos (a - suc b)))
    go true = refl
    go false = refl
less_by (pos a) (negsuc b) = refl
less_by (negsuc a) (pos zero) = rw +ℤ_idr refl
less_by (negsuc a) (pos (suc b)) = refl
less_by (negsuc a) (negsuc b) = flip (ltb b a) refl (ltb (suc b) (suc a)) refl
  where
    flip : (x : Bool) → ltb b a ≡ x → (y : Bool) → ltb (suc b) (suc a) ≡ y → x ≡ is_negative (cond y (negsuc (suc a - suc (suc b))) (pos (suc b - suc a)))
    flip true p true q = refl
    flip false p false q = refl
    flip true p false q = absurd (omega (arith, ltb-true b a p, ltb-false (suc b) (suc a) q))
    flip false p true q = absurd (omega (arith, ltb-false b a p, ltb-true (suc b) (suc a) q))

-- what is added to both cancels
cancels : (s a b : ℤ) → (s +ℤ a) -ℤ (s +ℤ b) ≡ a -ℤ b
cancels s a b = ap (λ (z : ℤ). (s +ℤ a) +ℤ z) (neg_ℤ-+ℤ s b) ∙ swap s a (neg_ℤ s) (neg_ℤ b) ∙ ap (λ (z : ℤ). z +ℤ (a +ℤ neg_ℤ b)) (+ℤ_invr s) ∙ +ℤ_idl (a -ℤ b)

pub above_less : (s : ℤ) (c d : ℕ) → lt_z (above s c) (above s d) ≡ ltb c d
above_less s c d = less_by (above s c) (above s d) ∙ ap is_negative (cancels s (pos c) (pos d)) ∙ sym (less_by (pos c) (pos d))

-- ---- level by level, over a list of starts

unfoldable pub aboves : List ℤ → List ℕ → List ℤ
aboves [] cs = []
aboves (s ∷ ss) [] = []
aboves (s ∷ ss) (c ∷ cs) = above s c ∷ aboves ss cs

pub aboves_long : (ss : List ℤ) (cs : List ℕ) → length cs ≡ length ss → length (aboves ss cs) ≡ length ss
unfolding aboves
aboves_long [] cs h = refl
aboves_long (s ∷ ss) [] h = absurd (omega arith)
aboves_long (s ∷ ss) (c ∷ cs) h = ap suc (aboves_long ss cs (omega arith))

pub cheaper_aboves : (ss : List ℤ) (xs ys : List ℕ) → length xs ≡ length ss → length ys ≡ length ss → cheaper lt_z (aboves ss xs) (aboves ss ys) ≡ cheaper ltb xs ys
unfolding cheaper aboves
cheaper_aboves [] [] ys h k = refl
cheaper_aboves [] (x ∷ xs) ys h k = absurd (omega arith)
cheaper_aboves (s ∷ ss) [] ys h k = absurd (omega arith)
cheaper_aboves (s ∷ ss) (x ∷ xs) [] h k = absurd (omega arith)
cheaper_aboves (s ∷ ss) (x ∷ xs) (y ∷ ys) h k = rw (above_less s x y, above_less s y x, cheaper_aboves ss xs ys (omega arith) (omega arith))

-- "the bounds promised to a manager hold over signed costs": what is no dearer above the starts is no dearer
pub aboves_no_dearer : (ss : List ℤ) (xs ys : List ℕ) → length xs ≡ length ss → length ys ≡ length ss → NoDearer ltb xs ys → NoDearer lt_z (aboves ss xs) (aboves ss ys)
unfolding aboves
aboves_no_dearer [] [] [] h k n = tt
aboves_no_dearer [] [] (y ∷ ys) h k n = absurd n
aboves_no_dearer [] (x ∷ xs) ys h k n = absurd (omega arith)
aboves_no_dearer (s ∷ ss) [] ys h k n = absurd (omega arith)
aboves_no_dearer (s ∷ ss) (x ∷ xs) [] h k n = absurd n
aboves_no_dearer (s ∷ ss) (x ∷ xs) (y ∷ ys) h k (inl n) = inl (rw (above_less s x y) n.0, aboves_long ss xs (omega arith) ∙ sym (aboves_long ss ys (omega arith)))
aboves_no_dearer (s ∷ ss) (x ∷ xs) (y ∷ ys) h k (inr n) = inr (ap (above s) n.0, aboves_no_dearer ss xs ys (omega arith) (omega arith) n.1)
