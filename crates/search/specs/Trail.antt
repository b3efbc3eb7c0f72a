-- The trail (document 01's path) as a list, and the sets that agree with it. Assumes nothing: these are definitions.
use Rattle.std.specs.Prelude.{false, not, ◌||◌, List, [], ◌∷◌, ◌≡◌, ℕ, T, eqb, neg_ℤ, nat_abs}
use Rattle.std.proofs.Math.Option.{Option, none, some}
use Rattle.asp.specs.Sets.{Set, In, pick}
use Rattle.asp.specs.Literal.{is_negative}
use Rattle.asp.specs.Program.{Literal}
use Rattle.asp.specs.Stable.{holds}

-- "each filled one holds a literal, marked first or second": a decision (first), or flipped (second)
pub data Marked : Type 0 where
  decision flipped : Literal → Marked

-- the newest literal stands at the head
abbrev pub Trail : Type 0
Trail = List Marked

abbrev pub literal_of : Marked → Literal
literal_of (decision l) = l
literal_of (flipped l) = l

-- the atoms on the trail
abbrev pub on : Trail → Set
on [] a = false
on (s ∷ t) a = eqb a (nat_abs (literal_of s)) || on t a

abbrev pub NotOn : ℕ → Trail → Type 0
NotOn a [] = Unit {0}
NotOn a (s ∷ t) = (¬ (a ≡ nat_abs (literal_of s))) × NotOn a t

-- "no atom twice", each "of an atom from 1 to n"
abbrev pub FormedTrail : ℕ → Trail → Type 0
FormedTrail n [] = Unit {0}
FormedTrail n (s ∷ t) = In n (nat_abs (literal_of s)) × NotOn (nat_abs (literal_of s)) t × FormedTrail n t

-- M agrees with the trail: each of its literals holds in M
abbrev pub Agrees : Set → Trail → Type 0
Agrees M [] = Unit {0}
Agrees M (s ∷ t) = T (holds M (literal_of s)) × Agrees M t

-- P holds "in every set that agrees with it"
abbrev pub InAll : Trail → (Set → Type 0) → Type 0
InAll t P = (M : Set) → Agrees M t → P M

-- "its set": the atoms whose positive literal is on it
abbrev pub trail_set : Trail → Set
trail_set [] a = false
trail_set (s ∷ t) a = pick (eqb a (nat_abs (literal_of s))) (not (is_negative (literal_of s))) (trail_set t a)

-- "on a failed path, cut it after its last first literal and replace that by its complement, marked second"; none where there is no first literal
abbrev pub flip : Trail → Option Trail
flip [] = none
flip (decision l ∷ t) = some (flipped (neg_ℤ l) ∷ t)
flip (flipped l ∷ t) = flip t
