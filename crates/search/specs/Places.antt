-- The tables of a trail: its places, their marks, the value of each atom. Document 01, "Question and path". Assumes nothing: these are definitions.
use Rattle.std.specs.Prelude.{◌≡◌, Bool, true, false, List, [], ◌∷◌, ℕ, zero, suc, ◌+◌, ◌≤◌, eqb, ℤ, pos, neg_ℤ, nat_abs, length, get_or, set, replicate}
use Rattle.asp.specs.Sets.{pick}
use Rattle.asp.specs.Literal.{is_negative}
use Rattle.search.specs.declared.trail.Places.{Places}
use Rattle.search.specs.declared.trail.Mark.{Mark}
use Rattle.search.specs.declared.trail.Mark.TheVariants.{Free, Decision, Flipped}
use Rattle.search.specs.Trail.{Marked, decision, flipped, Trail, literal_of, FormedTrail}

-- "A fresh path has 1,024 empty places; each filled one holds a literal, marked first or second": the literal of a free place is 0, also after a cut;
-- value by atom: 0 undecided, 1 in, 2 out
abbrev pub places : List ℤ → List Mark → List ℕ → ℕ → Places
places ls ms v k = record { lits = ls; marks = ms; value = v; len = k }

-- "A fresh path has 1,024 empty places"
abbrev pub fresh_places : Places
fresh_places = places (replicate 1024 (pos 0)) (replicate 1024 Free) (replicate 1025 0) 0

-- the value of an atom in which the literal is true: 1 in, 2 out
abbrev pub side_of : ℤ → ℕ
side_of l = pick (is_negative l) 2 1

-- the literal where its atom's value is x: 0 undecided, 1 true, 2 false
abbrev pub truth_of : ℤ → ℕ → ℕ
truth_of l x = pick (eqb x 0) 0 (pick (eqb (side_of l) x) 1 2)

abbrev pub truth_at : List ℕ → ℤ → ℕ
truth_at value l = truth_of l (get_or value (nat_abs l) 0)

-- ---- moves

abbrev pub is_decision : Mark → Bool
is_decision Free = false
is_decision Decision = true
is_decision Flipped = false

-- a literal is added at the end, with its mark
unfoldable pub put_of : ℤ → Mark → Places → Places
put_of l m t = places (set t.lits t.len l) (set t.marks t.len m) (set t.value (nat_abs l) (side_of l)) (t.len + 1)

-- "on an open path, add a literal .., marked first"
abbrev pub push_of : ℤ → Places → Places
push_of l t = put_of l Decision t

-- the literal at k, the last, is taken away
unfoldable pub drop_of : ℕ → Places → Places
drop_of k t = places (set t.lits k (pos 0)) (set t.marks k Free) (set t.value (nat_abs (get_or t.lits k (pos 0))) 0) k

-- "on a failed path, cut it after its last first literal and replace that by its complement, marked second"; without a decision nothing is left
unfoldable pub back_from : ℕ → Places → Places
back_from zero t = t
back_from (suc k) t = pick (is_decision (get_or t.marks k Free)) (put_of (neg_ℤ (get_or t.lits k (pos 0))) Flipped (drop_of k t)) (back_from k (drop_of k t))

abbrev pub back_of : Places → Places
back_of t = back_from t.len t

-- ---- the tables have their sizes, and literals are of atoms up to 1,024
pub record Good (t : Places) : Type 0 where
  pub lits_len : length t.lits ≡ 1024
  pub marks_len : length t.marks ≡ 1024
  pub value_len : length t.value ≡ 1025
  pub short : t.len ≤ 1024
  pub small : (i : ℕ) → nat_abs (get_or t.lits i (pos 0)) ≤ 1024

-- ---- the trail that the tables say

abbrev pub marked_by : Bool → ℤ → Marked
marked_by true l = decision l
marked_by false l = flipped l

-- the first k places: counting down puts the newest at the head
abbrev pub trail_at : List ℤ → List Mark → ℕ → Trail
trail_at ls ms zero = []
trail_at ls ms (suc k) = marked_by (is_decision (get_or ms k Free)) (get_or ls k (pos 0)) ∷ trail_at ls ms k

abbrev pub trail_of : Places → Trail
trail_of t = trail_at t.lits t.marks t.len

-- the value of an atom: 0 undecided, 1 in, 2 out
abbrev pub value_on : Trail → ℕ → ℕ
value_on [] a = 0
value_on (s ∷ t) a = pick (eqb a (nat_abs (literal_of s))) (side_of (literal_of s)) (value_on t a)

-- the tables say a trail over the atoms 1 to n: "no atom twice"; the values are the trail's; the places after it are empty
pub record SoundTrail (n : ℕ) (t : Places) : Type 0 where
  pub good : Good t
  pub formed : FormedTrail n (trail_of t)
  pub valued : (a : ℕ) → get_or t.value a 0 ≡ value_on (trail_of t) a
  pub empty : (i : ℕ) → t.len ≤ i → (get_or t.lits i (pos 0) ≡ pos 0) × (get_or t.marks i Free ≡ Free)
