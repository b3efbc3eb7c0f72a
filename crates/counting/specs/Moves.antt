-- The moves of the trail, with the numbers of the rules beside it. Assumes nothing: these are definitions.
use Rattle.std.specs.Prelude.{◌≡◌, true, false, List, ℕ, zero, suc, ◌+◌, ◌≤◌, ◌<◌, ℤ, pos, neg_ℤ, nat_abs, length, get_or}
use Rattle.asp.specs.declared.rules.Row.{Row}
use Rattle.asp.specs.Sets.{pick}
use Rattle.asp.specs.Tables.{is_choice, is_weighted, row_at}
use Rattle.search.specs.declared.trail.Places.{Places}
use Rattle.search.specs.declared.trail.Mark.{Mark}
use Rattle.search.specs.declared.trail.Mark.TheVariants.{Free, Decision, Flipped}
use Rattle.search.specs.Places.{side_of, is_decision, put_of, drop_of}
use Rattle.counting.specs.declared.index.Index.{Index}
use Rattle.counting.specs.declared.counters.Counters.{Counters}
use Rattle.counting.specs.Counters.{first, list_length, decide_of, release_of, Bodies, weigh_of}

pub record CountedTrail : Type 0 where
  pub trail : Places
  pub counters : Counters

abbrev pub counted_trail : Places → Counters → CountedTrail
counted_trail t y = record { trail = t; counters = y }

-- a row with a weighted body can be read
pub record RowWeighs (pool : List ℤ) (w : Row) : Type 0 where
  pub weighted : is_weighted w.body ≡ true
  pub single : is_choice w.head ≡ false → w.heads ≤ 1
  pub inside : w.first + w.heads + w.literals + 1 + w.literals ≤ length pool
  pub small : (k : ℕ) → w.first ≤ k → k < w.first + w.heads + w.literals → nat_abs (get_or pool k (pos 0)) ≤ 1024

-- the row of a rule with a weighted body can
pub record RowReadable (b : Bodies) (r : ℕ) : Type 0 where
  pub long : r < length b.rows
  pub row : RowWeighs b.pool (row_at b.rows r)

-- and so can those of the rules at some places of a list
pub record ListReadable (b : Bodies) (rs : List ℕ) (from end : ℕ) : Type 0 where
  pub inside : end ≤ length rs
  pub small : (e : ℕ) → get_or rs e 0 < 2048
  pub each : (e : ℕ) → from ≤ e → e < end → RowReadable b (get_or rs e 0)

-- and each that names an atom
pub record Weighable (b : Bodies) (o : Index) : Type 0 where
  pub each : (a e : ℕ) → a ≤ 1024 → first o (2050 + a) ≤ e → e < first o (2050 + a) + list_length o (2050 + a) → RowReadable b (get_or o.rules e 0)

unfoldable pub put_all : Bodies → Index → ℤ → Mark → CountedTrail → CountedTrail
put_all b o l m h =
    counted_trail (put_of l m h.trail)
    (weigh_of b o (nat_abs l) (put_of l m h.trail).value (decide_of o (nat_abs l) (side_of l) (release_of o (nat_abs l) (get_or h.trail.value (nat_abs l) 0) h.counters)))

abbrev pub push_all : Bodies → Index → ℤ → CountedTrail → CountedTrail
push_all b o l h = put_all b o l Decision h

unfoldable pub drop_all : Bodies → Index → ℕ → CountedTrail → CountedTrail
drop_all b o k h =
    counted_trail (drop_of k h.trail)
    (weigh_of b o (nat_abs (get_or h.trail.lits k (pos 0))) (drop_of k h.trail).value (release_of o (nat_abs (get_or h.trail.lits k (pos 0))) (get_or h.trail.value (nat_abs (get_or h.trail.lits k (pos 0))) 0) h.counters))

unfoldable pub back_all_from : Bodies → Index → ℕ → CountedTrail → CountedTrail
back_all_from b o zero h = h
back_all_from b o (suc k) h = pick (is_decision (get_or h.trail.marks k Free)) (put_all b o (neg_ℤ (get_or h.trail.lits k (pos 0))) Flipped (drop_all b o k h)) (back_all_from b o k (drop_all b o k h))

abbrev pub back_all : Bodies → Index → CountedTrail → CountedTrail
back_all b o h = back_all_from b o h.trail.len h
