-- The loop over literals: those from i on decide. Assumes nothing.
use mathlib.Core.Path.{◌≡◌, refl}
use mathlib.Core.Bool.{Bool, true, false}
use mathlib.Core.List.{List}
use Prim.Native.Nat.{ℕ, ◌+◌, ◌≤◌, ◌<◌}
use lib.IntN.{ℤ, pos}
use lib.ListN.{length, get_or, drop}
use Rattle.std.proofs.lemmas.List.{at_drop_more, at_drop_all}
use Rattle.asp.specs.Sets.{Set}
use Rattle.asp.specs.Stable.{holds_in, all_hold}

pub record Left (M X : Set) (ls : List ℤ) (i : ℕ) : Type 0 where
  pub rest : all_hold M X (drop i ls) ≡ all_hold M X ls

pub left_start : (M X : Set) (ls : List ℤ) → Left M X ls 0
left_start M X ls = record { rest = refl }

module _ {M X : Set} {ls : List ℤ} {i : ℕ} (l : Left M X ls i) where
  pub left_next : i < length ls → {b : Bool} → b ≡ holds_in M X (get_or ls i (pos 0)) → b ≡ true → Left M X ls (i + 1)
  unfolding all_hold
  left_next h e q = record { rest = rw (at_drop_more (all_hold M X) ls i (pos 0) h, ← e, q) at l.rest }

  pub left_out : i < length ls → {b : Bool} → b ≡ holds_in M X (get_or ls i (pos 0)) → b ≡ false → false ≡ all_hold M X ls
  unfolding all_hold
  left_out h e q = rw (at_drop_more (all_hold M X) ls i (pos 0) h, ← e, q) at l.rest

  pub left_done : length ls ≤ i → true ≡ all_hold M X ls
  unfolding all_hold
  left_done h = rw (at_drop_all (all_hold M X) ls i h) at l.rest
