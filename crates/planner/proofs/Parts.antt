-- What a call wrote, handed back as a part of the lent bytes. Assumes nothing.
use mathlib.Core.Path.{◌≡◌, refl, ap}
use mathlib.Core.List.{List, []}
use Prim.Native.Nat.{ℕ, ◌≤◌, ◌<◌}
use lib.ListN.{length, drop}
use lib.Seq.{take-append_seam}
use borrow.Author.Tests.{lt-ltb, le-ltb}
use Rattle.planner.specs.Calls.{gives, refuses_for, filled_with, part_of, part_or}

module _ (t b : List ℕ) where
  -- with room for it, it is what was to be written
  pub part_is : length t ≤ length b → part_of (filled_with t b).answer (filled_with t b).bytes ≡ t
  part_is h = rw (le-ltb (length b) (length t) h) (take-append_seam t (drop (length t) b))

  -- else nothing
  pub part_none : length b < length t → part_of (filled_with t b).answer (filled_with t b).bytes ≡ []
  part_none h = rw (lt-ltb (length b) (length t) h) refl

  -- by the call that gives the refusal on: what was to be written, or how long the bytes have to be
  pub part_or_is : length t ≤ length b → part_or (filled_with t b).answer (filled_with t b).bytes ≡ gives t
  part_or_is h = rw (le-ltb (length b) (length t) h) (ap gives (take-append_seam t (drop (length t) b)))

  pub part_or_none : length b < length t → part_or (filled_with t b).answer (filled_with t b).bytes ≡ refuses_for 8 (length t)
  part_or_none h = rw (lt-ltb (length b) (length t) h) refl
