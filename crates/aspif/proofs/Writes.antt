-- A text copied to the front of a buffer. Assumes nothing.
use mathlib.Core.Path.{◌≡◌}
use mathlib.Core.List.{List, ◌++◌}
use Prim.Native.Nat.{ℕ, ◌≤◌, ◌<◌}
use lib.ListN.{length, drop}
use borrow.Author.Tests.{lt-ltb, le-ltb}
use Rattle.aspif.specs.Write.{written_of, buffer_of}
use Rattle.std.proofs.Common.{Ok, Err}

module _ (text old : List ℕ) where
  pub write_short : length old < length text → (Err (record { needed = length text }) ≡ written_of (length text) (length old)) × (old ≡ buffer_of text old)
  write_short h = (rw (lt-ltb (length old) (length text) h), rw (lt-ltb (length old) (length text) h))

  pub write_done : length text ≤ length old → (Ok (length text) ≡ written_of (length text) (length old)) × (text ++ drop (length text) old ≡ buffer_of text old)
  write_done h = (rw (le-ltb (length old) (length text) h), rw (le-ltb (length old) (length text) h))
