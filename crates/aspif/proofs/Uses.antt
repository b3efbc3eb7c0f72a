-- For whoever reads the stored tables: elements of spans, names and texts as parts of a slice. Assumes nothing.
use mathlib.Core.Path.{◌≡◌, refl}
use mathlib.Core.List.{List}
use Prim.Native.Nat.{ℕ, zero, suc, ◌+◌, ◌≤◌, ◌<◌}
use native.Mathlib.Omega.{arith}
use native.Mathlib.Numerals.{add-one}
use lib.ListN.{length, take, drop}
use lib.Seq.{drop-cons}
use lib.IntN.{nat_abs}
use Rattle.asp.specs.declared.entries.Entry.{Entry}
use Rattle.asp.specs.Sets.{In}
use Rattle.asp.specs.Program.{All, LiteralIn}
use Rattle.asp.specs.Tables.{span, entry_at}
use Rattle.aspif_lines.specs.Seen.{bytes_at}
use Rattle.aspif.specs.Store.{WellFormed}
use Rattle.aspif_tables.specs.declared.table.Stored.{Stored}

-- what holds of all of a span holds at each of its places
pub all_span : {A : Type 0} (P : A → Type 0) (f : ℕ → A) (i k : ℕ) → All P (span f i k) → (j : ℕ) → j < k → P (f (i + j))
unfolding span
all_span P f i zero a j h = absurd (omega arith)
all_span P f i (suc k) a zero h = let e : i + 0 ≡ i = omega arith in rw e a.0
all_span P f i (suc k) a (suc j) h = let e : i + 1 + j ≡ i + suc j = omega arith in rw e at (all_span P f (i + 1) k a.1 j (omega arith))

-- k bytes from i on, as a part of the slice
pub bytes_part : (s : List ℕ) (i k : ℕ) → i + k ≤ length s → bytes_at s i k ≡ take k (drop i s)
unfolding span
bytes_part s i zero h = refl
bytes_part s i (suc k) h = rw (drop-cons s i 0 (omega arith), ← add-one i, bytes_part s (i + 1) k (omega arith))

-- the literal of entry j has an atom of 1 to n, and its weight is in its range
pub entry_in : (p : Stored) → WellFormed p → (j : ℕ) → j < p.counts.entries → In p.counts.atoms (nat_abs (entry_at p.entries j).literal) × (nat_abs (entry_at p.entries j).weight ≤ 1000000)
entry_in p w j h =
    let z : 0 + j ≡ j = omega arith in
    let f = entry_at p.entries in
    (rw z at (all_span (λ (e : Entry). LiteralIn p.counts.atoms e.literal) f 0 p.counts.entries w.named.entries j h), rw z at (all_span (λ (e : Entry). nat_abs e.weight ≤ 1000000) f 0 p.counts.entries w.weights j h))
