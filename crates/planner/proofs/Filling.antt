-- Bytes written one by one at the front of lent bytes. Assumes nothing.
use mathlib.Core.Path.{◌≡◌, refl, sym, ap, ap₂, ◌∙◌}
use mathlib.Core.Bool.{Bool, true, false}
use mathlib.Core.List.{List, [], ◌∷◌, ◌++◌, append_assoc}
use Prim.Native.Nat.{ℕ, suc, ◌+◌, ◌-◌, ◌≤◌, ◌<◌}
use native.Mathlib.Omega.{arith}
use native.Mathlib.Numerals.{add-one}
use lib.Dec.{ltb}
use lib.ListN.{length, get_or, take, drop, set}
use lib.Seq.{drop-cons}
use borrow.Author.Tests.{lt-ltb}
use Rattle.asp.specs.Sets.{pick}
use Rattle.asp.specs.Tables.{span}
use Rattle.asp.specs.declared.symbols.SymbolRow.{SymbolRow}
use Rattle.aspif.specs.Write.{written_of, buffer_of}
use Rattle.std.proofs.Common.{Result, Ok, Err}
use Rattle.aspif.specs.declared.write.Short.{Short}
use Rattle.aspif_lines.proofs.Spans.{span_snoc, span_length}
use Rattle.aspif.proofs.Uses.{bytes_part}
use Rattle.planner.specs.Held.{Holding}
use Rattle.planner.specs.Calls.{Says, gives, refuses_for, fills, Filling, filling, filled_with, filled, room_for, says_written, name_of}

set_at : (xs ys : List ℕ) (y v : ℕ) → set (xs ++ (y ∷ ys)) (length xs) v ≡ xs ++ (v ∷ ys)
set_at [] ys y v = refl
set_at (x ∷ xs) ys y v = ap (λ (l : List ℕ). x ∷ l) (set_at xs ys y v)

-- the values of f from 1 to i stand at the front, and after them what stood there
pub record Front (f : ℕ → ℕ) (n : ℕ) (old bytes : List ℕ) (i : ℕ) : Type 0 where
  pub upto : i ≤ n
  pub room : n ≤ length old
  pub here : bytes ≡ span f 1 i ++ drop i old

module _ {f : ℕ → ℕ} {n : ℕ} {old : List ℕ} where
  pub front_starts : n ≤ length old → Front f n old old 0
  unfolding span
  front_starts h = record { upto = omega arith; room = h; here = refl }

  pub front_steps : {bytes : List ℕ} {i : ℕ} → Front f n old bytes i → i < n → {y : ℕ} → y ≡ f (i + 1) → Front f n old (set bytes i y) (i + 1)
  front_steps {bytes} {i} c h {y} q =
      let r = c.room in
      let xs = span f 1 i in
      let z : 1 + i ≡ i + 1 = omega arith in
      let k = span_length f 1 i in
      let e : bytes ≡ xs ++ (get_or old i 0 ∷ drop (suc i) old) = rw (← drop-cons old i 0 (omega arith)) c.here in
      record {
        upto = omega arith;
        room = r;
        here =
            rw (e, span_snoc f 1 i, z, ← q, add-one i, append_assoc xs (y ∷ []) (drop (suc i) old))
            (rw k at (set_at xs (drop (suc i) old) (get_or old i 0) y));
      }

pub front_short : (f : ℕ → ℕ) (n : ℕ) (old : List ℕ) → length old < n → filling (refuses_for 8 n) old ≡ filled_with (span f 1 n) old
front_short f n old h = rw (span_length f 1 n, lt-ltb (length old) n h)

-- ---- what aspif's write says

written_says : (size room : ℕ) → says_written (written_of size room) ≡ room_for size room
written_says size room = go (ltb room size)
  where
    go : (b : Bool) → says_written (pick b (Err (record { needed = size })) (Ok size)) ≡ pick b (refuses_for 8 size) (gives size)
    go true = refl
    go false = refl

-- a write of a text
pub written_fills : (t old bytes : List ℕ) {w : Result ℕ Short} {a : Says ℕ} → a ≡ says_written w → w ≡ written_of (length t) (length old) → bytes ≡ buffer_of t old → filling a bytes ≡ filled_with t old
written_fills t old bytes p q e = ap₂ filling (p ∙ ap says_written q ∙ written_says (length t) (length old)) e

-- ---- calls that fill lent bytes

pub fills_as : (s : Holding) (t old : List ℕ) {a : Says ℕ} {b : List ℕ} → filling a b ≡ filled_with t old → fills a s b ≡ filled s t old
fills_as s t old e = ap (λ (x : Filling). fills x.answer s x.bytes) e

-- a name, from the row of its symbol
pub name_fills : (text : List ℕ) (row : SymbolRow) (old : List ℕ) {x y : ℕ} → x ≡ row.name → y ≡ row.length → row.name + row.length ≤ length text
    → {z : Filling} → z ≡ filled_with (take (x + y - x) (drop x text)) old → z ≡ filled_with (name_of text row) old
name_fills text row old {x} {y} p q h e =
    let k : x + y - x ≡ y = omega arith in
    e ∙ ap (λ (u : List ℕ). filled_with u old) (rw (k, p, q) (sym (bytes_part text row.name row.length h)))
