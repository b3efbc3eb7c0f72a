-- The bytes of a name, read one by one. Assumes nothing.
use mathlib.Core.Path.{◌≡◌, refl, ap, ◌∙◌, sym}
use mathlib.Core.Bool.{Bool, true, false}
use mathlib.Core.List.{List, [], ◌∷◌}
use Prim.Native.Nat.{ℕ, ◌+◌, ◌<◌}
use native.Mathlib.Omega.{arith}
use lib.ListN.{length, get_or, drop}
use Rattle.std.proofs.lemmas.List.{length-drop, drop-drop, get_or-drop}
use Rattle.asp.specs.Tables.{span}
use Rattle.aspif_fields.specs.Fields.{got, bad, within, next}
use Rattle.aspif_fields.proofs.Tokens.{within_ends}
use Rattle.aspif_lines.specs.Text.{name_byte, more}
use Rattle.aspif_lines.specs.Seen.{bytes_at}
use Rattle.aspif_lines.proofs.Spans.{MoreLeft, span_shift, bytes_at_push, more_start, more_next, more_stop, more_done}

-- i of the m bytes were read from the line s, and l follows
pub record NameLeft (s l : List ℕ) (m i : ℕ) : Type 0 where
  pub read : MoreLeft name_byte m i (bytes_at s 0 i) l s
  pub at : l ≡ drop i s
  pub inside : i + length l ≡ length s

pub name_start : (s : List ℕ) (m : ℕ) → NameLeft s s m 0
unfolding span
name_start s m = record { read = more_start; at = refl; inside = omega arith }

-- the line is not over, for at its end comes a 0
pub name_in : (l : List ℕ) → within 32 126 (next l) ≡ true → 0 < length l
name_in [] h = absurd (omega (arith, within_ends 32 126 0 h))
name_in (b ∷ l) h = omega arith

module _ {s l : List ℕ} {m i : ℕ} where
  pub name_more : {r : List ℕ} {t : Bool} → NameLeft s l m i → i < m → t ≡ within 32 126 (next l) → t ≡ true → r ≡ drop 1 l → NameLeft s r m (i + 1)
  name_more {r} h q e t z =
      let here : within 32 126 (next l) ≡ true = rw (← e) t in
      let byte : get_or s i 0 ≡ next l = let o : i + 0 ≡ i = omega arith in rw h.at (sym (rw o at (get_or-drop i s 0 0))) in
      let o : 0 + i ≡ i = omega arith in
      let past : r ≡ drop (i + 1) s = z ∙ ap (drop 1) h.at ∙ drop-drop 1 i s in
      record {
        read = rw (bytes_at_push s 0 i, o, byte, z) (more_next (next l) (drop 1 l) h.read q (rw here));
        at = past;
        inside = rw z (omega (arith, length-drop 1 l, name_in l here, h.inside));
      }

  pub name_stop : {t : Bool} → NameLeft s l m i → i < m → t ≡ within 32 126 (next l) → t ≡ false → bad 2 ≡ more name_byte m [] s
  name_stop h q e t = let other : within 32 126 (next l) ≡ false = rw (← e) t in more_stop h.read q (rw other)

  pub name_done : NameLeft s l m i → i ≡ m → got (bytes_at s 0 m) l ≡ more name_byte m [] s
  name_done h q = rw q at (more_done h.read (omega arith))

-- a part of the end of a line
pub bytes_after : (s : List ℕ) (k i m : ℕ) → bytes_at (drop k s) i m ≡ bytes_at s (k + i) m
bytes_after s k i m = span_shift (λ (j : ℕ). get_or (drop k s) j 0) (λ (j : ℕ). get_or s j 0) i (k + i) m (λ j h. let e : k + (i + j) ≡ k + i + j = omega arith in rw e at (get_or-drop k s (i + j) 0))
