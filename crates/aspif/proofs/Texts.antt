-- Line 1, and the text as a whole. Assumes nothing.
use mathlib.Core.Path.{◌≡◌, refl}
use mathlib.Core.Bool.{Bool, true, false, ◌&&◌}
use mathlib.Core.List.{List, [], ◌∷◌, ◌++◌}
use Prim.Native.Nat.{ℕ, ◌≤◌, ◌<◌}
use native.Mathlib.Omega.{arith}
use lib.Dec.{eqb}
use lib.Pointwise.{pointwise}
use lib.ListN.{length}
use borrow.Author.Tests.{eq-eqb, eqb-true, lt-ltb, le-ltb}
use Rattle.asp.specs.Program.{highest}
use Rattle.asp.specs.Tables.{span}
use Rattle.aspif_lines.specs.Text.{same_bytes, header, line, pieces, headed, opened_reading, lines, text_of, refused, sum}
use Rattle.aspif_lines.specs.Seen.{bytes_at}
use Rattle.aspif_tables.specs.Lists.{Lists, no_counts, Sized, reading_of, SoundLists}
use Rattle.aspif.proofs.Onwards.{pieces_some}

pub same_true : (k l : List ℕ) → same_bytes k l ≡ true → k ≡ l
unfolding same_bytes
same_true [] [] e = refl
same_true [] (b ∷ l) e = let z : ◌≡◌ {A = ℕ} 0 1 = cc in absurd (omega arith)
same_true (a ∷ k) [] e = let z : ◌≡◌ {A = ℕ} 0 1 = cc in absurd (omega arith)
same_true (a ∷ k) (b ∷ l) e = go (eqb a b) refl e (same_true k l)
  where
    go : (t : Bool) → eqb a b ≡ t → (t && same_bytes k l) ≡ true → (same_bytes k l ≡ true → k ≡ l) → a ∷ k ≡ b ∷ l
    go true q r f = let x : a ≡ b = eqb-true a b q in let y : k ≡ l = f r in cc
    go false q r f = let z : ◌≡◌ {A = ℕ} 0 1 = cc in absurd (omega arith)

module _ (s l : List ℕ) (fit : length s ≤ 65536) where
  pub text_wrong : {ls : List (List ℕ)} → pieces s ≡ l ∷ ls → same_bytes l header ≡ false → refused 1 1 ≡ text_of s
  unfolding text_of
  text_wrong {ls} cut e = rw (le-ltb 65536 (length s) fit, cut) (go ls)
    where
      go : (ps : List (List ℕ)) → refused 1 1 ≡ headed (l ∷ ps)
      go [] = rw e
      go (m ∷ ms) = rw e

  pub text_cut : pieces s ≡ l ∷ [] → same_bytes l header ≡ true → refused 2 1 ≡ text_of s
  unfolding text_of
  text_cut cut e = rw (le-ltb 65536 (length s) fit, cut, e)

  pub text_lines : (t : List ℕ) → pieces s ≡ l ∷ pieces t → same_bytes l header ≡ true → lines 2 opened_reading (pieces t) ≡ text_of s
  unfolding text_of
  text_lines t cut e = rw (le-ltb 65536 (length s) fit, cut) (go (pieces t) (pieces_some t))
    where
      go : (ps : List (List ℕ)) → (ps ≡ [] → ⊥) → lines 2 opened_reading ps ≡ headed (l ∷ ps)
      go [] n = absurd (n refl)
      go (m ∷ ms) n = rw e

pub text_long : (s : List ℕ) → 65536 < length s → refused 5 0 ≡ text_of s
unfolding text_of
text_long s h = rw (lt-ltb 65536 (length s) h)

-- nothing but line 1
module _ (t : Lists) (used : ℕ) where
  pub none_sound : Sized t → SoundLists t (no_counts used)
  unfolding span sum highest
  none_sound z = record {
    sized = z;
    rules = record { inside = λ j l. absurd (omega arith); single = λ j l. absurd (omega arith); signed = λ j l. absurd (omega arith); size = refl; room = omega arith };
    symbols = record { inside = λ j l. absurd (omega arith); size = refl; length = refl };
    levels = tt;
    atoms = refl;
  }

  pub none_opened : (u l : List ℕ) → l ≡ header → bytes_at t.text 0 used ≡ bytes_at u 0 0 ++ line l → reading_of t (no_counts used) ≡ opened_reading
  unfolding span
  none_opened u l e h = rw (h, e)

pub same_refl : (l : List ℕ) → same_bytes l l ≡ true
unfolding same_bytes
same_refl [] = refl
same_refl (b ∷ l) = rw (eq-eqb b b refl, same_refl l)

-- `==` on bytes
pub same_pointwise : (k l : List ℕ) → pointwise eqb k l ≡ same_bytes k l
unfolding same_bytes
same_pointwise [] [] = refl
same_pointwise [] (b ∷ l) = refl
same_pointwise (a ∷ k) [] = refl
same_pointwise (a ∷ k) (b ∷ l) = rw (same_pointwise k l)
