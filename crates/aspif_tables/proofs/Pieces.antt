-- A text's pieces, and a line put after a text. Assumes nothing.
use mathlib.Core.Bool.{Bool, true, false, not, cond}
use mathlib.Core.Path.{◌≡◌, refl, ◌∙◌}
use mathlib.Core.List.{List, [], ◌∷◌, ◌++◌}
use Prim.Native.Nat.{ℕ, zero, suc, ◌+◌, ◌-◌, ◌<◌, ◌≤◌}
use native.Mathlib.Omega.{arith}
use lib.ListN.{length, get_or, take, drop, set, drop_of_length-le, length-drop}
use lib.Dec.{eqb, ltb}
use borrow.Rule.Slice.PartMut.{put_mid}
use native.Mathlib.Numerals.{add-one}
use Rattle.std.proofs.Common.{Option, Some, None, unwrap_or, rules}
use Rattle.std.proofs.lemmas.List.{places, length-take, get_or-take, get_or_append_left, get_or-append-add}
use Rattle.std.specs.List.{position, position_or_len, prefix_len}
use Rattle.asp.specs.Sets.{pick}
use lib.Seq.{take-suc, take-length, drop-cons, drop-drop, get_or-set_same, get_or-set_other}
use borrow.Author.Tests.{ltb-true, ltb-false}
use Rattle.aspif_lines.specs.Text.{pieces, longer, line}
use Rattle.asp.specs.Tables.{span}
use Rattle.aspif_lines.specs.Seen.{follow, bytes_at, Kept}
use Rattle.aspif_lines.proofs.Spans.{span_same, span_shift, span_append, span_snoc}

abbrev is_end : ℕ → Bool
is_end b = eqb b 10

-- the first piece ends at the first byte 10
pieces_first : (s : List ℕ) → pieces s ≡ take (position_or_len is_end s) s ∷ follow (drop (position_or_len is_end s) s)
unfolding pieces
pieces_first [] = refl
pieces_first (b ∷ s) = go (eqb b 10) (position_or_len is_end s) (pieces_first s)
  where
    go : (t : Bool) (k : ℕ) → pieces s ≡ take k s ∷ follow (drop k s) → pick t ([] ∷ pieces s) (longer b (pieces s)) ≡ take (cond (not t) (1 + k) 0) (b ∷ s) ∷ follow (drop (cond (not t) (1 + k) 0) (b ∷ s))
    go true k e = refl
    go false k e = let f : 1 + k ≡ suc k = omega arith in rw (f, e)

prefix_inside : (p : ℕ → Bool) (s : List ℕ) → prefix_len p s ≤ length s
prefix_inside p [] = omega arith
prefix_inside p (b ∷ s) = go (p b) (prefix_len p s) (prefix_inside p s)
  where
    go : (t : Bool) (k : ℕ) → k ≤ length s → cond t (1 + k) 0 ≤ suc (length s)
    go true k h = omega arith
    go false k h = omega arith

-- where it ends, or the whole text does
end_is : (s : List ℕ) → unwrap_or (position is_end s) (length s) ≡ position_or_len is_end s
end_is s = go (ltb (position_or_len is_end s) (length s)) refl
  where
    go : (t : Bool) → ltb (position_or_len is_end s) (length s) ≡ t → unwrap_or (cond t (Some (position_or_len is_end s)) None) (length s) ≡ position_or_len is_end s
    go true q = refl
    go false q = omega (arith, ltb-false (position_or_len is_end s) (length s) q, prefix_inside (λ b. not (is_end b)) s)

-- the same of the line from `at` on
module _ (s : List ℕ) (at : ℕ) (r : Option ℕ) (k : ℕ) (h : at ≤ length s) (e : r ≡ position is_end (drop at s)) (q : k ≡ unwrap_or r (length s - at)) where
  end_of : k ≡ position_or_len is_end (drop at s)
  end_of = q ∙ rw (e, ← length-drop at s) (end_is (drop at s))

  pub end_within : at + k ≤ length s
  end_within = omega (arith, end_of, prefix_inside (λ b. not (is_end b)) (drop at s), length-drop at s)

  pub end_first : pieces (drop at s) ≡ take (at + k - at) (drop at s) ∷ follow (drop (at + k) s)
  end_first =
      let a : at + k - at ≡ k = omega arith in
      rw (a, ← drop-drop k at s, end_of) (pieces_first (drop at s))

pub split_some : (s : List ℕ) (i : ℕ) → Some i ≡ position is_end s → pieces s ≡ take i s ∷ pieces (drop (i + 1) s)
split_some s i e = go (ltb (position_or_len is_end s) (length s)) refl e
  where
    go : (t : Bool) → ltb (position_or_len is_end s) (length s) ≡ t → Some i ≡ cond t (Some (position_or_len is_end s)) None → pieces s ≡ take i s ∷ pieces (drop (i + 1) s)
    go true q f =
        let k : i ≡ position_or_len is_end s = cc in
        let l : i < length s = rw k (ltb-true (position_or_len is_end s) (length s) q) in
        let e = rw (← k) at (pieces_first s) in
        let d = drop-cons s i 0 l in
        rw (d, ← add-one i) at e
    go false q f = cc

pub split_none : (s : List ℕ) → None ≡ position is_end s → pieces s ≡ s ∷ []
split_none s e = go (ltb (position_or_len is_end s) (length s)) refl e
  where
    go : (t : Bool) → ltb (position_or_len is_end s) (length s) ≡ t → None ≡ cond t (Some (position_or_len is_end s)) None → pieces s ≡ s ∷ []
    go true q f = cc
    go false q f =
        let k : position_or_len is_end s ≡ length s = omega (arith, ltb-false (position_or_len is_end s) (length s) q, prefix_inside (λ b. not (is_end b)) s) in
        pieces_first s ∙ rw (k, take-length s, drop_of_length-le s {i = length s} (omega arith))

bytes_at_none : (s : List ℕ) → bytes_at s 0 0 ≡ []
unfolding span
bytes_at_none s = refl

bytes_at_take : (s : List ℕ) (k : ℕ) → k ≤ length s → bytes_at s 0 k ≡ take k s
bytes_at_take s zero h = bytes_at_none s
bytes_at_take s (suc k) h =
    let e : 0 + k ≡ k = omega arith in
    let a : k + 1 ≡ suc k = omega arith in
    rw a at (span_snoc (λ (j : ℕ). get_or s j 0) 0 k) ∙ rw (e, bytes_at_take s k (omega arith), take-suc s k 0 (omega arith))

pub bytes_at_all : (s : List ℕ) → bytes_at s 0 (length s) ≡ s
bytes_at_all s = bytes_at_take s (length s) (omega arith) ∙ take-length s

module _ (t₀ t s : List ℕ) (used : ℕ) (kept : Kept 0 used t₀ t) (copied : (j : ℕ) → j < length s → get_or t (used + j) 0 ≡ get_or s j 0) (room : used + length s < length t) where
  pub appended : bytes_at (set t (used + length s) 10) 0 (used + length s + 1) ≡ bytes_at t₀ 0 used ++ line s
  appended =
      let u : List ℕ = set t (used + length s) 10 in
      let f : ℕ → ℕ = λ (j : ℕ). get_or u j 0 in
      let a : used + length s + 1 ≡ used + (length s + 1) = omega arith in
      let x : span f 0 used ≡ bytes_at t₀ 0 used = span_same f (λ (j : ℕ). get_or t₀ j 0) 0 used (λ j l. get_or-set_other t (used + length s) j 10 0 (omega arith) ∙ kept.same j (omega arith)) in
      let y : span f used (length s) ≡ s = span_shift f (λ (j : ℕ). get_or s j 0) used 0 (length s) (λ j l. let e : 0 + j ≡ j = omega arith in rw e (get_or-set_other t (used + length s) (used + j) 10 0 (omega arith) ∙ copied j l)) ∙ bytes_at_all s in
      let z : 0 + used ≡ used = omega arith in
      rw (a, span_append f 0 used (length s + 1), x, z, span_snoc f used (length s), y, get_or-set_same t (used + length s) 10 0 room)

  pub appended_part : (a m : ℕ) → a + m ≤ length s → bytes_at (set t (used + length s) 10) (used + a) m ≡ bytes_at s a m
  appended_part a m h =
      span_shift (λ (j : ℕ). get_or (set t (used + length s) 10) j 0) (λ (j : ℕ). get_or s j 0) (used + a) a m
      (λ j l. let e : used + a + j ≡ used + (a + j) = omega arith in rw e (get_or-set_other t (used + length s) (used + (a + j)) 10 0 (omega arith) ∙ copied (a + j) (omega arith)))

-- the text with the line s in it, from `used` on
module _ (t s : List ℕ) (used n : ℕ) (long : n ≡ length s) (room : used + length s < length t) where
  pub put_long : length (put_mid used n t s) ≡ length t
  put_long = rw long (search (rules, places))

  pub put_kept : Kept 0 used t (put_mid used n t s)
  put_kept = record { same = λ j l. get_or_append_left (take used t) (s ++ drop n (drop used t)) 0 j (omega (arith, length-take used t)) ∙ get_or-take used t j 0 l; long = put_long }

  pub put_copied : (j : ℕ) → j < length s → get_or (put_mid used n t s) (used + j) 0 ≡ get_or s j 0
  put_copied j l =
      let m : length (take used t) ≡ used = omega (arith, length-take used t) in
      rw m at (get_or-append-add (take used t) (s ++ drop n (drop used t)) j 0) ∙ get_or_append_left s (drop n (drop used t)) 0 j l
