-- Order 2: pairs in a pool, their literals first, then a place for the bound, then their weights. Assumes nothing.
use mathlib.Core.Path.{◌≡◌, refl, ◌∙◌}
use mathlib.Core.Bool.{true, false, not}
use mathlib.Core.List.{List, [], ◌∷◌, ◌++◌}
use Prim.Native.Nat.{ℕ, zero, suc, ◌+◌, ◌<◌, ◌≤◌, max}
use native.Mathlib.Omega.{arith}
use lib.IntN.{ℤ, pos, negsuc, neg_ℤ, nat_abs}
use lib.Seq.{drop-cons}
use borrow.Author.Tests.{eqb-true, eq-eqb}
use Rattle.std.specs.Bool.{Decides}
use Rattle.std.proofs.lemmas.Bool.Decides.{same_from_decides, Decides-int_eq}
use lib.ListN.{length, get_or, set, take, drop, length-set}
use lib.Seq.{get_or-set_same, get_or-set_other}
use Rattle.std.specs.Ordering.{int_eq}
use Rattle.std.specs.List.{list_any}
use Rattle.asp.specs.Literal.{same_ℤ, occurs_among, one_signed}
use Rattle.asp.specs.Program.{Weighed, weighted, highest, All, LiteralIn}
use Rattle.asp.specs.Tables.{span, literals_at, pair_at, pairs_at, is_weighted, is_mixed}
use Rattle.aspif_fields.specs.Fields.{got, weighed_field}
use Rattle.aspif_lines.specs.Text.{more}
use Rattle.asp.specs.declared.rules.BodyKind.{BodyKind}
use Rattle.aspif_lines.specs.Seen.{Kept, body_from, BodyGood}
use Rattle.aspif_lines.proofs.Readings.{pairs_small}
use Rattle.aspif_lines.proofs.Spans.{span_shift, span_snoc, literals_at_push, literals_at_kept, kept_refl, kept_set, highest_span}

-- ---- one pair more

module _ (pool : List ℤ) (k u i : ℕ) (z w : ℤ) (few : i ≤ k) (room : u + i + k + 1 < length pool) where
  abbrev pushed : List ℤ
  pushed = set (set pool (u + i) z) (u + i + k + 1) w

  literal_there : get_or pushed (u + i) (pos 0) ≡ z
  literal_there = get_or-set_other (set pool (u + i) z) (u + i + k + 1) (u + i) w (pos 0) (omega arith) ∙ get_or-set_same pool (u + i) z (pos 0) (omega arith)

  weight_there : get_or pushed (u + i + k + 1) (pos 0) ≡ w
  weight_there = get_or-set_same (set pool (u + i) z) (u + i + k + 1) w (pos 0) (omega (arith, length-set pool (u + i) z))

  others : (j : ℕ) → (j ≡ u + i → ⊥) → (j ≡ u + i + k + 1 → ⊥) → get_or pushed j (pos 0) ≡ get_or pool j (pos 0)
  others j f g = get_or-set_other (set pool (u + i) z) (u + i + k + 1) j w (pos 0) g ∙ get_or-set_other pool (u + i) j z (pos 0) f

  pub pairs_push : pairs_at pushed (k + 1) u (i + 1) ≡ pairs_at pool (k + 1) u i ++ (record { literal = z; weight = nat_abs w } ∷ [])
  pairs_push =
      let e : u + i + (k + 1) ≡ u + i + k + 1 = omega arith in
      rw (
        span_snoc (pair_at pushed (k + 1)) u i,
        span_shift (pair_at pushed (k + 1)) (pair_at pool (k + 1)) u u i (λ j l. rw (others (u + j) (λ q. omega arith) (λ q. omega arith), others (u + j + (k + 1)) (λ q. omega arith) (λ q. omega arith))),
        e,
        literal_there,
        weight_there,
      )

  pub literals_push : literals_at pushed u (i + 1) ≡ literals_at pool u i ++ (z ∷ [])
  literals_push =
      literals_at_kept (set pool (u + i) z) pushed (u + i + k + 1) u (i + 1) (kept_set (pos 0) (u + i + k + 1) (set pool (u + i) z) (set pool (u + i) z) (u + i + k + 1) w (kept_refl (pos 0) (u + i + k + 1) (set pool (u + i) z)) (omega arith)) (omega arith)
      ∙ literals_at_push pool u i z (omega arith)

-- ---- the bound in its place

module _ (pool : List ℤ) (k u : ℕ) (b : ℤ) (room : u + k < length pool) where
  abbrev bounded : List ℤ
  bounded = set pool (u + k) b

  pub bound_there : get_or bounded (u + k) (pos 0) ≡ b
  bound_there = get_or-set_same pool (u + k) b (pos 0) room

  pub pairs_bounded : pairs_at bounded (k + 1) u k ≡ pairs_at pool (k + 1) u k
  pairs_bounded =
      span_shift (pair_at bounded (k + 1)) (pair_at pool (k + 1)) u u k
      (λ j l. rw (get_or-set_other pool (u + k) (u + j) b (pos 0) (λ q. omega arith), get_or-set_other pool (u + k) (u + j + (k + 1)) b (pos 0) (λ q. omega arith)))

  pub literals_bounded : literals_at bounded u k ≡ literals_at pool u k
  literals_bounded = literals_at_kept pool bounded (u + k) u k (kept_set (pos 0) (u + k) pool pool (u + k) b (kept_refl (pos 0) (u + k) pool) (omega arith)) (omega arith)

-- the highest atom of pairs is that of their literals
pub highest_pairs : (pool : List ℤ) (g i k : ℕ) → highest (λ (p : Weighed). nat_abs p.literal) (pairs_at pool g i k) ≡ highest nat_abs (literals_at pool i k)
highest_pairs pool g i k = highest_span (λ (p : Weighed). nat_abs p.literal) (pair_at pool g) nat_abs (λ (j : ℕ). get_or pool j (pos 0)) i k (λ j. refl)

-- ---- the search for a literal

pub same_decides : (l k : ℤ) → Decides (same_ℤ l k) (k ≡ l)
same_decides (pos m) (pos n) = (λ e. let q : m ≡ n = eqb-true m n e in cc, λ e. eq-eqb m n (cc))
same_decides (pos m) (negsuc n) = (λ e. cc, λ e. cc)
same_decides (negsuc m) (pos n) = (λ e. cc, λ e. cc)
same_decides (negsuc m) (negsuc n) = (λ e. let q : m ≡ n = eqb-true m n e in cc, λ e. eq-eqb m n (cc))

same_eq : (l k : ℤ) → int_eq k l ≡ same_ℤ l k
same_eq l k = same_from_decides (int_eq k l) (same_ℤ l k) (Decides-int_eq k l) (same_decides l k)

pub occurs_any : (l : ℤ) (ks : List ℤ) → list_any (λ k. int_eq k l) ks ≡ occurs_among l ks
unfolding occurs_among
occurs_any l [] = refl
occurs_any l (k ∷ ks) = rw (same_eq l k, occurs_any l ks)

-- ---- the search for a literal whose complement follows

-- the literals are small, and no literal before them is followed by its complement
pub record SignsLeft (xs all : List ℤ) : Type 0 where
  pub small : All (LiteralIn 1024) xs
  pub left : one_signed xs ≡ one_signed all

module _ {xs all ys : List ℤ} {l : ℤ} where
  pub signs_small : SignsLeft xs all → xs ≡ l ∷ ys → nat_abs l ≤ 1024
  signs_small h e = (rw e at h.small).0.1

  pub signs_mixed : SignsLeft xs all → xs ≡ l ∷ ys → true ≡ occurs_among (neg_ℤ l) ys → false ≡ one_signed all
  unfolding one_signed
  signs_mixed h e q = rw (e, ← q) at h.left

  pub signs_next : SignsLeft xs all → xs ≡ l ∷ ys → false ≡ occurs_among (neg_ℤ l) ys → SignsLeft ys all
  unfolding one_signed
  signs_next h e q = record { small = (rw e at h.small).1; left = rw (e, ← q) at h.left }

pub signs_done : (xs all : List ℤ) → SignsLeft xs all → length xs ≡ 0 → true ≡ one_signed all
unfolding one_signed
signs_done [] all h e = h.left
signs_done (x ∷ xs) all h e = absurd (omega (arith, e))

-- ---- a part of a pool

pub slice_literals : (xs : List ℤ) (u k : ℕ) → u + k ≤ length xs → take k (drop u xs) ≡ literals_at xs u k
unfolding span
slice_literals xs u zero h = refl
slice_literals xs u (suc k) h = let f : u < length xs = omega arith in let s : suc u ≡ u + 1 = omega arith in rw (drop-cons xs u (pos 0), s, slice_literals xs (u + 1) k (omega arith))

-- ---- a weighted body: its pairs were read from u on, and its bound put behind their literals

module _ {pool₀ pool : List ℤ} {u : ℕ} (k : ℕ) (kept : Kept (pos 0) u pool₀ pool) (room : u + 2049 ≤ length pool₀) (few : k ≤ 1024) where
  inside : u + k < length pool
  inside = omega (arith, kept.long)

  -- the literals, as a part of the pool
  pub bounded_slice : (n : ℕ) (b : ℤ) → n ≡ k → take n (drop u (set pool (u + k) b)) ≡ literals_at pool u k
  bounded_slice n b e = rw (e, slice_literals (set pool (u + k) b) u k (omega (arith, inside, length-set pool (u + k) b)), literals_bounded pool k u b inside)

  pub bounded_small : (l r : List ℕ) (b : ℤ) (n : ℕ) → n ≡ k → got (pairs_at pool (k + 1) u k) r ≡ more weighed_field k [] l → All (LiteralIn 1024) (take n (drop u (set pool (u + k) b)))
  bounded_small l r b n q e = rw (bounded_slice n b q) (pairs_small pool u k l r e)

  pub bounded_body : (v : ℕ) → body_from (set pool (u + k) (pos v)) true u k ≡ weighted v (pairs_at pool (k + 1) u k)
  bounded_body v = rw (bound_there pool k u (pos v) inside, pairs_bounded pool k u (pos v) inside)

  pub bounded_good : {b : BodyKind} {top t : ℕ} (v n : ℕ) → n ≡ k → is_weighted b ≡ true → is_mixed b ≡ not (one_signed (take n (drop u (set pool (u + k) (pos v))))) → t ≡ max top (highest nat_abs (literals_at pool u k)) → BodyGood (set pool (u + k) (pos v)) u top (record { kind = b; count = k; top = t })
  bounded_good {b} v n q w s e =
      record {
        few = few;
        signed = λ z. rw (literals_bounded pool k u (pos v) inside, ← bounded_slice n (pos v) q) s;
        atoms = e ∙ rw (w, highest_pairs (set pool (u + k) (pos v)) (k + 1) u k, literals_bounded pool k u (pos v) inside);
      }
