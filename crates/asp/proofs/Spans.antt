-- Laws of `span`, the values of a function at consecutive places. Assumes nothing.
use mathlib.Core.Path.{◌≡◌, refl, ap, ◌∙◌}
use mathlib.Core.List.{List, [], ◌∷◌, ◌++◌, map}
use mathlib.Core.Logic.{◌⊎◌, inl, inr}
use Prim.Native.Nat.{ℕ, zero, suc, ◌+◌, ◌-◌, ◌≤◌, ◌<◌}
use native.Mathlib.Nat.{eq-or-lt_of_le, add-zero}
use native.Mathlib.Omega.{arith}
use lib.IntN.{ℤ, pos}
use lib.ListN.{length, get_or, take, drop}
use lib.Seq.{drop-cons}
use native.Mathlib.Numerals.{add-one}
use Rattle.asp.specs.Program.{All}
use Rattle.asp.specs.Tables.{span}

module _ {A : Type 0} (f : ℕ → A) where
  -- a loop from j to e takes the first place
  pub span_more : (j e : ℕ) → j < e → span f j (e - j) ≡ f j ∷ span f (j + 1) (e - (j + 1))
  unfolding span
  span_more j e h = let q : e - j ≡ suc (e - (j + 1)) = omega arith in rw q

  pub span_none : (j e : ℕ) → e ≤ j → span f j (e - j) ≡ []
  unfolding span
  span_none j e h = let q : e - j ≡ 0 = omega arith in rw q

  pub span_whole : (i k : ℕ) → span f i (i + k - i) ≡ span f i k
  span_whole i k = let q : i + k - i ≡ k = omega arith in rw q

  -- one more place at the end
  pub span_snoc : (i k : ℕ) → span f i (suc k) ≡ span f i k ++ (f (i + k) ∷ [])
  unfolding span
  span_snoc i zero = rw add-zero
  span_snoc i (suc k) = let q : i + 1 + k ≡ i + suc k = omega arith in ap (λ (l : List A). f i ∷ l) (span_snoc (i + 1) k ∙ rw q)

  pub length_span : (i k : ℕ) → length (span f i k) ≡ k
  unfolding span
  length_span i zero = refl
  length_span i (suc k) = ap suc (length_span (i + 1) k)

  -- what holds of all of them holds at each place
  pub span_at : (P : A → Type 0) (i k : ℕ) → All P (span f i k) → (j : ℕ) → i ≤ j → j < i + k → P (f j)
  unfolding span
  span_at P i zero h j a b = absurd (omega arith)
  span_at P i (suc k) h j a b = go (eq-or-lt_of_le a) (span_at P (i + 1) k h.1 j)
    where
      go : (i ≡ j) ⊎ (i < j) → (i + 1 ≤ j → j < i + 1 + k → P (f j)) → P (f j)
      go (inl e) r = rw (← e) h.0
      go (inr l) r = r (omega arith) (omega arith)

pub map_span : {A B : Type 0} (g : A → B) (f : ℕ → A) (i k : ℕ) → map g (span f i k) ≡ span (λ j. g (f j)) i k
unfolding span
map_span g f i zero = refl
map_span {B = B} g f i (suc k) = ap (λ (l : List B). g (f i) ∷ l) (map_span g f (i + 1) k)

pub all_map : {A : Type 0} (P Q : A → Type 0) → ((x : A) → P x → Q x) → (xs : List A) → All P xs → All Q xs
all_map P Q g [] h = tt
all_map P Q g (x ∷ xs) h = (g x h.0, all_map P Q g xs h.1)

-- k places of a table, from i on, are a part of it
pub span_part : {A : Type 0} (xs : List A) (d : A) (i k : ℕ) → i + k ≤ length xs → take k (drop i xs) ≡ span (λ (j : ℕ). get_or xs j d) i k
unfolding span
span_part xs d i zero h = refl
span_part {A} xs d i (suc k) h = rw (drop-cons xs i d (omega arith)) (ap (λ (l : List A). get_or xs i d ∷ l) (rw (← add-one) (span_part xs d (i + 1) k (omega arith))))

pub all_at : {A : Type 0} (P : A → Type 0) (d : A) (xs : List A) → All P xs → (i : ℕ) → i < length xs → P (get_or xs i d)
all_at P d [] h i l = absurd (omega arith)
all_at P d (x ∷ xs) h zero l = h.0
all_at P d (x ∷ xs) h (suc i) l = all_at P d xs h.1 i (omega arith)

-- a place of it
pub get_or_span : (xs : List ℤ) (i k j : ℕ) → j < k → get_or (span (λ (p : ℕ). get_or xs p (pos 0)) i k) j (pos 0) ≡ get_or xs (i + j) (pos 0)
unfolding span
get_or_span xs i zero j h = absurd (omega arith)
get_or_span xs i (suc k) zero h = rw add-zero
get_or_span xs i (suc k) (suc j) h = let e : i + 1 + j ≡ i + suc j = omega arith in get_or_span xs (i + 1) k j (omega arith) ∙ rw e
