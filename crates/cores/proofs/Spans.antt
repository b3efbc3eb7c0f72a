-- Laws of `span`, the list of a function's values at places in a row. Assumes nothing.
use mathlib.Core.Path.{◌≡◌, refl, sym, ap, ap₂, ◌∙◌}
use mathlib.Core.List.{List, [], ◌∷◌, ◌++◌}
use Prim.Native.Nat.{ℕ, zero, suc, ◌+◌, ◌≤◌, ◌<◌}
use native.Mathlib.Nat.{add-zero, le_of_suc-le-suc, not-suc-le-zero}
use native.Mathlib.Numerals.{add-one}
use native.Mathlib.Omega.{arith}
use lib.ListN.{length, get_or}
use Rattle.asp.specs.Tables.{span}

module _ {A : Type 0} where
  pub length_span : (f : ℕ → A) (i k : ℕ) → length (span f i k) ≡ k
  unfolding span
  length_span f i zero = refl
  length_span f i (suc k) = ap suc (length_span f (i + 1) k)

  pub get_d_span : (f : ℕ → A) (i k : ℕ) (d : A) (p : ℕ) → p < k → get_or (span f i k) p d ≡ f (i + p)
  unfolding span
  get_d_span f i zero d p h = absurd (not-suc-le-zero h)
  get_d_span f i (suc k) d zero h = ap f (sym (add-zero i))
  get_d_span f i (suc k) d (suc p) h = get_d_span f (i + 1) k d p (le_of_suc-le-suc h) ∙ ap f (omega arith)

  pub span_ext : (f g : ℕ → A) (i k : ℕ) → ((p : ℕ) → i ≤ p → p < i + k → f p ≡ g p) → span f i k ≡ span g i k
  unfolding span
  span_ext f g i zero e = refl
  span_ext f g i (suc k) e = ap₂ ◌∷◌ (e i (omega arith) (omega arith)) (span_ext f g (i + 1) k (λ p l h. e p (omega arith) (omega arith)))

  pub span_last : (f : ℕ → A) (i k : ℕ) → span f i (k + 1) ≡ span f i k ++ (f (i + k) ∷ [])
  unfolding span
  span_last f i k = rw add-one (go i k)
    where
      go : (i k : ℕ) → span f i (suc k) ≡ span f i k ++ (f (i + k) ∷ [])
      go i zero = ap (λ (x : A). x ∷ []) (ap f (sym (add-zero i)))
      go i (suc k) = ap (λ (l : List A). f i ∷ l) (go (i + 1) k ∙ ap (λ (x : A). span f (i + 1) k ++ (x ∷ [])) (ap f (omega arith)))
