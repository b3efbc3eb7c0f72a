-- Parts of tables, and lists read one by one. Assumes nothing.
use mathlib.Core.Path.{◌≡◌, refl, ap, ◌∙◌}
use mathlib.Core.List.{List, [], ◌∷◌, ◌++◌}
use Prim.Native.Nat.{ℕ, zero, suc, ◌+◌, ◌-◌, ◌<◌, ◌≤◌, max}
use native.Mathlib.Omega.{arith}
use native.Mathlib.Nat.{sub-zero}
use lib.IntN.{ℤ, pos}
use lib.ListN.{length, get_or, set, length-set}
use lib.Seq.{get_or-set_same, get_or-set_other}
use Rattle.asp.specs.Program.{highest}
use Rattle.aspif_fields.specs.Fields.{Read, got, bad}
use Rattle.aspif_lines.specs.Text.{more}
use Rattle.asp.specs.declared.entries.Entry.{Entry}
use Rattle.asp.specs.Tables.{no_entry, entry_at, span, literals_at}
use Rattle.aspif_lines.specs.Seen.{entries_at, bytes_at, Kept}

pub append_nil : {A : Type 0} (xs : List A) → xs ++ [] ≡ xs
append_nil [] = refl
append_nil (x ∷ xs) = ap (λ (ys : List _). x ∷ ys) (append_nil xs)

pub span_shift : {A : Type 0} (f g : ℕ → A) (i h k : ℕ) → ((j : ℕ) → j < k → f (i + j) ≡ g (h + j)) → span f i k ≡ span g h k
unfolding span
span_shift f g i h zero e = refl
span_shift f g i h (suc k) e =
    let a : f i ≡ g h = let p : i + 0 ≡ i = omega arith in let q : h + 0 ≡ h = omega arith in rw (p, q) at (e 0 (omega arith)) in
    rw (a, span_shift f g (i + 1) (h + 1) k (λ j l. let p : i + 1 + j ≡ i + suc j = omega arith in let q : h + 1 + j ≡ h + suc j = omega arith in rw (p, q) (e (suc j) (omega arith))))

pub span_same : {A : Type 0} (f g : ℕ → A) (i k : ℕ) → ((j : ℕ) → j < i + k → f j ≡ g j) → span f i k ≡ span g i k
span_same f g i k h = span_shift f g i i k (λ j l. h (i + j) (omega arith))

pub span_append : {A : Type 0} (f : ℕ → A) (i k m : ℕ) → span f i (k + m) ≡ span f i k ++ span f (i + k) m
unfolding span
span_append f i zero m = let e : i + 0 ≡ i = omega arith in let d : 0 + m ≡ m = omega arith in rw (e, d)
span_append f i (suc k) m = let e : suc k + m ≡ suc (k + m) = omega arith in let d : i + 1 + k ≡ i + suc k = omega arith in rw (e, span_append f (i + 1) k m, d)

-- one more at the end
pub span_snoc : {A : Type 0} (f : ℕ → A) (i k : ℕ) → span f i (k + 1) ≡ span f i k ++ (f (i + k) ∷ [])
unfolding span
span_snoc f i k = span_append f i k 1

pub span_length : {A : Type 0} (f : ℕ → A) (i k : ℕ) → length (span f i k) ≡ k
unfolding span
span_length f i zero = refl
span_length f i (suc k) = ap suc (span_length f (i + 1) k)

pub literals_at_push : (pool : List ℤ) (i k : ℕ) (z : ℤ) → i + k < length pool → literals_at (set pool (i + k) z) i (k + 1) ≡ literals_at pool i k ++ (z ∷ [])
literals_at_push pool i k z h =
    rw (span_snoc (λ (j : ℕ). get_or (set pool (i + k) z) j (pos 0)) i k, get_or-set_same pool (i + k) z (pos 0) h, span_same (λ (j : ℕ). get_or (set pool (i + k) z) j (pos 0)) (λ (j : ℕ). get_or pool j (pos 0)) i k (λ j l. get_or-set_other pool (i + k) j z (pos 0) (omega arith)))

pub literals_at_kept : (p q : List ℤ) (n i k : ℕ) → Kept (pos 0) n p q → i + k ≤ n → literals_at q i k ≡ literals_at p i k
literals_at_kept p q n i k h l = span_same (λ (j : ℕ). get_or q j (pos 0)) (λ (j : ℕ). get_or p j (pos 0)) i k (λ j m. h.same j (omega arith))

pub kept_refl : {A : Type 0} (d : A) (n : ℕ) (xs : List A) → Kept d n xs xs
kept_refl d n xs = record { same = λ j l. refl; long = refl }

pub kept_set : {A : Type 0} (d : A) (n : ℕ) (xs ys : List A) (i : ℕ) (z : A) → Kept d n xs ys → n ≤ i → Kept d n xs (set ys i z)
kept_set d n xs ys i z h l = record { same = λ j m. get_or-set_other ys i j z d (omega arith) ∙ h.same j m; long = length-set ys i z ∙ h.long }

-- what is left of reading k of what f reads, from l₀ on: i of them are the xs, and l follows
pub record MoreLeft {A : Type 0} (f : List ℕ → Read A) (k i : ℕ) (xs : List A) (l l₀ : List ℕ) : Type 0 where
  pub left : more f (k - i) xs l ≡ more f k [] l₀

module _ {A : Type 0} {f : List ℕ → Read A} {k : ℕ} {l₀ : List ℕ} where
  pub more_start : MoreLeft f k 0 [] l₀ l₀
  more_start = record { left = rw (sub-zero k) }

  pub more_next : {i : ℕ} {xs : List A} {l : List ℕ} (a : A) (r : List ℕ) → MoreLeft f k i xs l l₀ → i < k → got a r ≡ f l → MoreLeft f k (i + 1) (xs ++ (a ∷ [])) r l₀
  unfolding more
  more_next {i} a r h q e = let s : k - i ≡ suc (k - (i + 1)) = omega arith in record { left = rw (s, ← e) at h.left }

  pub more_stop : {i : ℕ} {xs : List A} {l : List ℕ} {c : ℕ} → MoreLeft f k i xs l l₀ → i < k → bad c ≡ f l → bad c ≡ more f k [] l₀
  unfolding more
  more_stop {i} h q e = let s : k - i ≡ suc (k - (i + 1)) = omega arith in rw (s, ← e) at h.left

  pub more_done : {i : ℕ} {xs : List A} {l : List ℕ} → MoreLeft f k i xs l l₀ → k ≤ i → got xs l ≡ more f k [] l₀
  unfolding more
  more_done {i} h q = let s : k - i ≡ 0 = omega arith in rw s at h.left

-- one more entry
pub entries_push : (es : List Entry) (i k : ℕ) (e : Entry) → i + k < length es → entries_at (set es (i + k) e) i (k + 1) ≡ entries_at es i k ++ (e ∷ [])
entries_push es i k e h =
    rw (span_snoc (entry_at (set es (i + k) e)) i k, get_or-set_same es (i + k) e no_entry h, span_same (entry_at (set es (i + k) e)) (entry_at es) i k (λ j l. get_or-set_other es (i + k) j e no_entry (omega arith)))

pub bytes_at_push : (s : List ℕ) (i k : ℕ) → bytes_at s i (k + 1) ≡ bytes_at s i k ++ (get_or s (i + k) 0 ∷ [])
bytes_at_push s i k = span_snoc (λ (j : ℕ). get_or s j 0) i k

-- the highest atom of a list with one more at its end
pub highest_snoc : {A : Type 0} (f : A → ℕ) (xs : List A) (x : A) → highest f (xs ++ (x ∷ [])) ≡ max (highest f xs) (f x)
unfolding highest
highest_snoc f [] x = omega arith
highest_snoc f (y ∷ ys) x = omega (arith, highest_snoc f ys x)

pub highest_none : {A : Type 0} (f : A → ℕ) (n : ℕ) → n ≡ max n (highest f [])
unfolding highest
highest_none f n = omega arith

pub highest_span : {A B : Type 0} (f : A → ℕ) (g : ℕ → A) (f' : B → ℕ) (g' : ℕ → B) (i k : ℕ) → ((j : ℕ) → f (g j) ≡ f' (g' j)) → highest f (span g i k) ≡ highest f' (span g' i k)
unfolding span highest
highest_span f g f' g' i zero h = refl
highest_span f g f' g' i (suc k) h = rw (h i, highest_span f g f' g' (i + 1) k h)
