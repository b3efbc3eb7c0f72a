-- The loops over entries, levels and figures. Assumes nothing.
use mathlib.Core.Path.{◌≡◌, refl, sym, ap, ◌∙◌}
use mathlib.Core.Bool.{Bool, true, false}
use mathlib.Core.List.{List, [], ◌∷◌, ◌++◌, map, append_assoc}
use Prim.Native.Nat.{ℕ, zero, suc, ◌+◌, ◌*◌, ◌≤◌, ◌<◌}
use native.Mathlib.Numerals.{add-one}
use native.Mathlib.Omega.{arith}
use lib.IntN.{ℤ, pos, nat_abs, ◌+ℤ◌, +ℤ_assoc, +ℤ_idl, +ℤ_idr}
use lib.ListN.{length, get_or, take, drop, set, length-map}
use lib.Seq.{drop-cons, set_at}
use mir.Syntax.{w64}
use mir.Val.{to_z, of_z}
use mir.Facts.{to_z-of_z}
use Rattle.std.proofs.lemmas.List.{at_drop_more, at_drop_all, length-take-le, take_more, take_all}
use Rattle.asp.specs.Sets.{Set, pick}
use Rattle.asp.specs.Literal.{same_ℤ}
use Rattle.asp.specs.declared.entries.Entry.{Entry}
use Rattle.asp.specs.Cost.{level, total_ℤ, cost, start}
use Rattle.asp.specs.Tables.{no_entry, entry_at}
use Rattle.asp.specs.Paying.{on_level, EntriesFormed}
use Rattle.asp.proofs.Signed.{sum_size, figure_fits}

-- ---- the loop over the entries: a sum of what f says of each on the level

level_more : (f : Entry → ℤ) (p : ℤ) (e : Entry) (es : List Entry) → total_ℤ (map f (level p (e ∷ es))) ≡ on_level f p e +ℤ total_ℤ (map f (level p es))
unfolding level total_ℤ
level_more f p e es = go (same_ℤ p e.priority)
  where
    go : (b : Bool) → total_ℤ (map f (pick b (e ∷ level p es) (level p es))) ≡ pick b (f e) (pos 0) +ℤ total_ℤ (map f (level p es))
    go true = refl
    go false = sym (+ℤ_idl (total_ℤ (map f (level p es))))

pub record Summing (f : Entry → ℤ) (p : ℤ) (entries : List Entry) (sum : ℤ) (i : ℕ) : Type 0 where
  pub small : nat_abs sum ≤ i * 2147483648
  pub rest : sum +ℤ total_ℤ (map f (level p (drop i entries))) ≡ total_ℤ (map f (level p entries))

pub summing_start : (f : Entry → ℤ) (p : ℤ) (entries : List Entry) → Summing f p entries (pos 0) 0
summing_start f p entries = record { small = omega arith; rest = +ℤ_idl _ }

module _ {f : Entry → ℤ} {p : ℤ} {entries : List Entry} {sum : ℤ} {i : ℕ} (s : Summing f p entries sum i) where
  -- the sum stays small enough to add to
  pub summing_small : EntriesFormed entries → i < length entries → nat_abs sum ≤ 140737488355328
  summing_small w h = omega (arith, s.small, w.few)

  pub summing_next : i < length entries → {w : ℤ} → w ≡ on_level f p (entry_at entries i) → nat_abs w ≤ 2147483648 → Summing f p entries (sum +ℤ w) (i + 1)
  summing_next h {w} e b = record {
    small = omega (arith, s.small, sum_size sum w);
    rest =
        +ℤ_assoc sum w _ ∙ rw e (rw (at_drop_more (λ (es : List Entry). total_ℤ (map f (level p es))) entries i no_entry h, level_more f p (entry_at entries i) (drop (i + 1) entries)) at s.rest);
  }

  -- as the code has it: bits that are added and kept
  pub summing_added : EntriesFormed entries → i < length entries → {w : ℤ} → w ≡ on_level f p (entry_at entries i) → nat_abs w ≤ 2147483648
      → Summing f p entries (to_z w64 (of_z w64 (sum +ℤ to_z w64 (of_z w64 w)))) (i + 1)
  summing_added g h {w} e b = rw (to_z-of_z (figure_fits w (omega arith)), to_z-of_z (figure_fits (sum +ℤ w) (omega (arith, sum_size sum w, summing_small g h)))) (summing_next h e b)

  pub summing_done : length entries ≤ i → sum ≡ total_ℤ (map f (level p entries))
  unfolding level total_ℤ
  summing_done h = sym (+ℤ_idr sum) ∙ (rw (at_drop_all (λ (es : List Entry). total_ℤ (map f (level p es))) entries i h) at s.rest)

-- ---- the loop over the levels

map_snoc : {A B : Type 0} (f : A → B) (xs : List A) (x : A) → map f (xs ++ (x ∷ [])) ≡ map f xs ++ (f x ∷ [])
map_snoc f [] x = refl
map_snoc {B = B} f (y ∷ xs) x = ap (λ (l : List B). f y ∷ l) (map_snoc f xs x)

-- what a set costs on a level, and where its lower bound starts, by the level's priority
abbrev pub cost_on : Set → List Entry → ℤ → ℤ
cost_on M es q = cost M (level q es)

abbrev pub start_on : List Entry → ℤ → ℤ
start_on es q = start (level q es)

pub record Filling (f : ℤ → ℤ) (levels xs : List ℤ) (i : ℕ) (ys : List ℤ) : Type 0 where
  pub filled : ys ≡ map f (take i levels) ++ drop i xs

pub filling_start : (f : ℤ → ℤ) (levels xs : List ℤ) → Filling f levels xs 0 xs
filling_start f levels xs = record { filled = refl }

module _ {f : ℤ → ℤ} {levels xs ys : List ℤ} {i : ℕ} (s : Filling f levels xs i ys) where
  pub filling_next : i < length levels → length levels ≤ length xs → {v : ℤ} → v ≡ f (get_or levels i (pos 0)) → Filling f levels xs (i + 1) (set ys i v)
  filling_next h k {v} e = record {
    filled =
        rw (s.filled, drop-cons xs i (pos 0) (omega arith), take_more levels i (pos 0) h, map_snoc f (take i levels) (get_or levels i (pos 0)), add-one, ← e)
        (set_at (map f (take i levels)) (get_or xs i (pos 0)) (drop (suc i) xs) v i size ∙ sym (append_assoc (map f (take i levels)) (v ∷ []) (drop (suc i) xs)));
  }
    where
      size : length (map f (take i levels)) ≡ i
      size = length-map (take i levels) f ∙ length-take-le i levels (omega arith)

  pub filling_done : length levels ≤ i → i ≤ length levels → ys ≡ map f levels ++ drop (length levels) xs
  filling_done h g = let e : i ≡ length levels = omega arith in whole (rw e at s.filled)
    where
      whole : ys ≡ map f (take (length levels) levels) ++ drop (length levels) xs → ys ≡ map f levels ++ drop (length levels) xs
      whole q = rw (take_all (length levels) levels (omega arith)) at q
