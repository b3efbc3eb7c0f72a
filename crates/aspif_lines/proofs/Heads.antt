-- Head atoms: what is read as an atom is positive; a plain head has one. Assumes nothing.
use mathlib.Core.Path.{◌≡◌, refl, ap}
use mathlib.Core.Bool.{Bool, true, false}
use mathlib.Core.List.{List, [], ◌∷◌, ◌++◌, map}
use Prim.Native.Nat.{ℕ, zero, suc, ◌≤◌}
use native.Mathlib.Omega.{arith}
use lib.IntN.{ℤ, pos, nat_abs}
use lib.ListN.{length}
use Rattle.asp.specs.Program.{highest, head_atoms}
use Rattle.asp.specs.Tables.{named}
use Rattle.aspif_fields.specs.Fields.{Read, got, bad, bind, natural, atom}
use Rattle.aspif_lines.specs.Text.{member_field, more, head_of, head_size}
use Rattle.aspif_lines.specs.Seen.{Positive}
use Rattle.aspif_lines.proofs.Spans.{highest_snoc}

pub map_snoc : {A B : Type 0} (f : A → B) (xs : List A) (x : A) → map f (xs ++ (x ∷ [])) ≡ map f xs ++ (f x ∷ [])
map_snoc f [] x = refl
map_snoc f (y ∷ ys) x = rw (map_snoc f ys x)

positive_more : (xs : List ℤ) (a : ℕ) → Positive xs → Positive (xs ++ (pos a ∷ []))
positive_more xs a h =
    record {
      positive =
          rw (highest_snoc nat_abs xs (pos a), map_snoc named xs (pos a), highest_snoc (λ (n : ℕ). n) (map named xs) a, h.positive);
    }

pub none_positive : Positive []
unfolding highest
none_positive = record { positive = refl }

positives : (k : ℕ) (xs ys : List ℤ) (l r : List ℕ) → Positive xs → got ys r ≡ more (member_field true) k xs l → Positive ys
unfolding more atom
positives zero xs ys l r h e = let z : ys ≡ xs = cc in rw z h
positives (suc k) xs ys l r h e = go (natural 1 1024 l) (λ a u. positives k (xs ++ (pos a ∷ [])) ys u r (positive_more xs a h)) e
  where
    go : (n : Read ℕ) → ((a : ℕ) (u : List ℕ) → got ys r ≡ more (member_field true) k (xs ++ (pos a ∷ [])) u → Positive ys)
        → got ys r ≡ bind (bind n (λ a r. got (pos a) r)) (λ a r. more (member_field true) k (xs ++ (a ∷ [])) r) → Positive ys
    go (bad c) f q = let z : ◌≡◌ {A = ℕ} 0 1 = cc in absurd (omega arith)
    go (got a u) f q = f a u q

pub heads_positive : (k : ℕ) (ys : List ℤ) (l r : List ℕ) → got ys r ≡ more (member_field true) k [] l → Positive ys
heads_positive k ys l r e = positives k [] ys l r none_positive e

short : (xs : List ℕ) → length xs ≤ 1 → (head_atoms (head_of false xs) ≡ highest (λ (a : ℕ). a) xs) × (head_size (head_of false xs) ≡ length xs)
unfolding highest
short [] h = (refl, refl)
short (x ∷ []) h = (omega arith, refl)
short (x ∷ y ∷ xs) h = absurd (omega arith)

pub head_atoms_lem : (c : Bool) (xs : List ℕ) → (c ≡ false → length xs ≤ 1) → head_atoms (head_of c xs) ≡ highest (λ (a : ℕ). a) xs
head_atoms_lem true xs h = refl
head_atoms_lem false xs h = (short xs (h refl)).0

pub head_size_lem : (c : Bool) (xs : List ℕ) → (c ≡ false → length xs ≤ 1) → head_size (head_of c xs) ≡ length xs
head_size_lem true xs h = refl
head_size_lem false xs h = (short xs (h refl)).1

pub length_map : {A B : Type 0} (f : A → B) (xs : List A) → length (map f xs) ≡ length xs
length_map f [] = refl
length_map f (x ∷ xs) = ap suc (length_map f xs)
