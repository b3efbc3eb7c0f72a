-- The loops that mark the atoms to try in first, and drop those that a penalty stands on. Assumes nothing.
use mathlib.Core.Path.{◌≡◌, refl, sym, ◌∙◌}
use mathlib.Core.Bool.{Bool, true, false, not, ◌&&◌, ◌||◌}
use mathlib.Core.List.{List, [], ◌∷◌}
use Prim.Native.Nat.{ℕ, zero, suc, ◌+◌, ◌-◌, ◌*◌, ◌≤◌, ◌<◌}
use native.Mathlib.Nat.{sub-zero}
use native.Mathlib.Decide.{ℕ_discrete}
use native.Mathlib.Omega.{arith}
use lib.Dec.{eqb, ltb}
use lib.IntN.{ℤ, pos, negsuc, nat_abs}
use lib.ListN.{length, get_or, drop, set, replicate, length-set}
use lib.Seq.{get_or-set_same, get_or-set_other}
use borrow.Author.Tests.{eq-eqb, ne_eqb, lt-ltb, le-ltb}
use Rattle.asp.specs.declared.rules.Row.{Row}
use Rattle.asp.specs.Sets.{Set, In, set_of}
use Rattle.asp.specs.Literal.{same_ℤ, is_negative}
use Rattle.asp.specs.Program.{Rule, All}
use Rattle.asp.specs.Penalty.{Penalty, penalty, penalties}
use Rattle.asp.specs.Stable.{member, listed}
use Rattle.asp.specs.Tables.{span, named, atoms_at, is_choice, is_weighted, row_at, plain_head, literals_at, rule_at, rules_of, no_entry, entry_at}
use Rattle.asp.proofs.Spans.{span_more, span_none, span_whole, span_at}
use Rattle.asp.proofs.RowLaws.{head_choice, head_named}
use Rattle.asp.proofs.Growing.{named_atom}
use Rattle.std.proofs.lemmas.List.{at_drop_more, at_drop_all}
use Rattle.asp.specs.Growth.{atoms_named}
use Rattle.asp.specs.declared.entries.Entry.{Entry}
use Rattle.asp.proofs.Signed.{clash}
use Rattle.choosing.specs.First.{is_bodiless, chosen_by, freely_chosen_by, freely_chosen, pays_for, paid_for, tried_first, With, Without}

or_assoc : (x y z : Bool) → ((x || y) || z) ≡ (x || (y || z))
or_assoc true y z = refl
or_assoc false y z = refl

or_false : (x : Bool) → (x || false) ≡ x
or_false true = refl
or_false false = refl

without_both : (x y z : Bool) → ((x && not y) && not z) ≡ (x && not (y || z))
without_both true true z = refl
without_both true false z = refl
without_both false y z = refl

and_true : (x : Bool) → (x && true) ≡ x
and_true true = refl
and_true false = refl

and_false : (x : Bool) → (x && false) ≡ false
and_false true = refl
and_false false = refl

-- ---- one byte

-- an atom is marked
marked : (xs : List ℕ) (m : ℕ) → m < length xs → (a : ℕ) → set_of (set xs m 1) a ≡ (set_of xs a || eqb a m)
marked xs m h a = go (ℕ_discrete a m)
  where
    or_true : (x : Bool) → true ≡ (x || true)
    or_true true = refl
    or_true false = refl

    go : Dec (a ≡ m) → set_of (set xs m 1) a ≡ (set_of xs a || eqb a m)
    go (yes e) = rw (e, get_or-set_same xs m 1 0 h, eq-eqb m m refl) (or_true (set_of xs m))
    go (no f) = rw (get_or-set_other xs m a 1 0 f, ne_eqb a m f) (sym (or_false (set_of xs a)))

-- an atom is dropped
dropped : (xs : List ℕ) (m : ℕ) → m < length xs → (a : ℕ) → set_of (set xs m 0) a ≡ (set_of xs a && not (eqb m a))
dropped xs m h a = go (ℕ_discrete a m)
  where
    go : Dec (a ≡ m) → set_of (set xs m 0) a ≡ (set_of xs a && not (eqb m a))
    go (yes e) = rw (e, get_or-set_same xs m 0 0 h, eq-eqb m m refl) (sym (and_false (set_of xs m)))
    go (no f) = rw (get_or-set_other xs m a 0 0 f, ne_eqb m a (λ q. f (sym q))) (sym (and_true (set_of xs a)))

-- ---- the loop over the atoms of a choice

pub record Marking (heads : List ℤ) (xs : List ℕ) (i : ℕ) (ys : List ℕ) : Type 0 where
  pub long : length ys ≡ 1025
  pub rest : (a : ℕ) → (set_of ys a || member a (atoms_named (drop i heads))) ≡ (set_of xs a || member a (atoms_named heads))

pub marking_start : (heads : List ℤ) (xs : List ℕ) → length xs ≡ 1025 → Marking heads xs 0 xs
marking_start heads xs l = record { long = l; rest = λ a. refl }

module _ {heads : List ℤ} {i : ℕ} {xs ys : List ℕ} (c : Marking heads xs i ys) where
  pub marking_next : All (In 1024) (atoms_named heads) → i < length heads → {m : ℕ} → m ≡ nat_abs (get_or heads i (pos 0)) → Marking heads xs (i + 1) (set ys m 1)
  unfolding member
  marking_next h l {m} e =
      let here = named_atom heads h l e in
      record {
        long = length-set ys m 1 ∙ c.long;
        rest = λ a.
            rw (marked ys m (omega (arith, here.0, c.long)) a, or_assoc (set_of ys a) (eqb a m) (member a (atoms_named (drop (i + 1) heads))))
            (rw (at_drop_more (λ (hs : List ℤ). member a (atoms_named hs)) heads i (pos 0) l, ← here.1) at (c.rest a));
      }

  pub marking_done : length heads ≤ i → With (listed (atoms_named heads)) xs ys
  unfolding member
  marking_done h = record {
    long = c.long;
    each = λ a. rw (at_drop_all (λ (hs : List ℤ). member a (atoms_named hs)) heads i h, or_false) at (c.rest a);
  }

-- ---- one rule

-- nothing to mark
with_none : (X : Set) {xs : List ℕ} → length xs ≡ 1025 → ((a : ℕ) → X a ≡ false) → With X xs xs
with_none X {xs} l n = record { long = l; each = λ a. rw (n a) (sym (or_false (set_of xs a))) }

module _ (pool : List ℤ) (row : Row) where
  pub rule_marked : is_weighted row.body ≡ false → is_choice row.head ≡ true → row.literals ≡ 0 → {heads : List ℤ} → heads ≡ literals_at pool row.first row.heads → {xs ys : List ℕ}
      → With (listed (atoms_named heads)) xs ys → With (freely_chosen_by (rule_at pool row)) xs ys
  unfolding span
  rule_marked u c z {heads} e s =
      let n : atoms_at pool row.first row.heads ≡ atoms_named heads = rw e (head_named pool row row.first row.heads) in
      rw (head_choice pool row c, u, z, n) s

  pub rule_weighted : is_weighted row.body ≡ true → {xs : List ℕ} → length xs ≡ 1025 → With (freely_chosen_by (rule_at pool row)) xs xs
  rule_weighted u l = with_none (freely_chosen_by (rule_at pool row)) l (λ a. rw u)

  pub rule_bodied : is_weighted row.body ≡ false → (row.literals ≡ 0 → ⊥) → {xs : List ℕ} → length xs ≡ 1025 → With (freely_chosen_by (rule_at pool row)) xs xs
  unfolding span
  rule_bodied u f l =
      let q : row.literals ≡ suc (row.literals - 1) = some row.literals f in
      with_none (freely_chosen_by (rule_at pool row)) l (λ a. rw (u, q))
    where
      some : (c : ℕ) → (c ≡ 0 → ⊥) → c ≡ suc (c - 1)
      some c h = omega arith

  pub rule_plain : is_choice row.head ≡ false → {xs : List ℕ} → length xs ≡ 1025 → With (freely_chosen_by (rule_at pool row)) xs xs
  rule_plain c l = with_none (freely_chosen_by (rule_at pool row)) l unchosen
    where
      plain_none : (hs : List ℕ) (a : ℕ) → chosen_by (plain_head hs) a ≡ false
      plain_none [] a = refl
      plain_none (h ∷ hs) a = refl

      unchosen : (a : ℕ) → freely_chosen_by (rule_at pool row) a ≡ false
      unchosen a = rw (c, plain_none (atoms_at pool row.first row.heads) a) (and_false (is_bodiless (rule_at pool row).body))

-- ---- the loop over the rules

module _ (pool : List ℤ) (rows : List Row) where
  abbrev rule_of : ℕ → Rule
  rule_of r = rule_at pool (row_at rows r)

  pub record Passing (count r : ℕ) (xs ys : List ℕ) : Type 0 where
    pub long : length ys ≡ 1025
    pub rest : (a : ℕ) → (set_of ys a || freely_chosen (span rule_of r (count - r)) a) ≡ (set_of xs a || freely_chosen (rules_of pool rows count) a)

  pub passing_start : (count : ℕ) {xs : List ℕ} → length xs ≡ 1025 → Passing count 0 xs xs
  passing_start count l = record { long = l; rest = λ a. rw sub-zero }

module _ {pool : List ℤ} {rows : List Row} {count r : ℕ} {xs ys : List ℕ} (p : Passing pool rows count r xs ys) where
  pub passing_next : r < count → {zs : List ℕ} → With (freely_chosen_by (rule_at pool (row_at rows r))) ys zs → Passing pool rows count (r + 1) xs zs
  unfolding freely_chosen
  passing_next h w = record {
    long = w.long;
    rest = λ a.
        rw (w.each a, or_assoc (set_of ys a) (freely_chosen_by (rule_at pool (row_at rows r)) a) (freely_chosen (span (rule_of pool rows) (r + 1) (count - (r + 1))) a))
        (rw (span_more (rule_of pool rows) r count h) at (p.rest a));
  }

  pub passing_done : count ≤ r → With (freely_chosen (rules_of pool rows count)) xs ys
  unfolding freely_chosen
  passing_done h = record { long = p.long; each = λ a. rw (span_none (rule_of pool rows) r count h, or_false) at (p.rest a) }

-- ---- one entry

-- nothing to drop
without_none : (X : Set) {xs : List ℕ} → length xs ≡ 1025 → ((a : ℕ) → X a ≡ false) → Without X xs xs
without_none X {xs} l n = record { long = l; each = λ a. rw (n a) (sym (and_true (set_of xs a))) }

module _ (e : Penalty) {xs : List ℕ} (l : length xs ≡ 1025) where
  pub entry_free : e.weight ≤ 0 → Without (pays_for e) xs xs
  entry_free h = without_none (pays_for e) l (λ a. rw (le-ltb 0 e.weight h) (and_false (same_ℤ e.literal (pos a))))

  pub entry_negated : {b : Bool} → b ≡ is_negative e.literal → b ≡ true → Without (pays_for e) xs xs
  entry_negated n q = without_none (pays_for e) l (λ a. go e.literal a (sym n ∙ q))
    where
      go : (z : ℤ) (a : ℕ) → is_negative z ≡ true → (same_ℤ z (pos a) && ltb 0 e.weight) ≡ false
      go (pos m) a q = absurd (clash q)
      go (negsuc m) a q = refl

  pub entry_pays : 0 < e.weight → {b : Bool} → b ≡ is_negative e.literal → b ≡ false → nat_abs e.literal ≤ 1024 → {m : ℕ} → m ≡ nat_abs e.literal
      → Without (pays_for e) xs (set xs m 0)
  entry_pays h n q i {m} s = record { long = length-set xs m 0 ∙ l; each = λ a. rw s (go e.literal a (sym n ∙ q) i) }
    where
      go : (z : ℤ) (a : ℕ) → is_negative z ≡ false → nat_abs z ≤ 1024 → set_of (set xs (nat_abs z) 0) a ≡ (set_of xs a && not (same_ℤ z (pos a) && ltb 0 e.weight))
      go (pos n) a q i = rw (lt-ltb 0 e.weight h, and_true) (dropped xs n (omega (arith, i, l)) a)
      go (negsuc n) a q i = absurd (clash (sym q))

-- ---- the loop over the entries

pub record Dropping (entries : List Entry) (xs : List ℕ) (i : ℕ) (ys : List ℕ) : Type 0 where
  pub long : length ys ≡ 1025
  pub rest : (a : ℕ) → (set_of ys a && not (paid_for (penalties (drop i entries)) a)) ≡ (set_of xs a && not (paid_for (penalties entries) a))

pub dropping_start : (entries : List Entry) (xs : List ℕ) → length xs ≡ 1025 → Dropping entries xs 0 xs
dropping_start entries xs l = record { long = l; rest = λ a. refl }

module _ {entries : List Entry} {i : ℕ} {xs ys : List ℕ} (d : Dropping entries xs i ys) where
  pub dropping_next : i < length entries → {zs : List ℕ} → Without (pays_for (penalty (entry_at entries i))) ys zs → Dropping entries xs (i + 1) zs
  unfolding paid_for
  dropping_next h w = record {
    long = w.long;
    rest = λ a.
        rw (w.each a, without_both (set_of ys a) (pays_for (penalty (entry_at entries i)) a) (paid_for (penalties (drop (i + 1) entries)) a))
        (rw (at_drop_more (λ (es : List Entry). paid_for (penalties es) a) entries i no_entry h) at (d.rest a));
  }

  pub dropping_done : length entries ≤ i → Without (paid_for (penalties entries)) xs ys
  unfolding paid_for
  dropping_done h = record { long = d.long; each = λ a. rw (at_drop_all (λ (es : List Entry). paid_for (penalties es) a) entries i h, and_true) at (d.rest a) }

-- ---- both passes, from an empty table

none_in : (n a : ℕ) → set_of (replicate n 0) a ≡ false
none_in zero a = refl
none_in (suc n) zero = refl
none_in (suc n) (suc a) = none_in n a

pub first_tried : (n : ℕ) (rs : List Rule) (es : List Penalty) {ys zs : List ℕ} → With (freely_chosen rs) (replicate n 0) ys → Without (paid_for es) ys zs → (a : ℕ) → set_of zs a ≡ tried_first rs es a
first_tried n rs es w v a = v.each a ∙ rw (w.each a, none_in n a)
