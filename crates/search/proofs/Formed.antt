-- What well-formed tables of rules (`Formed` of asp) and of soft literals say at each place. Assumes nothing.
use mathlib.Core.Path.{◌≡◌, refl}
use mathlib.Core.Bool.{Bool, true, false}
use mathlib.Core.List.{List}
use Prim.Native.Nat.{ℕ, zero, suc, ◌+◌, ◌≤◌, ◌<◌}
use native.Mathlib.Omega.{arith}
use lib.Dec.{eqb, ltb}
use lib.IntN.{ℤ, pos, negsuc, nat_abs}
use lib.ListN.{get_or}
use borrow.Author.Tests.{eqb-true, eqb-false, ltb-true, ltb-false}
use Rattle.asp.specs.declared.rules.Row.{Row}
use Rattle.asp.specs.Sets.{In, pick}
use Rattle.asp.specs.Program.{Weighed, normal, weighted, choice, All, LiteralIn, BodyIn, HeadIn, RuleIn}
use Rattle.asp.specs.Tables.{span, literals_at, named, atoms_at, is_choice, is_weighted, pair_at, pairs_at, bound_at, row_at, plain_head, rule_at, RowIn, Formed}
use Rattle.search.specs.Scan.{rules, Readable}
use Rattle.search.specs.Soft.{AssumedEntries, ReadableSoft, FormedSoft}

-- what holds of all of a span holds at each place
pub all_span : {A : Type 0} (P : A → Type 0) (f : ℕ → A) (i k : ℕ) → All P (span f i k) → (j : ℕ) → i ≤ j → j < i + k → P (f j)
unfolding span
all_span P f i zero a j h l = absurd (omega arith)
all_span P f i (suc k) a j h l = go (eqb i j) refl (all_span P f (i + 1) k a.1 j)
  where
    go : (b : Bool) → eqb i j ≡ b → (i + 1 ≤ j → j < i + 1 + k → P (f j)) → P (f j)
    go true e r = let z : i ≡ j = eqb-true i j e in rw (← z) a.0
    go false e r = let z = eqb-false i j e in r (omega arith) (omega arith)

named_in : (n : ℕ) (z : ℤ) → In n (named z) → In n (nat_abs z)
named_in n (pos a) i = i
named_in n (negsuc a) i = absurd (omega (arith, i.0))

-- a head atom's place holds a positive literal
pub named_is : (n : ℕ) (z : ℤ) → In n (named z) → pos (named z) ≡ z
named_is n (pos a) i = refl
named_is n (negsuc a) i = absurd (omega (arith, i.0))

module _ (n : ℕ) (pool : List ℤ) (w : Row) (r : RowIn pool w) (i : RuleIn n (rule_at pool w)) where
  -- a head with one atom is that atom
  plain_in : (c : ℕ) → c ≤ 1 → HeadIn n (plain_head (atoms_at pool w.first c)) → (k : ℕ) → w.first ≤ k → k < w.first + c → In n (named (get_or pool k (pos 0)))
  unfolding span
  plain_in zero l h k a b = absurd (omega arith)
  plain_in (suc zero) l h k a b = let z : k ≡ w.first = omega arith in rw z h
  plain_in (suc (suc c)) l h k a b = absurd (omega arith)

  head_place : (k : ℕ) → w.first ≤ k → k < w.first + w.heads → In n (named (get_or pool k (pos 0)))
  head_place k a b = go (is_choice w.head) refl i.0
    where
      go : (x : Bool) → is_choice w.head ≡ x → HeadIn n (pick x (choice (atoms_at pool w.first w.heads)) (plain_head (atoms_at pool w.first w.heads))) → In n (named (get_or pool k (pos 0)))
      go true e h = all_span (In n) (λ (j : ℕ). named (get_or pool j (pos 0))) w.first w.heads h k a b
      go false e h = plain_in w.heads (r.single e) h k a b

  pub place_atom : (k : ℕ) → w.first ≤ k → k < w.first + w.heads + w.literals → In n (nat_abs (get_or pool k (pos 0)))
  place_atom k a b = go (ltb k (w.first + w.heads)) refl
    where
      go : (x : Bool) → ltb k (w.first + w.heads) ≡ x → In n (nat_abs (get_or pool k (pos 0)))
      go true e = named_in n (get_or pool k (pos 0)) (head_place k a (ltb-true k (w.first + w.heads) e))
      go false e = body_place (is_weighted w.body) i.1 (ltb-false k (w.first + w.heads) e)
        where
          body_place : (y : Bool) → BodyIn n (pick y (weighted (bound_at pool w) (pairs_at pool (w.literals + 1) (w.first + w.heads) w.literals)) (normal (literals_at pool (w.first + w.heads) w.literals))) → w.first + w.heads ≤ k
              → In n (nat_abs (get_or pool k (pos 0)))
          body_place true h m = all_span (λ (p : Weighed). LiteralIn n p.literal) (pair_at pool (w.literals + 1)) (w.first + w.heads) w.literals h k m (omega arith)
          body_place false h m = all_span (LiteralIn n) (λ (j : ℕ). get_or pool j (pos 0)) (w.first + w.heads) w.literals h k m (omega arith)

  -- the head atom of a plain rule that has one
  pub plain_head_lem : is_choice w.head ≡ false → w.heads ≡ 1 → pos (named (get_or pool w.first (pos 0))) ≡ get_or pool w.first (pos 0)
  plain_head_lem e q = named_is n (get_or pool w.first (pos 0)) (head_place w.first (omega arith) (omega arith))

module _ (n : ℕ) (pool : List ℤ) (rows : List Row) (count : ℕ) (f : Formed n pool rows count) where
  pub rule_in : (r : ℕ) → r < count → RuleIn n (rule_at pool (row_at rows r))
  rule_in r h = all_span (RuleIn n) (λ (j : ℕ). rule_at pool (row_at rows j)) 0 count f.atoms r (omega arith) (omega arith)

  pub atom_in_lem : (r : ℕ) → r < count → (k : ℕ) → (row_at rows r).first ≤ k → k < (row_at rows r).first + (row_at rows r).heads + (row_at rows r).literals → In n (nat_abs (get_or pool k (pos 0)))
  atom_in_lem r h k a b = place_atom n pool (row_at rows r) (f.row r h) (rule_in r h) k a b

  -- so a scan can read them
  pub readable : Readable (rules pool rows count)
  readable = record {
    long = f.long;
    inside = λ r h. (f.row r h).inside;
    single = λ r h e. (f.row r h).single e;
    weighed = λ r h e. (f.row r h).weighed e;
    small = λ r h k a b. omega (arith, f.few, (atom_in_lem r h k a b).1);
  }

pub readable_soft : (n : ℕ) (s : AssumedEntries) → n ≤ 1024 → FormedSoft n s → ReadableSoft s
readable_soft n s h f = record {
  wishes = record { long = f.wished_long; small = λ i l. omega (arith, (f.atoms i l).1) };
  long = f.blamed_long;
}
