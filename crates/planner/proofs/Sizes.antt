-- How many places the rules of the tables have: as many as the program has head atoms and body literals. Assumes nothing.
use mathlib.Core.Path.{◌≡◌, refl, sym, ap, ap₂, ◌∙◌}
use mathlib.Core.Bool.{Bool, true, false}
use mathlib.Core.List.{List}
use Prim.Native.Nat.{ℕ, zero, suc, ◌+◌, ◌≤◌}
use native.Mathlib.Omega.{arith}
use lib.Dec.{eqb}
use lib.IntN.{ℤ, pos}
use lib.ListN.{get_or}
use borrow.Author.Tests.{eqb-true, eqb-false}
use Rattle.asp.specs.declared.rules.Row.{Row}
use Rattle.asp.specs.Tables.{span, named, is_choice, is_weighted, pair_at, row_at, head_at, body_at, rule_at, Formed}
use Rattle.asp.proofs.Spans.{length_span}
use Rattle.asp.proofs.RowLaws.{head_choice, head_none, head_plain, body_weighted, body_normal}
use Rattle.aspif_lines.specs.Text.{sum, head_size, body_size, rule_size}
use Rattle.counting.specs.Counts.{sum_from}

module _ (pool : List ℤ) (w : Row) (single : is_choice w.head ≡ false → w.heads ≤ 1) where
  head_size_lem : head_size (head_at pool w) ≡ w.heads
  head_size_lem = go (is_choice w.head) refl (eqb w.heads 0) refl
    where
      go : (x : Bool) → is_choice w.head ≡ x → (y : Bool) → eqb w.heads 0 ≡ y → head_size (head_at pool w) ≡ w.heads
      go true e y q = ap head_size (head_choice pool w e) ∙ length_span (λ (j : ℕ). named (get_or pool j (pos 0))) w.first w.heads
      go false e true q = ap head_size (head_none pool w e (eqb-true w.heads 0 q)) ∙ sym (eqb-true w.heads 0 q)
      go false e false q =
          let n = eqb-false w.heads 0 q in
          let z : ◌≡◌ {A = ℕ} 1 w.heads = omega (arith, single e) in
          ap head_size (head_plain pool w e n) ∙ z

  -- order 2: "Each pair takes one place"
  body_size_lem : body_size (body_at pool w) ≡ w.literals
  body_size_lem = go (is_weighted w.body) refl
    where
      go : (x : Bool) → is_weighted w.body ≡ x → body_size (body_at pool w) ≡ w.literals
      go true e = ap body_size (body_weighted pool w e) ∙ length_span (pair_at pool (w.literals + 1)) (w.first + w.heads) w.literals
      go false e = ap body_size (body_normal pool w e) ∙ length_span (λ (j : ℕ). get_or pool j (pos 0)) (w.first + w.heads) w.literals

  rule_size_lem : rule_size (rule_at pool w) ≡ w.heads + w.literals
  rule_size_lem = ap₂ (λ (x y : ℕ). x + y) head_size_lem body_size_lem

pub sizes : (pool : List ℤ) (rows : List Row) (count : ℕ) {n : ℕ} → Formed n pool rows count → (i k : ℕ) → i + k ≤ count → sum rule_size (span (λ (r : ℕ). rule_at pool (row_at rows r)) i k) ≡ sum_from (λ r. (row_at rows r).heads + (row_at rows r).literals) i k
unfolding sum span sum_from
sizes pool rows count f i zero h = refl
sizes pool rows count f i (suc k) h = ap₂ (λ (x y : ℕ). x + y) (rule_size_lem pool (row_at rows i) (f.row i (omega arith)).single) (sizes pool rows count f (i + 1) k (omega arith))
