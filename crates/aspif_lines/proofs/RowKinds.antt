-- The rule that a row says. Assumes nothing.
use mathlib.Core.Path.{◌≡◌, refl, ap}
use mathlib.Core.Bool.{Bool, true, false}
use mathlib.Core.List.{List, map}
use Prim.Native.Nat.{ℕ, ◌+◌, ◌≤◌, max}
use native.Mathlib.Omega.{arith}
use lib.IntN.{ℤ, pos, nat_abs}
use lib.ListN.{get_or}
use Rattle.asp.specs.Sets.{pick}
use Rattle.asp.specs.Program.{choice, highest, head_atoms, rule_atoms}
use Rattle.asp.specs.Tables.{literals_at, atoms_at, named, plain_head, is_choice, is_weighted, rule_at}
use Rattle.asp.specs.declared.rules.HeadKind.{HeadKind}
use Rattle.asp.specs.declared.rules.BodyKind.{BodyKind}
use Rattle.asp.proofs.Spans.{map_span}
use Rattle.aspif_lines.specs.Text.{head_of, rule_of}
use Rattle.aspif_lines.specs.Seen.{Kept, Positive, body_from, BodyGood, rule_row, RuleGood}
use Rattle.aspif_lines.specs.declared.body.BodyPart.{BodyPart}
use Rattle.aspif_lines.proofs.Spans.{span_length}
use Rattle.aspif_lines.proofs.Heads.{head_atoms_lem, length_map}

-- the rule of the row
pub rule_at_lem : (pool : List ℤ) (i m k : ℕ) (h : HeadKind) (b : BodyKind) → rule_at pool (rule_row h b i m k) ≡ rule_of (is_choice h) (literals_at pool i m) (body_from pool (is_weighted b) (i + m) k)
rule_at_lem pool i m k h b = rw (map_span named (λ (j : ℕ). get_or pool j (pos 0)) i m, head (is_choice h) (atoms_at pool i m))
  where
    head : (c : Bool) (as' : List ℕ) → pick c (choice as') (plain_head as') ≡ head_of c as'
    head true as' = refl
    head false as' = refl

-- the same, of the pool that a reader left
pub rule_left : {p q : List ℤ} {n : ℕ} → Kept (pos 0) n p q → (i m k : ℕ) (h : HeadKind) (b : BodyKind) → rule_at q (rule_row h b i m k) ≡ rule_of (is_choice h) (literals_at q i m) (body_from q (is_weighted b) (i + m) k)
rule_left {p} {q} k = rule_at_lem q

module _ (pool : List ℤ) (i m : ℕ) (h : HeadKind) (b : BodyPart) where
  pub rule_good : {top t : ℕ} → m ≤ 1024 → (is_choice h ≡ false → m ≤ 1) → Positive (literals_at pool i m) → t ≡ max top (highest nat_abs (literals_at pool i m)) → BodyGood pool (i + m) t b
      → RuleGood pool i top (record { row = rule_row h b.kind i m b.count; top = b.top })
  rule_good few one p e good =
      let hs : List ℤ = literals_at pool i m in
      let a : head_atoms (head_of (is_choice h) (map named hs)) ≡ highest (λ (a : ℕ). a) (map named hs) =
      head_atoms_lem (is_choice h) (map named hs) (λ q. omega (arith, one q, length_map named hs, span_length (λ (j : ℕ). get_or pool j (pos 0)) i m)) in
      record {
        first = refl;
        heads = few;
        literals = good.few;
        single = one;
        signed = good.signed;
        atoms = omega (arith, ap rule_atoms (rule_at_lem pool i m b.count h b.kind), a, p.positive, e, good.atoms);
      }
