-- Whether a number that was read is a literal. Assumes nothing.
use mathlib.Core.Path.{◌≡◌}
use mathlib.Core.Bool.{true, false}
use mathlib.Core.List.{List}
use Prim.Native.Nat.{ℕ, ◌≤◌}
use native.Mathlib.Omega.{arith}
use lib.Dec.{eqb}
use lib.IntN.{ℤ, nat_abs}
use mir.Syntax.{w32}
use mir.Val.{to_z, of_z}
use Rattle.std.proofs.Common.{Ok, Err}
use Rattle.aspif_fields.specs.declared.refusal.Refusal.TheVariants.{OutOfRange}
use Rattle.aspif_fields.specs.Fields.{literal, field, signed}
use Rattle.aspif_fields.specs.SeenFields.{read}
use Rattle.aspif_fields.proofs.Signs.{back}

-- the number 0 is no literal
pub zero_refused : (l rest : List ℕ) (z : ℤ) (a : ℕ) → read (Ok z) rest ≡ field (signed 1024) l → nat_abs z ≤ 1024 → a ≡ nat_abs (to_z w32 (of_z w32 z)) → eqb a 0 ≡ true
    → read {A = ℤ} (Err OutOfRange) rest ≡ literal l
unfolding literal
zero_refused l rest z a e h q b =
    let k = back z (omega (arith, h)) in
    let q' = rw k at q in
    rw (← e, ← q', b)

-- another number is one
pub other_read : (l rest : List ℕ) (z : ℤ) (a : ℕ) → read (Ok z) rest ≡ field (signed 1024) l → nat_abs z ≤ 1024 → a ≡ nat_abs (to_z w32 (of_z w32 z)) → eqb a 0 ≡ false
    → read (Ok (to_z w32 (of_z w32 z))) rest ≡ literal l
unfolding literal
other_read l rest z a e h q b =
    let k = back z (omega (arith, h)) in
    let q' = rw k at q in
    rw (k, ← e, ← q', b)
