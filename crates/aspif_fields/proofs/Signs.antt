-- Literals, priorities and weights: in a goal one stands as `to_z w32 (of_z w32 z)`, its bits read back. Assumes nothing.
use mathlib.Core.Path.{◌≡◌}
use Prim.Native.Nat.{ℕ, ◌≤◌}
use native.Mathlib.Omega.{arith}
use lib.IntN.{ℤ, pos, negsuc, nat_abs}
use mir.Syntax.{w32}
use mir.Val.{SFits, to_z, of_z}
use mir.Facts.{to_z-of_z}

-- no number of a text is beyond 1,000,000,001
pub signed_fits : (z : ℤ) → nat_abs z ≤ 1000000001 → SFits w32 z
signed_fits (pos n) h = record { sfits = omega arith }
signed_fits (negsuc n) h = record { sfits = omega arith }

pub back : (z : ℤ) → nat_abs z ≤ 1000000 → to_z w32 (of_z w32 z) ≡ z
back z h = to_z-of_z (signed_fits z (omega arith))

-- a bound or a weight of a body
pub back_whole : (v : ℕ) → v ≤ 1000000000 → to_z w32 (of_z w32 (pos v)) ≡ pos v
back_whole v h = to_z-of_z (signed_fits (pos v) (omega arith))
