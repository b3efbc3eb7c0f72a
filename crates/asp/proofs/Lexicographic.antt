-- `<` on slices of figures compares costs: less at the first place where they differ. Assumes nothing.
use mathlib.Core.Path.{◌≡◌, refl}
use mathlib.Core.Bool.{Bool, true, false, not, ◌&&◌, ◌||◌}
use mathlib.Core.List.{List, [], ◌∷◌}
use native.Mathlib.Omega.{arith}
use lib.IntN.{ℤ}
use lib.ListN.{length}
use lib.Signed.{lt_z}
use Rattle.std.specs.Prelude.{Option, Some, cond}
use Rattle.std.proofs.Common.{Ordering}
use Rattle.std.specs.Ordering.{int_cmp, is_lt, is_some_and, partial_ordering_then}
use Rattle.std.specs.declared.cmp.Ordering.TheVariants.{Less, Equal, Greater}
use Rattle.std.specs.Cmp.Lexicographic.{slice_partial_cmp}
use Rattle.asp.specs.Cost.{cheaper}

step : (a b c : Bool) (r : Option Ordering) → is_some_and is_lt r ≡ c
    → is_some_and is_lt (partial_ordering_then (Some (cond a Less (cond b Greater Equal))) r) ≡ (a || (not b && c))
step true b c r h = refl
step false true c r h = refl
step false false c r h = h

pub less_is_cheaper : (xs ys : List ℤ) → length xs ≡ length ys → is_some_and is_lt (slice_partial_cmp (λ x y. Some (int_cmp x y)) xs ys) ≡ cheaper lt_z xs ys
unfolding cheaper
less_is_cheaper [] [] e = refl
less_is_cheaper [] (y ∷ ys) e = absurd (omega arith)
less_is_cheaper (x ∷ xs) [] e = absurd (omega arith)
less_is_cheaper (x ∷ xs) (y ∷ ys) e = step (lt_z x y) (lt_z y x) (cheaper lt_z xs ys) _ (less_is_cheaper xs ys (omega arith))
