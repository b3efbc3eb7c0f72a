-- The service's figures in print. Assumes nothing: these are definitions.
use Rattle.std.specs.Prelude.{List, [], ◌∷◌, ℕ, ℤ, length, codes, Option, Some, None}
use Rattle.std.specs.Borrow.{Bor}
use Rattle.std.specs.Fmt.{◌++?◌, signed_decimal}
use Rattle.std.specs.List.{repeat}
use Rattle.planner.specs.declared.look.View.{View}

-- each figure after a space, where `text` says how a figure is written
unfoldable pub figures_text : {A : Type 0} → (A → Option (List ℕ)) → List A → Option (List ℕ)
figures_text text [] = Some []
figures_text text (x ∷ xs) = Some (codes " ") ++? text x ++? figures_text text xs

-- an upper bound's figures; before there is one, `-` for each of so many levels
abbrev pub bound_text : Option (Bor (List ℤ)) → ℕ → Option (List ℕ)
bound_text (Some costs) levels = figures_text (λ x. Some (signed_decimal x)) costs.now
bound_text None levels = Some (repeat levels (codes " -"))

abbrev pub upper_text : View → Option (List ℕ)
upper_text v = bound_text v.uppers (length v.lowers.now)
