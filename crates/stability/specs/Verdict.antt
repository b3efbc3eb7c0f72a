-- What the test of a set finds. Assumes nothing: these are definitions.
use Rattle.std.specs.Prelude.{List, ℕ}
use Rattle.asp.specs.Sets.{Set, same, pick}
use Rattle.asp.specs.Program.{Rule}
use Rattle.asp.specs.Stable.{any_violated, closure}
use Rattle.stability.specs.declared.stable.Stability.{Stability}
use Rattle.stability.specs.declared.stable.Stability.TheVariants.{Stable, Violated, NotLeast}

abbrev pub stability_of : ℕ → List Rule → Set → Stability
stability_of n rs M = pick (any_violated M rs) Violated (pick (same n M (closure n rs M)) Stable NotLeast)
