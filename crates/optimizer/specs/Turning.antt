-- What a step of a query comes to, as the code answers it. Assumes nothing: these are definitions.
use Rattle.std.specs.Prelude.{ℕ, eqb}
use Rattle.asp.specs.Sets.{pick}
use Rattle.advancing.specs.declared.state.Turn.{Turn}
use Rattle.advancing.specs.declared.state.Turn.TheVariants.{Going, Without}

-- after a cut to length k
abbrev pub backed_turn : ℕ → Turn
backed_turn k = pick (eqb k 0) Without Going
