-- What holds of any lists. Assumes nothing: this is a definition.
use Rattle.std.specs.Prelude.{◌≡◌, List, ℕ, ◌≤◌, ◌<◌, length, get_or}

pub record Shape (starts rules : List ℕ) : Type 0 where
  pub long : length starts ≡ 3076
  pub inside : (i : ℕ) → get_or starts i 0 ≤ length rules
  pub small : (e : ℕ) → get_or rules e 0 < 2048
