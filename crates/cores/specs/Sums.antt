-- Sums over lists by position, members of a list, and what a list loses at some positions. Assumes nothing: these are definitions.
use Rattle.std.specs.Prelude.{List, [], ◌∷◌, ℕ, suc, ◌+◌, ◌-◌, ◌*◌, ◌≤◌, ◌<◌, length, get_or, set}

-- Σ over the positions p of (weight at p) * (f p)
abbrev pub wsum : (ℕ → ℕ) → List ℕ → ℕ
wsum f [] = 0
wsum f (w ∷ ws) = w * f 0 + wsum (λ p. f (suc p)) ws

-- Σ over the members m of f m
abbrev pub sum_over : (ℕ → ℕ) → List ℕ → ℕ
sum_over f [] = 0
sum_over f (m ∷ ms) = f m + sum_over f ms

-- at m there is a weight, of s at least
abbrev pub Holds : ℕ → List ℕ → ℕ → Type 0
Holds s ws m = (m < length ws) × (s ≤ get_or ws m 0)

-- "each member loses" s
abbrev pub lose : ℕ → List ℕ → List ℕ → List ℕ
lose s [] ws = ws
lose s (m ∷ ms) ws = lose s ms (set ws m (get_or ws m 0 - s))
