-- What steps leave of a query under way. Assumes nothing: these are definitions.
use Rattle.std.specs.Prelude.{◌≡◌}
use Rattle.optimizer.specs.declared.turn.Walk.{Walk}

-- the query, and where blame and trail lie
abbrev pub Same : Walk → Walk → Type 0
Same a b = (b.query ≡ a.query) × (b.blame.ghost_name ≡ a.blame.ghost_name) × (b.trail.ghost_name ≡ a.trail.ghost_name)
