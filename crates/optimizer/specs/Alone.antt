-- That the levels are within the limits, that a query is ready, and that its blame is in shape, is said in one way only. Assumes nothing.
use Rattle.std.specs.Prelude.{◌≤◌, ◌<◌, List, [], ◌∷◌, ℕ, nat_abs}
use Rattle.std.specs.Coded.{×_prop, Unit-prop, le_prop}
use Rattle.std.proofs.Props.{props}
use Rattle.asp.specs.declared.entries.Entry.{Entry}
use Rattle.asp.specs.Program.{All, LiteralIn, Out, Distinct}
use Rattle.asp.specs.Alone.{all-prop, rules_in-prop}
use Rattle.advancing.specs.declared.state.Blame.{Blame}
use Rattle.advancing.specs.Source.{Source, Levels, FormedLevels}
use Rattle.advancing.specs.Turn.{QueryTables}
use Rattle.advancing.specs.Ready.{ReadyQuery, GoodBlame}

weights-prop : (es : List Entry) → IsProp (All (λ (e : Entry). nat_abs e.weight ≤ 1000000) es)
weights-prop es = all-prop (λ (e : Entry). nat_abs e.weight ≤ 1000000) (λ e. le_prop) es

literals-prop : (n : ℕ) (es : List Entry) → IsProp (All (λ (e : Entry). LiteralIn n e.literal) es)
literals-prop n es = all-prop (λ (e : Entry). LiteralIn n e.literal) (λ e. ×_prop le_prop le_prop) es

places-prop : (k : ℕ) (ps : List ℕ) → IsProp (All (λ m. m < k) ps)
places-prop k ps = all-prop (λ m. m < k) (λ m. le_prop) ps

pub formed_levels-prop : (L : Levels) → IsProp (FormedLevels L)
formed_levels-prop L = Prim.hlevel (weights-prop, props)

pub ready_query-prop : (S : Source) (q : QueryTables) → IsProp (ReadyQuery S q)
ready_query-prop S q = Prim.hlevel (rules_in-prop, weights-prop, literals-prop, places-prop, props)

-- ---- what is blamed

not-prop : {A : Type 0} → IsProp (A → ⊥)
not-prop = Prim.hlevel props

out-prop : (m : ℕ) (xs : List ℕ) → IsProp (Out m xs)
out-prop m [] = Unit-prop
out-prop m (x ∷ xs) = ×_prop not-prop (out-prop m xs)

distinct-prop : (xs : List ℕ) → IsProp (Distinct xs)
distinct-prop [] = Unit-prop
distinct-prop (x ∷ xs) = ×_prop (out-prop x xs) (distinct-prop xs)

pub good_blame-prop : (q : QueryTables) (b : Blame) → IsProp (GoodBlame q b)
good_blame-prop q b = Prim.hlevel (places-prop, distinct-prop, props)
