-- Order 2: a weighted body under the values of a trail: the least that it counts in the sets that agree with the trail, and the literal to note. `mixed` tells
-- whether some atom stands in the body with both signs; where none does, no pair is compared with another. Assumes nothing: these are definitions.
use Rattle.std.specs.Prelude.{Bool, ◌&&◌, List, [], ◌∷◌, map, ℕ, ◌+◌, ◌-◌, min, eqb, leb, ℤ, pos, neg_ℤ, get_or}
use Rattle.asp.specs.Sets.{pick}
use Rattle.asp.specs.Literal.{same_ℤ}
use Rattle.asp.specs.Program.{Literal, Weighed}
use Rattle.search.specs.Places.{truth_at}
use Rattle.search.specs.declared.scan.Rest.{Rest}
use Rattle.search.specs.declared.scan.Rest.TheVariants.{All, One, Off}

-- the weights of the pairs with the literal l
unfoldable pub total : Literal → List Weighed → ℕ
total l [] = 0
total l (p ∷ ps) = pick (same_ℤ l p.literal) p.weight 0 + total l ps

-- what the literal l is worth: its weights, less those of its complement
abbrev pub gain : Literal → List Weighed → ℕ
gain l ps = total l ps - total (neg_ℤ l) ps

-- the literal at place p of a pool, or its complement
abbrev pub side_at : List ℤ → ℕ → Bool → Literal
side_at pool p other = pick other (neg_ℤ (get_or pool p (pos 0))) (get_or pool p (pos 0))

abbrev pub literals_of : List Weighed → List Literal
literals_of ps = map (λ (p : Weighed). p.literal) ps

-- ---- the least weight

-- of a pair before the pairs ps: a true literal its weight, a false one 0; an undecided one what its complement's weights among ps exceed its own there, up to
-- its weight
abbrev pub owed_pair : List ℕ → Weighed → List Weighed → ℕ
owed_pair v p ps = pick (eqb (truth_at v p.literal) 1) p.weight (pick (eqb (truth_at v p.literal) 0) (min p.weight (total (neg_ℤ p.literal) ps - total p.literal ps)) 0)

unfoldable pub owed_at : List ℕ → List Weighed → ℕ
owed_at v [] = 0
owed_at v (p ∷ ps) = owed_pair v p ps + owed_at v ps

-- where no atom has both signs: the weights of the true literals
abbrev pub pair_met : List ℕ → Weighed → ℕ
pair_met v p = pick (eqb (truth_at v p.literal) 1) p.weight 0

unfoldable pub met_at : List ℕ → List Weighed → ℕ
met_at v [] = 0
met_at v (p ∷ ps) = pair_met v p + met_at v ps

abbrev pub least_at : Bool → List ℕ → List Weighed → ℕ
least_at mixed v ps = pick mixed (owed_at v ps) (met_at v ps)

-- ---- what is left of a body

-- what a pair of the body `all` is worth at least
abbrev pub worth : Bool → List Weighed → Weighed → ℕ
worth mixed all p = pick mixed (gain p.literal all) p.weight

-- its literal is undecided, and worth what lacks
abbrev pub breaks : Bool → List ℕ → ℕ → List Weighed → Weighed → Bool
breaks mixed v lack all p = eqb (truth_at v p.literal) 0 && leb lack (worth mixed all p)

-- the first such literal
unfoldable pub breaker_of : Bool → List ℕ → ℕ → List Weighed → List Weighed → Rest
breaker_of mixed v lack all [] = Off
breaker_of mixed v lack all (p ∷ ps) = pick (breaks mixed v lack all p) (One p.literal) (breaker_of mixed v lack all ps)

-- nothing (the bound is reached in every set that agrees), one literal that would reach it, or more
unfoldable pub body_rest : Bool → List ℕ → ℕ → List Weighed → Rest
body_rest mixed v b ps = pick (leb b (least_at mixed v ps)) All (breaker_of mixed v (b - least_at mixed v ps) ps ps)

-- of a head and a body
abbrev pub both_rest : Rest → Rest → Rest
both_rest All s = s
both_rest (One f) All = One f
both_rest (One f) (One l) = Off
both_rest (One f) Off = Off
both_rest Off s = Off
