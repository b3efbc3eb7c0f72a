-- The level in work: opening it, the stratum and its fall, recording a core, the limits. Document 01, "Wishes and cores".
-- Bounds are natural: how far they lie above the level's start (order 1). Assumes nothing: these are definitions.
use Rattle.std.specs.Prelude.{Bool, ◌&&◌, List, [], ◌∷◌, ◌++◌, map, ℕ, zero, suc, ◌+◌, ◌-◌, ◌≤◌, max, ltb, leb, length, replicate, nat_abs}
use Rattle.asp.specs.Sets.{pick}
use Rattle.asp.specs.Program.{All}
use Rattle.asp.specs.Penalty.{Penalty}
use Rattle.cores.specs.Sums.{lose}
use Rattle.cores.specs.Soft.{Kind, entry, derived}

-- the soft literals with their remaining weights, the cores, and the lower bound
pub record Level : Type 0 where
  pub kinds : List Kind
  pub rests : List ℕ
  pub cores : List (List ℕ)
  pub lower : ℕ

-- ---- opening: "each entry with weight above 0 is a wish for its literal's complement"; the entries come as penalties

unfoldable pub weighty : List Penalty → List Penalty
weighty [] = []
weighty (e ∷ es) = pick (ltb 0 e.weight) (e ∷ weighty es) (weighty es)

-- "Both tables are emptied for each level."
abbrev pub opened : List Penalty → Level
opened es = record { kinds = map (λ (e : Penalty). entry e.literal) (weighty es); rests = map (λ (e : Penalty). e.weight) (weighty es); cores = []; lower = 0 }

-- ---- the stratum

-- "The stratum begins as the greatest remaining weight."
unfoldable pub greatest : List ℕ → ℕ
greatest [] = 0
greatest (w ∷ ws) = max w (greatest ws)

-- "If a model is found, the stratum falls to the greatest remaining weight below it."; 0 if there is none
unfoldable pub under : ℕ → List ℕ → ℕ
under s [] = 0
under s (w ∷ ws) = pick (ltb w s) (max w (under s ws)) (under s ws)

-- "A question assumes the wishes with remaining weight at least the stratum": their places, from place p on
unfoldable pub assumed_from : ℕ → ℕ → List ℕ → List ℕ
assumed_from s p [] = []
assumed_from s p (w ∷ ws) = pick (leb s w) (p ∷ assumed_from s (p + 1) ws) (assumed_from s (p + 1) ws)

abbrev pub assumed : ℕ → Level → List ℕ
assumed s l = assumed_from s 0 l.rests

-- ---- recording a core

-- "a core of c + 1 members gives c new wishes"
abbrev pub fewer : List ℕ → ℕ
fewer [] = 0
fewer (m ∷ ms) = length ms

-- n soft literals of core j, from the i-th on
abbrev pub derived_from : ℕ → ℕ → ℕ → List Kind
derived_from j i zero = []
derived_from j i (suc n) = derived j i ∷ derived_from j (suc i) n

-- "the lower bound rises by it, each member loses it, and a core of c + 1 members gives c new wishes of that weight": the core of the members ms, at stratum s
abbrev pub recorded : Level → ℕ → List ℕ → Level
recorded l s ms = record {
  kinds = l.kinds ++ derived_from (suc (length l.cores)) 1 (fewer ms);
  rests = lose s ms l.rests ++ replicate (fewer ms) s;
  cores = l.cores ++ (ms ∷ []);
  lower = l.lower + s;
}

-- the members of all cores
unfoldable pub held : List (List ℕ) → ℕ
held [] = 0
held (ms ∷ cs) = length ms + held cs

-- "A level holds 4,096 wishes and 4,096 core members. If a core would pass either, it isn't recorded": a core of n members, at k soft literals and h members
abbrev pub core_fits : ℕ → ℕ → ℕ → Bool
core_fits k h n = leb (k + (n - 1)) 4096 && leb (h + n) 4096

abbrev pub room : Level → List ℕ → Bool
room l ms = core_fits (length l.kinds) (held l.cores) (length ms)

-- ---- the penalties of a text: at most 512, of atoms 1 to 1,024, with weights of at most 1,000,000

pub record FormedPenalties (es : List Penalty) : Type 0 where
  pub few : length es ≤ 512
  pub atoms : All (λ (e : Penalty). nat_abs e.literal ≤ 1024) es
  pub weights : All (λ (e : Penalty). e.weight ≤ 1000000) es
