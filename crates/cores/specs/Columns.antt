-- The columns of a table of soft literals, and the lists of places that a query works with. Assumes nothing: these are definitions.
use Rattle.std.specs.Prelude.{List, map, ℕ, ◌+◌, eqb, ℤ, pos, neg_ℤ, length, get_or, set}
use Rattle.std.proofs.lemmas.List.Edits.{sets}
use Rattle.asp.specs.Sets.{pick}
use Rattle.asp.specs.Stable.{keep}
use Rattle.cores.specs.declared.soft.Soft.{Soft}
use Rattle.cores.specs.Level.{assumed_from}

-- the columns of some records: the literals, the cores, the indices and the remaining weights
abbrev pub literals_of : List Soft → List ℤ
literals_of ss = map (λ (r : Soft). r.literal) ss

abbrev pub cores_of : List Soft → List ℕ
cores_of ss = map (λ (r : Soft). r.core) ss

abbrev pub indices_of : List Soft → List ℕ
indices_of ss = map (λ (r : Soft). r.index) ss

abbrev pub rests_of : List Soft → List ℕ
rests_of ss = map (λ (r : Soft). r.weight) ss

-- a table of places, and how many of them are filled
pub record ListedPlaces : Type 0 where
  pub places : List ℕ
  pub count : ℕ

abbrev pub listed_places : List ℕ → ℕ → ListedPlaces
listed_places ps n = record { places = ps; count = n }

-- "A question assumes the wishes with remaining weight at least the stratum."
abbrev pub assumed_of : ℕ → List ℕ → List ℕ → ListedPlaces
assumed_of s ws ps = listed_places (sets ps 0 (assumed_from s 0 ws)) (length (assumed_from s 0 ws))

-- those of the places that are an entry's: core 0
abbrev pub entries_among : List ℕ → List ℕ → List ℕ
entries_among js ps = keep (λ p. eqb (get_or js p 0) 0) ps

-- places, and the literal that each wishes for
pub record Pairs : Type 0 where
  pub places : List ℕ
  pub wishes : List ℤ

abbrev pub pairs : List ℕ → List ℤ → Pairs
pairs ps ls = record { places = ps; wishes = ls }

abbrev pub put_pair : List ℤ → ℕ → ℕ → Pairs → Pairs
put_pair ls n p t = pairs (set t.places n p) (set t.wishes n (neg_ℤ (get_or ls p (pos 0))))

-- how many of them are filled
pub record Paired : Type 0 where
  pub pairs : Pairs
  pub count : ℕ

abbrev pub paired : Pairs → ℕ → Paired
paired t n = record { pairs = t; count = n }

-- a place that is an entry's, with the literal that it wishes for, at the next position
abbrev pub put_entry : List ℕ → List ℤ → ℕ → Paired → Paired
put_entry js ls p t = pick (eqb (get_or js p 0) 0) (paired (put_pair ls t.count p t.pairs) (t.count + 1)) t

-- the places ps and what they wish for, at the front
abbrev pub entry_columns : List ℤ → List ℕ → Pairs → Paired
entry_columns ls ps t = paired (pairs (sets t.places 0 ps) (sets t.wishes 0 (map (λ (p : ℕ). neg_ℤ (get_or ls p (pos 0))) ps))) (length ps)
