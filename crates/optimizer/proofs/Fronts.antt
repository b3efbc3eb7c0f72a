-- What `assumed` and `entries` of crate `judging` leave at the fronts of their arrays is the query. Assumes nothing.
use mathlib.Core.Path.{◌≡◌, sym, ap, ap₂, ◌∙◌, subst}
use mathlib.Core.List.{List, map}
use Prim.Native.Nat.{ℕ, ◌+◌, ◌≤◌, ◌<◌}
use native.Mathlib.Omega.{arith}
use lib.Dec.{eqb}
use lib.IntN.{ℤ, pos, neg_ℤ}
use lib.ListN.{length, get_or, take, replicate, length-replicate, length-map}
use Rattle.asp.specs.Program.{All}
use lib.Seq.{length-sets}
use Rattle.cores.specs.Level.{assumed_from}
use Rattle.cores.specs.Judging.{judging}
use Rattle.cores.specs.Columns.{literals_of, cores_of, indices_of, rests_of, ListedPlaces, listed_places, assumed_of, entries_among, Pairs, pairs, Paired, paired, entry_columns}
use Rattle.cores.proofs.Strata.{assumed_length}
use Rattle.cores.specs.Tables.{held_in, judging_of, FormedTables}
use Rattle.cores.proofs.Lent.{lent_few}
use Rattle.cores.specs.declared.soft.Soft.{Soft}
use Rattle.cores.specs.declared.level.LevelTables.{LevelTables}
use Rattle.cores.proofs.Kept.{assumed_front, entries_front, wishes_front}
use Rattle.advancing.specs.Source.{Source}
use Rattle.advancing.specs.Turn.{query_tables, query_by, query_of}
use Rattle.advancing.specs.Ready.{ReadyQuery}
use Rattle.advancing.proofs.Classes.{keep_length}

-- the records have as many weights, and as many literals
pub rests_few : (ss : List Soft) → length ss ≤ 4096 → length (rests_of ss) ≤ 4096
rests_few ss h = omega (arith, length-map ss (λ (r : Soft). r.weight))

pub softs_inside : (ss : List Soft) (ms : List ℕ) → All (λ m. m < length (literals_of ss)) ms → All (λ m. m < length ss) ms
softs_inside ss ms a = rw length-map at a

-- `assumed` of the remaining weights ws at stratum s, into zeros
module _ (s : ℕ) (ws : List ℕ) {qs : List ℕ} {m : ℕ} (h : length ws ≤ 4096) (e : listed_places qs m ≡ assumed_of s ws (replicate 4096 0)) where
  few : length (assumed_from s 0 ws) ≤ 4096
  few = omega (arith, assumed_length s 0 ws, h)

  pub assumed_is : take m qs ≡ assumed_from s 0 ws
  assumed_is = ap (λ (l : ListedPlaces). take l.count l.places) e ∙ assumed_front s ws (replicate 4096 0) (rw (length-replicate {A = ℕ} 4096 0) few)

  pub assumed_many : length (take m qs) ≤ 4096
  assumed_many = rw assumed_is few

  pub assumed_reach : m ≤ length qs
  assumed_reach =
      omega (arith, few, ap (λ (l : ListedPlaces). l.count) e, ap (λ (l : ListedPlaces). length l.places) e ∙ length-sets (replicate 4096 0) 0 (assumed_from s 0 ws) ∙ length-replicate {A = ℕ} 4096 0)

  -- `entries` of what it left, into zeros
  module _ (ls : List ℤ) (js : List ℕ) {ps : List ℕ} {os : List ℤ} {k : ℕ} (e₂ : paired (pairs ps os) k ≡ entry_columns ls (entries_among js (take m qs)) (pairs (replicate 4096 0) (replicate 4096 (pos 0)))) where
    abbrev zeros : Pairs
    zeros = pairs (replicate 4096 0) (replicate 4096 (pos 0))

    among_few : length (entries_among js (take m qs)) ≤ 4096
    among_few = omega (arith, keep_length (λ (p : ℕ). eqb (get_or js p 0) 0) (take m qs), assumed_many)

    spots_front : take k ps ≡ entries_among js (take m qs)
    spots_front = ap (λ (x : Paired). take x.count x.pairs.places) e₂ ∙ entries_front ls (entries_among js (take m qs)) zeros (rw (length-replicate {A = ℕ} 4096 0) among_few)

    wished_front : take k os ≡ map (λ (p : ℕ). neg_ℤ (get_or ls p (pos 0))) (entries_among js (take m qs))
    wished_front = ap (λ (x : Paired). take x.count x.pairs.wishes) e₂ ∙ wishes_front ls (entries_among js (take m qs)) zeros (rw (length-replicate {A = ℤ} 4096 (pos 0)) among_few)

    pub spots_reach : k ≤ length ps
    spots_reach =
        omega (arith, among_few, ap (λ (x : Paired). x.count) e₂, ap (λ (x : Paired). length x.pairs.places) e₂ ∙ length-sets (replicate 4096 0) 0 (entries_among js (take m qs)) ∙ length-replicate {A = ℕ} 4096 0)

    pub wished_reach : k ≤ length os
    wished_reach =
        omega (arith, among_few, ap (λ (x : Paired). x.count) e₂, ap (λ (x : Paired). length x.pairs.wishes) e₂ ∙ length-sets (replicate 4096 (pos 0)) 0 (map (λ (p : ℕ). neg_ℤ (get_or ls p (pos 0))) (entries_among js (take m qs))) ∙ length-replicate {A = ℤ} 4096 (pos 0))

    -- the columns' query is the one that these fronts give
    pub fronts_query : (level : ℕ) (lowers : List ℤ) (is es ms : List ℕ)
        → query_tables level lowers (take k os) (take k ps) (take m qs) (judging ls js is es ms) ≡ query_by level lowers (judging ls js is es ms) ws s
    fronts_query level lowers is es ms =
        ap₂ (λ (a : List ℤ) (b : List ℕ). query_tables level lowers a b (take m qs) (judging ls js is es ms)) wished_front spots_front
        ∙ ap (λ (a : List ℕ). query_tables level lowers (map (λ (p : ℕ). neg_ℤ (get_or ls p (pos 0))) (entries_among js a)) (entries_among js a) a (judging ls js is es ms)) assumed_is

-- the query of the level's tables is that of what is lent of them
pub lent_query : (t : LevelTables) {ss : List Soft} {es ms : List ℕ} → ss ≡ take t.count t.softs → es ≡ take (t.cores + 1) t.ends → ms ≡ take (held_in t) t.members
    → (level s : ℕ) (lowers : List ℤ) → query_by level lowers (judging_of ss es ms) (rests_of ss) s ≡ query_of level lowers t s
unfolding query_of
lent_query t a b c level s lowers = rw (a, b, c)

-- ---- the records that are lent, and the fronts, are the query that stands

module _ (t : LevelTables) (f : FormedTables t) (s : ℕ) {ss : List Soft} {es ms : List ℕ} (a : ss ≡ take t.count t.softs) (b : es ≡ take (t.cores + 1) t.ends) (d : ms ≡ take (held_in t) t.members)
    {qs : List ℕ} {m : ℕ} (e : listed_places qs m ≡ assumed_of s (rests_of ss) (replicate 4096 0)) where
  lent_rests : length (rests_of ss) ≤ 4096
  lent_rests = rests_few ss (lent_few t f a)

  pub assumed_end : m ≤ length qs
  assumed_end = assumed_reach s (rests_of ss) lent_rests e

  pub assumed_inside : {S : Source} (level : ℕ) (lowers : List ℤ) → ReadyQuery S (query_of level lowers t s) → All (λ m. m < length ss) (take m qs)
  assumed_inside {S} level lowers r =
      let lent = subst (ReadyQuery S) (sym (lent_query t a b d level s lowers)) r in
      subst (λ (xs : List ℕ). All (λ (m : ℕ). m < length ss) xs) (sym (assumed_is s (rests_of ss) lent_rests e)) (softs_inside ss _ lent.assumed_in_lem)

  module _ {ps : List ℕ} {os : List ℤ} {k : ℕ}
      (e₂ : paired (pairs ps os) k ≡ entry_columns (literals_of ss) (entries_among (cores_of ss) (take m qs)) (pairs (replicate 4096 0) (replicate 4096 (pos 0)))) where
    pub spots_end : k ≤ length ps
    spots_end = spots_reach s (rests_of ss) lent_rests e (literals_of ss) (cores_of ss) e₂

    pub wished_end : k ≤ length os
    wished_end = wished_reach s (rests_of ss) lent_rests e (literals_of ss) (cores_of ss) e₂

    pub query_is : (level : ℕ) (lowers : List ℤ) → query_tables level lowers (take k os) (take k ps) (take m qs) (judging_of ss es ms) ≡ query_of level lowers t s
    query_is level lowers = fronts_query s (rests_of ss) lent_rests e (literals_of ss) (cores_of ss) e₂ level lowers (indices_of ss) es ms ∙ lent_query t a b d level s lowers
