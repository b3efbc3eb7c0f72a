-- What crate `optimizer` needs at each point: the tables stay sound, the bounds stay small, and what a query's answer says. Assumes nothing.
use mathlib.Core.Path.{◌≡◌, refl, sym, ap, ◌∙◌, subst}
use mathlib.Core.Bool.{Bool, true, false}
use mathlib.Core.List.{List, [], ◌∷◌, map}
use Prim.Native.Nat.{ℕ, ◌+◌, ◌*◌, ◌≤◌, ◌<◌, zero-le}
use native.Mathlib.Nat.{zero-add}
use native.Mathlib.Omega.{arith}
use lib.Dec.{ltb}
use lib.IntN.{ℤ, pos, nat_abs, neg_ℤ}
use lib.ListN.{length, get_or, take, replicate, length-map, length-replicate, get_or-replicate}
use lib.Seq.{sets}
use Rattle.std.specs.Prelude.{Result, Some, None}
use Rattle.asp.specs.declared.entries.Entry.{Entry}
use Rattle.asp.specs.Sets.{pick}
use Rattle.asp.specs.Literal.{same_ℤ}
use Rattle.asp.specs.Program.{All, Distinct}
use Rattle.asp.specs.Penalty.{Penalty, penalty, penalties, bulk}
use Rattle.asp.specs.Cost.{total, level}
use Rattle.cores.specs.declared.level.LevelTables.{LevelTables}
use Rattle.cores.specs.declared.recording.Full.{Full}
use Rattle.cores.specs.Sums.{Holds}
use Rattle.cores.specs.Soft.{InOrder}
use Rattle.cores.specs.Level.{Level, weighty, opened, greatest, under, assumed_from, recorded, fewer, core_fits, FormedPenalties}
use Rattle.cores.specs.Identity.{Problem, Good, Core}
use Rattle.cores.specs.Judging.{first_violated}
use Rattle.cores.specs.Columns.{assumed_of, Pairs, entry_columns}
use Rattle.cores.specs.Tables.{entry_soft, empty_tables, Tried, softs_of, opened_tables, held_in, recorded_tables, Counted, Room, tried_tables, tried, level_of, SoundTables}
use Rattle.cores.proofs.Sums.{members_weigh, wsum_replicate_one}
use Rattle.cores.proofs.Judgements.{all_map}
use Rattle.cores.proofs.Record.{in_order}
use Rattle.cores.proofs.Open.{opened_good, length_weighty, length_level}
use Rattle.cores.proofs.Strata.{under_all}
use Rattle.cores.proofs.Limits.{lower_within}
use Rattle.cores.proofs.Loops.{try_room}
use Rattle.cores.proofs.Links.{kinds_count, rests_count, counted, opened_level, opened_formed, recorded_level, recorded_formed, take_sets}

-- ---- entries

pub weighty_all : (P : Penalty → Type 0) (es : List Penalty) → All P es → All P (weighty es)
unfolding weighty
weighty_all P [] a = tt
weighty_all P (e ∷ es) a =
    elim (ltb 0 e.weight) as (λ b. All P (pick b (e ∷ weighty es) (weighty es))) [ true ↦ (a.0, weighty_all P es a.1) | false ↦ weighty_all P es a.1 ]

pub level_penalties : (P : Penalty → Type 0) (q : ℤ) (es : List Entry) → All P (penalties es) → All P (penalties (level q es))
unfolding level
level_penalties P q [] a = tt
level_penalties P q (e ∷ es) a =
    elim (same_ℤ q e.priority) as (λ b. All P (penalties (pick b (e ∷ level q es) (level q es)))) [ true ↦ (a.0, level_penalties P q es a.1) | false ↦ level_penalties P q es a.1 ]

weight_most : (n : ℕ) (es : List Penalty) → All (λ (e : Penalty). e.weight ≤ n) es → bulk es ≤ length es * n
unfolding total
weight_most n [] a = zero-le
weight_most n (e ∷ es) a = omega (arith, a.0, weight_most n es a.1)

module _ (es : List Entry) (f : FormedPenalties (penalties es)) (q : ℤ) where
  pub level_formed : FormedPenalties (penalties (level q es))
  level_formed = record {
    few = omega (arith, f.few, length_level q es, length-map es penalty, length-map (level q es) penalty);
    atoms = level_penalties (λ p. nat_abs p.literal ≤ 1024) q es f.atoms;
    weights = level_penalties (λ p. p.weight ≤ 1000000) q es f.weights;
  }

-- a level weighs at most 512,000,000
pub level_weight : (es : List Penalty) → FormedPenalties es → bulk es ≤ 512000000
level_weight es f = omega (arith, weight_most 1000000 es f.weights, f.few)

-- ---- a level is opened

-- THE TABLES OF A LEVEL THAT IS OPENED ARE SOUND, AND MEAN IT
module _ (es : List Penalty) (f : FormedPenalties es) where
  softs_few : length (softs_of es) ≤ 4096
  softs_few = omega (arith, length-map (weighty es) (λ (e : Penalty). entry_soft e.literal e.weight), length_weighty es, f.few)

  pub opened_means : level_of (opened_tables es) ≡ opened es
  opened_means = opened_level es softs_few

  pub opened_sound : SoundTables (opened_tables es)
  opened_sound = record {
    formed = opened_formed es softs_few (weighty_all (λ e. nat_abs e.literal ≤ 1024) es f.atoms);
    ordered = subst (λ (l : Level). InOrder l.kinds l.cores) (sym opened_means) (opened_good (λ M. ⊥) es).ordered;
  }

  weights_below : (xs : List Penalty) → All (λ (e : Penalty). e.weight ≤ 1000000) xs → All (λ w. w < 1000001) (map (λ (e : Penalty). e.weight) xs)
  weights_below [] a = tt
  weights_below (x ∷ xs) a = (omega (arith, a.0), weights_below xs a.1)

  -- the first stratum, "the greatest remaining weight", is the greatest below 1,000,001
  pub first_stratum : under 1000001 (level_of (opened_tables es)).rests ≡ greatest (opened es).rests
  first_stratum = ap (λ (l : Level). under 1000001 l.rests) opened_means ∙ under_all 1000001 (opened es).rests (weights_below (weighty es) (weighty_all (λ e. e.weight ≤ 1000000) es f.weights))

-- ---- a core is recorded

module _ (t : LevelTables) (ok : SoundTables t) (s : ℕ) (ms : List ℕ) where
  -- what is asked of a core that `try_record` takes
  pub core_counted : 1 ≤ length ms → length ms ≤ 4096 → Counted t (length ms)
  core_counted = counted t ok.formed (length ms)

  module _ (r : Room t (length ms)) (inside : All (λ m. m < t.count) ms) where
    -- RECORDING KEEPS THE TABLES SOUND, AND MEANS RECORDING
    pub recorded_means : level_of (recorded_tables t s ms) ≡ recorded (level_of t) s ms
    recorded_means = recorded_level t s ms ok.formed r inside

    pub recorded_sound : SoundTables (recorded_tables t s ms)
    recorded_sound = record {
      formed = recorded_formed t s ms ok.formed r inside;
      ordered =
          subst (λ (l : Level). InOrder l.kinds l.cores) (sym recorded_means)
          (in_order (level_of t).kinds (level_of t).cores ok.ordered ms (all_map ms (λ m h. subst (λ (n : ℕ). m < n) (sym (kinds_count t ok.formed)) h) inside) (fewer ms));
    }

-- what recording asks, of a core of the level
module _ (P : Problem) (t : LevelTables) (ok : SoundTables t) (s : ℕ) (ms : List ℕ) (g : Good P (level_of t)) (c : Core P (level_of t) s ms) where
  pub core_inside : All (λ m. m < t.count) ms
  core_inside = all_map ms (λ m h. subst (λ (n : ℕ). m < n) (rests_count t ok.formed) h.0) c.heavy

  pub core_places : All (λ m. m < 4096) ms
  core_places = all_map ms (λ m h. omega (arith, ok.formed.softs_few)) core_inside

  pub core_bound : P.whole ≤ 1000000000 → t.lower + s ≤ 1000000000
  core_bound w = omega (arith, lower_within P (level_of t) s ms g c)

-- ---- what a judged list says

met_list : (U : ℕ → Bool) (ps : List ℕ) → first_violated U ps ≡ None → All (λ p. U p ≡ false) ps
unfolding first_violated
met_list U [] e = tt
met_list U (p ∷ ps) e = go (U p) refl e (met_list U ps)
  where
    go : (b : Bool) → U p ≡ b → pick b (Some p) (first_violated U ps) ≡ None → (first_violated U ps ≡ None → All (λ p. U p ≡ false) ps) → All (λ p. U p ≡ false) (p ∷ ps)
    go true q e f = let z : ◌≡◌ {A = ℕ} 0 1 = cc in absurd (omega arith)
    go false q e f = (q, f e)

-- none is violated
pub all_met : (U : ℕ → Bool) (ps : List ℕ) → first_violated U ps ≡ None → All (λ p. U p ≡ false) ps
all_met U ps e = met_list U ps e

-- the one found is violated, and is one of the list: what holds of all holds of it
pub one_violated : (U : ℕ → Bool) (ps : List ℕ) (p : ℕ) → first_violated U ps ≡ Some p → (U p ≡ true) × ((P : ℕ → Type 0) → All P ps → P p)
unfolding first_violated
one_violated U [] p e = let z : ◌≡◌ {A = ℕ} 0 1 = cc in absurd (omega arith)
one_violated U (x ∷ ps) p e = go (U x) refl e (one_violated U ps p)
  where
    go : (b : Bool) → U x ≡ b → pick b (Some x) (first_violated U ps) ≡ Some p → (first_violated U ps ≡ Some p → (U p ≡ true) × ((P : ℕ → Type 0) → All P ps → P p))
        → (U p ≡ true) × ((P : ℕ → Type 0) → All P (x ∷ ps) → P p)
    go true q e f = let w : x ≡ p = cc in (sym (ap U w) ∙ q, λ P a. subst P w a.0)
    go false q e f = ((f e).0, λ P a. (f e).1 P a.1)

-- the list that `assumed` leaves at the front of its array
pub assumed_front : (s : ℕ) (ws ps : List ℕ) → length (assumed_from s 0 ws) ≤ length ps → take (assumed_of s ws ps).count (assumed_of s ws ps).places ≡ assumed_from s 0 ws
assumed_front s ws ps h =
    ap (λ (n : ℕ). take n (sets ps 0 (assumed_from s 0 ws))) (sym (zero-add (length (assumed_from s 0 ws)))) ∙ take_sets ps 0 (assumed_from s 0 ws) (omega arith)

-- and those that `entries` leaves
pub entries_front : (ls : List ℤ) (ps : List ℕ) (t : Pairs) → length ps ≤ length t.places → take (entry_columns ls ps t).count (entry_columns ls ps t).pairs.places ≡ ps
entries_front ls ps t h = ap (λ (n : ℕ). take n (sets t.places 0 ps)) (sym (zero-add (length ps))) ∙ take_sets t.places 0 ps (omega arith)

pub wishes_front : (ls : List ℤ) (ps : List ℕ) (t : Pairs) → length ps ≤ length t.wishes
    → take (entry_columns ls ps t).count (entry_columns ls ps t).pairs.wishes ≡ map (λ (p : ℕ). neg_ℤ (get_or ls p (pos 0))) ps
wishes_front ls ps t h =
    let e : length (map (λ (p : ℕ). neg_ℤ (get_or ls p (pos 0))) ps) ≡ length ps = length-map ps (λ (p : ℕ). neg_ℤ (get_or ls p (pos 0))) in
    ap (λ (n : ℕ). take n (sets t.wishes 0 (map (λ (p : ℕ). neg_ℤ (get_or ls p (pos 0))) ps))) (sym e ∙ sym (zero-add _))
    ∙ take_sets t.wishes 0 (map (λ (p : ℕ). neg_ℤ (get_or ls p (pos 0))) ps) (omega arith)

-- ---- places that are distinct, below n, are n at most: a list of blamed places never passes its array

ones_hold : (n m : ℕ) → m < n → Holds 1 (replicate n 1) m
ones_hold n m h = (rw length-replicate h, rw (get_or-replicate {A = ℕ} n m 1 0 h) (omega arith))

pub distinct_few : (n : ℕ) (ms : List ℕ) → Distinct ms → All (λ m. m < n) ms → length ms ≤ n
distinct_few n ms d a =
    omega (arith, members_weigh 1 ms (replicate n 1) d (all_map ms (λ m h. ones_hold n m h) a), wsum_replicate_one 1 n)

-- ---- the empty tables, and a core that was tried

pub empty_sound : SoundTables empty_tables
unfolding weighty
empty_sound = opened_sound [] (record { few = zero-le; atoms = tt; weights = tt })

-- RECORDED OR FULL, THE TABLES STAY SOUND
pub tried_sound : (t : LevelTables) → SoundTables t → (s : ℕ) (ms : List ℕ) → Counted t (length ms) → All (λ m. m < t.count) ms → {r : Result (Unit {0}) Full} {u : LevelTables} → tried r u ≡ tried_tables t s ms → SoundTables u
tried_sound t ok s ms c inside {r} {u} e = go (core_fits t.count (held_in t) (length ms)) refl
  where
    go : (x : Bool) → core_fits t.count (held_in t) (length ms) ≡ x → SoundTables u
    go true q =
        let w : u ≡ recorded_tables t s ms = ap (λ (z : Tried). z.tables) (rw q at e) in
        let room : Room t (length ms) = try_room t s ms c refl refl q in
        subst SoundTables (sym w) (recorded_sound t ok s ms room inside)
    go false q = let w : u ≡ t = ap (λ (z : Tried). z.tables) (rw q at e) in subst SoundTables (sym w) ok
