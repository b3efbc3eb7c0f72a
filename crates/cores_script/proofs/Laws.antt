-- What the script's proofs cite. Assumes nothing.
use mathlib.Core.Path.{◌≡◌, ap, ◌∙◌}
use mathlib.Core.Logic.{◌⊎◌, inl, inr}
use mathlib.Core.List.{List, [], ◌∷◌}
use Prim.Native.Nat.{ℕ, zero, suc, ◌≤◌, ◌<◌, zero-le}
use native.Mathlib.Omega.{arith}
use lib.IntN.{ℤ, nat_abs}
use lib.ListN.{length, take, replicate, length-map, length-replicate, get_or-replicate, get_or-eq_default}
use Rattle.asp.specs.declared.entries.Entry.{Entry}
use Rattle.asp.specs.Program.{All}
use Rattle.asp.specs.Cost.{level}
use Rattle.asp.specs.Penalty.{Penalty, penalty, penalties}
use Rattle.asp.specs.Tables.{no_entry, entry_at}
use Rattle.asp.proofs.Penalties.{paid_atom}
use Rattle.cores.specs.Level.{under, assumed_from}
use Rattle.cores.specs.declared.soft.Soft.{Soft}
use Rattle.cores.specs.Tables.{opened_tables, SoundTables}
use Rattle.cores.specs.Columns.{literals_of, cores_of, rests_of, ListedPlaces, listed_places, assumed_of, entries_among, Pairs, Paired, paired, entry_columns}
use Rattle.cores_script.specs.Script.{strata_at}
use Rattle.cores.proofs.Sums.{below_or}
use Rattle.std.proofs.lemmas.List.{length-take}
use Rattle.cores.proofs.Strata.{assumed_length, assumed_heavy}
use Rattle.cores.proofs.Kept.{level_formed, opened_sound, assumed_front}
use Rattle.cores.proofs.Judgements.{all_map}

-- ---- entries

all_front : (P : Penalty → Type 0) (n : ℕ) (es : List Entry) → ((i : ℕ) → P (penalty (entry_at es i))) → All P (penalties (take n es))
all_front P zero es h = tt
all_front P (suc n) [] h = tt
all_front P (suc n) (e ∷ es) h = (h 0, all_front P n es (λ i. h (suc i)))

pub opens_sound : (es : List Entry) (n : ℕ) (q : ℤ) → n ≤ 512 → ((i : ℕ) → nat_abs (entry_at es i).literal ≤ 1024) → ((i : ℕ) → nat_abs (entry_at es i).weight ≤ 1024)
    → SoundTables (opened_tables (penalties (level q (take n es))))
opens_sound es n q h a w =
    opened_sound (penalties (level q (take n es))) (level_formed (take n es) (record {
      few = omega (arith, length-map (take n es) penalty, length-take n es);
      atoms = all_front (λ (p : Penalty). nat_abs p.literal ≤ 1024) n es (λ i. rw (paid_atom (entry_at es i).literal (entry_at es i).weight) (a i));
      weights = all_front (λ (p : Penalty). p.weight ≤ 1000000) n es (λ i. omega (arith, w i));
    }) q)

-- ---- the world

pub zeros_literal : (i : ℕ) → nat_abs (entry_at (replicate 512 no_entry) i).literal ≤ 1024
zeros_literal i = go (below_or i 512)
  where
    go : (i < 512) ⊎ (512 ≤ i) → nat_abs (entry_at (replicate 512 no_entry) i).literal ≤ 1024
    go (inl h) = rw (get_or-replicate 512 i no_entry no_entry h) zero-le
    go (inr h) = rw (get_or-eq_default (replicate 512 no_entry) no_entry {n = i} (rw length-replicate h)) zero-le

pub zeros_weight : (i : ℕ) → nat_abs (entry_at (replicate 512 no_entry) i).weight ≤ 1024
zeros_weight i = go (below_or i 512)
  where
    go : (i < 512) ⊎ (512 ≤ i) → nat_abs (entry_at (replicate 512 no_entry) i).weight ≤ 1024
    go (inl h) = rw (get_or-replicate 512 i no_entry no_entry h) zero-le
    go (inr h) = rw (get_or-eq_default (replicate 512 no_entry) no_entry {n = i} (rw length-replicate h)) zero-le

-- ---- the list of assumed places, as an array

module _ (s : ℕ) (ss : List Soft) (ps qs : List ℕ) (n : ℕ) (e : listed_places qs n ≡ assumed_of s (rests_of ss) ps) where
  count_is : n ≡ length (assumed_from s 0 (rests_of ss))
  count_is = ap (λ (l : ListedPlaces). l.count) e

  pub assumed_few : n ≤ length ss
  assumed_few = omega (arith, count_is, assumed_length s 0 (rests_of ss), length-map ss (λ (r : Soft). r.weight))

  module _ (h : length ss ≤ length ps) where
    front_is : take n qs ≡ assumed_from s 0 (rests_of ss)
    front_is = ap (λ (l : ListedPlaces). take l.count l.places) e ∙ assumed_front s (rests_of ss) ps (omega (arith, count_is, assumed_few))

    pub assumed_inside : All (λ m. m < length ss) (take n qs)
    assumed_inside =
        rw front_is (all_map (assumed_from s 0 (rests_of ss)) (λ m q. omega (arith, q.0, length-map ss (λ (r : Soft). r.weight))) (assumed_heavy s (rests_of ss)))

    pub strata_is : (m : ℕ) → m ≡ under s (rests_of ss) → (u : Pairs) {t : Pairs} {k : ℕ} → paired t k ≡ entry_columns (literals_of ss) (entries_among (cores_of ss) (take n qs)) u
        → record { next = m; assumed = n; entries = k } ≡ strata_at s ss
    strata_is m em u {t} {k} ek =
        let k_is : k ≡ length (entries_among (cores_of ss) (assumed_from s 0 (rests_of ss))) = ap (λ (q : Paired). q.count) ek ∙ ap (λ l. length (entries_among (cores_of ss) l)) front_is in
        λ i. record { next = em i; assumed = count_is i; entries = k_is i }
