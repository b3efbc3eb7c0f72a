-- The first query of a fresh optimization assumes nothing, and its trail is empty. Assumes nothing.
use mathlib.Core.Path.{◌≡◌, refl}
use mathlib.Core.List.{[]}
use Prim.Native.Nat.{ℕ, zero, suc, zero-le}
use native.Mathlib.Omega.{arith}
use lib.ListN.{replicate, drop}
use Rattle.asp.specs.Stable.{keep}
use Rattle.search.specs.Places.{fresh_places, SoundTrail}
use Rattle.search.proofs.Steps.{fresh_sound}
use Rattle.cores.specs.Level.{assumed_from}
use Rattle.cores.specs.Tables.{empty_tables}
use Rattle.cores.proofs.Kept.{empty_sound}
use Rattle.cores.proofs.Lent.{judging_formed}
use Rattle.advancing.specs.Source.{Source, FormedSource}
use Rattle.advancing.specs.Turn.{query_of}
use Rattle.advancing.specs.State.{first_work}
use Rattle.advancing.proofs.Figures.{starts_long}
use Rattle.advancing.specs.Advance.{work_query}
use Rattle.advancing.specs.Ready.{ReadyQuery}

pub drop_all_lem : (n : ℕ) → drop {A = ℕ} n (replicate n 0) ≡ []
drop_all_lem zero = refl
drop_all_lem (suc n) = drop_all_lem n

module _ (S : Source) (f : FormedSource S) where
  pub fresh_query : ReadyQuery S (work_query (first_work S.levels))
  unfolding query_of assumed_from keep
  fresh_query = record {
    source = f;
    level = zero-le;
    lowers_len = starts_long S.levels f.levels.levels_few;
    wished_in_lem = λ i h. absurd (omega arith);
    wished_few = zero-le;
    places_long = refl;
    places_apart = λ i j h g e. absurd (omega arith);
    places_in = tt;
    assumed_in_lem = tt;
    judging = judging_formed empty_tables empty_sound.formed empty_sound.ordered;
    few = zero-le;
  }

  pub fresh_trail : SoundTrail S.n fresh_places
  fresh_trail = fresh_sound S.n
