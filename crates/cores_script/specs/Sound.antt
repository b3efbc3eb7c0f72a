-- That tables are sound can hold in one way only. Assumes nothing.
use Rattle.std.specs.Prelude.{List, [], ◌∷◌}
use Rattle.std.specs.Coded.{×_prop, Unit-prop}
use Rattle.std.proofs.Props.{props}
use Rattle.asp.specs.Program.{All}
use Rattle.cores.specs.declared.level.LevelTables.{LevelTables}
use Rattle.cores.specs.Tables.{SoundTables}

pub all_prop : {A : Type 0} (P : A → Type 0) → ((x : A) → IsProp (P x)) → (xs : List A) → IsProp (All P xs)
all_prop P f [] = Unit-prop
all_prop P f (x ∷ xs) = ×_prop (f x) (all_prop P f xs)

pub sound_prop : (t : LevelTables) → IsProp (SoundTables t)
sound_prop t = Prim.hlevel (props, all_prop)
