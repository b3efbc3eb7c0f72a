-- That tables say a trail is said in one way only. Assumes nothing.
use Rattle.std.specs.Prelude.{List, [], ◌∷◌, ℕ, nat_abs}
use Rattle.std.specs.Coded.{×_prop, Unit-prop}
use Rattle.std.proofs.Props.{props}
use Rattle.search.specs.declared.trail.Places.{Places}
use Rattle.search.specs.Trail.{Trail, literal_of, NotOn, FormedTrail}
use Rattle.search.specs.Places.{SoundTrail}

not-prop : {A : Type 0} → IsProp (A → ⊥)
not-prop = Prim.hlevel props

not_on-prop : (a : ℕ) (t : Trail) → IsProp (NotOn a t)
not_on-prop a [] = Unit-prop
not_on-prop a (s ∷ t) = ×_prop not-prop (not_on-prop a t)

formed_trail-prop : (n : ℕ) (t : Trail) → IsProp (FormedTrail n t)
formed_trail-prop n [] = Unit-prop
formed_trail-prop n (s ∷ t) =
    let a = not_on-prop (nat_abs (literal_of s)) t in
    let b = formed_trail-prop n t in
    Prim.hlevel (a, b, props)

pub sound_trail-prop : (n : ℕ) (t : Places) → IsProp (SoundTrail n t)
sound_trail-prop n t = Prim.hlevel (formed_trail-prop, props)
