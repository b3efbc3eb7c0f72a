-- Tables that say a trail go on to do so, as callers of `fresh`, a step and a cut know it: the premises are what those ensure. Assumes nothing.
use mathlib.Core.Path.{◌≡◌, ap}
use mathlib.Core.List.{List}
use Prim.Native.Nat.{ℕ}
use lib.IntN.{ℤ}
use Rattle.asp.specs.declared.rules.Row.{Row}
use Rattle.asp.specs.Tables.{Formed}
use Rattle.search.specs.declared.step.Tested.{Tested}
use Rattle.search.specs.declared.trail.Places.{Places}
use Rattle.search.specs.Places.{fresh_places, back_of, SoundTrail}
use Rattle.search.specs.Scan.{rules}
use Rattle.search.specs.Soft.{AssumedEntries, FormedSoft}
use Rattle.search.specs.Step.{Stepped, stepped, step_of}
use Rattle.search.proofs.Steps.{fresh_sound, back_sound, step_sound}

-- ---- after `fresh`

pub after_fresh : (n : ℕ) {t₁ : Places} → t₁ ≡ fresh_places → SoundTrail n t₁
after_fresh n e = rw e (fresh_sound n)

-- ---- after `back`

pub after_back : (n : ℕ) (t : Places) {t₁ : Places} → t₁ ≡ back_of t → SoundTrail n t → SoundTrail n t₁
after_back n t e d = rw e (back_sound n t d)

-- ---- after `step`

module _ (pool : List ℤ) (rows : List Row) (rulecount n : ℕ) (s : AssumedEntries) (t : Places) {x : Tested} where
  pub after_step : Formed n pool rows rulecount → FormedSoft n s → SoundTrail n t → {t₁ : Places} → stepped x t₁ ≡ step_of (rules pool rows rulecount) n s t → SoundTrail n t₁
  after_step f q d e = rw (ap (λ (y : Stepped). y.trail) e) (step_sound n pool rows rulecount f s q t d)
