-- Document 01's starred sample: "Core of remaining 7, 5, 5 at stratum 5: bound up 5, then 2, 0, 0 and two new of 5; with all unmet 17 = 5 + 2 + 10."
-- Assumes nothing.
use mathlib.Core.Path.{◌≡◌, refl}
use mathlib.Core.Bool.{true, false}
use mathlib.Core.List.{List, [], ◌∷◌, ◌++◌, map}
use Prim.Native.Nat.{ℕ, suc, ◌+◌, ◌≤◌}
use lib.ListN.{length, replicate}
use native.Mathlib.Omega.{arith}
use lib.Dec.{eqb, ltb}
use lib.IntN.{pos}
use Rattle.asp.specs.declared.entries.Entry.{Entry}
use Rattle.asp.specs.Sets.{Set}
use Rattle.asp.specs.Cost.{total_ℤ, cost, start}
use Rattle.asp.specs.Penalty.{penalties, charge, above}
use Rattle.cores.specs.Soft.{entry, derived, violated}
use Rattle.cores.specs.Level.{Level, weighty, opened, recorded, core_fits}
use Rattle.cores.specs.Identity.{problem, Good, Core, violated_weight}
use Rattle.cores.proofs.Record.{kept, some_violated}
use Rattle.cores.proofs.Open.{opened_good}
use Rattle.cores.proofs.Limits.{lower_bounds}
use Rattle.cores.proofs.Members.{distinctb_yes, heavyb_yes}

abbrev pay : ℕ → ℕ → Entry
pay a w = record { priority = pos 0; literal = pos a; weight = pos w }

-- three entries: atoms 1, 2 and 3 cost 7, 5 and 5
abbrev pub seven_five_five : List Entry
seven_five_five = pay 1 7 ∷ pay 2 5 ∷ pay 3 5 ∷ []

abbrev pub sample_before : Level
sample_before = opened (penalties seven_five_five)

-- the core: all three
abbrev pub sample_core : List ℕ
sample_core = 0 ∷ 1 ∷ 2 ∷ []

abbrev pub sample_after : Level
sample_after = recorded sample_before 5 sample_core

-- the set in which all soft literals are violated
abbrev pub everything : Set
everything a = true

-- ---- of any level with remaining 7, 5, 5, whatever its kinds, its cores and its bound

-- "bound up 5"
pub any_lower : (l : Level) → (recorded l 5 sample_core).lower ≡ l.lower + 5
any_lower l = refl

-- "then 2, 0, 0 and two new of 5"
pub any_rests : (l : Level) → l.rests ≡ 7 ∷ 5 ∷ 5 ∷ [] → (recorded l 5 sample_core).rests ≡ 2 ∷ 0 ∷ 0 ∷ 5 ∷ 5 ∷ []
any_rests l e = rw e

-- the two new ones are of the new core: the first and the second
pub any_kinds : (l : Level) → (recorded l 5 sample_core).kinds ≡ l.kinds ++ (derived (suc (length l.cores)) 1 ∷ derived (suc (length l.cores)) 2 ∷ [])
any_kinds l = refl

-- ---- of the level of three entries

pub sample_before_lem : sample_before.rests ≡ 7 ∷ 5 ∷ 5 ∷ []
unfolding weighty
sample_before_lem = refl

pub sample_cores : sample_after.cores ≡ sample_core ∷ []
sample_cores = refl

-- "bound up 5"
pub sample_lower : sample_after.lower ≡ sample_before.lower + 5
sample_lower = any_lower sample_before

-- "then 2, 0, 0 and two new of 5"
pub sample_rests : sample_after.rests ≡ 2 ∷ 0 ∷ 0 ∷ 5 ∷ 5 ∷ []
sample_rests = any_rests sample_before sample_before_lem

pub sample_kinds : sample_after.kinds ≡ entry (pos 1) ∷ entry (pos 2) ∷ entry (pos 3) ∷ derived 1 1 ∷ derived 1 2 ∷ []
unfolding weighty
sample_kinds = refl

-- "with all unmet 17 = 5 + 2 + 10": all five are, and the bound, the first and the two new ones are the parts
pub sample_unmet : map (violated everything sample_after.kinds sample_after.cores) (0 ∷ 1 ∷ 2 ∷ 3 ∷ 4 ∷ []) ≡ replicate 5 true
unfolding weighty violated
sample_unmet = refl

pub sample_cost : cost everything seven_five_five ≡ pos 17
unfolding total_ℤ
sample_cost = refl

pub sample_identity : cost everything seven_five_five ≡ above (start seven_five_five) (sample_after.lower + violated_weight everything sample_after)
unfolding total_ℤ weighty violated
sample_identity = refl

pub sample_parts : sample_after.lower + violated_weight everything sample_after ≡ 5 + 2 + 10
unfolding weighty violated
sample_parts = refl

-- ---- the same as an instance of the theorems: among the sets that have one of the atoms at least

abbrev pub Some : Set → Type 0
Some M = M 1 ≡ false → M 2 ≡ false → M 3 ≡ false → ⊥

pub sample_core_lem : Core (problem Some (penalties seven_five_five)) sample_before 5 sample_core
unfolding weighty violated
sample_core_lem = record {
  some = omega arith;
  distinct = distinctb_yes sample_core tt;
  heavy = heavyb_yes 5 (7 ∷ 5 ∷ 5 ∷ []) sample_core tt;
  refuted = λ M h. some_violated (violated M sample_before.kinds sample_before.cores) sample_core (λ a. h a.0 a.1.0 a.1.1.0);
}

pub sample_good : Good (problem Some (penalties seven_five_five)) sample_after
sample_good = kept (problem Some (penalties seven_five_five)) sample_before 5 sample_core (opened_good Some (penalties seven_five_five)) sample_core_lem

pub sample_bound : (M : Set) → Some M → 5 ≤ charge M (penalties seven_five_five)
sample_bound M h = lower_bounds (problem Some (penalties seven_five_five)) sample_after sample_good M h

-- ---- members with more than the stratum: remaining 9, 7, 7 at stratum 5 leave 4, 2, 2 and two new of 5; with all unmet 23 = 5 + 8 + 10

abbrev high_after : Level
high_after = recorded (opened (penalties (pay 1 9 ∷ pay 2 7 ∷ pay 3 7 ∷ []))) 5 sample_core

pub high_identity : 23 ≡ high_after.lower + violated_weight everything high_after
unfolding weighty violated
high_identity = refl

-- with one unmet, 9: no new soft literal is unmet; with two, one is
abbrev only1 : Set
only1 a = eqb a 1

abbrev not3 : Set
not3 a = ltb a 3

pub high_one : 9 ≡ high_after.lower + violated_weight only1 high_after
unfolding weighty violated
high_one = refl

pub high_two : 16 ≡ high_after.lower + violated_weight not3 high_after
unfolding weighty violated
high_two = refl

-- ---- the limits: 4,096 of each pass, one more does not; a core of one member gives no new soft literal

pub limit_softs : core_fits 4089 3584 8 ≡ true
limit_softs = refl

pub limit_softs_passed : core_fits 4089 3584 9 ≡ false
limit_softs_passed = refl

pub limit_members : core_fits 9 4088 8 ≡ true
limit_members = refl

pub limit_members_passed : core_fits 9 4088 9 ≡ false
limit_members_passed = refl

pub limit_single : core_fits 4096 4095 1 ≡ true
limit_single = refl
