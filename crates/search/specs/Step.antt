-- The test of a trail and one step of the machine, on the lists of their tables. Assumes nothing: these are definitions.
use Rattle.std.specs.Prelude.{Option, Some, None, List, ℕ, leb, ℤ}
use Rattle.asp.specs.Sets.{pick}
use Rattle.search.specs.declared.trail.Places.{Places}
use Rattle.search.specs.Places.{push_of, back_of}
use Rattle.search.specs.Scan.{Rules, scan_of}
use Rattle.search.specs.Soft.{AssumedEntries, violated_of}
use Rattle.search.specs.Branch.{branch_of}
use Rattle.search.specs.declared.scan.Found.{Found}
use Rattle.search.specs.declared.scan.Found.TheVariants.{Broken, Breaker, Clear}
use Rattle.search.specs.declared.step.Tested.{Tested}
use Rattle.search.specs.declared.step.Tested.TheVariants.{RuleBroken, Full, SoftViolated, Open}

-- no assumed soft literal is violated: open, with the literal to add
abbrev pub open_or : ℤ → Option ℕ → Tested
open_or l (Some i) = SoftViolated i
open_or l None = Open l

-- no rule is broken
unfoldable pub unbroken : ℕ → AssumedEntries → List ℕ → ℕ → Found → Tested
unbroken n s v len f = pick (leb n len) Full (open_or (branch_of s.first s.wished s.count v n f) (violated_of s v))

abbrev pub test_by : ℕ → AssumedEntries → List ℕ → ℕ → Found → Tested
test_by n s v len (Broken r) = RuleBroken r
test_by n s v len (Breaker l) = unbroken n s v len (Breaker l)
test_by n s v len Clear = unbroken n s v len Clear

abbrev pub test_of : Rules → ℕ → AssumedEntries → List ℕ → ℕ → Tested
test_of g n s v len = test_by n s v len (scan_of g v)

-- what a step came to, and the trail after it
pub record Stepped : Type 0 where
  pub tested : Tested
  pub trail : Places

abbrev pub stepped : Tested → Places → Stepped
stepped x t = record { tested = x; trail = t }

-- the move that the test asks for; a full trail stays, for the caller to judge
abbrev pub moved_by : Tested → Places → Places
moved_by (RuleBroken r) t = back_of t
moved_by Full t = t
moved_by (SoftViolated i) t = back_of t
moved_by (Open l) t = push_of l t

abbrev pub step_of : Rules → ℕ → AssumedEntries → Places → Stepped
step_of g n s t = stepped (test_of g n s t.value t.len) (moved_by (test_of g n s t.value t.len) t)
