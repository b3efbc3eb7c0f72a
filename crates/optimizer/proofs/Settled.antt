-- The loop over the settled levels, and the judgement of a full trail. Assumes nothing.
use mathlib.Core.Path.{◌≡◌}
use mathlib.Core.Bool.{Bool, true, false, ◌&&◌}
use mathlib.Core.List.{List, ◌++◌}
use Prim.Native.Nat.{ℕ, suc, ◌+◌, ◌-◌, ◌≤◌, ◌<◌}
use native.Mathlib.Nat.{sub-zero}
use native.Mathlib.Omega.{arith}
use lib.IntN.{ℤ, pos}
use lib.ListN.{get_or}
use Rattle.std.specs.Prelude.{Option}
use Rattle.asp.specs.Sets.{Set, set_of}
use Rattle.asp.specs.Literal.{same_ℤ}
use Rattle.asp.specs.Stable.{is_stable}
use Rattle.asp.specs.Cost.{cost}
use Rattle.cores.specs.Judging.{violated_at, first_violated}
use Rattle.advancing.specs.declared.state.Judgement.{Judgement}
use Rattle.advancing.specs.declared.state.Judgement.TheVariants.{Dead}
use Rattle.advancing.specs.Source.{Source, rules_in, level_at}
use Rattle.advancing.specs.Turn.{QueryTables, settled_from, in_class, soft_or_wanted, judge_full}

-- ---- the loop

pub record Settling (f : ℕ → ℤ) (lowers : List ℤ) (k l : ℕ) : Type 0 where
  pub rest : settled_from f lowers l (k - l) ≡ settled_from f lowers 0 k

pub settling_start : (f : ℕ → ℤ) (lowers : List ℤ) (k : ℕ) → Settling f lowers k 0
settling_start f lowers k = record { rest = rw sub-zero }

module _ {f : ℕ → ℤ} {lowers : List ℤ} {k l : ℕ} (s : Settling f lowers k l) where
  more : l < k → settled_from f lowers l (k - l) ≡ (same_ℤ (f l) (get_or lowers l (pos 0)) && settled_from f lowers (l + 1) (k - (l + 1)))
  unfolding settled_from
  more h = let q : k - l ≡ suc (k - (l + 1)) = omega arith in rw q

  pub settling_next : l < k → {b : Bool} → b ≡ same_ℤ (f l) (get_or lowers l (pos 0)) → b ≡ true → Settling f lowers k (l + 1)
  settling_next h e q = record { rest = rw (more h, ← e, q) at s.rest }

  pub settling_out : l < k → {b : Bool} → b ≡ same_ℤ (f l) (get_or lowers l (pos 0)) → b ≡ false → false ≡ settled_from f lowers 0 k
  settling_out h e q = rw (more h, ← e, q) at s.rest

  pub settling_done : k ≤ l → true ≡ settled_from f lowers 0 k
  unfolding settled_from
  settling_done h = let q : k - l ≡ 0 = omega arith in rw q at s.rest

-- ---- the class, and the judgement

module _ (S : Source) (level : ℕ) (lowers : List ℤ) (M : Set) where
  pub class_settled : {a b : Bool} → a ≡ is_stable S.n (rules_in S) M → a ≡ true → b ≡ settled_from (λ j. cost M (level_at S.levels j)) lowers 0 level → b ≡ in_class S level lowers M
  class_settled e q f = rw (← e, q) f

  pub class_unstable : {a : Bool} → a ≡ is_stable S.n (rules_in S) M → a ≡ false → false ≡ in_class S level lowers M
  class_unstable e q = rw (← e, q)

module _ (S : Source) (q : QueryTables) (ms v : List ℕ) where
  pub full_soft : {a : Bool} → a ≡ in_class S q.level q.lowers (set_of v) → a ≡ true → {j : Option ℕ} → j ≡ first_violated (violated_at q.judging (set_of v)) (ms ++ q.assumed)
      → {r : Judgement} → r ≡ soft_or_wanted j → r ≡ judge_full S q ms v
  full_soft e t f g = rw (← e, t, ← f) g

  pub full_dead : {a : Bool} → a ≡ in_class S q.level q.lowers (set_of v) → a ≡ false → Dead ≡ judge_full S q ms v
  full_dead e t = rw (← e, t)
