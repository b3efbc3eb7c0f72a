-- The limits of the tables over any sequence of cores, the count of queries, and the end. Assumes nothing.
use mathlib.Core.Path.{◌≡◌, refl, ap, ◌∙◌}
use mathlib.Core.Bool.{true, false}
use mathlib.Core.List.{List, [], ◌∷◌, ◌++◌}
use Prim.Native.Nat.{ℕ, zero, suc, ◌+◌, ◌-◌, ◌≤◌, ◌<◌, zero-le, suc-le-suc}
use native.Mathlib.Nat.{le_of_suc-le-suc, not-suc-le-zero, mul-le-mul_right}
use native.Mathlib.Omega.{arith}
use borrow.Author.Tests.{le-leb}
use lib.ListN.{length, get_or, replicate, length-replicate, length-append}
use Rattle.asp.specs.Sets.{Set, ind}
use Rattle.asp.specs.Penalty.{Penalty, bulk}
use Rattle.cores.specs.Sums.{wsum, lose}
use Rattle.cores.specs.Soft.{violated}
use Rattle.cores.specs.Level.{Level, weighty, opened, recorded, fewer, held, room}
use Rattle.cores.specs.Identity.{Problem, Good, Core, remaining}
use Rattle.cores.proofs.Sums.{wsum_none, length_lose, members_weigh, each_weighs}
use Rattle.cores.proofs.Record.{fewer_is, kept}
use Rattle.cores.proofs.Open.{weights_of, weights_sum, weights_some}

-- ---- 1 + 2 + .. + n, and 0 + 1 + .. + (n - 1)

abbrev pub tri : ℕ → ℕ
tri zero = 0
tri (suc n) = tri n + suc n

abbrev pub low : ℕ → ℕ
low zero = 0
low (suc n) = low n + n

tri_low : (n : ℕ) → tri n ≡ low n + n
tri_low zero = refl
tri_low (suc n) = omega (arith, tri_low n)

tri_mono : {a b : ℕ} → a ≤ b → tri a ≤ tri b
tri_mono zero-le = zero-le
tri_mono (suc-le-suc h) = omega (arith, tri_mono h)

low_mono : {a b : ℕ} → a ≤ b → low a ≤ low b
low_mono zero-le = zero-le
low_mono (suc-le-suc h) = omega (arith, low_mono h)

-- from r down to r', at least one less, there is room for r members
tri_room : (m r r' : ℕ) → m ≤ r → r' < r → m + tri r' ≤ tri r
tri_room m zero r' h l = absurd (not-suc-le-zero l)
tri_room m (suc r) r' h l = omega (arith, tri_mono (le_of_suc-le-suc l))

-- and for one fewer new soft literals
low_room : (m r r' : ℕ) → suc m ≤ r → r' < r → m + low r' ≤ low r
low_room m zero r' h l = absurd (not-suc-le-zero l)
low_room m (suc r) r' h l = omega (arith, low_mono (le_of_suc-le-suc l))

-- ---- the members of all cores

pub held_append : (cs : List (List ℕ)) (ms : List ℕ) → held (cs ++ (ms ∷ [])) ≡ held cs + length ms
unfolding held
held_append [] ms = omega arith
held_append (c ∷ cs) ms = omega (arith, held_append cs ms)

module _ (P : Problem) where
  open P use {Model, cost_of, whole}

  pub record Fits (l : Level) : Type 0 where
    pub cores_fit : length l.cores ≤ l.lower
    pub members_fit : held l.cores + tri (remaining l) ≤ tri whole
    pub softs_fit : length l.rests + low (remaining l) ≤ tri whole

  pub opened_fits : (es : List Penalty) → bulk es ≡ whole → Fits (opened es)
  unfolding held
  opened_fits es w =
      let ws : List ℕ = weights_of (weighty es) in
      let e : wsum (λ p. 1) ws ≡ whole = weights_sum es ∙ w in
      record { cores_fit = zero-le; members_fit = omega (arith, ap tri e); softs_fit = omega (arith, e, ap tri e, tri_low (wsum (λ p. 1) ws), each_weighs ws (weights_some es)) }

  module _ (l : Level) (s : ℕ) (ms : List ℕ) (g : Good P l) (c : Core P l s ms) (s1 : 1 ≤ s) where
    few : length ms ≤ remaining l
    few = omega (arith, mul-le-mul_right (length ms) s1, members_weigh s ms l.rests c.distinct c.heavy)

    falls : remaining (recorded l s ms) + s ≡ remaining l
    falls = omega (arith, g.weighs, (kept P l s ms g c).weighs)

    pub fits_kept : Fits l → Fits (recorded l s ms)
    fits_kept f = record {
      cores_fit = omega (arith, f.cores_fit, length-append l.cores (ms ∷ []));
      members_fit = omega (arith, f.members_fit, held_append l.cores ms, tri_room (length ms) (remaining l) (remaining (recorded l s ms)) few (omega (arith, falls)));
      softs_fit =
          omega (
            arith,
            f.softs_fit,
            length-append (lose s ms l.rests) (replicate (fewer ms) s),
            length_lose s ms l.rests,
            length-replicate (fewer ms) s,
            low_room (fewer ms) (remaining l) (remaining (recorded l s ms)) (omega (arith, few, fewer_is ms c.some)) (omega (arith, falls)),
          );
    }

    -- A CORE OF A LEVEL OF WEIGHT 90 OR LESS PASSES NO LIMIT
    pub has_room : Fits l → whole ≤ 90 → room l ms ≡ true
    has_room f h =
        let k = fits_kept f in
        let a : length l.kinds + (length ms - 1) ≤ 4096 =
        omega (
          arith,
          g.as_long,
          k.softs_fit,
          tri_mono h,
          length-append (lose s ms l.rests) (replicate (fewer ms) s),
          length_lose s ms l.rests,
          length-replicate (fewer ms) s,
          fewer_is ms c.some,
        ) in
        let b : held l.cores + length ms ≤ 4096 = omega (arith, k.members_fit, tri_mono h, held_append l.cores ms) in
        rw (le-leb (length l.kinds + (length ms - 1)) 4096 a, le-leb (held l.cores + length ms) 4096 b)

  -- the bound stays within the level's weight
  pub lower_within : (l : Level) (s : ℕ) (ms : List ℕ) → Good P l → Core P l s ms → l.lower + s ≤ whole
  lower_within l s ms g c = omega (arith, (kept P l s ms g c).weighs)

  -- a model that meets every soft literal with weight left costs the lower bound
  pub met_costs_lower : (l : Level) → Good P l → (M : Set) → Model M
      → ((p : ℕ) → p < length l.rests → 0 < get_or l.rests p 0 → violated M l.kinds l.cores p ≡ false) → cost_of M ≡ l.lower
  met_costs_lower l g M h met = omega (arith, g.identity M h, wsum_none _ l.rests (λ p l w. ap ind (met p l w)))

  -- and no model costs less
  pub lower_bounds : (l : Level) → Good P l → (M : Set) → Model M → l.lower ≤ cost_of M
  lower_bounds l g M h = omega (arith, g.identity M h)

  -- so it is a best model
  pub best : (l : Level) → Good P l → (M : Set) → Model M
      → ((p : ℕ) → p < length l.rests → 0 < get_or l.rests p 0 → violated M l.kinds l.cores p ≡ false)
      → (N : Set) → Model N → cost_of M ≤ cost_of N
  best l g M h met N k = omega (arith, met_costs_lower l g M h met, lower_bounds l g N k)
