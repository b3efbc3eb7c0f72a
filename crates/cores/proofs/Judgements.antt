-- Judging soft literals: the unfolding law, that nothing else obeys it, and that what is appended changes no earlier judgement. Assumes nothing.
use mathlib.Core.Path.{◌≡◌, refl, sym, ap, ◌∙◌}
use mathlib.Core.Bool.{Bool, false}
use mathlib.Core.List.{List, [], ◌∷◌, ◌++◌}
use Prim.Native.Nat.{ℕ, zero, suc, ◌+◌, ◌≤◌, ◌<◌}
use native.Mathlib.Nat.{add-zero, add-suc, le_trans, le_of_suc-le-suc, not-suc-le-zero}
use native.Mathlib.Omega.{arith}
use lib.IntN.{pos}
use lib.ListN.{length, length-append, get_or-append}
use Rattle.asp.specs.Sets.{Set, ind}
use Rattle.asp.specs.Program.{All}
use Rattle.cores.specs.Soft.{Kind, entry, derived, core_number, core_of, kind_at, judge, judged, violated, InOrder}
use Rattle.cores.proofs.Sums.{count_ext}

-- ---- more depth changes nothing

-- of two facts of each member, a third
pub all_map : {P Q : ℕ → Type 0} (ms : List ℕ) → ((m : ℕ) → P m → Q m) → All P ms → All Q ms
all_map [] f h = tt
all_map (m ∷ ms) f h = (f m h.0, all_map ms f h.1)

-- two judgements that agree on a kind's members judge it alike (an entry's has none: core 0 is empty)
judge_ext : (M : Set) (cs : List (List ℕ)) (U W : ℕ → Bool) (k : Kind) → All (λ m. U m ≡ W m) (core_of cs (core_number k)) → judge M cs U k ≡ judge M cs W k
judge_ext M cs U W (entry l) h = refl
judge_ext M cs U W (derived j i) h =
    rw (count_ext (λ m. ind (U m)) (λ m. ind (W m)) (core_of cs j) (all_map (core_of cs j) (λ m e. ap ind e) h))

module _ (M : Set) (ks : List Kind) (cs : List (List ℕ)) (o : InOrder ks cs) where
  pub deeper : (n p : ℕ) → core_number (kind_at ks p) ≤ n → judged M ks cs (suc n) p ≡ judged M ks cs n p
  deeper zero p h =
      judge_ext M cs (judged M ks cs 0) (λ q. false) (kind_at ks p)
      (all_map (core_of cs (core_number (kind_at ks p))) (λ m e. absurd (not-suc-le-zero (le_trans e.1 h))) (o.members (core_number (kind_at ks p))))
  deeper (suc n) p h =
      judge_ext M cs (judged M ks cs (suc n)) (judged M ks cs n) (kind_at ks p)
      (all_map (core_of cs (core_number (kind_at ks p))) (λ m e. deeper n m (le_of_suc-le-suc (le_trans e.1 h))) (o.members (core_number (kind_at ks p))))

  deeper_by : (k n p : ℕ) → core_number (kind_at ks p) ≤ n → judged M ks cs (n + k) p ≡ judged M ks cs n p
  deeper_by zero n p h = ap (λ (x : ℕ). judged M ks cs x p) (add-zero n)
  deeper_by (suc k) n p h = ap (λ (x : ℕ). judged M ks cs x p) (add-suc n k) ∙ deeper (n + k) p (omega arith) ∙ deeper_by k n p h

  -- THE UNFOLDING LAW: a soft literal is judged by the judgements on the members of its core
  pub unfolds : (p : ℕ) → violated M ks cs p ≡ judge M cs (violated M ks cs) (kind_at ks p)
  unfolding violated
  unfolds p = sym (deeper (length cs) p (o.cores p))

  -- and nothing else obeys that law: a program that judges each soft literal by its members judges so
  module _ (U : ℕ → Bool) (law : (p : ℕ) → U p ≡ judge M cs U (kind_at ks p)) where
    only_to : (n p : ℕ) → core_number (kind_at ks p) ≤ n → U p ≡ judged M ks cs n p
    only_to zero p h =
        law p ∙ judge_ext M cs U (λ q. false) (kind_at ks p)
        (all_map (core_of cs (core_number (kind_at ks p))) (λ m e. absurd (not-suc-le-zero (le_trans e.1 h))) (o.members (core_number (kind_at ks p))))
    only_to (suc n) p h =
        law p ∙ judge_ext M cs U (judged M ks cs n) (kind_at ks p)
        (all_map (core_of cs (core_number (kind_at ks p))) (λ m e. only_to n m (le_of_suc-le-suc (le_trans e.1 h))) (o.members (core_number (kind_at ks p))))

    pub only : (p : ℕ) → U p ≡ violated M ks cs p
    unfolding violated
    only p = only_to (length cs) p (o.cores p)

-- ---- what is appended changes no earlier judgement

pub core_of_append : (cs ds : List (List ℕ)) (j : ℕ) → j ≤ length cs → core_of (cs ++ ds) j ≡ core_of cs j
core_of_append cs ds zero h = refl
core_of_append cs ds (suc c) h = get_or-append cs ds [] c h

judge_core : (M : Set) (cs ds : List (List ℕ)) (U : ℕ → Bool) (k : Kind) → core_of cs (core_number k) ≡ core_of ds (core_number k) → judge M cs U k ≡ judge M ds U k
judge_core M cs ds U (entry l) e = refl
judge_core M cs ds U (derived j i) e = rw e

module _ (M : Set) (ks : List Kind) (cs : List (List ℕ)) (o : InOrder ks cs) (ls : List Kind) (ds : List (List ℕ)) where
  step : (U W : ℕ → Bool) (p : ℕ) → p < length ks → All (λ m. U m ≡ W m) (core_of cs (core_number (kind_at ks p)))
      → judge M (cs ++ ds) U (kind_at (ks ++ ls) p) ≡ judge M cs W (kind_at ks p)
  step U W p h a =
      ap (judge M (cs ++ ds) U) (get_or-append ks ls (entry (pos 0)) p h)
      ∙ judge_core M (cs ++ ds) cs U (kind_at ks p) (core_of_append cs ds (core_number (kind_at ks p)) (o.cores p))
      ∙ judge_ext M cs U W (kind_at ks p) a

  same_depth : (n p : ℕ) → p < length ks → core_number (kind_at ks p) ≤ n → judged M (ks ++ ls) (cs ++ ds) n p ≡ judged M ks cs n p
  same_depth zero p h l = step (λ q. false) (λ q. false) p h (all_map (core_of cs (core_number (kind_at ks p))) (λ m e. refl) (o.members (core_number (kind_at ks p))))
  same_depth (suc n) p h l =
      step (judged M (ks ++ ls) (cs ++ ds) n) (judged M ks cs n) p h
      (all_map (core_of cs (core_number (kind_at ks p))) (λ m e. same_depth n m e.0 (le_of_suc-le-suc (le_trans e.1 l))) (o.members (core_number (kind_at ks p))))

  pub old_judgement : (p : ℕ) → p < length ks → violated M (ks ++ ls) (cs ++ ds) p ≡ violated M ks cs p
  unfolding violated
  old_judgement p h =
      same_depth (length (cs ++ ds)) p h (omega (arith, o.cores p, length-append cs ds))
      ∙ ap (λ (x : ℕ). judged M ks cs x p) (length-append cs ds)
      ∙ deeper_by M ks cs o (length ds) (length cs) p (o.cores p)
