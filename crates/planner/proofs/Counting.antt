-- How many advances are made, and statuses. Assumes nothing.
use mathlib.Core.Path.{◌≡◌, refl, sym, ap, ◌∙◌, subst}
use mathlib.Core.Bool.{Bool, true, false}
use mathlib.Core.Logic.{◌⊎◌, inl, inr}
use Prim.Native.Nat.{ℕ, zero, suc, ◌+◌, ◌≤◌, ◌<◌, min}
use Rattle.cores.proofs.Sums.{below_or}
use native.Mathlib.Omega.{arith}
use borrow.Author.Tests.{lt-ltb, le-ltb}
use Rattle.asp.specs.Sets.{pick}
use Rattle.aspif_tables.specs.declared.table.Stored.{Stored}
use Rattle.advancing.specs.declared.state.Phase.{Phase}
use Rattle.advancing.specs.declared.state.Phase.TheVariants.{First, Level, Optimum, Incoherent, Full}
use Rattle.advancing.specs.declared.state.Search.{Search}
use Rattle.advancing.specs.Source.{Source}
use Rattle.advancing.specs.State.{is_running}
use Rattle.advancing.specs.Advance.{advance_of, advances_of, made_by}
use Rattle.advancing.specs.Run.{bumped_by}
use Rattle.advancing.proofs.Advancing.{rest_advances, rest_made}
use Rattle.optimizer.specs.declared.prepare.Preparation.{Preparation}
use Rattle.planner.specs.declared.service.Status.TheVariants as status
use Rattle.planner.specs.Held.{holding, source_of, status_of}
use Rattle.planner.specs.Tally as told
use Rattle.planner.specs.Demand.{Advances}

-- ---- statuses

pub runs_is : (p : Phase) → told.is_running_status (status_of p) ≡ is_running p
runs_is First = refl
runs_is Level = refl
runs_is Optimum = refl
runs_is Incoherent = refl
runs_is Full = refl

pub running_status : (p : Phase) → is_running p ≡ true → status_of p ≡ status.Running
running_status First e = refl
running_status Level e = refl
running_status Optimum e = cc
running_status Incoherent e = cc
running_status Full e = cc

pub status_running : (p : Phase) → status_of p ≡ status.Running → is_running p ≡ true
status_running First e = refl
status_running Level e = refl
status_running Optimum e = cc
status_running Incoherent e = cc
status_running Full e = cc

pub status_optimum : (p : Phase) → status_of p ≡ status.Optimum → p ≡ Optimum
status_optimum First e = cc
status_optimum Level e = cc
status_optimum Optimum e = refl
status_optimum Incoherent e = cc
status_optimum Full e = cc

pub status_incoherent : (p : Phase) → status_of p ≡ status.Incoherent → p ≡ Incoherent
status_incoherent First e = cc
status_incoherent Level e = cc
status_incoherent Optimum e = cc
status_incoherent Incoherent e = refl
status_incoherent Full e = cc

pub status_full : (p : Phase) → status_of p ≡ status.Full → p ≡ Full
status_full First e = cc
status_full Level e = cc
status_full Optimum e = cc
status_full Incoherent e = cc
status_full Full e = refl

-- ---- counts

-- "that count or 2^64 - 1, whichever is less"
pub figure_min : (k : ℕ) → bumped_by k 0 ≡ min k 18446744073709551615
figure_min k = go (below_or 18446744073709551615 (0 + k))
  where
    go : (18446744073709551615 < 0 + k) ⊎ (0 + k ≤ 18446744073709551615) → bumped_by k 0 ≡ min k 18446744073709551615
    go (inl h) = rw (lt-ltb 18446744073709551615 (0 + k) h) (omega arith)
    go (inr h) = rw (le-ltb 18446744073709551615 (0 + k) h) (omega arith)

module _ (S : Source) where
  -- an advance more, or none
  pub once : (k : ℕ) (s : Search) (b : Bool) → is_running s.phase ≡ b → made_by S (suc k) s ≡ pick b (suc (made_by S k (advance_of S s))) 0
  unfolding made_by
  once k s b e = ap (λ (x : Bool). pick x (suc (made_by S k (advance_of S s))) 0) e

  pub made_plus : (j k : ℕ) (s : Search) → made_by S (j + k) s ≡ made_by S j s + made_by S k (advances_of S j s)
  unfolding made_by advances_of
  made_plus zero k s = let y : 0 + k ≡ k = omega arith in rw y (omega arith)
  made_plus (suc j) k s =
      let y : suc j + k ≡ suc (j + k) = omega arith in
      ap (λ (n : ℕ). made_by S n s) y ∙ go (is_running s.phase) refl (made_plus j k (advance_of S s))
    where
      go : (b : Bool) → is_running s.phase ≡ b → made_by S (j + k) (advance_of S s) ≡ made_by S j (advance_of S s) + made_by S k (advances_of S j (advance_of S s))
          → made_by S (suc (j + k)) s ≡ made_by S (suc j) s + made_by S k (advances_of S (suc j) s)
      go true e ih = once (j + k) s true e ∙ ap suc ih ∙ omega (arith, once j s true e)
      go false e ih =
          once (j + k) s false e ∙ omega (arith, once j s false e, rest_made S k (advances_of S (suc j) s) (ap (λ (x : Search). is_running x.phase) (rest_advances S (suc j) s e) ∙ e))

  -- "k is at most the budget"
  pub made_most : (b : ℕ) (s : Search) → made_by S b s ≤ b
  unfolding made_by
  made_most zero s = omega arith
  made_most (suc b) s = go (is_running s.phase) refl (made_most b (advance_of S s))
    where
      go : (x : Bool) → is_running s.phase ≡ x → made_by S b (advance_of S s) ≤ b → made_by S (suc b) s ≤ suc b
      go true e h = omega (arith, once b s true e)
      go false e h = omega (arith, once b s false e)

  -- "and below it only if the status is then not running"
  pub made_ends : (b : ℕ) (s : Search) → made_by S b s < b → is_running (advances_of S b s).phase ≡ false
  unfolding made_by advances_of
  made_ends zero s h = absurd (omega arith)
  made_ends (suc b) s h = go (is_running s.phase) refl (made_ends b (advance_of S s))
    where
      go : (x : Bool) → is_running s.phase ≡ x → (made_by S b (advance_of S s) < b → is_running (advances_of S b (advance_of S s)).phase ≡ false)
          → is_running (advances_of S (suc b) s).phase ≡ false
      go true e ih = ih (omega (arith, once b s true e))
      go false e ih = ap (λ (x : Search). is_running x.phase) (rest_advances S (suc b) s e) ∙ e

-- "A run with count k leaves the service as k advance calls in a row would, each made while running"
pub run_advances : (p : Stored) (ix : Preparation) (b : ℕ) (q : Search) → Advances (made_by (source_of p) b q) (holding p ix q) (holding p ix (advances_of (source_of p) b q))
unfolding made_by advances_of
run_advances p ix zero q = refl
run_advances p ix (suc b) q = go (is_running q.phase) refl (run_advances p ix b (advance_of (source_of p) q))
  where
    go : (x : Bool) → is_running q.phase ≡ x
        → Advances (made_by (source_of p) b (advance_of (source_of p) q)) (holding p ix (advance_of (source_of p) q)) (holding p ix (advances_of (source_of p) b (advance_of (source_of p) q)))
        → Advances (made_by (source_of p) (suc b) q) (holding p ix q) (holding p ix (advances_of (source_of p) (suc b) q))
    go true e h = subst (λ (n : ℕ). Advances n (holding p ix q) (holding p ix (advances_of (source_of p) (suc b) q))) (sym (once (source_of p) b q true e)) (running_status q.phase e, h)
    go false e h =
        subst (λ (n : ℕ). Advances n (holding p ix q) (holding p ix (advances_of (source_of p) (suc b) q))) (sym (once (source_of p) b q false e))
        (ap (holding p ix) (rest_advances (source_of p) (suc b) q e))
