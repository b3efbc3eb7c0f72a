-- The symbols of the tables are those of the program, by position. Assumes nothing.
use mathlib.Core.Path.{◌≡◌, refl, sym, ap, ◌∙◌}
use mathlib.Core.Bool.{Bool, true, false}
use mathlib.Core.List.{List}
use mathlib.Core.Logic.{◌⊎◌, inl, inr}
use Rattle.std.specs.Prelude.{Option, None, Some}
use Prim.Native.Nat.{ℕ, zero, suc, ◌+◌, ◌≤◌, ◌<◌}
use native.Mathlib.Omega.{arith}
use lib.Dec.{ltb}
use borrow.Author.Tests.{lt-ltb, le-ltb}
use Rattle.asp.specs.Sets.{pick}
use Rattle.asp.specs.Program.{Symbol}
use Rattle.asp.specs.Stable.{shown}
use Rattle.asp.specs.Tables.{span}
use Rattle.aspif.specs.Store.{stored_program}
use Rattle.aspif_tables.specs.declared.table.Stored.{Stored}
use Rattle.cores.proofs.Sums.{below_or}
use Rattle.advancing.specs.declared.state.Search.{Search}
use Rattle.advancing.specs.Facts.{has_model, best_in}
use Rattle.optimizer.specs.declared.prepare.Preparation.{Preparation}
use Rattle.planner.specs.Held.{Holding, holding, symbol_of}
use Rattle.planner.specs.Calls.{Says, gives, refuses, filled, unfilled, name_call, shown_says}
use Rattle.planner.specs.Demand.{nth, name_by}

module _ {A : Type 0} (f : ℕ → A) where
  nth_in : (j n i : ℕ) → i < n → nth (span f j n) i ≡ Some (f (j + i))
  unfolding span nth
  nth_in j zero i h = absurd (omega arith)
  nth_in j (suc n) zero h = let e : j + 0 ≡ j = omega arith in rw e
  nth_in j (suc n) (suc i) h = let e : j + 1 + i ≡ j + suc i = omega arith in nth_in (j + 1) n i (omega arith) ∙ ap (λ (k : ℕ). Some (f k)) e

  nth_out : (j n i : ℕ) → n ≤ i → nth (span f j n) i ≡ None
  unfolding span nth
  nth_out j zero i h = refl
  nth_out j (suc n) zero h = absurd (omega arith)
  nth_out j (suc n) (suc i) h = nth_out (j + 1) n i (omega arith)

abbrev is_some : {A : Type 0} → Option A → ℕ
is_some None = 0
is_some (Some x) = 1

abbrev pub or_else : {A : Type 0} → A → Option A → A
or_else d None = d
or_else d (Some x) = x

module _ (p : Stored) (ix : Preparation) (q : Search) (i : ℕ) where
  abbrev s : Holding
  s = holding p ix q

  here : i < p.counts.symbols → nth (stored_program p).symbols i ≡ Some (symbol_of p i)
  here h = let e : 0 + i ≡ i = omega arith in nth_in (symbol_of p) 0 p.counts.symbols i h ∙ ap (λ (k : ℕ). Some (symbol_of p k)) e

  gone : p.counts.symbols ≤ i → nth (stored_program p).symbols i ≡ None
  gone h = nth_out (symbol_of p) 0 p.counts.symbols i h

  pub name_by_lem : (b : List ℕ) → name_call s i b ≡ name_by s b (nth (stored_program p).symbols i)
  name_by_lem b = go (below_or i p.counts.symbols)
    where
      go : (i < p.counts.symbols) ⊎ (p.counts.symbols ≤ i) → name_call s i b ≡ name_by s b (nth (stored_program p).symbols i)
      go (inl h) = ap (λ (x : Bool). pick x (filled s (symbol_of p i).name b) (unfilled 9 s b)) (lt-ltb i p.counts.symbols h) ∙ ap (name_by s b) (sym (here h))
      go (inr h) = ap (λ (x : Bool). pick x (filled s (symbol_of p i).name b) (unfilled 9 s b)) (le-ltb i p.counts.symbols h) ∙ ap (name_by s b) (sym (gone h))

  abbrev shown_as : Bool → Bool → Says Bool
  shown_as x y = pick x (pick y (gives (shown (best_in q) (symbol_of p i))) (refuses 7)) (refuses 9)

  pub shown_gone : nth (stored_program p).symbols i ≡ None → shown_says s i ≡ refuses 9
  shown_gone e = go (below_or i p.counts.symbols)
    where
      go : (i < p.counts.symbols) ⊎ (p.counts.symbols ≤ i) → shown_says s i ≡ refuses 9
      go (inl h) = absurd (omega (arith, ap is_some (sym (here h) ∙ e)))
      go (inr h) = ap (λ (x : Bool). shown_as x (has_model q.phase)) (le-ltb i p.counts.symbols h)

  shown_here : (y : Symbol) → nth (stored_program p).symbols i ≡ Some y → (ltb i p.counts.symbols ≡ true) × (symbol_of p i ≡ y)
  shown_here y e = go (below_or i p.counts.symbols)
    where
      go : (i < p.counts.symbols) ⊎ (p.counts.symbols ≤ i) → (ltb i p.counts.symbols ≡ true) × (symbol_of p i ≡ y)
      go (inl h) = (lt-ltb i p.counts.symbols h, ap (or_else y) (sym (here h) ∙ e))
      go (inr h) = absurd (omega (arith, ap is_some (sym (gone h) ∙ e)))

  pub shown_by : (y : Symbol) → nth (stored_program p).symbols i ≡ Some y → has_model q.phase ≡ true → shown_says s i ≡ gives (shown (best_in q) y)
  shown_by y e m =
      let h = shown_here y e in
      ap (λ (x : Bool). shown_as x (has_model q.phase)) h.0 ∙ ap (shown_as true) m ∙ ap (λ (x : Symbol). gives (shown (best_in q) x)) h.1

  pub shown_without : (y : Symbol) → nth (stored_program p).symbols i ≡ Some y → has_model q.phase ≡ false → shown_says s i ≡ refuses 7
  shown_without y e m = ap (λ (x : Bool). shown_as x (has_model q.phase)) (shown_here y e).0 ∙ ap (shown_as true) m
