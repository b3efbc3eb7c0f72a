-- Advance, look and write, from what their callees ensure. Assumes nothing.
use mathlib.Core.Path.{◌≡◌, refl, sym, ap, ap₂, ◌∙◌}
use mathlib.Core.Bool.{Bool, true, false}
use mathlib.Core.List.{List}
use Prim.Native.Nat.{ℕ}
use lib.IntN.{ℤ}
use lib.ListN.{take}
use Rattle.std.specs.Prelude.{Option, Some, None}
use Rattle.aspif.specs.Store.{stored_program, stored_text, WellFormed}
use Rattle.aspif_tables.specs.declared.table.Stored.{Stored}
use Rattle.advancing.specs.declared.state.Search.{Search}
use Rattle.advancing.specs.Source.{many}
use Rattle.advancing.specs.Advance.{advances_of}
use Rattle.advancing.specs.Facts.{has_model}
use Rattle.planner.specs.declared.service.Loaded.{Loaded}
use Rattle.planner.specs.declared.service.Status.{Status}
use Rattle.planner.specs.declared.advance.Count.{Count}
use Rattle.planner.specs.Held.{Holding, source_of, status_of}
use Rattle.planner.specs.Calls.{Says, gives, refuses, refuses_for, Outcome, outcome, advance_call, run_call, Seen, seen, given, front_of, seen_in, seen_of, level_seen, stratum_seen, look_call, fills, filling, filled_with, filled, write_call}
use Rattle.planner.proofs.Filling.{fills_as}
use Rattle.planner.proofs.Link.{levels_many, priorities_is}

-- ---- advance

-- an advance is a run of one
abbrev status_in : Says Count → Says Status
status_in (gives x) = gives x.status
status_in (refuses c) = refuses c
status_in (refuses_for c n) = refuses_for c n

pub advance_is : (s u : Holding) {x : Count} → outcome (gives x) u ≡ run_call s 1 → outcome (gives x.status) u ≡ advance_call s
unfolding advances_of
advance_is None u {x} e = let d : ◌≡◌ {A = Says Count} (gives x) (refuses 6) = ap (λ (o : Outcome (Says Count)). o.answer) e in cc
advance_is (Some l) u e = ap stopped e
  where
    stopped : Outcome (Says Count) → Outcome (Says Status)
    stopped x = outcome (status_in x.answer) x.after

-- ---- look

pub look_is : (s : Holding) {l : Loaded} → s ≡ Some l → {v : Seen} → v ≡ seen_in l.stored l.search → outcome v s ≡ look_call s
look_is s e d = ap (λ (v : Seen). outcome v s) (d ∙ ap seen_of (sym e))

-- the front of what is given is what is given of the front
pub front_given : (k : ℕ) (b : Bool) (xs : List ℤ) {us : Option (List ℤ)} → us ≡ given b xs → front_of k us ≡ given b (take k xs)
front_given k b xs e = ap (front_of k) e ∙ go b
  where
    go : (b : Bool) → front_of k (given b xs) ≡ given b (take k xs)
    go true = refl
    go false = refl

-- ---- write

pub write_is : (s : Holding) {l : Loaded} → s ≡ Some l → (old : List ℕ) {a : Says ℕ} {b : List ℕ} → filling a b ≡ filled_with (stored_text l.stored) old → fills a s b ≡ write_call s old
write_is s {l} e old d = fills_as s (stored_text l.stored) old d ∙ ap (λ (x : Holding). filled x (stored_text l.stored) old) e ∙ ap (λ (x : Holding). write_call x old) (sym e)

module _ (p : Stored) (w : WellFormed p) (q : Search) where
  abbrev seen_by : Status → List ℤ → ℕ → Option (List ℤ) → ℕ → ℕ → Seen
  seen_by a ps k us j t = seen a q.advances ps (take k q.work.lowers) us j t

  pub seen_is : {a : Status} → a ≡ status_of q.phase → {us : Option (List ℤ)} → us ≡ given (has_model q.phase) (take p.counts.levels q.work.uppers) → {j : ℕ} → j ≡ level_seen q.phase q.work.level
      → {t : ℕ} → t ≡ stratum_seen q.phase q.work.stratum → seen_by a (take p.counts.levels p.levels) p.counts.levels us j t ≡ seen_in p q
  seen_is {a} ea {us} eu {j} ej {t} et =
      let ps = (stored_program p).priorities in
      let k = many (source_of p).levels in
      ap (λ (x : List ℤ). seen_by a x p.counts.levels us j t) (priorities_is p w)
      ∙ ap₂ (λ (x : Status) (y : Option (List ℤ)). seen_by x ps p.counts.levels y j t) ea eu
      ∙ ap (λ (x : ℕ). seen_by (status_of q.phase) ps x (given (has_model q.phase) (take x q.work.uppers)) j t) (sym (levels_many p w))
      ∙ ap₂ (λ (x y : ℕ). seen_by (status_of q.phase) ps k (given (has_model q.phase) (take k q.work.uppers)) x y) ej et
