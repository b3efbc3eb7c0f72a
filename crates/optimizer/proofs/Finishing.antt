-- What holds in the loops that end a query, and what each function of module `finish` gives. Assumes nothing.
use mathlib.Core.Path.{◌≡◌, refl, sym, ap, ap₂, ◌∙◌, subst}
use mathlib.Core.Bool.{Bool, true, false}
use mathlib.Core.List.{List}
use Prim.Native.Nat.{ℕ, suc, ◌+◌, ◌-◌, ◌≤◌, ◌<◌}
use native.Mathlib.Omega.{arith}
use mir.Syntax.{w32}
use mir.Val.{SFits, to_z, of_z}
use mir.Facts.{to_z-of_z}
use lib.IntN.{ℤ, pos, nat_abs}
use lib.Signed.{lt_z}
use lib.ListN.{length, get_or, take}
use borrow.Author.Tests.{lt-ltb, le-ltb}
use Rattle.asp.specs.Sets.{pick}
use Rattle.asp.specs.Literal.{same_ℤ}
use Rattle.asp.specs.Cost.{level, cheaper}
use Rattle.asp.specs.Penalty.{penalties}
use Rattle.asp.specs.Tables.{entry_at}
use Rattle.cores.specs.declared.level.LevelTables.{LevelTables}
use Rattle.cores.specs.Level.{under, greatest, core_fits, FormedPenalties}
use Rattle.cores.specs.Level as lev
use Rattle.cores.specs.Tables.{level_of, held_in, opened_tables, recorded_tables, FormedTables, tried, full_tables}
use Rattle.std.specs.Prelude.{Ok, Err}
use Rattle.cores.proofs.Kept.{level_formed, opened_means, opened_sound, first_stratum}
use Rattle.advancing.specs.Source.{Levels, many, entries_in, penalties_at, FormedLevels}
use Rattle.advancing.specs.declared.state.Work.{Work}
use Rattle.advancing.specs.declared.state.Phase.{Phase}
use Rattle.advancing.specs.declared.state.Phase.TheVariants.{First, Level, Optimum, Incoherent, Full}
use Rattle.advancing.specs.declared.state.Turn.{Turn}
use Rattle.advancing.specs.declared.state.Turn.TheVariants.{Going, Without, Model}
use Rattle.advancing.specs.State.{work}
use Rattle.advancing.specs.Finish.{next_from, Placed, placed, begun_at, open_at, open_from, settle_of, costs_of, with_best, better_of, tried_work, finish_of}
use Rattle.optimizer.specs.Ending.{records_of, recorded_work, finished_level, finished_of}
use Rattle.advancing.proofs.Meanings.{formed_in}

-- ---- the next level on which the bounds are not equal

pub record Seeking (lowers uppers : List ℤ) (j k i : ℕ) : Type 0 where
  pub below : i ≤ k
  pub rest : next_from lowers uppers i (k - i) ≡ next_from lowers uppers j (k - j)

pub seek_start : (lowers uppers : List ℤ) (j k : ℕ) → j ≤ k → Seeking lowers uppers j k j
seek_start lowers uppers j k h = record { below = h; rest = refl }

seek_one : (lowers uppers : List ℤ) (i k : ℕ) → i < k
    → next_from lowers uppers i (k - i) ≡ pick (same_ℤ (get_or uppers i (pos 0)) (get_or lowers i (pos 0))) (next_from lowers uppers (i + 1) (k - (i + 1))) i
unfolding next_from
seek_one lowers uppers i k h = let q : k - i ≡ suc (k - (i + 1)) = omega arith in rw q

module _ {lowers uppers : List ℤ} {j k i : ℕ} where
  pub seek_next : Seeking lowers uppers j k i → i < k → {b : Bool} → b ≡ same_ℤ (get_or uppers i (pos 0)) (get_or lowers i (pos 0)) → b ≡ true → Seeking lowers uppers j k (i + 1)
  seek_next s h e t = record {
    below = omega arith;
    rest = sym (seek_one lowers uppers i k h ∙ ap (λ (b : Bool). pick b (next_from lowers uppers (i + 1) (k - (i + 1))) i) (sym e ∙ t)) ∙ s.rest;
  }

  pub seek_found : Seeking lowers uppers j k i → i < k → {b : Bool} → b ≡ same_ℤ (get_or uppers i (pos 0)) (get_or lowers i (pos 0)) → b ≡ false → i ≡ next_from lowers uppers j (k - j)
  seek_found s h e t = sym (seek_one lowers uppers i k h ∙ ap (λ (b : Bool). pick b (next_from lowers uppers (i + 1) (k - (i + 1))) i) (sym e ∙ t)) ∙ s.rest

  pub seek_end : Seeking lowers uppers j k i → k ≤ i → i ≡ next_from lowers uppers j (k - j)
  unfolding next_from
  seek_end s h = let q : k - i ≡ 0 = omega arith in rw q at s.rest

-- ---- the best model

pub best_is : (L : Levels) (w : Work) (v : List ℕ) {x : List ℤ} → x ≡ costs_of L v → work w.level w.tables w.stratum w.lowers x v ≡ with_best L w v
best_is L w v e = ap (λ (x : List ℤ). work w.level w.tables w.stratum w.lowers x v) e

module _ (L : Levels) (w : Work) (v : List ℕ) {x : List ℤ} {b : Bool} (e : x ≡ costs_of L v) (q : b ≡ cheaper lt_z (take (many L) x) (take (many L) w.uppers)) where
  found : better_of L w v ≡ pick b (with_best L w v) w
  unfolding better_of
  found = ap (λ (z : Bool). pick z (with_best L w v) w) (sym (q ∙ ap (λ (y : List ℤ). cheaper lt_z (take (many L) y) (take (many L) w.uppers)) e))

  pub better_yes : b ≡ true → {r : Work} → r ≡ with_best L w v → r ≡ better_of L w v
  better_yes t f = f ∙ sym (found ∙ ap (λ (z : Bool). pick z (with_best L w v) w) t)

  pub better_no : b ≡ false → w ≡ better_of L w v
  better_no t = sym (found ∙ ap (λ (z : Bool). pick z (with_best L w v) w) t)

-- ---- a level is opened. Its priority, which goes from one call to the next, stands as `to_z w32 (of_z w32 p)`.

-- the literals of the entries are small
pub entries_small : (L : Levels) → FormedLevels L → (i : ℕ) → i < length L.entries → nat_abs (entry_at L.entries i).literal ≤ 1024
entries_small L f i h = (f.entries.atoms i h).1

module _ (L : Levels) (j : ℕ) (f : FormedLevels L) {p : ℤ} (k : SFits w32 p) (e : p ≡ get_or L.levels j (pos 0)) {t : LevelTables} (o : t ≡ opened_tables (penalties (level (to_z w32 (of_z w32 p)) (entries_in L)))) where
  formed_at : FormedPenalties (penalties_at L j)
  formed_at = level_formed (entries_in L) (formed_in L f) (get_or L.levels j (pos 0))

  tables_are : t ≡ opened_tables (penalties_at L j)
  tables_are = o ∙ ap (λ (q : ℤ). opened_tables (penalties (level q (entries_in L)))) (to_z-of_z k ∙ e)

  pub begun_formed : FormedTables t
  begun_formed = subst FormedTables (sym tables_are) (opened_sound (penalties_at L j) formed_at).formed

  stratum_is : under 1000001 (level_of t).rests ≡ greatest (level_of (opened_tables (penalties_at L j))).rests
  stratum_is =
      ap (λ (u : LevelTables). under 1000001 (level_of u).rests) tables_are ∙ first_stratum (penalties_at L j) formed_at
      ∙ ap (λ (l : lev.Level). greatest l.rests) (sym (opened_means (penalties_at L j) formed_at))

  pub begun_is : (w : Work) → {s : ℕ} → s ≡ under 1000001 (level_of t).rests → work j t s w.lowers w.uppers w.best ≡ begun_at L w j
  begun_is w {s} q = ap₂ (λ (u : LevelTables) (z : ℕ). work j u z w.lowers w.uppers w.best) tables_are (q ∙ stratum_is)

-- ---- the levels from a place on

abbrev at_level : ℕ → Work → Work
at_level i w = work i w.tables w.stratum w.lowers w.uppers w.best

module _ (L : Levels) (w : Work) (j : ℕ) {i : ℕ} (q : i ≡ next_from w.lowers w.uppers j (many L - j)) where
  pub open_yes : i < many L → {u : Work} → u ≡ begun_at L (at_level i w) i → placed Level u ≡ open_from L w j
  unfolding open_from
  open_yes h e = ap (placed Level) e ∙ sym (ap (λ (b : Bool). pick b (placed Level (begun_at L w i)) (placed Optimum (at_level i w))) (lt-ltb i (many L) h)) ∙ ap (open_at L w) q

  pub open_no : many L ≤ i → placed Optimum (at_level i w) ≡ open_from L w j
  unfolding open_from
  open_no h = sym (ap (λ (b : Bool). pick b (placed Level (begun_at L w i)) (placed Optimum (at_level i w))) (le-ltb i (many L) h)) ∙ ap (open_at L w) q

-- ---- the level is settled, or not

module _ (L : Levels) (w : Work) {b : Bool} (h : b ≡ same_ℤ (get_or w.uppers w.level (pos 0)) (get_or w.lowers w.level (pos 0))) where
  pub settle_yes : b ≡ true → {x : Placed} → x ≡ open_from L w (w.level + 1) → x ≡ settle_of L w
  unfolding settle_of
  settle_yes t e = e ∙ sym (ap (λ (c : Bool). pick c (open_from L w (w.level + 1)) (placed Level w)) (sym h ∙ t))

  pub settle_no : b ≡ false → placed Level w ≡ settle_of L w
  unfolding settle_of
  settle_no t = sym (ap (λ (c : Bool). pick c (open_from L w (w.level + 1)) (placed Level w)) (sym h ∙ t))

-- ---- the end of a query on a level

-- a better model changes neither the level nor its tables
better_keeps : (P : Work → Type 0) (L : Levels) (w : Work) (v : List ℕ) → P (with_best L w v) → P w → P (better_of L w v)
unfolding better_of
better_keeps P L w v h k =
    elim (cheaper lt_z (take (many L) (costs_of L v)) (take (many L) w.uppers)) as (λ b. P (pick b (with_best L w v) w)) [ true ↦ h | false ↦ k ]

pub level_of_lem : {u x : Work} → u ≡ x → {n : ℕ} → x.level < n → u.level < n
level_of_lem e {n} h = subst (λ (z : Work). z.level < n) (sym e) h

pub better_level : (L : Levels) (w : Work) (v : List ℕ) {n : ℕ} → w.level < n → {b : Work} → b ≡ better_of L w v → b.level < n
better_level L w v {n} h e = level_of_lem e (better_keeps (λ b. b.level < n) L w v h h)

pub better_tables : (L : Levels) (w : Work) (v : List ℕ) → FormedTables w.tables → {b : Work} → b ≡ better_of L w v → FormedTables b.tables
better_tables L w v h e = subst (λ (u : Work). FormedTables u.tables) (sym e) (better_keeps (λ b. FormedTables b.tables) L w v h h)

-- ---- an end, where it is known whether the core was recorded, is `finish_of`: beside the chain

pub finish_by : (L : Levels) (p : Phase) (w : Work) (v ms : List ℕ) (x : Turn) {b : Bool} → b ≡ records_of p x w.tables (length ms)
    → finished_of L p b (pick b (recorded_work w ms) w) v x ≡ finish_of L p w v ms x
finish_by L p w v ms x q = ap (λ (b : Bool). finished_of L p b (pick b (recorded_work w ms) w) v x) q ∙ by_phase p
  where
    by_room : (b : Bool) → finished_level L b (pick b (recorded_work w ms) w) v Without ≡ tried_work L w (pick b (tried (Ok tt) (recorded_tables w.tables w.stratum ms)) (tried (Err full_tables) w.tables))
    by_room true = refl
    by_room false = refl

    by_turn : (y : Turn) → finished_of L Level (records_of Level y w.tables (length ms)) (pick (records_of Level y w.tables (length ms)) (recorded_work w ms) w) v y ≡ finish_of L Level w v ms y
    by_turn Going = refl
    by_turn Without = by_room (core_fits w.tables.count (held_in w.tables) (length ms))
    by_turn Model = refl

    by_phase : (y : Phase) → finished_of L y (records_of y x w.tables (length ms)) (pick (records_of y x w.tables (length ms)) (recorded_work w ms) w) v x ≡ finish_of L y w v ms x
    by_phase First = refl
    by_phase Level = by_turn x
    by_phase Optimum = refl
    by_phase Incoherent = refl
    by_phase Full = refl
