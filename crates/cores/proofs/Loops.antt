-- What holds in the loops that fill and change the tables: one record for each loop, and its laws. Assumes nothing.
use mathlib.Core.Path.{◌≡◌, refl, sym, ap, ap₂, ◌∙◌}
use mathlib.Core.Bool.{Bool, true, false, ◌&&◌}
use mathlib.Core.List.{List, [], ◌∷◌, ◌++◌}
use Prim.Native.Nat.{ℕ, suc, ◌+◌, ◌-◌, ◌≤◌, ◌<◌}
use native.Mathlib.Numerals.{add-one}
use native.Mathlib.Nat.{add-zero}
use native.Mathlib.Omega.{arith}
use lib.Dec.{ltb, leb, leb→le}
use mir.Facts.{and_yes}
use lib.IntN.{ℤ, pos, nat_abs}
use lib.ListN.{length, get_or, set, take, drop, length-set, drop_of_length-le}
use lib.Seq.{drop-cons, sets}
use borrow.Rule.Slice.PartMut.{put_mid}
use Rattle.std.proofs.Common.{append_assoc, drop-drop}
use Rattle.std.proofs.lemmas.List.{at_drop_more, at_drop_all}
use Rattle.std.proofs.lemmas.List.Edits.{sets-eq}
use Rattle.asp.specs.declared.entries.Entry.{Entry}
use Rattle.asp.specs.Sets.{pick}
use Rattle.asp.specs.Literal.{same_ℤ}
use Rattle.asp.specs.Cost.{level}
use Rattle.asp.specs.Penalty.{Penalty, paid_literal, penalties}
use Rattle.asp.specs.Tables.{no_entry, entry_at}
use Rattle.cores.specs.declared.soft.Soft.{Soft}
use Rattle.cores.specs.declared.level.LevelTables.{LevelTables}
use Rattle.cores.specs.Level.{weighty, core_fits}
use Rattle.cores.specs.Tables.{no_soft, entry_soft, core_soft, lighter_by, lighten, new_softs, softs_of, opened_tables, weighs_on, soft_of, held_in, Counted, Room}

-- ---- a free place

pub free_is : (r : Soft) → r.literal ≡ pos 0 → r.core ≡ 0 → r.index ≡ 0 → r.weight ≡ 0 → r ≡ no_soft
free_is r a b c d =
    ap₂ (λ (l : ℤ) (j : ℕ). record { literal = l; core = j; index = r.index; weight = r.weight }) a b
    ∙ ap₂ (λ (i w : ℕ). record { literal = pos 0; core = 0; index = i; weight = w }) c d

-- ---- each member loses s

pub record Losing (s : ℕ) (ms : List ℕ) (t₀ t : List Soft) (i : ℕ) : Type 0 where
  pub long : length t ≡ length t₀
  pub below : i ≤ length ms
  pub rest : lighten s (drop i ms) t ≡ lighten s ms t₀

lighten_next : (s : ℕ) (t : List Soft) (ms : List ℕ) (i : ℕ) → i < length ms
    → lighten s (drop i ms) t ≡ lighten s (drop (i + 1) ms) (set t (get_or ms i 0) (lighter_by s (get_or t (get_or ms i 0) no_soft)))
unfolding lighten
lighten_next s t ms i h = rw (add-one, drop-cons ms i 0)

module _ {s : ℕ} {ms : List ℕ} {t₀ t : List Soft} {i : ℕ} where
  pub lose_next : Losing s ms t₀ t i → i < length ms → {m : ℕ} → m ≡ get_or ms i 0 → {x : Soft} → x ≡ lighter_by s (get_or t m no_soft) → Losing s ms t₀ (set t m x) (i + 1)
  lose_next l h {m} e {x} q = record {
    long = rw length-set l.long;
    below = omega arith;
    rest = rw (q, e) (sym (lighten_next s t ms i h) ∙ l.rest);
  }

  pub lose_end : Losing s ms t₀ t i → length ms ≤ i → t ≡ lighten s ms t₀
  unfolding lighten
  lose_end l h = rw (drop_of_length-le ms {i = i} h) at l.rest

-- ---- new soft literals of a core

pub record Adding (j n s k : ℕ) (t₀ t : List Soft) (i : ℕ) : Type 0 where
  pub long : length t ≡ length t₀
  pub below : i ≤ n
  pub rest : sets t (k + i) (new_softs j (1 + i) (n - i) s) ≡ sets t₀ k (new_softs j 1 n s)

add_step : (j n s k : ℕ) (t : List Soft) (i m : ℕ) → n - i ≡ suc m
    → sets t (k + i) (new_softs j (1 + i) (n - i) s) ≡ sets (set t (k + i) (core_soft j (i + 1) s)) (k + (i + 1)) (new_softs j (1 + (i + 1)) (n - (i + 1)) s)
unfolding new_softs
add_step j n s k t i m e =
    let f : n - (i + 1) ≡ m = omega arith in
    let a : 1 + i ≡ i + 1 = omega arith in
    let b : suc (k + i) ≡ k + (i + 1) = omega arith in
    let d : i + 1 + 1 ≡ 1 + (i + 1) = omega arith in
    rw (e, f, a, b, d)

module _ {j n s k : ℕ} {t₀ t : List Soft} {i : ℕ} where
  pub add_next : Adding j n s k t₀ t i → i < n → {x : Soft} → x ≡ core_soft j (i + 1) s → Adding j n s k t₀ (set t (k + i) x) (i + 1)
  add_next l h {x} q = record {
    long = rw length-set l.long;
    below = omega arith;
    rest = rw q (sym (add_step j n s k t i (n - (i + 1)) (omega arith)) ∙ l.rest);
  }

  pub add_end : Adding j n s k t₀ t i → n ≤ i → t ≡ sets t₀ k (new_softs j 1 n s)
  unfolding new_softs
  add_end l h = let e : n - i ≡ 0 = omega arith in rw e at l.rest

-- ---- a list is put from place k on

pub put_part : (l : List ℕ) (k : ℕ) (xs : List ℕ) {ys : List ℕ} → ys ≡ xs → k + length xs ≤ length l → put_mid k (k + length xs - k) l ys ≡ sets l k xs
put_part l k xs e h =
    let n : k + length xs - k ≡ length xs = omega arith in
    rw (e, n) (ap (λ (r : List ℕ). take k l ++ (xs ++ r)) (drop-drop (length xs) k l) ∙ sym (append_assoc (take k l) xs (drop (k + length xs) l)) ∙ sym (sets-eq xs l k h))

-- ---- opening a level

-- the soft literals of a level, entry by entry
softs_cons : (q : ℤ) (e : Entry) (es : List Entry)
    → softs_of (penalties (level q (e ∷ es)))
    ≡ pick (same_ℤ q e.priority && ltb 0 (nat_abs e.weight)) (entry_soft (paid_literal e.literal e.weight) (nat_abs e.weight) ∷ softs_of (penalties (level q es))) (softs_of (penalties (level q es)))
unfolding level weighty
softs_cons q e es = go (same_ℤ q e.priority) (ltb 0 (nat_abs e.weight)) refl
  where
    go : (a b : Bool) → ltb 0 (nat_abs e.weight) ≡ b
        → softs_of (penalties (pick a (e ∷ level q es) (level q es)))
        ≡ pick (a && b) (entry_soft (paid_literal e.literal e.weight) (nat_abs e.weight) ∷ softs_of (penalties (level q es))) (softs_of (penalties (level q es)))
    go false b f = refl
    go true true f = rw f
    go true false f = rw f

-- the entries es still to come, at place k on
abbrev opened_from : LevelTables → ℕ → List Penalty → LevelTables
opened_from t k es = record {
  softs = sets t.softs k (softs_of es);
  members = t.members;
  ends = t.ends;
  count = k + length (softs_of es);
  cores = t.cores;
  lower = t.lower;
}

module _ (es : List Entry) (q : ℤ) where
  pub record Opening (t : LevelTables) (i : ℕ) : Type 0 where
    pub few : t.count ≤ i
    pub rest : opened_from t t.count (penalties (level q (drop i es))) ≡ opened_tables (penalties (level q es))

  softs_next : (i : ℕ) → i < length es
      → softs_of (penalties (level q (drop i es)))
      ≡ pick (weighs_on q (entry_at es i)) (soft_of (entry_at es i) ∷ softs_of (penalties (level q (drop (i + 1) es)))) (softs_of (penalties (level q (drop (i + 1) es))))
  softs_next i h = at_drop_more (λ (xs : List Entry). softs_of (penalties (level q xs))) es i no_entry h ∙ softs_cons q (entry_at es i) (drop (i + 1) es)

-- a soft literal is put at k
abbrev put_soft : LevelTables → ℕ → Soft → LevelTables
put_soft t k x = record { softs = set t.softs k x; members = t.members; ends = t.ends; count = k + 1; cores = t.cores; lower = t.lower }

from_put : (t : LevelTables) (k : ℕ) (x : Soft) (es fs : List Penalty) → softs_of es ≡ x ∷ softs_of fs → opened_from t k es ≡ opened_from (put_soft t k x) (k + 1) fs
from_put t k x es fs e =
    ap (λ (xs : List Soft). record { softs = sets t.softs k xs; members = t.members; ends = t.ends; count = k + length xs; cores = t.cores; lower = t.lower }) e
    ∙ ap₂ (λ (a b : ℕ). record { softs = sets (set t.softs k x) a (softs_of fs); members = t.members; ends = t.ends; count = b; cores = t.cores; lower = t.lower })
    (sym (add-one k)) (omega arith)

from_skip : (t : LevelTables) (k : ℕ) (es fs : List Penalty) → softs_of es ≡ softs_of fs → opened_from t k es ≡ opened_from t k fs
from_skip t k es fs e =
    ap (λ (xs : List Soft). record { softs = sets t.softs k xs; members = t.members; ends = t.ends; count = k + length xs; cores = t.cores; lower = t.lower }) e

from_none : (t : LevelTables) (k : ℕ) → opened_from t k [] ≡ record { softs = t.softs; members = t.members; ends = t.ends; count = k; cores = t.cores; lower = t.lower }
unfolding weighty
from_none t k = ap (λ (a : ℕ). record { softs = t.softs; members = t.members; ends = t.ends; count = a; cores = t.cores; lower = t.lower }) (add-zero k)

module _ {es : List Entry} {q : ℤ} {t : LevelTables} {i : ℕ} where
  pub open_put : Opening es q t i → i < length es → weighs_on q (entry_at es i) ≡ true
      → {x : Soft} → x ≡ soft_of (entry_at es i) → {t₁ : LevelTables} → t₁ ≡ put_soft t t.count x → Opening es q t₁ (i + 1)
  open_put o h c {x} f et = rw et (record {
    few = omega (arith, o.few);
    rest = let g = rw c at (softs_next es q i h) in sym (from_put t t.count x _ _ (rw f g)) ∙ o.rest;
  })

  -- the same, from what the call that puts it says of the table
  pub open_put_at : Opening es q t i → i < length es → weighs_on q (entry_at es i) ≡ true
      → {x : Soft} → x ≡ soft_of (entry_at es i) → {xs : List Soft} → xs ≡ set t.softs t.count x
      → {t₁ : LevelTables} → t₁ ≡ record { softs = xs; members = t.members; ends = t.ends; count = t.count + 1; cores = t.cores; lower = t.lower } → Opening es q t₁ (i + 1)
  open_put_at o h c f ex et = open_put o h c f (rw ex at et)

  pub open_skip : Opening es q t i → i < length es → weighs_on q (entry_at es i) ≡ false
      → {t₁ : LevelTables} → t₁ ≡ t → Opening es q t₁ (i + 1)
  open_skip o h c et = rw et (record {
    few = omega (arith, o.few);
    rest = let g = rw c at (softs_next es q i h) in sym (from_skip t t.count _ _ g) ∙ o.rest;
  })

  pub open_stop : Opening es q t i → length es ≤ i → t ≡ opened_tables (penalties (level q es))
  unfolding level
  open_stop o h = sym (from_none t t.count) ∙ (rw (at_drop_all (λ (xs : List Entry). opened_from t t.count (penalties (level q xs))) es i h) at o.rest)

-- ---- recording a core: whether there is room

module _ (t : LevelTables) (s : ℕ) (ms : List ℕ) where
  pub try_room : Counted t (length ms) → {h : ℕ} → h ≡ get_or t.ends t.cores 0 → {b : Bool} → b ≡ core_fits t.count h (length ms) → b ≡ true → Room t (length ms)
  try_room c {h} eh {b} eb q =
      let f : core_fits t.count (held_in t) (length ms) ≡ true = rw eh at (sym eb ∙ q) in
      let g = and_yes (leb (t.count + (length ms - 1)) 4096) (leb (held_in t + length ms) 4096) (rw f tt) in
      record {
        counted = c;
        softs = leb→le (t.count + (length ms - 1)) 4096 g.0;
        members = leb→le (held_in t + length ms) 4096 g.1;
      }
