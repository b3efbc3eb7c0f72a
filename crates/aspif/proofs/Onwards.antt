-- From a line to the next: its byte 10, what follows it, the limits. Assumes nothing.
use mathlib.Core.Path.{◌≡◌, refl, sym, ◌∙◌}
use mathlib.Core.Bool.{Bool, true, false, and-eq-true_iff}
use mathlib.Core.List.{List, [], ◌∷◌}
use Prim.Native.Nat.{ℕ, suc, ◌+◌, ◌≤◌}
use native.Mathlib.Omega.{arith}
use lib.Dec.{eqb, leb}
use lib.IntN.{pos}
use lib.ListN.{length, get_or}
use borrow.Author.Tests.{ne_eqb, leb-true}
use Rattle.asp.specs.Sets.{pick}
use Rattle.asp.specs.Tables.{rule_at, symbol_at, entry_at, row_at, symbol_row}
use Rattle.aspif_lines.specs.Text.{pieces, longer, nothing, judged_line, lines, stepped_line, fits, limits, Reading, stop, last, goes, Answer, accepted, refused}
use Rattle.aspif_tables.specs.Lists.{Within, Lists, reading_of, SoundLists, turn_of, lists_of, followed, SplitLong, Sound, reading_in}
use Rattle.aspif_tables.specs.declared.table.Stored.{Stored}
use Rattle.aspif_tables.specs.declared.line.LineTurn.{LineTurn}
use Rattle.aspif_tables.specs.declared.line.LineTurn.TheVariants.{Last, Goes}
use Rattle.std.proofs.Common.{Option, Some, None, Result, Ok, Err}
use Rattle.std.specs.Borrow.{Bor}
use Rattle.aspif_fields.specs.declared.refusal.Refusal.TheVariants.{Malformed, PastLimit}
use Rattle.aspif.specs.declared.text.RefusedAt.{RefusedAt}
use Rattle.aspif.specs.Store.{onward_of, seen_onward, OnwardAfter}
use Rattle.aspif_tables.specs.declared.table.Counts.{Counts}
use Rattle.aspif_lines.proofs.Spans.{span_length}

pub pieces_some : (s : List ℕ) → pieces s ≡ [] → ⊥
unfolding pieces
pieces_some [] e = let z : ◌≡◌ {A = ℕ} 0 1 = cc in omega arith
pieces_some (b ∷ s) e = go (eqb b 10) (pieces s) (pieces_some s) e
  where
    go : (t : Bool) (ps : List (List ℕ)) → (ps ≡ [] → ⊥) → pick t ([] ∷ ps) (longer b ps) ≡ [] → ⊥
    go true ps h q = let z : ◌≡◌ {A = ℕ} 0 1 = cc in omega arith
    go false [] h q = h refl
    go false (x ∷ xs) h q = let z : ◌≡◌ {A = ℕ} 0 1 = cc in omega arith

pub nothing_more : (b : ℕ) (s : List ℕ) → nothing (pieces (b ∷ s)) ≡ false
unfolding pieces
nothing_more b s = go (eqb b 10) (pieces s) (pieces_some s)
  where
    go : (t : Bool) (ps : List (List ℕ)) → (ps ≡ [] → ⊥) → nothing (pick t ([] ∷ ps) (longer b ps)) ≡ false
    go t [] h = absurd (h refl)
    go true (x ∷ xs) h = refl
    go false (x ∷ xs) h = refl

-- nothing follows at the end of the text, and only there
pub nothing_ends : (t : List ℕ) → nothing (pieces t) ≡ eqb (length t) 0
unfolding pieces
nothing_ends [] = refl
nothing_ends (b ∷ t) = nothing_more b t ∙ sym (ne_eqb (suc (length t)) 0 (omega arith))

-- there is a piece after a byte 10
pub goes_on : (m : ℕ) (q : Reading) (go : Reading → Answer) (ps : List (List ℕ)) → (ps ≡ [] → ⊥) → judged_line m ps (goes q) go ≡ pick (fits q.program) (go q) (refused 5 m)
goes_on m q go [] h = absurd (h refl)
goes_on m q go (x ∷ xs) h = refl

pub last_on : (m : ℕ) (q : Reading) (go : Reading → Answer) (ps : List (List ℕ)) → (ps ≡ [] → ⊥) → judged_line m ps (last q) go ≡ pick (nothing ps) (accepted q.program q.text) (refused 2 (m + 1))
last_on m q go [] h = absurd (h refl)
last_on m q go (x ∷ xs) h = refl

-- ---- the limits by the counts

pub limits_within : (n : Counts) → limits n.rules n.used n.entries n.levels n.symbols n.conditions n.names ≡ true → Within n
limits_within n e =
    let names = (and-eq-true_iff _ (leb n.names 16384)).0 e in
    let conditions = (and-eq-true_iff _ (leb n.conditions 2048)).0 names.0 in
    let symbols = (and-eq-true_iff _ (leb n.symbols 512)).0 conditions.0 in
    let levels = (and-eq-true_iff _ (leb n.levels 8)).0 symbols.0 in
    let entries = (and-eq-true_iff _ (leb n.entries 512)).0 levels.0 in
    let used = (and-eq-true_iff (leb n.rules 2048) (leb n.used 16384)).0 entries.0 in
    record {
      rules = leb-true n.rules 2048 used.0;
      used = leb-true n.used 16384 used.1;
      entries = leb-true n.entries 512 entries.1;
      levels = leb-true n.levels 8 levels.1;
      symbols = leb-true n.symbols 512 symbols.1;
      conditions = leb-true n.conditions 2048 conditions.1;
      names = leb-true n.names 16384 names.1;
    }

pub fits_of : (t : Lists) (n : Counts) → SoundLists t n → limits n.rules n.used n.entries n.levels n.symbols n.conditions n.names ≡ fits (reading_of t n).program
unfolding fits
fits_of t n h =
    rw (
      span_length (λ (j : ℕ). rule_at t.pool (row_at t.rules j)) 0 n.rules,
      h.rules.size,
      span_length (entry_at t.entries) 0 n.entries,
      span_length (λ (j : ℕ). get_or t.levels j (pos 0)) 0 n.levels,
      span_length (λ (j : ℕ). symbol_at t.text t.conditions (symbol_row t.symbols j)) 0 n.symbols,
      h.symbols.size,
      h.symbols.length,
    )

-- ---- the line l of the text s, read with p before it

module _ (s l : List ℕ) (p : Reading) (m : ℕ) where
  pub on_stop : {ls : List (List ℕ)} (c : ℕ) → pieces s ≡ l ∷ ls → stop c ≡ stepped_line l p → refused c m ≡ lines m p (pieces s)
  unfolding lines
  on_stop c cut e = rw (cut, ← e)

  -- without its byte 10
  pub on_last_cut : (q : Reading) → pieces s ≡ l ∷ [] → last q ≡ stepped_line l p → refused 2 m ≡ lines m p (pieces s)
  unfolding lines
  on_last_cut q cut e = rw (cut, ← e)

  pub on_goes_cut : (q : Reading) → pieces s ≡ l ∷ [] → goes q ≡ stepped_line l p → refused 2 m ≡ lines m p (pieces s)
  unfolding lines
  on_goes_cut q cut e = rw (cut, ← e)

  pub on_cut : (u : Lists) (n : Counts) (a : LineTurn) → pieces s ≡ l ∷ [] → turn_of u n (Ok a) ≡ stepped_line l p → refused 2 m ≡ lines m p (pieces s)
  on_cut u n Last cut e = on_last_cut (reading_of u n) cut e
  on_cut u n Goes cut e = on_goes_cut (reading_of u n) cut e

  -- with its byte 10, and t after it
  module _ (t : List ℕ) (q : Reading) (cut : pieces s ≡ l ∷ pieces t) where
    pub on_last : (b : Bool) → b ≡ eqb (length t) 0 → last q ≡ stepped_line l p → pick b (accepted q.program q.text) (refused 2 (m + 1)) ≡ lines m p (pieces s)
    unfolding lines
    on_last b h e = rw (cut, ← e, last_on m q (λ (w : Reading). lines (m + 1) w (pieces t)) (pieces t) (pieces_some t), h, nothing_ends t)

    pub on_next : goes q ≡ stepped_line l p → fits q.program ≡ true → lines (m + 1) q (pieces t) ≡ lines m p (pieces s)
    unfolding lines
    on_next e f = rw (cut, ← e, goes_on m q (λ (w : Reading). lines (m + 1) w (pieces t)) (pieces t) (pieces_some t), f)

    pub on_full : goes q ≡ stepped_line l p → fits q.program ≡ false → refused 5 m ≡ lines m p (pieces s)
    unfolding lines
    on_full e f = rw (cut, ← e, goes_on m q (λ (w : Reading). lines (m + 1) w (pieces t)) (pieces t) (pieces_some t), f)

-- what line m and what follows it lead to is what the whole text leads to, from that line on
module _ (s l : List ℕ) (p : Reading) (m k : ℕ) (q : Stored) (sound : Sound q) (text : q.counts.text ≤ k + length l + 1) where
  abbrev Onwards : Result (Option (Bor (List ℕ))) RefusedAt → Type 0
  Onwards r = (seen_onward q m r ≡ lines m p (pieces s)) × OnwardAfter q m (length s) k r

  pub onward_leads : (t : LineTurn) (after : Option (Bor (List ℕ))) → pieces s ≡ l ∷ followed after → SplitLong (length s) (length l) after → turn_of (lists_of q) q.counts (Ok t) ≡ stepped_line l p
      → Onwards (onward_of t after q.counts m)
  onward_leads t None cut long e = (on_cut s l p m (lists_of q) q.counts t cut e, (omega arith, omega arith))
  onward_leads Last (Some r) cut long e = go (eqb (length r.now) 0) refl
    where
      go : (b : Bool) → b ≡ eqb (length r.now) 0 → Onwards (pick b (Ok None) (Err (record { refusal = Malformed; line = m + 1 })))
      go true h = (on_last s l p m r.now (reading_in q) cut true h e, sound)
      go false h = (on_last s l p m r.now (reading_in q) cut false h e, (omega arith, omega arith))
  onward_leads Goes (Some r) cut long e = go (limits q.counts.rules q.counts.used q.counts.entries q.counts.levels q.counts.symbols q.counts.conditions q.counts.names) refl
    where
      go : (b : Bool) → limits q.counts.rules q.counts.used q.counts.entries q.counts.levels q.counts.symbols q.counts.conditions q.counts.names ≡ b → Onwards (pick b (Ok (Some r)) (Err (record { refusal = PastLimit; line = m })))
      go true h = (on_next s l p m r.now (reading_in q) cut e (sym (fits_of (lists_of q) q.counts sound) ∙ h), (sound, limits_within q.counts h, omega arith, omega arith))
      go false h = (on_full s l p m r.now (reading_in q) cut e (sym (fits_of (lists_of q) q.counts sound) ∙ h), (omega arith, omega arith))

-- the lines before these are read, and line m is next
pub record ReadUpTo (p₀ p : Stored) (s₀ s : List ℕ) (m : ℕ) : Type 0 where
  pub left : lines m (reading_in p) (pieces s) ≡ lines 2 (reading_in p₀) (pieces s₀)
  pub sound : Sound p
  pub within : Within p.counts
  pub room : p.counts.text + length s ≤ 65536
  pub line : m + length s ≤ 65538
