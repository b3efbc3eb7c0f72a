-- What a line leads to, by its kind and what its statement adds to the tables. Assumes nothing.
use mathlib.Core.Path.{◌≡◌, sym, ◌∙◌, subst}
use mathlib.Core.Bool.{true, false}
use mathlib.Core.List.{List, [], ◌∷◌, ◌++◌}
use Prim.Native.Nat.{ℕ, ◌+◌, ◌≤◌, max}
use native.Mathlib.Omega.{arith}
use lib.IntN.{ℤ, nat_abs}
use lib.ListN.{length, get_or}
use borrow.Author.Tests.{ne_eqb}
use Rattle.asp.specs.declared.rules.Row.{Row}
use Rattle.asp.specs.declared.entries.Entry.{Entry}
use Rattle.asp.specs.declared.symbols.SymbolRow.{SymbolRow}
use Rattle.asp.specs.Program.{Rule, Symbol, highest, rule_atoms}
use Rattle.asp.specs.Tables.{literals_at, symbol_row, symbol_at, symbols_of, program_of}
use Rattle.aspif_fields.specs.Fields.{Read, got, bad, bind, nil, number}
use Rattle.aspif_lines.specs.Text.{rule_line, minimise_line, symbol_line, Minimise, rule, minimise, symbol, comment, final, of_kind, statement, line, led, stepped_line, stop}
use Rattle.aspif_lines.specs.Seen.{entry_atom, bytes_at, Kept}
use Rattle.aspif_tables.specs.Lists.{Appended, SymbolsSound, RuleAdded, MinimiseAdded, SymbolAdded, final_counts, Lists, lists, Sized, tables, reading_of, SoundLists, turn_of}
use Rattle.aspif_tables.specs.declared.table.Counts.{Counts}
use Rattle.aspif_tables.specs.declared.line.LineTurn.{LineTurn}
use Rattle.aspif_tables.specs.declared.line.LineTurn.TheVariants.{Last, Goes}
use Rattle.std.proofs.Common.{Ok}
use Rattle.aspif_lines.proofs.Spans.{span_same, highest_snoc}
use Rattle.aspif_tables.proofs.Levels.{descending_insert}

highest_append : {A : Type 0} (f : A → ℕ) (xs ys : List A) → highest f (xs ++ ys) ≡ max (highest f xs) (highest f ys)
unfolding highest
highest_append f [] ys = omega arith
highest_append f (x ∷ xs) ys = omega (arith, highest_append f xs ys)

-- ---- the text grows, the symbols stay

module _ (text text' : List ℕ) (conditions : List ℤ) (symbols : List SymbolRow) (n used names end end' : ℕ)
    (sound : SymbolsSound text conditions symbols n used names end) (kept : Kept 0 end text text') (longer : end ≤ end') where
  symbols_same : symbols_of text' conditions symbols n ≡ symbols_of text conditions symbols n
  symbols_same =
      span_same (λ (j : ℕ). symbol_at text' conditions (symbol_row symbols j)) (λ (j : ℕ). symbol_at text conditions (symbol_row symbols j)) 0 n
      (λ j l. let i = sound.inside j (omega arith) in rw (span_same (λ (q : ℕ). get_or text' q 0) (λ (q : ℕ). get_or text q 0) (symbol_row symbols j).name (symbol_row symbols j).length (λ q w. kept.same q (omega arith))))

  symbols_stay : SymbolsSound text' conditions symbols n used names end'
  symbols_stay = record { inside = λ j l. let i = sound.inside j l in (omega arith, i.1); size = rw symbols_same sound.size; length = rw symbols_same sound.length }

bytes_kept : (t t' : List ℕ) (n : ℕ) → Kept 0 n t t' → bytes_at t' 0 n ≡ bytes_at t 0 n
bytes_kept t t' n k = span_same (λ (j : ℕ). get_or t' j 0) (λ (j : ℕ). get_or t j 0) 0 n (λ j l. k.same j (omega arith))

-- ---- the line s was put after the text, and its kind read

module _ {s : List ℕ} {t : Lists} {n : Counts} {text' : List ℕ} {end : ℕ} (sound : SoundLists t n) (put-in : Appended t.text text' n.text s end) where
  kept : Kept 0 n.text t.text text'
  kept = put-in.kept

  -- the tables with the new text
  abbrev put : Lists
  put = lists text' t.pool t.rules t.entries t.levels t.conditions t.symbols

  same : symbols_of text' t.conditions t.symbols n.symbols ≡ symbols_of t.text t.conditions t.symbols n.symbols
  same = symbols_same t.text text' t.conditions t.symbols n.symbols n.conditions n.names n.text end sound.symbols kept (omega arith)

  stay : SymbolsSound text' t.conditions t.symbols n.symbols n.conditions n.names end
  stay = symbols_stay t.text text' t.conditions t.symbols n.symbols n.conditions n.names n.text end sound.symbols kept (omega arith)

  pub symbol_ready : SymbolsSound text' t.conditions t.symbols n.symbols n.conditions n.names n.text
  symbol_ready = symbols_stay t.text text' t.conditions t.symbols n.symbols n.conditions n.names n.text n.text sound.symbols kept (omega arith)

  sized : Sized put
  sized = record { text = kept.long ∙ sound.sized.text; pool = sound.sized.pool; rules = sound.sized.rules; entries = sound.sized.entries; levels = sound.sized.levels; conditions = sound.sized.conditions; symbols = sound.sized.symbols }

  pub refused_line : (c : ℕ) → number 0 10 s ≡ bad c → stop c ≡ stepped_line s (reading_of t n)
  unfolding stepped_line statement
  refused_line c e = rw e

  module _ {kind : ℕ} {r : List ℕ} (num : number 0 10 s ≡ got kind r) where
    -- what a kind's line leads to
    kind_led : {x : Read _} → of_kind kind r ≡ x → stepped_line s (reading_of t n) ≡ led s (reading_of t n) x
    unfolding stepped_line statement
    kind_led e = rw (num, e)

    abbrev Leads : Lists → Counts → LineTurn → Type 0
    Leads u m a = (turn_of u m (Ok a) ≡ stepped_line s (reading_of t n)) × (SoundLists u m × (m.text ≤ n.text + length s + 1))

    pub leads_at : {u v : Lists} (m : Counts) (a : LineTurn) → u ≡ v → Leads v m a → Leads u m a
    leads_at {u} {v} m a e h = subst (λ (w : Lists). Leads w m a) (sym e) h

    -- ---- rules
    module _ (one : kind ≡ 1) where
      rule_kind : (x : Read Rule) → rule_line r ≡ x → of_kind kind r ≡ bind x (λ r l. got (rule r) l)
      unfolding of_kind
      rule_kind x e = rw (one, e)

      pub rule_goes : {pool' : List ℤ} {rules' : List Row} (m : Counts) → RuleAdded t.pool t.rules pool' rules' n end r m → Leads (lists text' pool' rules' t.entries t.levels t.conditions t.symbols) m Goes
      rule_goes {pool'} {rules'} m a =
          rw a.counts (
            rw (kind_led (rule_kind (got a.read []) a.line), a.grown, same, put-in.whole),
            (
              record {
                sized = record { text = sized.text; pool = a.long_pool ∙ sized.pool; rules = a.long_rules ∙ sized.rules; entries = sized.entries; levels = sized.levels; conditions = sized.conditions; symbols = sized.symbols };
                rules = a.sound;
                symbols = stay;
                levels = sound.levels;
                atoms = rw (a.grown, same) (omega (arith, a.top, sound.atoms, highest_snoc rule_atoms (program_of (tables t n)).rules a.read));
              },
              omega arith,
            ),
          )

      pub rule_stops : (c : ℕ) → rule_line r ≡ bad c → stop c ≡ stepped_line s (reading_of t n)
      rule_stops c e = sym (kind_led (rule_kind (bad c) e))

    -- ---- minimise lines
    module _ (two : kind ≡ 2) where
      minimise_kind : (x : Read Minimise) → minimise_line r ≡ x → of_kind kind r ≡ bind x (λ m l. got (minimise m.priority m.entries) l)
      unfolding of_kind
      minimise_kind x e = rw (two, e)

      pub minimise_goes : {entries' : List Entry} {levels' : List ℤ} (m : Counts) → MinimiseAdded t.entries t.levels entries' levels' n end r m → Leads (lists text' t.pool t.rules entries' levels' t.conditions t.symbols) m Goes
      minimise_goes {entries'} {levels'} m a =
          rw a.counts (
            rw (kind_led (minimise_kind (got a.read []) a.line), a.grown, a.levelled, same, put-in.whole),
            (
              record {
                sized = record { text = sized.text; pool = sized.pool; rules = sized.rules; entries = a.long_entries ∙ sized.entries; levels = a.long_levels ∙ sized.levels; conditions = sized.conditions; symbols = sized.symbols };
                rules = sound.rules;
                symbols = stay;
                levels = rw a.levelled (descending_insert a.read.priority (literals_at t.levels 0 n.levels) sound.levels);
                atoms = rw (a.grown, same) (omega (arith, a.top, sound.atoms, highest_append entry_atom (program_of (tables t n)).entries a.read.entries));
              },
              omega arith,
            ),
          )

      pub minimise_stops : (c : ℕ) → minimise_line r ≡ bad c → stop c ≡ stepped_line s (reading_of t n)
      minimise_stops c e = sym (kind_led (minimise_kind (bad c) e))

    -- ---- symbols
    module _ (four : kind ≡ 4) where
      symbol_kind : (x : Read Symbol) → symbol_line r ≡ x → of_kind kind r ≡ bind x (λ s l. got (symbol s) l)
      unfolding of_kind
      symbol_kind x e = rw (four, e)

      pub symbol_goes : {conditions' : List ℤ} {symbols' : List SymbolRow} (m : Counts) → SymbolAdded text' t.conditions t.symbols conditions' symbols' n end r m → Leads (lists text' t.pool t.rules t.entries t.levels conditions' symbols') m Goes
      symbol_goes {conditions'} {symbols'} m a =
          let grown = rw same at a.grown in
          rw a.counts (
            rw (kind_led (symbol_kind (got a.read []) a.line), grown, put-in.whole),
            (
              record {
                sized = record { text = sized.text; pool = sized.pool; rules = sized.rules; entries = sized.entries; levels = sized.levels; conditions = a.long_conditions ∙ sized.conditions; symbols = a.long_symbols ∙ sized.symbols };
                rules = sound.rules;
                symbols = a.sound;
                levels = sound.levels;
                atoms = rw grown (omega (arith, a.top, sound.atoms, highest_snoc (λ (s : Symbol). highest nat_abs s.condition) (program_of (tables t n)).symbols a.read));
              },
              omega arith,
            ),
          )

      pub symbol_stops : (c : ℕ) → symbol_line r ≡ bad c → stop c ≡ stepped_line s (reading_of t n)
      symbol_stops c e = sym (kind_led (symbol_kind (bad c) e))

    -- ---- the other kinds
    put_sound : SoundLists put (final_counts n end)
    put_sound = record { sized = sized; rules = sound.rules; symbols = stay; levels = sound.levels; atoms = rw same sound.atoms }

    kept_sound : SoundLists put n
    kept_sound = record { sized = sized; rules = sound.rules; symbols = symbol_ready; levels = sound.levels; atoms = rw same sound.atoms }

    pub final_leads : kind ≡ 0 → nil r ≡ true → Leads put (final_counts n end) Last
    unfolding of_kind
    final_leads z e = (rw (kind_led {x = got final []} (rw (z, e)), same, put-in.whole), (put_sound, omega arith))

    pub final_stops : kind ≡ 0 → nil r ≡ false → stop 2 ≡ stepped_line s (reading_of t n)
    unfolding of_kind
    final_stops z e = sym (kind_led {x = bad 2} (rw (z, e)))

    pub comment_leads : kind ≡ 10 → Leads put n Goes
    unfolding of_kind
    comment_leads z = (rw (kind_led {x = got comment []} (rw z), same, bytes_kept t.text text' n.text kept), (kept_sound, omega arith))

    pub unread_stops : (kind ≡ 0 → ⊥) → (kind ≡ 1 → ⊥) → (kind ≡ 2 → ⊥) → (kind ≡ 4 → ⊥) → (kind ≡ 10 → ⊥) → stop 3 ≡ stepped_line s (reading_of t n)
    unfolding of_kind
    unread_stops no0 no1 no2 no4 no10 = sym (kind_led {x = bad 3} (rw (ne_eqb kind 0 no0, ne_eqb kind 1 no1, ne_eqb kind 2 no2, ne_eqb kind 4 no4, ne_eqb kind 10 no10)))
