-- Tables with one statement more. Assumes nothing.
use mathlib.Core.Path.{◌≡◌, refl, sym, ap, subst, ◌∙◌}
use mathlib.Core.Bool.{Bool, true, false, not}
use mathlib.Core.List.{List, [], ◌∷◌, ◌++◌}
use mathlib.Core.Logic.{⊎_elim}
use Prim.Native.Nat.{ℕ, ◌+◌, ◌<◌, ◌≤◌, max}
use native.Mathlib.Omega.{arith}
use lib.IntN.{ℤ, pos, nat_abs}
use lib.ListN.{length, get_or, set, length-set}
use lib.Seq.{get_or-set_same, get_or-set_other}
use Rattle.asp.specs.declared.rules.BodyKind.{BodyKind}
use Rattle.asp.specs.declared.rules.Row.{Row}
use Rattle.asp.specs.declared.entries.Entry.{Entry}
use Rattle.asp.specs.declared.symbols.SymbolRow.{SymbolRow}
use Rattle.asp.specs.Sets.{pick}
use Rattle.asp.specs.Literal.{one_signed}
use Rattle.asp.specs.Program.{choice, Symbol, highest}
use Rattle.asp.specs.Tables.{span, literals_at, atoms_at, is_choice, is_weighted, is_mixed, plain_head, pair_at, no_entry, entry_at, entries_of, no_row, row_at, rule_at, rules_of, no_symbol, symbol_row, symbol_at, symbols_of, named}
use Rattle.aspif_fields.specs.Fields.{got}
use Rattle.aspif_lines.specs.Text.{rule_line, minimise_line, symbol_line, insert, sum, head_size, body_size, rule_size, condition_size, name_size}
use Rattle.aspif_lines.specs.Seen.{body_from, RuleGood, bytes_at, entry_atom, entries_at, Kept}
use Rattle.aspif_lines.specs.declared.rule.RuleLine.{RuleLine}
use Rattle.aspif_tables.specs.Lists.{extra_places, row_end, RulesSound, RuleAdded, rule_counts, SymbolsSound, SymbolAdded, symbol_counts, MinimiseAdded, minimise_counts}
use Rattle.aspif_tables.specs.declared.table.Counts.{Counts}
use Rattle.aspif_fields.proofs.Tokens.{lt_or_le}
use Rattle.aspif_lines.proofs.Spans.{span_shift, span_same, span_append, span_snoc, span_length, literals_at_kept}
use Rattle.aspif_lines.proofs.Heads.{head_size_lem}

pub sum_snoc : {A : Type 0} (f : A → ℕ) (xs : List A) (x : A) → sum f (xs ++ (x ∷ [])) ≡ sum f xs + f x
unfolding sum
sum_snoc f [] x = omega arith
sum_snoc f (y ∷ ys) x = let e = sum_snoc f ys x in omega (arith, e)

-- u is t with x put at n
pub record Pushed {A : Type 0} (d : A) (n : ℕ) (x : A) (t u : List A) : Type 0 where
  pub kept : (j : ℕ) → j < n → get_or u j d ≡ get_or t j d
  pub here : get_or u n d ≡ x
  pub long : length u ≡ length t

pub pushed_set : {A : Type 0} (d : A) (n : ℕ) (x : A) (t : List A) → n < length t → Pushed d n x t (set t n x)
pushed_set d n x t h = record { kept = λ j m. get_or-set_other t n j x d (omega arith); here = get_or-set_same t n x d h; long = length-set t n x }

-- a table of n rows, as a function of the place, and one row more
pub span_grow : {A : Type 0} (f g : ℕ → A) (n : ℕ) (x : A) → ((j : ℕ) → j < n → g j ≡ f j) → g n ≡ x → span g 0 (n + 1) ≡ span f 0 n ++ (x ∷ [])
span_grow f g n x h e = let z : 0 + n ≡ n = omega arith in rw (span_snoc g 0 n, z, e, span_same g f 0 n (λ j l. h j (omega arith)))

-- ---- rules

-- the body of a rule that lies in the first n places
body_kept : (p q : List ℤ) (w : Bool) (n i k : ℕ) → Kept (pos 0) n p q → i + k + pick w (k + 1) 0 ≤ n → body_from q w i k ≡ body_from p w i k
body_kept p q false n i k h l = rw (literals_at_kept p q n i k h (omega arith))
body_kept p q true n i k h l =
    rw (
      h.same (i + k) (omega arith),
      span_shift (pair_at q (k + 1)) (pair_at p (k + 1)) i i k (λ j o. rw (h.same (i + j) (omega arith), h.same (i + j + (k + 1)) (omega arith))),
    )

-- the rule that a row says takes the places of its literals
row_size : (pool : List ℤ) (r : Row) → (is_choice r.head ≡ false → r.heads ≤ 1) → rule_size (rule_at pool r) ≡ r.heads + r.literals
row_size pool r one =
    let hs : List ℕ = atoms_at pool r.first r.heads in
    let h = by_head (is_choice r.head) hs (λ e. omega (arith, one e, span_length (λ (j : ℕ). named (get_or pool j (pos 0))) r.first r.heads)) in
    omega (arith, h, by_body (is_weighted r.body), span_length (λ (j : ℕ). named (get_or pool j (pos 0))) r.first r.heads)
  where
    by_head : (c : Bool) (xs : List ℕ) → (c ≡ false → length xs ≤ 1) → head_size (pick c (choice xs) (plain_head xs)) ≡ length xs
    by_head true xs h = refl
    by_head false xs h = head_size_lem false xs h

    by_body : (w : Bool) → body_size (body_from pool w (r.first + r.heads) r.literals) ≡ r.literals
    by_body true = span_length (pair_at pool (r.literals + 1)) (r.first + r.heads) r.literals
    by_body false = span_length (λ (j : ℕ). get_or pool j (pos 0)) (r.first + r.heads) r.literals

pub extra_few : (kind : BodyKind) (k : ℕ) → extra_places kind k ≤ k + 1
extra_few kind k = go (is_weighted kind)
  where
    go : (w : Bool) → pick w (k + 1) 0 ≤ k + 1
    go true = omega arith
    go false = omega arith

-- the kind of a weighted body says truly whether some atom stands with both signs
abbrev SignedRow : List ℤ → Row → Type 0
SignedRow pool r = is_weighted r.body ≡ true → is_mixed r.body ≡ not (one_signed (literals_at pool (r.first + r.heads) r.literals))

module _ (pool pool' : List ℤ) (rules rules' : List Row) (n : Counts) (line : RuleLine) (l : List ℕ)
    (sound : RulesSound pool rules n.rules n.used n.filled) (kept : Kept (pos 0) n.filled pool pool') (pushed : Pushed no_row n.rules line.row rules rules')
    (good : RuleGood pool' n.filled n.atoms line) where
  abbrev row : Row
  row = line.row

  rule_kept : (j : ℕ) → j < n.rules → rule_at pool' (row_at rules j) ≡ rule_at pool (row_at rules j)
  rule_kept j q =
      let inside = sound.inside j q in
      let r : Row = row_at rules j in
      rw (
        span_same (λ (i : ℕ). named (get_or pool' i (pos 0))) (λ (i : ℕ). named (get_or pool i (pos 0))) r.first r.heads (λ i w. ap named (kept.same i (omega arith))),
        body_kept pool pool' (is_weighted r.body) n.filled (r.first + r.heads) r.literals kept inside,
      )

  rules_grow : rules_of pool' rules' (n.rules + 1) ≡ rules_of pool rules n.rules ++ (rule_at pool' row ∷ [])
  rules_grow =
      span_grow (λ (j : ℕ). rule_at pool (row_at rules j)) (λ (j : ℕ). rule_at pool' (row_at rules' j)) n.rules (rule_at pool' row)
      (λ j q. ap (rule_at pool') (pushed.kept j q) ∙ rule_kept j q)
      (ap (rule_at pool') pushed.here)

  -- what is so of the rows before and of the new one
  each_row : (P : Row → Type 0) → ((j : ℕ) → j < n.rules → P (row_at rules j)) → P row → (j : ℕ) → j < n.rules + 1 → P (row_at rules' j)
  each_row P f h j q = ⊎_elim
      (λ b. subst P (sym (pushed.kept j b)) (f j b))
      (λ g. let e : j ≡ n.rules = omega arith in let d : row_at rules' j ≡ row = rw e pushed.here in subst P (sym d) h)
      (lt_or_le j n.rules)

  module _ (used filled : ℕ) (counted : used ≡ n.used + (row.heads + row.literals)) (taken : filled ≡ n.filled + (row.heads + row.literals + extra_places row.body row.literals)) where
    rules_sound : RulesSound pool' rules' (n.rules + 1) used filled
    rules_sound =
        record {
          inside = each_row (λ (r : Row). row_end r ≤ filled) (λ j b. omega (arith, sound.inside j b)) (omega (arith, good.first));
          single = each_row (λ (r : Row). is_choice r.head ≡ false → r.heads ≤ 1) sound.single good.single;
          signed = each_row (SignedRow pool')
              (λ j b w. sound.signed j b w ∙ ap (λ (ls : List ℤ). not (one_signed ls)) (sym (literals_at_kept pool pool' n.filled ((row_at rules j).first + (row_at rules j).heads) (row_at rules j).literals kept (omega (arith, sound.inside j b)))))
              good.signed;
          size = rw (rules_grow, sum_snoc rule_size (rules_of pool rules n.rules) (rule_at pool' row)) (omega (arith, sound.size, row_size pool' row good.single));
          room = omega (arith, sound.room, extra_few row.body row.literals);
        }

    pub rule_added : (end : ℕ) → got (rule_at pool' row) [] ≡ rule_line l → RuleAdded pool rules pool' rules' n end l (rule_counts n used filled line.top end)
    rule_added end e =
        record {
          read = rule_at pool' row;
          line = sym e;
          grown = rules_grow;
          sound = rules_sound;
          top = good.atoms;
          counts = refl;
          long_pool = kept.long;
          long_rules = pushed.long;
        }

-- ---- symbols, whose names are in the text

abbrev put_symbol : Counts → ℕ → ℕ → ℕ → SymbolRow
put_symbol n a m k = record { name = n.text + a; length = m; condition = n.conditions; literals = k }

module _ (text : List ℕ) (conditions conditions' : List ℤ) (symbols symbols' : List SymbolRow) (n : Counts) (end a m k t : ℕ) (s l : List ℕ)
    (sound : SymbolsSound text conditions symbols n.symbols n.conditions n.names n.text) (kept : Kept (pos 0) n.conditions conditions conditions')
    (pushed : Pushed no_symbol n.symbols (put_symbol n a m k) symbols symbols') (here : a + m ≤ length s) (ends : end ≡ n.text + length s + 1)
    (copied : (a m : ℕ) → a + m ≤ length s → bytes_at text (n.text + a) m ≡ bytes_at s a m) where
  abbrev symbol_read : Symbol
  symbol_read = record { name = bytes_at s a m; condition = literals_at conditions' n.conditions k }

  symbol_kept : (j : ℕ) → j < n.symbols → symbol_at text conditions' (symbol_row symbols j) ≡ symbol_at text conditions (symbol_row symbols j)
  symbol_kept j q =
      let i = sound.inside j q in
      rw (literals_at_kept conditions conditions' n.conditions (symbol_row symbols j).condition (symbol_row symbols j).literals kept (omega arith))

  symbols_grow : symbols_of text conditions' symbols' (n.symbols + 1) ≡ symbols_of text conditions symbols n.symbols ++ (symbol_read ∷ [])
  symbols_grow =
      span_grow (λ (j : ℕ). symbol_at text conditions (symbol_row symbols j)) (λ (j : ℕ). symbol_at text conditions' (symbol_row symbols' j)) n.symbols symbol_read
      (λ j q. ap (symbol_at text conditions') (pushed.kept j q) ∙ symbol_kept j q)
      (ap (symbol_at text conditions') pushed.here ∙ rw (copied a m here))

  symbols_sound : SymbolsSound text conditions' symbols' (n.symbols + 1) (n.conditions + k) (n.names + m) end
  symbols_sound =
      record {
        inside = λ j q. ⊎_elim
            (λ b. (omega (arith, sound.inside j b, ap (λ (r : SymbolRow). r.name + r.length) (pushed.kept j b)), omega (arith, sound.inside j b, ap (λ (r : SymbolRow). r.condition + r.literals) (pushed.kept j b))))
            (λ g. let e : j ≡ n.symbols = omega arith in rw e (omega (arith, ap (λ (r : SymbolRow). r.name + r.length) pushed.here), omega (arith, ap (λ (r : SymbolRow). r.condition + r.literals) pushed.here)))
            (lt_or_le j n.symbols);
        size = rw (symbols_grow, sum_snoc condition_size (symbols_of text conditions symbols n.symbols) symbol_read) (omega (arith, sound.size, span_length (λ (j : ℕ). get_or conditions' j (pos 0)) n.conditions k));
        length = rw (symbols_grow, sum_snoc name_size (symbols_of text conditions symbols n.symbols) symbol_read) (omega (arith, sound.length, span_length (λ (j : ℕ). get_or s j 0) a m));
      }

  pub symbol_added : got symbol_read [] ≡ symbol_line l → t ≡ max n.atoms (highest nat_abs (literals_at conditions' n.conditions k))
      → SymbolAdded text conditions symbols conditions' symbols' n end l (symbol_counts n (n.conditions + k) (n.names + m) t end)
  symbol_added e q =
      record {
        read = symbol_read;
        line = sym e;
        grown = symbols_grow;
        sound = symbols_sound;
        top = q;
        counts = refl;
        long_conditions = kept.long;
        long_symbols = pushed.long;
      }

-- ---- entries

module _ (es es' : List Entry) (levels levels' : List ℤ) (n : Counts) (k d t : ℕ) (q : ℤ) (l : List ℕ) (kept : Kept no_entry n.entries es es') where
  entries_grow : entries_of es' (n.entries + k) ≡ entries_of es n.entries ++ entries_at es' n.entries k
  entries_grow =
      let z : 0 + n.entries ≡ n.entries = omega arith in
      rw (span_append (entry_at es') 0 n.entries k, z, span_same (entry_at es') (entry_at es) 0 n.entries (λ j l. kept.same j (omega arith)))

  pub minimise_added : (end : ℕ) → got (record { priority = q; entries = entries_at es' n.entries k }) [] ≡ minimise_line l
      → t ≡ max n.atoms (highest entry_atom (entries_at es' n.entries k)) → literals_at levels' 0 d ≡ insert q (literals_at levels 0 n.levels) → length levels' ≡ length levels
      → MinimiseAdded es levels es' levels' n end l (minimise_counts n (n.entries + k) d t end)
  minimise_added end e u v w =
      record {
        read = record { priority = q; entries = entries_at es' n.entries k };
        line = sym e;
        grown = entries_grow;
        levelled = v;
        top = u;
        counts = refl;
        long_entries = kept.long;
        long_levels = w;
      }
