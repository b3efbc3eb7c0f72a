-- What the answers of the code's readers mean. Assumes nothing: these are definitions.
use Rattle.std.specs.Prelude.{◌≡◌, Bool, true, false, not, List, [], ◌∷◌, map, ℕ, ◌+◌, ◌≤◌, ◌<◌, max, ℤ, pos, nat_abs, length, get_or, Result, IfOk}
use Rattle.asp.specs.declared.rules.HeadKind.{HeadKind}
use Rattle.asp.specs.declared.rules.BodyKind.{BodyKind}
use Rattle.asp.specs.declared.rules.Row.{Row}
use Rattle.asp.specs.declared.entries.Entry.{Entry}
use Rattle.asp.specs.Sets.{pick}
use Rattle.asp.specs.Literal.{one_signed}
use Rattle.asp.specs.Program.{Body, normal, weighted, Rule, Symbol, highest, body_atoms, rule_atoms}
use Rattle.asp.specs.Tables.{span, literals_at, is_choice, is_weighted, is_mixed, pairs_at, rule_at, entry_at, named}
use Rattle.aspif_fields.specs.SeenFields.{read}
use Rattle.aspif_fields.specs.declared.refusal.Refusal.{Refusal}
use Rattle.aspif_lines.specs.Text.{member_field, Minimise, pieces}
use Rattle.aspif_lines.specs.declared.body.BodyPart.{BodyPart}
use Rattle.aspif_lines.specs.declared.rule.RuleLine.{RuleLine}
use Rattle.aspif_lines.specs.declared.minimise.MinimiseLine.{MinimiseLine}
use Rattle.aspif_lines.specs.declared.symbol.SymbolLine.{SymbolLine}

-- ---- lists of literals in a pool

-- the elements below n are as before, and so is the length
pub record Kept {A : Type 0} (d : A) (n : ℕ) (xs ys : List A) : Type 0 where
  pub same : (j : ℕ) → j < n → get_or ys j d ≡ get_or xs j d
  pub long : length ys ≡ length xs

-- one member was read: a head's atom, or a body's literal
pub record MemberRead (head : Bool) (r : Result ℤ Refusal) (l rest : List ℕ) : Type 0 where
  pub answer : read r rest ≡ member_field head l
  pub range : IfOk r (λ z. nat_abs z ≤ 1024)

-- ---- rules

-- the literals' atoms are those that they name: none is negative
pub record Positive (ls : List ℤ) : Type 0 where
  pub positive : highest nat_abs ls ≡ highest (λ (a : ℕ). a) (map named ls)

-- the body of k literals from i on
abbrev pub body_from : List ℤ → Bool → ℕ → ℕ → Body
body_from pool w i k = pick w (weighted (nat_abs (get_or pool (i + k) (pos 0))) (pairs_at pool (k + 1) i k)) (normal (literals_at pool i k))

-- the body that stands in the pool from i on
abbrev pub body_in : List ℤ → ℕ → BodyPart → Body
body_in pool i b = body_from pool (is_weighted b.kind) i b.count

-- how many literals it has, whether some atom of a weighted one stands with both signs, and the highest atom so far
pub record BodyGood (pool : List ℤ) (i top : ℕ) (b : BodyPart) : Type 0 where
  pub few : b.count ≤ 1024
  pub signed : is_weighted b.kind ≡ true → is_mixed b.kind ≡ not (one_signed (literals_at pool i b.count))
  pub atoms : b.top ≡ max top (body_atoms (body_in pool i b))

-- the row of a rule whose m head atoms and k body literals stand in the pool from i on
abbrev pub rule_row : HeadKind → BodyKind → ℕ → ℕ → ℕ → Row
rule_row h b i m k = record { head = h; body = b; first = i; heads = m; literals = k }

-- the rule whose row was read
abbrev pub rule_in : List ℤ → RuleLine → Rule
rule_in pool r = rule_at pool r.row

-- its row is small, stands in the pool from i on and says what it has to, and the highest atom so far
pub record RuleGood (pool : List ℤ) (i top : ℕ) (r : RuleLine) : Type 0 where
  pub first : r.row.first ≡ i
  pub heads : r.row.heads ≤ 1024
  pub literals : r.row.literals ≤ 1024
  pub single : is_choice r.row.head ≡ false → r.row.heads ≤ 1
  pub signed : is_weighted r.row.body ≡ true → is_mixed r.row.body ≡ not (one_signed (literals_at pool (r.row.first + r.row.heads) r.row.literals))
  pub atoms : r.top ≡ max top (rule_atoms (rule_at pool r.row))

-- ---- entries

abbrev pub entry_atom : Entry → ℕ
entry_atom e = nat_abs e.literal

abbrev pub entries_at : List Entry → ℕ → ℕ → List Entry
entries_at entries i k = span (entry_at entries) i k

abbrev pub minimise_in : List Entry → ℕ → MinimiseLine → Minimise
minimise_in entries i m = record { priority = m.priority; entries = entries_at entries i m.count }

-- ---- symbols: the name is a part of the line, m bytes from i on

abbrev pub bytes_at : List ℕ → ℕ → ℕ → List ℕ
bytes_at s i m = span (λ (j : ℕ). get_or s j 0) i m

abbrev pub symbol_in : List ℕ → List ℤ → ℕ → SymbolLine → Symbol
symbol_in s conditions i l = record { name = bytes_at s l.name l.length; condition = literals_at conditions i l.shown }

-- the name is a part of a line of n bytes
pub record SymbolSmall (n : ℕ) (l : SymbolLine) : Type 0 where
  pub inside : l.name + l.length ≤ n
  pub some : 1 ≤ l.length
  pub short : l.length ≤ 64
  pub few : l.shown ≤ 1024

-- ---- lines: what follows one, the pieces after its byte 10, none without it

abbrev pub follow : List ℕ → List (List ℕ)
follow [] = []
follow (b ∷ s) = pieces s
