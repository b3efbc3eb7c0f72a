-- From tables to programs: what the code's tables mean. Assumes nothing: these are definitions.
use Rattle.std.specs.Prelude.{◌≡◌, Bool, true, false, not, List, [], ◌∷◌, ℕ, zero, suc, ◌+◌, ◌≤◌, ◌<◌, ℤ, pos, negsuc, nat_abs, length, get_or}
use Rattle.asp.specs.Sets.{pick}
use Rattle.asp.specs.Literal.{one_signed}
use Rattle.asp.specs.Program.{Literal, Weighed, Body, normal, weighted, Head, constraint, plain, choice, Rule, Symbol, Program, All, RuleIn}
use Rattle.asp.specs.declared.entries.Entry.{Entry}
use Rattle.asp.specs.declared.rules.HeadKind.{HeadKind}
use Rattle.asp.specs.declared.rules.HeadKind.TheVariants as head
use Rattle.asp.specs.declared.rules.BodyKind.{BodyKind}
use Rattle.asp.specs.declared.rules.BodyKind.TheVariants as body
use Rattle.asp.specs.declared.rules.Row.{Row}
use Rattle.asp.specs.declared.symbols.SymbolRow.{SymbolRow}

-- f at the k places from i on
unfoldable pub span : {A : Type 0} → (ℕ → A) → ℕ → ℕ → List A
span f i zero = []
span f i (suc k) = f i ∷ span f (i + 1) k

-- the k literals of a pool from i on
abbrev pub literals_at : List ℤ → ℕ → ℕ → List Literal
literals_at pool i k = span (λ (j : ℕ). get_or pool j (pos 0)) i k

-- the atom that a positive literal names; 0, which is none, for a negative one
abbrev pub named : ℤ → ℕ
named (pos a) = a
named (negsuc a) = 0

abbrev pub atoms_at : List ℤ → ℕ → ℕ → List ℕ
atoms_at pool i k = span (λ (j : ℕ). named (get_or pool j (pos 0))) i k

-- ---- rules: a pool of literals, in which each rule has its head atoms and then its body; and a row for each rule.
-- Order 2: after the literals of a weighted body stand its bound and then the weight of each literal.

abbrev pub no_row : Row
no_row = record { head = head.Plain; body = body.Normal; first = 0; heads = 0; literals = 0 }

abbrev pub row_at : List Row → ℕ → Row
row_at t r = get_or t r no_row

unfoldable pub is_choice : HeadKind → Bool
is_choice head.Plain = false
is_choice head.Choice = true

unfoldable pub is_weighted : BodyKind → Bool
is_weighted body.Normal = false
is_weighted body.Weighted = true
is_weighted body.Mixed = true

unfoldable pub is_mixed : BodyKind → Bool
is_mixed body.Normal = false
is_mixed body.Weighted = false
is_mixed body.Mixed = true

abbrev pub plain_head : List ℕ → Head
plain_head [] = constraint
plain_head (h ∷ hs) = plain h

abbrev pub head_at : List ℤ → Row → Head
head_at pool r = pick (is_choice r.head) (choice (atoms_at pool r.first r.heads)) (plain_head (atoms_at pool r.first r.heads))

-- the pair at place k, whose weight stands `gap` places further on
abbrev pub pair_at : List ℤ → ℕ → ℕ → Weighed
pair_at pool gap k = record { literal = get_or pool k (pos 0); weight = nat_abs (get_or pool (k + gap) (pos 0)) }

abbrev pub pairs_at : List ℤ → ℕ → ℕ → ℕ → List Weighed
pairs_at pool gap i k = span (pair_at pool gap) i k

-- where a row's body begins
abbrev pub body_first : Row → ℕ
body_first r = r.first + r.heads

abbrev pub bound_at : List ℤ → Row → ℕ
bound_at pool r = nat_abs (get_or pool (r.first + r.heads + r.literals) (pos 0))

abbrev pub row_pairs : List ℤ → Row → List Weighed
row_pairs pool r = pairs_at pool (r.literals + 1) (r.first + r.heads) r.literals

abbrev pub body_at : List ℤ → Row → Body
body_at pool r = pick (is_weighted r.body) (weighted (bound_at pool r) (row_pairs pool r)) (normal (literals_at pool (r.first + r.heads) r.literals))

abbrev pub rule_at : List ℤ → Row → Rule
rule_at pool r = record { head = head_at pool r; body = body_at pool r }

-- the first `count` rules
abbrev pub rules_of : List ℤ → List Row → ℕ → List Rule
rules_of pool rows count = span (λ (r : ℕ). rule_at pool (row_at rows r)) 0 count

-- a row's places are in the pool, a plain head has one atom at most, and the kind says truly whether each atom of a weighted body has one sign
pub record RowIn (pool : List ℤ) (r : Row) : Type 0 where
  pub inside : r.first + r.heads + r.literals ≤ length pool
  pub single : is_choice r.head ≡ false → r.heads ≤ 1
  pub weighed : is_weighted r.body ≡ true → r.first + r.heads + r.literals + 1 + r.literals ≤ length pool
  pub signed : is_weighted r.body ≡ true → is_mixed r.body ≡ not (one_signed (literals_at pool (r.first + r.heads) r.literals))

-- well-formed tables of rules over the atoms 1 to n
pub record Formed (n : ℕ) (pool : List ℤ) (rows : List Row) (count : ℕ) : Type 0 where
  pub few : n ≤ 1024
  pub long : count ≤ length rows
  pub row : (r : ℕ) → r < count → RowIn pool (row_at rows r)
  pub atoms : All (RuleIn n) (rules_of pool rows count)

-- ---- entries

abbrev pub no_entry : Entry
no_entry = record { priority = pos 0; literal = pos 0; weight = pos 0 }

abbrev pub entry_at : List Entry → ℕ → Entry
entry_at entries i = get_or entries i no_entry

-- the first `count` entries
abbrev pub entries_of : List Entry → ℕ → List Entry
entries_of entries count = span (entry_at entries) 0 count

-- ---- symbols: the text, a pool of condition literals, and a row for each symbol

abbrev pub no_symbol : SymbolRow
no_symbol = record { name = 0; length = 0; condition = 0; literals = 0 }

abbrev pub symbol_row : List SymbolRow → ℕ → SymbolRow
symbol_row t i = get_or t i no_symbol

abbrev pub condition_at : List ℤ → SymbolRow → List Literal
condition_at pool r = literals_at pool r.condition r.literals

abbrev pub symbol_at : List ℕ → List ℤ → SymbolRow → Symbol
symbol_at text pool r = record { name = span (λ (j : ℕ). get_or text j 0) r.name r.length; condition = condition_at pool r }

abbrev pub symbols_of : List ℕ → List ℤ → List SymbolRow → ℕ → List Symbol
symbols_of text pool rows count = span (λ (i : ℕ). symbol_at text pool (symbol_row rows i)) 0 count

-- ---- all tables, each with how far it is filled

pub record Tables : Type 0 where
  pub text : List ℕ
  pub pool : List ℤ
  pub rules : List Row
  pub rulecount : ℕ
  -- the priorities of the levels, highest first
  pub levels : List ℤ
  pub levelcount : ℕ
  pub entries : List Entry
  pub entrycount : ℕ
  pub conditions : List ℤ
  pub symbols : List SymbolRow
  pub symbolcount : ℕ

-- the program that the tables hold
abbrev pub program_of : Tables → Program
program_of t = record {
  rules = rules_of t.pool t.rules t.rulecount;
  priorities = span (λ (i : ℕ). get_or t.levels i (pos 0)) 0 t.levelcount;
  entries = entries_of t.entries t.entrycount;
  symbols = symbols_of t.text t.conditions t.symbols t.symbolcount;
}
