-- Every program that a text is accepted with has atoms from 1 to 1,024, weights and bounds in their ranges and its priorities in order, and fits its tables. Assumes nothing.
use mathlib.Core.Path.{◌≡◌, refl}
use mathlib.Core.Bool.{Bool, true, false}
use mathlib.Core.List.{List, [], ◌∷◌, map}
use Prim.Native.Nat.{ℕ, ◌+◌, ◌≤◌}
use lib.Dec.{ltb, eqb}
use lib.IntN.{ℤ, nat_abs}
use lib.ListN.{length}
use Rattle.asp.specs.declared.entries.Entry.{Entry}
use Rattle.asp.specs.Sets.{pick, In}
use Rattle.asp.specs.Program.{Weighed, Body, normal, weighted, Rule, Symbol, Program, All, LiteralIn, BodyIn, HeadIn, RuleIn, ProgramIn}
use Rattle.asp.specs.Tables.{named}
use Rattle.asp.proofs.Spans.{all_map}
use Rattle.aspif_fields.specs.Fields.{Read, got, bad, bind, number, signed, field, natural, literal, opening, pair}
use Rattle.aspif_lines.specs.Text.{member_field, more, ended, body_field, head_of, rule_of, rule_line, Minimise, minimise_line, name_byte, symbol_line, Statement, rule, minimise, symbol, comment, final, of_kind, statement, Reading, add, fits, nothing, led, stepped_line, judged_line, lines, same_bytes, header, empty_program, opened_reading, headed, pieces, sum, text_of, Answer, accepted, refused, goes, last}
use Rattle.aspif_lines.proofs.Readings.{Reads, Any, any, reads_bind, reads_pick, field_reads, Small, signed_reads, Member, literal_reads, member_reads, all_append, more_reads, ended_reads, WeighedIn, BodyRead, body_reads}
use Rattle.aspif_tables.specs.Lists.{Descending}
use Rattle.aspif.specs.Store.{BodyWeighs}
use Rattle.aspif_tables.proofs.Levels.{descending_insert}

-- ---- statements

all_named : (zs : List ℤ) → All (Member true) zs → All (In 1024) (map named zs)
all_named [] a = tt
all_named (z ∷ zs) a = (a.0, all_named zs a.1)

head_in : (c : Bool) (xs : List ℕ) → All (In 1024) xs → HeadIn 1024 (head_of c xs)
head_in true xs a = a
head_in false [] a = tt
head_in false (x ∷ xs) a = a.0

body_in : (b : Body) → BodyRead b → BodyIn 1024 b
body_in (normal ls) h = h
body_in (weighted b ps) h = all_map WeighedIn (λ (p : Weighed). LiteralIn 1024 p.literal) (λ p q. q.0) ps h.1

body_weighs : (b : Body) → BodyRead b → BodyWeighs b
body_weighs (normal ls) h = tt
body_weighs (weighted b ps) h = (h.0, all_map WeighedIn (λ (p : Weighed). p.weight ≤ 1000000) (λ p q. q.1) ps h.1)

-- a rule of atoms, bound and weights in their ranges
abbrev RuleRead : Rule → Type 0
RuleRead r = RuleIn 1024 r × BodyWeighs r.body

rule_reads : (l : List ℕ) → Reads RuleRead (rule_line l)
unfolding rule_line
rule_reads l =
    reads_bind Any RuleRead (opening l) _ (any (opening l)) (λ o l u.
    reads_bind (All (Member true)) RuleRead (more (member_field true) o.count [] l) _ (more_reads (Member true) (member_field true) o.count [] l (member_reads true) tt) (λ heads l h.
    reads_bind BodyRead RuleRead (body_field l) _ (body_reads l) (λ body l b.
    ended_reads RuleRead (rule_of o.choice heads body) l ((head_in o.choice (map named heads) (all_named heads h), body_in body b), body_weighs body b))))

-- an entry of a literal and a weight in their ranges
abbrev EntryIn : Entry → Type 0
EntryIn e = LiteralIn 1024 e.literal × (nat_abs e.weight ≤ 1000000)

pair_reads : (p : ℤ) (l : List ℕ) → Reads EntryIn (pair p l)
unfolding pair
pair_reads p l =
    reads_bind (LiteralIn 1024) EntryIn (literal l) _ (literal_reads l) (λ z l h.
    reads_bind (Small 1000000) EntryIn (field (signed 1000000) l) _ (field_reads (Small 1000000) (signed 1000000) l (signed_reads 1000000)) (λ w l r. (h, r)))

abbrev MinimiseIn : Minimise → Type 0
MinimiseIn m = All EntryIn m.entries

minimise_reads : (l : List ℕ) → Reads MinimiseIn (minimise_line l)
unfolding minimise_line
minimise_reads l =
    reads_bind Any MinimiseIn (field (signed 1000) l) _ (any (field (signed 1000) l)) (λ p l u.
    reads_bind Any MinimiseIn (natural 0 1024 l) _ (any (natural 0 1024 l)) (λ k l u.
    reads_bind (All EntryIn) MinimiseIn (more (pair p) k [] l) _ (more_reads EntryIn (pair p) k [] l (pair_reads p) tt) (λ es l h.
    ended_reads MinimiseIn (record { priority = p; entries = es }) l h)))

abbrev SymbolIn : Symbol → Type 0
SymbolIn s = All (LiteralIn 1024) s.condition

symbol_reads : (l : List ℕ) → Reads SymbolIn (symbol_line l)
unfolding symbol_line
symbol_reads l =
    reads_bind Any SymbolIn (natural 1 64 l) _ (any (natural 1 64 l)) (λ m l u.
    reads_bind Any SymbolIn (field (more name_byte m []) l) _ (any (field (more name_byte m []) l)) (λ name l u.
    reads_bind Any SymbolIn (natural 0 1024 l) _ (any (natural 0 1024 l)) (λ k l u.
    reads_bind (All (Member false)) SymbolIn (more (member_field false) k [] l) _ (more_reads (Member false) (member_field false) k [] l (member_reads false) tt) (λ c l h.
    ended_reads SymbolIn (record { name = name; condition = c }) l h))))

abbrev StatementIn : Statement → Type 0
StatementIn (rule r) = RuleRead r
StatementIn (minimise q es) = All EntryIn es
StatementIn (symbol s) = SymbolIn s
StatementIn comment = Unit {0}
StatementIn final = Unit {0}

kind_reads : (k : ℕ) (l : List ℕ) → Reads StatementIn (of_kind k l)
unfolding of_kind
kind_reads k l =
    reads_pick StatementIn (eqb k 0) (ended final l) _ (λ e. ended_reads StatementIn final l tt) (λ e.
    reads_pick StatementIn (eqb k 1) (bind (rule_line l) (λ r l. got (rule r) l)) _ (λ e. reads_bind RuleRead StatementIn (rule_line l) _ (rule_reads l) (λ r l h. h)) (λ e.
    reads_pick StatementIn (eqb k 2) (bind (minimise_line l) (λ m l. got (minimise m.priority m.entries) l)) _ (λ e. reads_bind MinimiseIn StatementIn (minimise_line l) _ (minimise_reads l) (λ m l h. h)) (λ e.
    reads_pick StatementIn (eqb k 4) (bind (symbol_line l) (λ s l. got (symbol s) l)) _ (λ e. reads_bind SymbolIn StatementIn (symbol_line l) _ (symbol_reads l) (λ s l h. h)) (λ e.
    reads_pick StatementIn (eqb k 10) (got comment []) (bad 3) (λ e. tt) (λ e. tt)))))

statement_reads : (l : List ℕ) → Reads StatementIn (statement l)
unfolding statement
statement_reads l = reads_bind Any StatementIn (number 0 10 l) of_kind (any (number 0 10 l)) (λ k r u. kind_reads k r)

-- ---- programs

pub record Fine (p : Program) : Type 0 where
  pub atoms : ProgramIn 1024 p
  pub weights : All (λ (e : Entry). nat_abs e.weight ≤ 1000000) p.entries
  pub bodies : All (λ (r : Rule). BodyWeighs r.body) p.rules
  pub down : Descending p.priorities

all_literals : (es : List Entry) → All EntryIn es → All (λ (e : Entry). LiteralIn 1024 e.literal) es
all_literals [] a = tt
all_literals (e ∷ es) a = (a.0.0, all_literals es a.1)

all_weights : (es : List Entry) → All EntryIn es → All (λ (e : Entry). nat_abs e.weight ≤ 1000000) es
all_weights [] a = tt
all_weights (e ∷ es) a = (a.0.1, all_weights es a.1)

fine_add : (l : List ℕ) (st : Statement) (p : Reading) → StatementIn st → Fine p.program → Fine (add l st p).program
fine_add l (rule r) p s f =
    record {
      atoms = record { rules = all_append (RuleIn 1024) p.program.rules (r ∷ []) f.atoms.rules (s.0, tt); entries = f.atoms.entries; symbols = f.atoms.symbols };
      weights = f.weights;
      bodies = all_append (λ (r : Rule). BodyWeighs r.body) p.program.rules (r ∷ []) f.bodies (s.1, tt);
      down = f.down;
    }
fine_add l (minimise q es) p s f =
    record {
      atoms = record { rules = f.atoms.rules; entries = all_append (λ (e : Entry). LiteralIn 1024 e.literal) p.program.entries es f.atoms.entries (all_literals es s); symbols = f.atoms.symbols };
      weights = all_append (λ (e : Entry). nat_abs e.weight ≤ 1000000) p.program.entries es f.weights (all_weights es s);
      bodies = f.bodies;
      down = descending_insert q p.program.priorities f.down;
    }
fine_add l (symbol s) p h f =
    record { atoms = record { rules = f.atoms.rules; entries = f.atoms.entries; symbols = all_append SymbolIn p.program.symbols (s ∷ []) f.atoms.symbols (h, tt) }; weights = f.weights; bodies = f.bodies; down = f.down }
fine_add l comment p s f = f
fine_add l final p s f = f

-- ---- texts: what every line keeps is so of all that is accepted, beside the limits, which are judged after each line

module _ (P : Reading → Type 0) (keeps : (l : List ℕ) (st : Statement) (u : List ℕ) (q : Reading) → statement l ≡ got st u → P q → P (add l st q)) where
  abbrev Stands : Reading → Type 0
  Stands q = P q × (fits q.program ≡ true)

  abbrev Answers : Answer → Type 0
  Answers (accepted p t) = Stands (record { program = p; text = t })
  Answers (refused c m) = Unit {0}

  answers_pick : (b : Bool) (x y : Answer) → (b ≡ true → Answers x) → Answers y → Answers (pick b x y)
  answers_pick true x y f g = f refl
  answers_pick false x y f g = g

  goes_keeps : (n : ℕ) (ls : List (List ℕ)) (q : Reading) (go : Reading → Answer) → P q → ((r : Reading) → Stands r → Answers (go r)) → Answers (judged_line n ls (goes q) go)
  goes_keeps n [] q go h f = tt
  goes_keeps n (m ∷ ms) q go h f = answers_pick (fits q.program) (go q) (refused 5 n) (λ e. f q (h, e)) tt

  last_keeps : (n : ℕ) (ls : List (List ℕ)) (q : Reading) (go : Reading → Answer) → Stands q → Answers (judged_line n ls (last q) go)
  last_keeps n [] q go h = tt
  last_keeps n (m ∷ ms) q go h = answers_pick (nothing (m ∷ ms)) (accepted q.program q.text) (refused 2 (n + 1)) (λ e. h) tt

  line_keeps : (n : ℕ) (l : List ℕ) (q : Reading) (ls : List (List ℕ)) (x : Read Statement) (go : Reading → Answer) → statement l ≡ x → Stands q → ((r : Reading) → Stands r → Answers (go r))
      → Answers (judged_line n ls (led l q x) go)
  line_keeps n l q ls (bad c) go e h f = tt
  line_keeps n l q ls (got (rule r) u) go e h f = goes_keeps n ls (add l (rule r) q) go (keeps l (rule r) u q e h.0) f
  line_keeps n l q ls (got (minimise k es) u) go e h f = goes_keeps n ls (add l (minimise k es) q) go (keeps l (minimise k es) u q e h.0) f
  line_keeps n l q ls (got (symbol y) u) go e h f = goes_keeps n ls (add l (symbol y) q) go (keeps l (symbol y) u q e h.0) f
  line_keeps n l q ls (got comment u) go e h f = goes_keeps n ls q go h.0 f
  line_keeps n l q ls (got final u) go e h f = last_keeps n ls (add l final q) go (keeps l final u q e h.0, h.1)

  lines_keep : (n : ℕ) (q : Reading) (ls : List (List ℕ)) → Stands q → Answers (lines n q ls)
  unfolding lines stepped_line
  lines_keep n q [] h = tt
  lines_keep n q (l ∷ ls) h = line_keeps n l q ls (statement l) (λ (r : Reading). lines (n + 1) r ls) refl h (λ r g. lines_keep (n + 1) r ls g)

  headed_keeps : (ls : List (List ℕ)) → Stands opened_reading → Answers (headed ls)
  headed_keeps [] h = tt
  headed_keeps (l ∷ []) h = answers_pick (same_bytes l header) (refused 2 1) (refused 1 1) (λ e. tt) tt
  headed_keeps (l ∷ m ∷ ms) h = answers_pick (same_bytes l header) (lines 2 opened_reading (m ∷ ms)) (refused 1 1) (λ e. lines_keep 2 opened_reading (m ∷ ms) h) tt

  text_keeps : (s : List ℕ) → P opened_reading → Answers (text_of s)
  unfolding text_of fits sum
  text_keeps s h = answers_pick (ltb 65536 (length s)) (refused 5 0) (headed (pieces s)) (λ e. tt) (headed_keeps (pieces s) (h, refl))

  pub accepted_keeps : (s : List ℕ) (p : Program) (t : List ℕ) → P opened_reading → text_of s ≡ accepted p t → P (record { program = p; text = t }) × (fits p ≡ true)
  accepted_keeps s p t h e = rw e at (text_keeps s h)

-- ---- the law

pub record Good (p : Program) : Type 0 where
  pub fine : Fine p
  pub fit : fits p ≡ true

fine_line : (l : List ℕ) (st : Statement) (u : List ℕ) (q : Reading) → statement l ≡ got st u → Fine q.program → Fine (add l st q).program
fine_line l st u q e = fine_add l st q (rw e at (statement_reads l))

pub accepted_good : (s : List ℕ) (p : Program) (t : List ℕ) → text_of s ≡ accepted p t → Good p
accepted_good s p t e =
    let none-fine : Fine empty_program = record { atoms = record { rules = tt; entries = tt; symbols = tt }; weights = tt; bodies = tt; down = tt } in
    let h = accepted_keeps (λ (q : Reading). Fine q.program) fine_line s p t none-fine e in
    record { fine = h.0; fit = h.1 }
