-- What a text is: its refusal and line, or its program and the text less its comment lines.
-- Document 01, "The text" and "Refused because of what was handed in", and orders 1 and 2 of document 02: their sentences stand here, and in `aspif_fields`, as comments. Assumes nothing: these are definitions.
use Rattle.std.specs.Prelude.{Bool, true, false, ◌&&◌, List, [], ◌∷◌, ◌++◌, map, ℕ, zero, suc, ◌+◌, leb, ltb, eqb, ℤ, length, drop}
use Rattle.std.specs.Int.Signed.{lt_z}
use Rattle.asp.specs.declared.entries.Entry.{Entry}
use Rattle.asp.specs.Sets.{pick}
use Rattle.asp.specs.Literal.{same_ℤ}
use Rattle.asp.specs.Program.{Literal, Body, normal, weighted, Head, constraint, plain, choice, Rule, Symbol, Program}
use Rattle.asp.specs.Tables.{named, plain_head}
use Rattle.aspif_fields.specs.Fields.{Read, got, bad, bind, next, within, nil, number, signed, field, natural, atom, literal, opening, weighed_field, pair}

-- a head's atom, or a body's literal
abbrev pub member_field : Bool → List ℕ → Read Literal
member_field true l = atom l
member_field false l = literal l

-- "m and k count what follows": xs, and k more of what f reads
unfoldable pub more : {A : Type 0} → (List ℕ → Read A) → ℕ → List A → List ℕ → Read (List A)
more f zero xs l = got xs l
more f (suc k) xs l = bind (f l) (λ a r. more f k (xs ++ (a ∷ [])) r)

-- "with none at the ends": after the last field the line is over
abbrev pub ended : {A : Type 0} → A → List ℕ → Read A
ended a l = pick (nil l) (got a []) (bad 2)

-- ---- `1 h m atoms b ..`: a rule

-- `k literals`, after b = 0
unfoldable pub normal_body : List ℕ → Read Body
normal_body l = bind (natural 0 1024 l) (λ k l. bind (more (member_field false) k [] l) (λ ls l. got (normal ls) l))

-- order 2: "`1 bound k`, then k pairs of literal and weight. Bound is 0 to 1,000,000,000 .. and a minus .. is malformed."
unfoldable pub weighted_body : List ℕ → Read Body
weighted_body l =
    bind (natural 0 1000000000 l) (λ bound l.
    bind (natural 0 1024 l) (λ k l.
    bind (more weighed_field k [] l) (λ ps l.
    got (weighted bound ps) l)))

-- "b is 0"; order 2: "Body kind b = 1 is read"
unfoldable pub body_field : List ℕ → Read Body
body_field l = bind (natural 0 1 l) (λ b l. pick (eqb b 1) (weighted_body l) (normal_body l))

-- "With h = 0, m is 0 (a constraint) or 1"
abbrev pub head_of : Bool → List ℕ → Head
head_of true hs = choice hs
head_of false hs = plain_head hs

abbrev pub rule_of : Bool → List Literal → Body → Rule
rule_of c heads body = record { head = head_of c (map named heads); body = body }

unfoldable pub rule_line : List ℕ → Read Rule
rule_line l =
    bind (opening l) (λ o l.
    bind (more (member_field true) o.count [] l) (λ heads l.
    bind (body_field l) (λ body l.
    ended (rule_of o.choice heads body) l)))

-- ---- `2 p k` and k pairs of literal and weight: minimise at priority p

pub record Minimise : Type 0 where
  pub priority : ℤ
  pub entries : List Entry

-- "p from -1,000 to 1,000 (signed)"
unfoldable pub minimise_line : List ℕ → Read Minimise
minimise_line l =
    bind (field (signed 1000) l) (λ p l.
    bind (natural 0 1024 l) (λ k l.
    bind (more (pair p) k [] l) (λ es l.
    ended (record { priority = p; entries = es }) l)))

-- ---- `4 m s k literals`: "symbol s, of exactly m bytes from 32 to 126, shown when all k literals hold"

abbrev pub name_byte : List ℕ → Read ℕ
name_byte l = pick (within 32 126 (next l)) (got (next l) (drop 1 l)) (bad 2)

-- "each count 0 to 1,024, but a symbol's m 1 to 64"
unfoldable pub symbol_line : List ℕ → Read Symbol
symbol_line l =
    bind (natural 1 64 l) (λ m l.
    bind (field (more name_byte m []) l) (λ name l.
    bind (natural 0 1024 l) (λ k l.
    bind (more (member_field false) k [] l) (λ condition l.
    ended (record { name = name; condition = condition }) l))))

-- ---- statements, each a line

pub data Statement : Type 0 where
  rule : Rule → Statement
  minimise : ℤ → List Entry → Statement
  symbol : Symbol → Statement
  comment : Statement
  final : Statement

-- The line of a kind, from what follows the kind; "3: kind 3 or 5 to 9".
-- "`10`, alone or with a space and any bytes but 10: a comment": the kind was a whole field, so a space or the end of the line follows.
unfoldable pub of_kind : ℕ → List ℕ → Read Statement
of_kind k l =
    pick (eqb k 0) (ended final l)
    (pick (eqb k 1) (bind (rule_line l) (λ r l. got (rule r) l))
    (pick (eqb k 2) (bind (minimise_line l) (λ m l. got (minimise m.priority m.entries) l))
    (pick (eqb k 4) (bind (symbol_line l) (λ s l. got (symbol s) l))
    (pick (eqb k 10) (got comment []) (bad 3)))))

-- "The first field is the kind, 0 to 10."
unfoldable pub statement : List ℕ → Read Statement
statement l = bind (number 0 10 l) of_kind

-- ---- what the lines read so far say: a program, and their text without comments

pub record Reading : Type 0 where
  pub program : Program
  pub text : List ℕ

-- p in its place among the priorities: highest first, each once
unfoldable pub insert : ℤ → List ℤ → List ℤ
insert p [] = p ∷ []
insert p (q ∷ qs) = pick (lt_z q p) (p ∷ q ∷ qs) (pick (same_ℤ p q) (q ∷ qs) (q ∷ insert p qs))

abbrev pub add_rule : Rule → Program → Program
add_rule r p = record { rules = p.rules ++ (r ∷ []); priorities = p.priorities; entries = p.entries; symbols = p.symbols }

-- "a line with k = 0 names one too"
abbrev pub add_minimise : ℤ → List Entry → Program → Program
add_minimise q es p = record { rules = p.rules; priorities = insert q p.priorities; entries = p.entries ++ es; symbols = p.symbols }

abbrev pub add_symbol : Symbol → Program → Program
add_symbol s p = record { rules = p.rules; priorities = p.priorities; entries = p.entries; symbols = p.symbols ++ (s ∷ []) }

abbrev pub line : List ℕ → List ℕ
line l = l ++ (10 ∷ [])

-- the statement of the line l, and the line itself unless it is a comment
abbrev pub add : List ℕ → Statement → Reading → Reading
add l (rule r) p = record { program = add_rule r p.program; text = p.text ++ line l }
add l (minimise q es) p = record { program = add_minimise q es p.program; text = p.text ++ line l }
add l (symbol s) p = record { program = add_symbol s p.program; text = p.text ++ line l }
add l comment p = p
add l final p = record { program = p.program; text = p.text ++ line l }

-- ---- "Tables hold 2,048 rules; 16,384 head atoms and body literals; 512 entries; 8 different priorities; 512 symbols with 2,048 condition literals
-- and 16,384 name bytes."

unfoldable pub sum : {A : Type 0} → (A → ℕ) → List A → ℕ
sum f [] = 0
sum f (a ∷ xs) = f a + sum f xs

abbrev pub head_size : Head → ℕ
head_size constraint = 0
head_size (plain a) = 1
head_size (choice hs) = length hs

-- order 2: "Each pair takes one place in the literal table."
abbrev pub body_size : Body → ℕ
body_size (normal ls) = length ls
body_size (weighted b ps) = length ps

abbrev pub rule_size : Rule → ℕ
rule_size r = head_size r.head + body_size r.body

abbrev pub condition_size : Symbol → ℕ
condition_size s = length s.condition

abbrev pub name_size : Symbol → ℕ
name_size s = length s.name

abbrev pub limits : ℕ → ℕ → ℕ → ℕ → ℕ → ℕ → ℕ → Bool
limits rules literals entries priorities symbols conditions names =
    leb rules 2048 && leb literals 16384 && leb entries 512 && leb priorities 8
    && leb symbols 512 && leb conditions 2048 && leb names 16384

unfoldable pub fits : Program → Bool
fits p =
    limits (length p.rules) (sum rule_size p.rules) (length p.entries) (length p.priorities)
    (length p.symbols) (sum condition_size p.symbols) (sum name_size p.symbols)

-- ---- texts

pub data Answer : Type 0 where
  -- the program, and the text less its comment lines
  accepted : Program → List ℕ → Answer
  -- the number of the refusal, and the line
  refused : ℕ → ℕ → Answer

-- the pieces between the bytes 10: the lines, and then what follows the last byte 10
abbrev pub longer : ℕ → List (List ℕ) → List (List ℕ)
longer b [] = []
longer b (l ∷ ls) = (b ∷ l) ∷ ls

unfoldable pub pieces : List ℕ → List (List ℕ)
pieces [] = [] ∷ []
pieces (b ∷ s) = pick (eqb b 10) ([] ∷ pieces s) (longer b (pieces s))

-- nothing follows: what stands after the last byte 10 comes next, and it is empty
abbrev pub nothing : List (List ℕ) → Bool
nothing [] = false
nothing ([] ∷ []) = true
nothing ([] ∷ m ∷ ms) = false
nothing ((b ∷ l) ∷ ls) = false

abbrev pub is_final : Statement → Bool
is_final (rule r) = false
is_final (minimise p es) = false
is_final (symbol s) = false
is_final comment = false
is_final final = true

-- What a line leads to: a refusal, the end, or what is read with its statement.
pub data Step : Type 0 where
  stop : ℕ → Step
  last : Reading → Step
  goes : Reading → Step

abbrev pub led : List ℕ → Reading → Read Statement → Step
led l p (bad c) = stop c
led l p (got st r) = pick (is_final st) (last (add l st p)) (goes (add l st p))

unfoldable pub stepped_line : List ℕ → Reading → Step
stepped_line l p = led l p (statement l)

-- On line n, with the pieces ls after it: "a line without its byte 10, found after its fields"; "anything after the `0` line (at the next line)";
-- "limits after the line", "5: a table limit passed".
abbrev pub judged_line : ℕ → List (List ℕ) → Step → (Reading → Answer) → Answer
judged_line n ls (stop c) go = refused c n
judged_line n [] (last q) go = refused 2 n
judged_line n [] (goes q) go = refused 2 n
judged_line n (m ∷ ms) (last q) go = pick (nothing (m ∷ ms)) (accepted q.program q.text) (refused 2 (n + 1))
judged_line n (m ∷ ms) (goes q) go = pick (fits q.program) (go q) (refused 5 n)

-- "Lines go in order": n, n + 1 and so on; the last piece has no byte 10. An empty last piece has no kind: so "no `0` line (at the line after the last)" is 2.
unfoldable pub lines : ℕ → Reading → List (List ℕ) → Answer
lines n p [] = refused 2 n
lines n p (l ∷ ls) = judged_line n ls (stepped_line l p) (λ (q : Reading). lines (n + 1) q ls)

-- "Line 1 is `asp 1 0 0`"
abbrev pub header : List ℕ
header = 97 ∷ 115 ∷ 112 ∷ 32 ∷ 49 ∷ 32 ∷ 48 ∷ 32 ∷ 48 ∷ []

unfoldable pub same_bytes : List ℕ → List ℕ → Bool
same_bytes [] [] = true
same_bytes [] (b ∷ l) = false
same_bytes (a ∷ k) [] = false
same_bytes (a ∷ k) (b ∷ l) = eqb a b && same_bytes k l

abbrev pub empty_program : Program
empty_program = record { rules = []; priorities = []; entries = []; symbols = [] }

abbrev pub opened_reading : Reading
opened_reading = record { program = empty_program; text = line header }

-- "1: line 1 is missing or differs (if only its byte 10 lacks, 2)"
abbrev pub headed : List (List ℕ) → Answer
headed [] = refused 1 1
headed (l ∷ []) = pick (same_bytes l header) (refused 2 1) (refused 1 1)
headed (l ∷ m ∷ ms) = pick (same_bytes l header) (lines 2 opened_reading (m ∷ ms)) (refused 1 1)

-- "At most 65,536 bytes"; "5: .. a text too long gives line 0 before all else"
unfoldable pub text_of : List ℕ → Answer
text_of s = pick (ltb 65536 (length s)) (refused 5 0) (headed (pieces s))
