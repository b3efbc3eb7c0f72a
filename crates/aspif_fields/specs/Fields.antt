-- What the fields of a line are: numbers, atoms and literals, how a rule opens, pairs of literal and weight.
-- Document 01, "The text" and "Refused because of what was handed in", and orders 1 and 2 of document 02: their sentences stand here as comments. Assumes nothing: these are definitions.
use Rattle.std.specs.Prelude.{Bool, true, false, not, ◌&&◌, List, [], ◌∷◌, ℕ, ◌+◌, ◌-◌, ◌*◌, leb, ltb, eqb, ℤ, pos, neg_ℤ, nat_abs, length, get_or, drop}
use Rattle.asp.specs.declared.entries.Entry.{Entry}
use Rattle.asp.specs.Sets.{pick}
use Rattle.asp.specs.Program.{Literal, Weighed}

-- Reading in a line gives a value and what follows it in the line, or the number of a refusal.
pub data Read (A : Type 0) : Type 0 where
  got : A → List ℕ → Read A
  bad : ℕ → Read A

-- "in a line, left to right": what is refused first is refused
abbrev pub bind : {A B : Type 0} → Read A → (A → List ℕ → Read B) → Read B
bind (got a l) k = k a l
bind (bad c) k = bad c

-- the byte that comes next; 0, which no rule allows, at the end of the line
abbrev pub next : List ℕ → ℕ
next l = get_or l 0 0

-- ---- numbers: "each number by form, range, accepted part"

abbrev pub within : ℕ → ℕ → ℕ → Bool
within lo hi n = leb lo n && leb n hi

abbrev pub is_digit : ℕ → Bool
is_digit b = within 48 57 b

-- the digits that a line goes on with
unfoldable pub digits : List ℕ → List ℕ
digits [] = []
digits (b ∷ l) = pick (is_digit b) (b ∷ digits l) []

-- v with the digits ds written after it
unfoldable pub decimal : ℕ → List ℕ → ℕ
decimal v [] = v
decimal v (d ∷ ds) = decimal (v * 10 + (d - 48)) ds

-- a field is over at a space and at the end of its line
abbrev pub over : List ℕ → Bool
over [] = true
over (b ∷ l) = eqb b 32

abbrev pub nil : List ℕ → Bool
nil [] = true
nil (b ∷ l) = false

-- "A number is decimal with no leading zero": n digits, at least one, that make up the whole field
abbrev pub formed : ℕ → List ℕ → Bool
formed n l = ltb 0 n && (not (eqb (next l) 48 && ltb 1 n) && over (drop n l))

-- the form. "A place where a number is due and none stands is refusal 2."
unfoldable pub token : List ℕ → Read ℕ
token l = pick (formed (length (digits l)) l) (got (decimal 0 (digits l)) (drop (length (digits l)) l)) (bad 2)

-- the range, lo to hi: "4: a number out of range"
abbrev pub ranged : ℕ → ℕ → ℕ → List ℕ → Read ℕ
ranged lo hi v r = pick (within lo hi v) (got v r) (bad 4)

-- with no minus: "elsewhere any minus is" malformed
unfoldable pub number : ℕ → ℕ → List ℕ → Read ℕ
number lo hi l = bind (token l) (ranged lo hi)

-- digits after a minus or without one; "where a minus is allowed, `-0` is malformed"
abbrev pub with_sign : Bool → ℕ → ℤ
with_sign true v = neg_ℤ (pos v)
with_sign false v = pos v

abbrev pub signing : Bool → ℕ → List ℕ → Read ℤ
signing minus v r = pick (minus && eqb v 0) (bad 2) (got (with_sign minus v) r)

-- the form of a number that may have a minus
unfoldable pub signed_token : List ℕ → Read ℤ
signed_token l = pick (eqb (next l) 45) (bind (token (drop 1 l)) (signing true)) (bind (token l) (signing false))

-- its range, -hi to hi
abbrev pub signed_up_to : ℕ → ℤ → List ℕ → Read ℤ
signed_up_to hi z r = pick (leb (nat_abs z) hi) (got z r) (bad 4)

unfoldable pub signed : ℕ → List ℕ → Read ℤ
signed hi l = bind (signed_token l) (signed_up_to hi)

-- "Fields are parted by one space": a field that is not the first of its line
abbrev pub field : {A : Type 0} → (List ℕ → Read A) → List ℕ → Read A
field f l = pick (eqb (next l) 32) (f (drop 1 l)) (bad 2)

unfoldable pub natural : ℕ → ℕ → List ℕ → Read ℕ
natural lo hi l = field (number lo hi) l

-- "atom 1 to 1,024", as the literal that names it
unfoldable pub atom : List ℕ → Read Literal
atom l = bind (natural 1 1024 l) (λ a r. got (pos a) r)

-- "A literal is a signed number"; "4: .. literal 0 .. included"
unfoldable pub literal : List ℕ → Read Literal
literal l = bind (field (signed 1024) l) (λ z r. pick (eqb (nat_abs z) 0) (bad 4) (got z r))

-- ---- `h m`: how a rule opens

-- "h is 0 (plain head) or 1 (choice)"
pub record Opening : Type 0 where
  pub choice : Bool
  pub count : ℕ

-- `h m`: "3: .. h = 0 with m above 1", "4: .. other h .. included"
unfoldable pub opening : List ℕ → Read Opening
opening l =
    bind (natural 0 1 l) (λ h l.
    bind (natural 0 1024 l) (λ m l.
    pick (eqb h 0 && ltb 1 m) (bad 3) (got (record { choice = eqb h 1; count = m }) l)))

-- ---- pairs of literal and weight

-- order 2: "k pairs of literal and weight"; "each weight 0 to 1,000,000, and a minus .. is malformed"
unfoldable pub weighed_field : List ℕ → Read Weighed
weighed_field l = bind (literal l) (λ z l. bind (natural 0 1000000 l) (λ w l. got (record { literal = z; weight = w }) l))

-- "Each pair is an entry"; order 1: "Weights now run from -1,000,000 to 1,000,000 and may have a minus."
unfoldable pub pair : ℤ → List ℕ → Read Entry
pair p l = bind (literal l) (λ z l. bind (field (signed 1000000) l) (λ w l. got (record { priority = p; literal = z; weight = w }) l))
