-- Programs: what the statements of a text say. Document 01, "The text". Assumes nothing: these are definitions.
use Rattle.std.specs.Prelude.{◌≡◌, List, [], ◌∷◌, ℕ, max, ℤ, nat_abs}
use Rattle.asp.specs.Sets.{In}
use Rattle.asp.specs.declared.entries.Entry.{Entry}

-- "A literal is a signed number: a for atom a, minus a for its default negation." Its atom is `nat_abs l`, its complement `neg_ℤ l`.
abbrev pub Literal : Type 0
Literal = ℤ

-- order 2: "k pairs of literal and weight", in a body
pub record Weighed : Type 0 where
  pub literal : Literal
  pub weight : ℕ

-- a body: literals that all have to hold; or, order 2, a bound that the weights of pairs have to reach
pub data Body : Type 0 where
  normal : List Literal → Body
  weighted : ℕ → List Weighed → Body

-- a head: no atom, one atom, or atoms to choose from
pub data Head : Type 0 where
  constraint : Head
  plain : ℕ → Head
  choice : List ℕ → Head

pub record Rule : Type 0 where
  pub head : Head
  pub body : Body

-- "symbol s .. shown when all k literals hold"
pub record Symbol : Type 0 where
  pub name : List ℕ
  pub condition : List Literal

pub record Program : Type 0 where
  pub rules : List Rule
  -- the priorities that a minimise line names, with or without entries: highest first, each once
  pub priorities : List ℤ
  pub entries : List Entry
  pub symbols : List Symbol

-- ---- "n is the highest atom named, 0 if none"

unfoldable pub highest : {A : Type 0} → (A → ℕ) → List A → ℕ
highest f [] = 0
highest f (x ∷ xs) = max (f x) (highest f xs)

abbrev pub body_atoms : Body → ℕ
body_atoms (normal ls) = highest nat_abs ls
body_atoms (weighted b ps) = highest (λ (p : Weighed). nat_abs p.literal) ps

abbrev pub head_atoms : Head → ℕ
head_atoms constraint = 0
head_atoms (plain a) = a
head_atoms (choice as') = highest (λ a. a) as'

abbrev pub rule_atoms : Rule → ℕ
rule_atoms r = max (head_atoms r.head) (body_atoms r.body)

abbrev pub atoms : Program → ℕ
atoms p =
    max (highest rule_atoms p.rules)
    (max (highest (λ (e : Entry). nat_abs e.literal) p.entries)
    (highest (λ (s : Symbol). highest nat_abs s.condition) p.symbols))

-- ---- every atom named is one of 1 to n

abbrev pub All : {A : Type 0} → (A → Type 0) → List A → Type 0
All P [] = Unit {0}
All P (x ∷ xs) = P x × All P xs

-- m is none of the members
abbrev pub Out : ℕ → List ℕ → Type 0
Out m [] = Unit {0}
Out m (x ∷ xs) = (m ≡ x → ⊥) × Out m xs

-- none twice
abbrev pub Distinct : List ℕ → Type 0
Distinct [] = Unit {0}
Distinct (x ∷ xs) = Out x xs × Distinct xs

abbrev pub LiteralIn : ℕ → Literal → Type 0
LiteralIn n l = In n (nat_abs l)

abbrev pub BodyIn : ℕ → Body → Type 0
BodyIn n (normal ls) = All (LiteralIn n) ls
BodyIn n (weighted b ps) = All (λ (p : Weighed). LiteralIn n p.literal) ps

abbrev pub HeadIn : ℕ → Head → Type 0
HeadIn n constraint = Unit {0}
HeadIn n (plain a) = In n a
HeadIn n (choice as') = All (In n) as'

abbrev pub RuleIn : ℕ → Rule → Type 0
RuleIn n r = HeadIn n r.head × BodyIn n r.body

pub record ProgramIn (n : ℕ) (p : Program) : Type 0 where
  pub rules : All (RuleIn n) p.rules
  pub entries : All (λ (e : Entry). LiteralIn n e.literal) p.entries
  pub symbols : All (λ (s : Symbol). All (LiteralIn n) s.condition) p.symbols
