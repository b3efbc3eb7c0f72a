-- The name of every symbol lies in the text that is stored: it is a part of its line. Assumes nothing.
use mathlib.Core.Path.{◌≡◌, refl, sym, ap, ◌∙◌, subst}
use mathlib.Core.Bool.{Bool, true, false}
use mathlib.Core.List.{List, [], ◌∷◌, ◌++◌, append_assoc}
use Prim.Native.Nat.{ℕ, zero, suc}
use native.Mathlib.Omega.{arith}
use lib.Dec.{eqb}
use lib.ListN.{length, take, drop, take-append-drop}
use Rattle.asp.specs.Sets.{pick}
use Rattle.asp.specs.Program.{Symbol, Program, All}
use Rattle.asp.proofs.Spans.{all_map}
use Rattle.aspif_fields.specs.Fields.{within, Read, got, bad, bind, next, digits, decimal, formed, token, number, field, natural, nil}
use Rattle.aspif_lines.specs.Text.{member_field, more, ended, rule_line, minimise_line, name_byte, symbol_line, Statement, rule, minimise, symbol, comment, final, of_kind, statement, Reading, add, line, text_of, accepted}
use Rattle.aspif_lines.proofs.Spans.{append_nil}
use Rattle.aspif_lines.proofs.Readings.{all_append}
use Rattle.aspif.proofs.Accepted.{accepted_keeps}

-- ---- parts of lists of bytes

-- what stands before it and after it
pub record Part (part whole : List ℕ) : Type 0 where
  pub before : List ℕ
  pub after : List ℕ
  pub is : whole ≡ before ++ (part ++ after)

-- a part of a part
part_part : {a b c : List ℕ} → Part a b → Part b c → Part a c
part_part {a} {b} {c} h k =
    record {
      before = k.before ++ h.before;
      after = h.after ++ k.after;
      is = k.is ∙ rw (h.is, append_assoc h.before (a ++ h.after) k.after, append_assoc a h.after k.after, append_assoc k.before h.before (a ++ (h.after ++ k.after)));
    }

-- the front of a list
part_front : (a b : List ℕ) → Part a (a ++ b)
part_front a b = record { before = []; after = b; is = refl }

-- the rest of a list
part_drop : (n : ℕ) (l : List ℕ) → Part (drop n l) l
part_drop n l = record { before = take n l; after = []; is = rw (append_nil (drop n l), take-append-drop n l) }

-- ---- what was read was read in steps

absurd_bad : {A B : Type 0} {a : A} {r : List ℕ} {c : ℕ} → bad c ≡ got a r → B
absurd_bad e = let z : ◌≡◌ {A = ℕ} 0 1 = cc in absurd (omega arith)

bind_got : {A B : Type 0} (x : Read A) (k : A → List ℕ → Read B) {b : B} {r : List ℕ} → bind x k ≡ got b r → (a : A) × (l : List ℕ) × (x ≡ got a l) × (k a l ≡ got b r)
bind_got (got a l) k e = (a, l, refl, e)
bind_got (bad c) k e = absurd_bad e

pick_got : {A : Type 0} (b : Bool) (x : Read A) (c : ℕ) {a : A} {r : List ℕ} → pick b x (bad c) ≡ got a r → x ≡ got a r
pick_got true x c e = e
pick_got false x c e = absurd_bad e

-- ---- what follows a number is a part of the line

token_part : (l : List ℕ) {v : ℕ} {r : List ℕ} → token l ≡ got v r → Part r l
unfolding token
token_part l {v} {r} e =
    let n : ℕ = length (digits l) in
    let h = pick_got (formed n l) (got (decimal 0 (digits l)) (drop n l)) 2 e in
    let z : drop n l ≡ r = cc in
    rw z at (part_drop n l)

number_part : (lo hi : ℕ) (l : List ℕ) {v : ℕ} {r : List ℕ} → number lo hi l ≡ got v r → Part r l
unfolding number
number_part lo hi l {v} {r} e =
    let (a, u, f, g) = bind_got (token l) (λ v r. pick (within lo hi v) (got v r) (bad 4)) e in
    let h = pick_got (within lo hi a) (got a u) 4 g in
    let z : u ≡ r = cc in
    rw z at (token_part l f)

field_got : {A : Type 0} (f : List ℕ → Read A) (l : List ℕ) {a : A} {r : List ℕ} → field f l ≡ got a r → f (drop 1 l) ≡ got a r
field_got f l e = pick_got (eqb (next l) 32) (f (drop 1 l)) 2 e

natural_part : (lo hi : ℕ) (l : List ℕ) {v : ℕ} {r : List ℕ} → natural lo hi l ≡ got v r → Part r l
unfolding natural
natural_part lo hi l e = part_part (number_part lo hi (drop 1 l) (field_got (number lo hi) l e)) (part_drop 1 l)

-- ---- the name is a part of its line

-- a byte of the name is the first byte
byte_first : (l : List ℕ) {b : ℕ} {r : List ℕ} → name_byte l ≡ got b r → l ≡ b ∷ r
byte_first [] e = absurd_bad e
byte_first (x ∷ l) e = let h = pick_got (within 32 126 x) (got x l) 2 e in cc

-- what is read beyond xs is what the line begins with
name_first : (m : ℕ) (xs l : List ℕ) {ys r : List ℕ} → more name_byte m xs l ≡ got ys r → (zs : List ℕ) × (ys ≡ xs ++ zs) × (l ≡ zs ++ r)
unfolding more
name_first zero xs l {ys} {r} e =
    let y : xs ≡ ys = cc in
    let z : l ≡ r = cc in
    ([], sym y ∙ sym (append_nil xs), z)
name_first (suc m) xs l e =
    let (b, u, f, g) = bind_got (name_byte l) (λ a r. more name_byte m (xs ++ (a ∷ [])) r) e in
    let (zs, y, z) = name_first m (xs ++ (b ∷ [])) u g in
    (b ∷ zs, y ∙ append_assoc xs (b ∷ []) zs, byte_first l f ∙ ap (λ (t : List ℕ). b ∷ t) z)

name_part : (m : ℕ) (l : List ℕ) {name r : List ℕ} → more name_byte m [] l ≡ got name r → Part name l
name_part m l {name} {r} e = let (zs, y, z) = name_first m [] l e in record { before = []; after = r; is = z ∙ ap (λ (t : List ℕ). t ++ r) (sym y) }

symbol_part : (l : List ℕ) {s : Symbol} {r : List ℕ} → symbol_line l ≡ got s r → Part s.name l
unfolding symbol_line
symbol_part l {s} {r} e =
    let (m, l1, e1, f1) = bind_got (natural 1 64 l) _ e in
    let (name, l2, e2, f2) = bind_got (field (more name_byte m []) l1) _ f1 in
    let (k, l3, e3, f3) = bind_got (natural 0 1024 l2) _ f2 in
    let (c, l4, e4, f4) = bind_got (more (member_field false) k [] l3) _ f3 in
    let h = pick_got (nil l4) (got (record { name = name; condition = c }) []) 2 f4 in
    let z : record { name = name; condition = c } ≡ s = cc in
    let p : Part name l1 = part_part (name_part m (drop 1 l1) (field_got (more name_byte m []) l1 e2)) (part_drop 1 l1) in
    subst (λ (q : Symbol). Part q.name l) z (part_part p (natural_part 1 64 l e1))

-- ---- a symbol is read from a symbol's line alone

not_symbol : {A B : Type 0} (x : Read A) (f : A → Statement) {s : Symbol} {r : List ℕ} → ((a : A) → f a ≡ symbol s → ⊥) → bind x (λ a u. got (f a) u) ≡ got (symbol s) r → B
not_symbol x f {s} h e =
    let (a, u, p, q) = bind_got x (λ a u. got (f a) u) e in
    let z : f a ≡ symbol s = cc in
    absurd (h a z)

kind_part : (k : ℕ) (l : List ℕ) {s : Symbol} {r : List ℕ} → of_kind k l ≡ got (symbol s) r → Part s.name l
unfolding of_kind
kind_part k l {s} {r} e = go (eqb k 0) (eqb k 1) (eqb k 2) (eqb k 4) (eqb k 10) e
  where
    go : (k0 k1 k2 k4 k10 : Bool)
        → pick k0 (ended final l)
        (pick k1 (bind (rule_line l) (λ r l. got (rule r) l))
        (pick k2 (bind (minimise_line l) (λ m l. got (minimise m.priority m.entries) l))
        (pick k4 (bind (symbol_line l) (λ s l. got (symbol s) l))
        (pick k10 (got comment []) (bad 3))))) ≡ got (symbol s) r → Part s.name l
    go true k1 k2 k4 k10 e = let h = pick_got (nil l) (got final []) 2 e in let z : ◌≡◌ {A = ℕ} 0 1 = cc in absurd (omega arith)
    go false true k2 k4 k10 e = not_symbol (rule_line l) (λ r. rule r) (λ r q. let z : ◌≡◌ {A = ℕ} 0 1 = cc in omega arith) e
    go false false true k4 k10 e = not_symbol (minimise_line l) (λ m. minimise m.priority m.entries) (λ m q. let z : ◌≡◌ {A = ℕ} 0 1 = cc in omega arith) e
    go false false false true k10 e =
        let (y, u, p, q) = bind_got (symbol_line l) (λ s l. got (symbol s) l) e in
        let z : y ≡ s = cc in
        subst (λ (q : Symbol). Part q.name l) z (symbol_part l p)
    go false false false false true e = let z : ◌≡◌ {A = ℕ} 0 1 = cc in absurd (omega arith)
    go false false false false false e = absurd_bad e

statement_part : (l : List ℕ) {s : Symbol} {r : List ℕ} → statement l ≡ got (symbol s) r → Part s.name l
unfolding statement
statement_part l e = let (k, u, p, q) = bind_got (number 0 10 l) of_kind e in part_part (kind_part k u q) (number_part 0 10 l p)

-- ---- the names of all symbols

-- the name of the symbol y lies in the text t
abbrev pub NameLies : List ℕ → Symbol → Type 0
NameLies t y = Part y.name t

abbrev Named : Reading → Type 0
Named q = All (NameLies q.text) q.program.symbols

-- the text grows at its end
named_more : (ys : List Symbol) (t u : List ℕ) → All (NameLies t) ys → All (NameLies (t ++ u)) ys
named_more ys t u h = all_map (NameLies t) (NameLies (t ++ u)) (λ y p. part_part p (part_front t u)) ys h

named_line : (l : List ℕ) (st : Statement) (u : List ℕ) (q : Reading) → statement l ≡ got st u → Named q → Named (add l st q)
named_line l (rule r) u q e h = named_more q.program.symbols q.text (line l) h
named_line l (minimise k es) u q e h = named_more q.program.symbols q.text (line l) h
named_line l (symbol y) u q e h =
    let p : Part l (q.text ++ line l) = record { before = q.text; after = 10 ∷ []; is = refl } in
    all_append (NameLies (q.text ++ line l)) q.program.symbols (y ∷ []) (named_more q.program.symbols q.text (line l) h) (part_part (statement_part l e) p, tt)
named_line l comment u q e h = h
named_line l final u q e h = named_more q.program.symbols q.text (line l) h

-- the law
pub names_in : (s : List ℕ) (p : Program) (t : List ℕ) → text_of s ≡ accepted p t → All (NameLies t) p.symbols
names_in s p t e = (accepted_keeps Named named_line s p t tt e).0
