-- A test that computes whether stored tables are well formed, and that it is right. Assumes nothing.
use Rattle.std.proofs.Common.{◌≡◌, ℕ, zero, suc, ◌+◌, ◌<◌, Bool, true, false, not, ◌&&◌, ◌||◌, T, eqb, leb, List, [], ◌∷◌, length, get_or, ℤ, pos, nat_abs, refl, ⊎_elim, arith, leb→le, eqb-true}
use mathlib.Core.Bool.{beq}
use mir.Facts.{and_yes, or_yes}
use borrow.Author.Tests.{eqb-false}
use Rattle.asp.specs.declared.rules.Row.{Row}
use Rattle.asp.specs.Sets.{In}
use Rattle.asp.specs.Program.{Weighed, Body, normal, weighted, Head, constraint, plain, choice, Rule, All, LiteralIn, BodyIn, HeadIn, RuleIn}
use Rattle.asp.specs.Literal.{one_signed}
use Rattle.asp.specs.Tables.{literals_at, is_choice, is_weighted, is_mixed, row_at, rules_of, RowIn, Formed}
use Rattle.counting.specs.Counts.{sum_from}
use Rattle.search_traces.specs.Stored.{Roomy, Wished}

-- f at every number below k
abbrev pub every : (ℕ → Bool) → ℕ → Bool
every f zero = true
every f (suc k) = f k && every f k

every_at : (f : ℕ → Bool) (k : ℕ) → T (every f k) → (i : ℕ) → i < k → T (f i)
every_at f zero t i h = absurd (omega arith)
every_at f (suc k) t i h = go (eqb i k) refl (every_at f k (and_yes (f k) (every f k) t).1 i)
  where
    go : (b : Bool) → eqb i k ≡ b → (i < k → T (f i)) → T (f i)
    go true e r = let z : i ≡ k = eqb-true i k e in rw z (and_yes (f k) (every f k) t).0
    go false e r = let z = eqb-false i k e in r (omega arith)

abbrev pub atom_in : ℕ → ℕ → Bool
atom_in n a = leb 1 a && leb a n

atom_in_lem : (n a : ℕ) → T (atom_in n a) → In n a
atom_in_lem n a t = let h = and_yes (leb 1 a) (leb a n) t in (leb→le 1 a h.0, leb→le a n h.1)

abbrev pub atoms_in : ℕ → List ℕ → Bool
atoms_in n [] = true
atoms_in n (a ∷ as') = atom_in n a && atoms_in n as'

atoms_in_lem : (n : ℕ) (as' : List ℕ) → T (atoms_in n as') → All (In n) as'
atoms_in_lem n [] t = tt
atoms_in_lem n (a ∷ as') t = let h = and_yes (atom_in n a) (atoms_in n as') t in (atom_in_lem n a h.0, atoms_in_lem n as' h.1)

abbrev pub lits_in : ℕ → List ℤ → Bool
lits_in n [] = true
lits_in n (l ∷ ls) = atom_in n (nat_abs l) && lits_in n ls

lits_in_lem : (n : ℕ) (ls : List ℤ) → T (lits_in n ls) → All (LiteralIn n) ls
lits_in_lem n [] t = tt
lits_in_lem n (l ∷ ls) t = let h = and_yes (atom_in n (nat_abs l)) (lits_in n ls) t in (atom_in_lem n (nat_abs l) h.0, lits_in_lem n ls h.1)

abbrev pub head_ok : ℕ → Head → Bool
head_ok n constraint = true
head_ok n (plain a) = atom_in n a
head_ok n (choice as') = atoms_in n as'

head_ok_lem : (n : ℕ) (h : Head) → T (head_ok n h) → HeadIn n h
head_ok_lem n constraint t = tt
head_ok_lem n (plain a) t = atom_in_lem n a t
head_ok_lem n (choice as') t = atoms_in_lem n as' t

abbrev pub pairs_in : ℕ → List Weighed → Bool
pairs_in n [] = true
pairs_in n (p ∷ ps) = atom_in n (nat_abs p.literal) && pairs_in n ps

pairs_in_lem : (n : ℕ) (ps : List Weighed) → T (pairs_in n ps) → All (λ (p : Weighed). LiteralIn n p.literal) ps
pairs_in_lem n [] t = tt
pairs_in_lem n (p ∷ ps) t = let h = and_yes (atom_in n (nat_abs p.literal)) (pairs_in n ps) t in (atom_in_lem n (nat_abs p.literal) h.0, pairs_in_lem n ps h.1)

abbrev pub body_ok : ℕ → Body → Bool
body_ok n (normal ls) = lits_in n ls
body_ok n (weighted b ps) = pairs_in n ps

body_ok_lem : (n : ℕ) (b : Body) → T (body_ok n b) → BodyIn n b
body_ok_lem n (normal ls) t = lits_in_lem n ls t
body_ok_lem n (weighted b ps) t = pairs_in_lem n ps t

abbrev pub rules_ok : ℕ → List Rule → Bool
rules_ok n [] = true
rules_ok n (r ∷ rs) = (head_ok n r.head && body_ok n r.body) && rules_ok n rs

rules_ok_lem : (n : ℕ) (rs : List Rule) → T (rules_ok n rs) → All (RuleIn n) rs
rules_ok_lem n [] t = tt
rules_ok_lem n (r ∷ rs) t =
    let h = and_yes (head_ok n r.head && body_ok n r.body) (rules_ok n rs) t in
    let g = and_yes (head_ok n r.head) (body_ok n r.body) h.0 in
    ((head_ok_lem n r.head g.0, body_ok_lem n r.body g.1), rules_ok_lem n rs h.1)

-- order 2: the weights are inside, and the kind says truly whether an atom has both signs
abbrev pub weighed_ok : List ℤ → Row → Bool → Bool
weighed_ok pool w true = leb (w.first + w.heads + w.literals + 1 + w.literals) (length pool) && beq (is_mixed w.body) (not (one_signed (literals_at pool (w.first + w.heads) w.literals)))
weighed_ok pool w false = true

abbrev pub row_ok : List ℤ → Row → Bool
row_ok pool w = leb (w.first + w.heads + w.literals) (length pool) && ((is_choice w.head || leb w.heads 1) && weighed_ok pool w (is_weighted w.body))

row_ok_lem : (pool : List ℤ) (w : Row) → T (row_ok pool w) → RowIn pool w
row_ok_lem pool w t =
    let h = and_yes (leb (w.first + w.heads + w.literals) (length pool)) ((is_choice w.head || leb w.heads 1) && weighed_ok pool w (is_weighted w.body)) t in
    let g = and_yes (is_choice w.head || leb w.heads 1) (weighed_ok pool w (is_weighted w.body)) h.1 in
    record {
      inside = leb→le (w.first + w.heads + w.literals) (length pool) h.0;
      single = λ k. ⊎_elim (λ e. absurd (rw k at e)) (λ l. leb→le w.heads 1 l) (or_yes (is_choice w.head) (leb w.heads 1) g.0);
      weighed = λ e. leb→le (w.first + w.heads + w.literals + 1 + w.literals) (length pool) (both e g.1).0;
      signed = λ e. same_is (is_mixed w.body) (not (one_signed (literals_at pool (w.first + w.heads) w.literals))) (both e g.1).1;
    }
  where
    both : is_weighted w.body ≡ true → T (weighed_ok pool w (is_weighted w.body))
        → T (leb (w.first + w.heads + w.literals + 1 + w.literals) (length pool)) × T (beq (is_mixed w.body) (not (one_signed (literals_at pool (w.first + w.heads) w.literals))))
    both e g = and_yes (leb (w.first + w.heads + w.literals + 1 + w.literals) (length pool)) (beq (is_mixed w.body) (not (one_signed (literals_at pool (w.first + w.heads) w.literals)))) (rw e at g)

    same_is : (x y : Bool) → T (beq x y) → x ≡ y
    same_is true true t = refl
    same_is true false t = absurd t
    same_is false true t = absurd t
    same_is false false t = refl

abbrev pub formed_ok : ℕ → List ℤ → List Row → Bool
formed_ok n pool rows =
    leb n 1024 && (every (λ (r : ℕ). row_ok pool (row_at rows r)) (length rows) && rules_ok n (rules_of pool rows (length rows)))

pub formed : (n : ℕ) (pool : List ℤ) (rows : List Row) → T (formed_ok n pool rows) → Formed n pool rows (length rows)
formed n pool rows t =
    let a = and_yes (leb n 1024) _ t in
    let c = and_yes (every (λ (r : ℕ). row_ok pool (row_at rows r)) (length rows)) _ a.1 in
    record {
      few = leb→le n 1024 a.0;
      long = omega arith;
      row = λ r h. row_ok_lem pool (row_at rows r) (every_at (λ (i : ℕ). row_ok pool (row_at rows i)) (length rows) c.0 r h);
      atoms = rules_ok_lem n (rules_of pool rows (length rows)) c.1;
    }

abbrev pub room_ok : List Row → Bool
room_ok rows = leb (length rows) 2048 && leb (sum_from (λ (r : ℕ). (row_at rows r).heads + (row_at rows r).literals) 0 (length rows)) 16384

pub roomy : (rows : List Row) → T (room_ok rows) → Roomy rows
roomy rows t = let a = and_yes (leb (length rows) 2048) _ t in record { few = leb→le (length rows) 2048 a.0; places = leb→le _ 16384 a.1 }

abbrev pub wished_ok : ℕ → List ℤ → Bool
wished_ok n w = leb (length w) 8 && every (λ (i : ℕ). atom_in n (nat_abs (get_or w i (pos 0)))) (length w)

pub wished : (n : ℕ) (w : List ℤ) → T (wished_ok n w) → Wished n w
wished n w t =
    let a = and_yes (leb (length w) 8) _ t in
    record { few = leb→le (length w) 8 a.0; atoms = λ i h. atom_in_lem n _ (every_at (λ (i : ℕ). atom_in n (nat_abs (get_or w i (pos 0)))) (length w) a.1 i h) }
