-- What a load stores: well-formed tables, or nothing. Assumes nothing.
use mathlib.Core.Path.{◌≡◌, sym, ◌∙◌}
use mathlib.Core.List.{List, [], ◌∷◌}
use Prim.Native.Nat.{ℕ, ◌≤◌, ◌<◌}
use native.Mathlib.Omega.{arith}
use lib.IntN.{nat_abs}
use lib.ListN.{get_or}
use Rattle.std.proofs.Common.{Result, Ok, Err, IfOk}
use Rattle.asp.specs.declared.entries.Entry.{Entry}
use Rattle.aspif.specs.declared.text.RefusedAt.{RefusedAt}
use Rattle.asp.specs.Sets.{In}
use Rattle.asp.specs.Program.{Literal, Weighed, Body, normal, weighted, Head, constraint, plain, choice, Rule, Symbol, Program, highest, body_atoms, head_atoms, rule_atoms, atoms, All, LiteralIn, BodyIn, HeadIn, RuleIn, ProgramIn}
use Rattle.asp.specs.Tables.{row_at, RowIn}
use Rattle.aspif_lines.specs.Text.{text_of, accepted}
use Rattle.aspif_lines.specs.Seen.{entry_atom}
use Rattle.aspif_tables.specs.Lists.{lists_of, Sound, SoundLists, Within}
use Rattle.aspif.specs.Store.{seen_verdict, load_of, answer_of, stored_program, stored_text, WellFormed}
use Rattle.aspif_tables.specs.declared.table.Stored.{Stored}
use Rattle.aspif_lines.proofs.Spans.{span_length}
use Rattle.aspif.proofs.Onwards.{fits_of, limits_within}
use Rattle.aspif.proofs.Accepted.{Good, accepted_good}
use Rattle.aspif.proofs.RoundTrip.{stored_short, accepted_short, round_trip}

-- ---- atoms up to 1,024 are atoms up to n, the highest named

module _ {A : Type 0} (f : A → ℕ) (P Q : A → Type 0) where
  -- P and a bound are Q
  all_highest : (n : ℕ) (xs : List A) → ((x : A) → P x → f x ≤ n → Q x) → All P xs → highest f xs ≤ n → All Q xs
  unfolding highest
  all_highest n [] h a b = tt
  all_highest n (x ∷ xs) h a b = (h x a.0 (omega arith), all_highest n xs h a.1 (omega arith))

  -- a bound of all
  highest_bound : (n : ℕ) (xs : List A) → ((x : A) → P x → f x ≤ n) → All P xs → highest f xs ≤ n
  unfolding highest
  highest_bound n [] h a = omega arith
  highest_bound n (x ∷ xs) h a = omega (arith, h x a.0, highest_bound n xs h a.1)

literals_in : (n : ℕ) (ls : List Literal) → All (LiteralIn 1024) ls → highest nat_abs ls ≤ n → All (LiteralIn n) ls
literals_in n ls = all_highest nat_abs (LiteralIn 1024) (LiteralIn n) n ls (λ z p b. (p.0, b))

literals_bound : (ls : List Literal) → All (LiteralIn 1024) ls → highest nat_abs ls ≤ 1024
literals_bound ls = highest_bound nat_abs (LiteralIn 1024) (LiteralIn 1024) 1024 ls (λ z p. p.1)

head_in : (n : ℕ) (h : Head) → HeadIn 1024 h → head_atoms h ≤ n → HeadIn n h
head_in n constraint p b = tt
head_in n (plain a) p b = (p.0, b)
head_in n (choice hs) p b = all_highest (λ (a : ℕ). a) (In 1024) (In n) n hs (λ a q c. (q.0, c)) p b

head_bound : (h : Head) → HeadIn 1024 h → head_atoms h ≤ 1024
head_bound constraint p = omega arith
head_bound (plain a) p = p.1
head_bound (choice hs) p = highest_bound (λ (a : ℕ). a) (In 1024) (In 1024) 1024 hs (λ a q. q.1) p

abbrev weighed_atoms : Weighed → ℕ
weighed_atoms q = nat_abs q.literal

body_in : (n : ℕ) (b : Body) → BodyIn 1024 b → body_atoms b ≤ n → BodyIn n b
body_in n (normal ls) p b = literals_in n ls p b
body_in n (weighted w ps) p b = all_highest weighed_atoms (λ (q : Weighed). LiteralIn 1024 q.literal) (λ (q : Weighed). LiteralIn n q.literal) n ps (λ q i c. (i.0, c)) p b

body_bound : (b : Body) → BodyIn 1024 b → body_atoms b ≤ 1024
body_bound (normal ls) p = literals_bound ls p
body_bound (weighted w ps) p = highest_bound weighed_atoms (λ (q : Weighed). LiteralIn 1024 q.literal) (λ (q : Weighed). LiteralIn 1024 q.literal) 1024 ps (λ q i. i.1) p

rule_in : (n : ℕ) (r : Rule) → RuleIn 1024 r → rule_atoms r ≤ n → RuleIn n r
rule_in n r p b = (head_in n r.head p.0 (omega arith), body_in n r.body p.1 (omega arith))

rule_bound : (r : Rule) → RuleIn 1024 r → rule_atoms r ≤ 1024
rule_bound r p = omega (arith, head_bound r.head p.0, body_bound r.body p.1)

abbrev symbol_atoms : Symbol → ℕ
symbol_atoms s = highest nat_abs s.condition

pub atoms_bound : (p : Program) → ProgramIn 1024 p → atoms p ≤ 1024
atoms_bound p i =
    omega (
      arith,
      highest_bound rule_atoms (RuleIn 1024) (RuleIn 1024) 1024 p.rules rule_bound i.rules,
      highest_bound entry_atom (λ (e : Entry). LiteralIn 1024 e.literal) (λ (e : Entry). LiteralIn 1024 e.literal) 1024 p.entries (λ e q. q.1) i.entries,
      highest_bound symbol_atoms (λ (s : Symbol). All (LiteralIn 1024) s.condition) (λ (s : Symbol). All (LiteralIn 1024) s.condition) 1024 p.symbols (λ s q. literals_bound s.condition q) i.symbols,
    )

pub program_in : (p : Program) → ProgramIn 1024 p → ProgramIn (atoms p) p
program_in p i =
    record {
      rules = all_highest rule_atoms (RuleIn 1024) (RuleIn (atoms p)) (atoms p) p.rules (rule_in (atoms p)) i.rules (omega arith);
      entries = all_highest entry_atom (λ (e : Entry). LiteralIn 1024 e.literal) (λ (e : Entry). LiteralIn (atoms p) e.literal) (atoms p) p.entries (λ e q b. (q.0, b)) i.entries (omega arith);
      symbols = all_highest symbol_atoms (λ (s : Symbol). All (LiteralIn 1024) s.condition) (λ (s : Symbol). All (LiteralIn (atoms p)) s.condition) (atoms p) p.symbols (λ s q b. literals_in (atoms p) s.condition q b) i.symbols (omega arith);
    }

-- ---- what is stored

module _ (p : Stored) (s : List ℕ) (sound : SoundLists (lists_of p) p.counts) (e : text_of s ≡ accepted (stored_program p) (stored_text p)) where
  good : Good (stored_program p)
  good = accepted_good s (stored_program p) (stored_text p) e

  within : Within p.counts
  within = limits_within p.counts (fits_of (lists_of p) p.counts sound ∙ good.fit)

  named : ProgramIn p.counts.atoms (stored_program p)
  named = rw sound.atoms (program_in (stored_program p) good.fine.atoms)

  row_in : (j : ℕ) → j < p.counts.rules → RowIn p.pool (row_at p.rules j)
  row_in j l =
      let room : p.counts.filled ≤ 34816 = omega (arith, sound.rules.room, within.used, within.rules) in
      let end = sound.rules.inside j l in
      record {
        inside = omega (arith, end, room, sound.sized.pool);
        single = sound.rules.single j l;
        weighed = λ w. omega (arith, rw w at end, room, sound.sized.pool);
        signed = sound.rules.signed j l;
      }

  pub well_formed : WellFormed p
  well_formed =
      record {
        sized = sound.sized;
        within = within;
        text = omega (arith, accepted_short s (stored_program p) (stored_text p) e, stored_short s (stored_program p) (stored_text p) e, span_length (λ (j : ℕ). get_or p.text j 0) 0 p.counts.text);
        size = omega (arith, sound.rules.size, within.used);
        atoms = sound.atoms;
        formed = record { few = omega (arith, atoms_bound (stored_program p) good.fine.atoms, sound.atoms); long = omega (arith, within.rules, sound.sized.rules); row = row_in; atoms = named.rules };
        named = named;
        weights = good.fine.weights;
        bodies = good.fine.bodies;
        levels = good.fine.down;
        symbols = sound.symbols.inside;
      }

-- what a load answers, and that it is well formed
pub load_answer : (p : Stored) (r : Result (Unit {0}) RefusedAt) (s : List ℕ) → seen_verdict p r ≡ text_of s → IfOk r (λ u. Sound p) → (answer_of (load_of p r) ≡ text_of s) × IfOk (load_of p r) WellFormed
load_answer p (Ok u) s e h = (e, well_formed p s h (sym e))
load_answer p (Err c) s e h = (e, tt)

-- what is stored, and so what is written out, is accepted with the same program and stored as it is
pub written_again : (p : Stored) (s : List ℕ) → answer_of (Ok p) ≡ text_of s → text_of (stored_text p) ≡ accepted (stored_program p) (stored_text p)
written_again p s e = round_trip s (stored_program p) (stored_text p) (sym e)
