-- A rule in its tables: its head and body by its row, and what it adds. Assumes nothing.
use mathlib.Core.Path.{◌≡◌, sym, ◌∙◌}
use mathlib.Core.Bool.{Bool, true, false, not}
use mathlib.Core.List.{List, [], ◌∷◌}
use mathlib.Core.Logic.{◌⊎◌, inl, inr}
use Prim.Native.Nat.{ℕ, zero, suc, ◌+◌, ◌-◌, ◌≤◌, ◌<◌}
use native.Mathlib.Omega.{arith}
use lib.Dec.{T, eqb, eqb→eq, eqb_refl, leb}
use lib.IntN.{ℤ, pos, nat_abs}
use lib.ListN.{length, get_or, set}
use mir.Facts.{and_yes, yes_and, or_yes}
use Rattle.asp.specs.Sets.{Set, Sub, In, set_of}
use Rattle.asp.specs.Program.{Literal, LiteralIn, Weighed, Body, normal, weighted, BodyIn, Head, constraint, plain, choice, Rule, All, HeadIn, RuleIn}
use Rattle.asp.specs.Stable.{all_hold, counts, body_holds, member, head_adds, constraint_fails}
use Rattle.asp.specs.Tables.{span, named, literals_at, atoms_at, is_choice, is_weighted, pairs_at, row_pairs, bound_at, row_at, head_at, body_at, rule_at, Formed}
use Rattle.asp.specs.declared.rules.BodyKind.{BodyKind}
use Rattle.asp.specs.declared.rules.Row.{Row}
use Rattle.asp.specs.Growth.{Grown, Chosen, KeptBy, PairsFormed, atoms_named, RowPairs, RowFormed, RulesFormed}
use Rattle.asp.proofs.Stability.{body_mono, yes_or_left, yes_or_right}
use Rattle.asp.proofs.Growing.{grown_one, grown_none, named_abs}
use Rattle.asp.proofs.Spans.{span_at, get_or_span, all_map, map_span, length_span}

-- ---- the head and the body of a row

module _ (pool : List ℤ) (row : Row) where
  pub head_choice : is_choice row.head ≡ true → head_at pool row ≡ choice (atoms_at pool row.first row.heads)
  head_choice e = rw e

  pub head_none : is_choice row.head ≡ false → row.heads ≡ 0 → head_at pool row ≡ constraint
  unfolding span
  head_none f e = rw (f, e)

  pub head_plain : is_choice row.head ≡ false → (row.heads ≡ 0 → ⊥) → head_at pool row ≡ plain (named (get_or pool row.first (pos 0)))
  unfolding span
  head_plain f g = let q : row.heads ≡ suc (row.heads - 1) = some row.heads g in rw (f, q)
    where
      some : (c : ℕ) → (c ≡ 0 → ⊥) → c ≡ suc (c - 1)
      some c h = omega arith

  pub body_weighted : is_weighted row.body ≡ true → body_at pool row ≡ weighted (bound_at pool row) (row_pairs pool row)
  body_weighted e = rw e

  pub body_normal : is_weighted row.body ≡ false → body_at pool row ≡ normal (literals_at pool (row.first + row.heads) row.literals)
  body_normal e = rw e

  -- the atoms that its head literals name
  pub head_named : (i k : ℕ) → atoms_at pool i k ≡ atoms_named (literals_at pool i k)
  head_named i k = sym (map_span named (λ (j : ℕ). get_or pool j (pos 0)) i k)

-- ---- a row that is well formed

pairs_literals : (pool : List ℤ) (gap i k : ℕ) → All (λ (p : Weighed). LiteralIn 1024 p.literal) (pairs_at pool gap i k) → All (LiteralIn 1024) (literals_at pool i k)
unfolding span
pairs_literals pool gap i zero h = tt
pairs_literals pool gap i (suc k) h = (h.0, pairs_literals pool gap (i + 1) k h.1)

module _ {pool : List ℤ} {row : Row} (w : RowFormed pool row) where
  pub body_small : is_weighted row.body ≡ false → All (LiteralIn 1024) (literals_at pool (row.first + row.heads) row.literals)
  body_small e = rw (body_normal pool row e) at w.atoms.1

  -- the same of the kind and the places that the code has read
  pub body_atoms_lem : {k : BodyKind} {f h b : ℕ} {x : Bool} → k ≡ row.body → x ≡ is_weighted k → x ≡ false → f ≡ row.first → h ≡ row.heads → b ≡ row.literals → All (LiteralIn 1024) (literals_at pool (f + h) b)
  body_atoms_lem ek ex q ef eh eb = rw (ef, eh, eb) (body_small (rw (← ek, ← ex) q))

  weighed_small : is_weighted row.body ≡ true → All (LiteralIn 1024) (literals_at pool (row.first + row.heads) row.literals)
  weighed_small e = pairs_literals pool (row.literals + 1) (row.first + row.heads) row.literals (rw (body_weighted pool row e) at w.atoms.1)

  -- its pairs, where its body is weighted
  pub row_paired : is_weighted row.body ≡ true → RowPairs pool row
  row_paired e = record { inside = w.places.weighed e; small = λ j a b. (span_at (λ (k : ℕ). get_or pool k (pos 0)) (LiteralIn 1024) (row.first + row.heads) row.literals (weighed_small e) j a b).1 }

  pub heads_small : is_choice row.head ≡ true → All (In 1024) (atoms_at pool row.first row.heads)
  heads_small e = rw (head_choice pool row e) at w.atoms.0

  pub head_small : is_choice row.head ≡ false → (row.heads ≡ 0 → ⊥) → In 1024 (named (get_or pool row.first (pos 0)))
  head_small e g = rw (head_plain pool row e g) at w.atoms.0

-- ---- its pairs and its head literals, as the code has them

pub row_pairs_formed : {pool : List ℤ} {row : Row} → RowPairs pool row → row.literals < 65536
    → PairsFormed (literals_at pool (row.first + row.heads) row.literals) (literals_at pool (row.first + row.heads + row.literals + 1) row.literals)
row_pairs_formed {pool} {row} w few =
    let k : length (literals_at pool (row.first + row.heads) row.literals) ≡ row.literals = length_span (λ (j : ℕ). get_or pool j (pos 0)) (row.first + row.heads) row.literals in
    record {
      few = omega arith;
      even = length_span (λ (j : ℕ). get_or pool j (pos 0)) (row.first + row.heads + row.literals + 1) row.literals ∙ sym k;
      small = λ j h. rw (get_or_span pool (row.first + row.heads) row.literals j (omega arith)) (w.small (row.first + row.heads + j) (omega arith) (omega arith));
    }

module _ {pool : List ℤ} {row : Row} (w : RowFormed pool row) where
  pub heads_named : is_choice row.head ≡ true → {heads : List ℤ} → heads ≡ literals_at pool row.first row.heads → All (In 1024) (atoms_named heads)
  heads_named q e = rw e (rw (head_named pool row row.first row.heads) at (heads_small w q))

  -- how many, and the first
  pub heads_long : {heads : List ℤ} → heads ≡ literals_at pool row.first row.heads → length heads ≡ row.heads
  heads_long e = rw e (length_span (λ (j : ℕ). get_or pool j (pos 0)) row.first row.heads)

  pub head_is : {heads : List ℤ} → heads ≡ literals_at pool row.first row.heads → (row.heads ≡ 0 → ⊥) → get_or heads 0 (pos 0) ≡ get_or pool row.first (pos 0)
  unfolding span
  head_is e g = let q : row.heads ≡ suc (row.heads - 1) = some row.heads g in rw (e, q)
    where
      some : (c : ℕ) → (c ≡ 0 → ⊥) → c ≡ suc (c - 1)
      some c h = omega arith

  pub head_atom : is_choice row.head ≡ false → {heads : List ℤ} → heads ≡ literals_at pool row.first row.heads → (row.heads ≡ 0 → ⊥) → {a : ℕ} → a ≡ nat_abs (get_or heads 0 (pos 0))
      → (a ≤ 1024) × (a ≡ named (get_or pool row.first (pos 0)))
  head_atom q e g {a} f =
      let n = head_small w q g in
      let s : a ≡ named (get_or pool row.first (pos 0)) = f ∙ rw (head_is e g) (named_abs (get_or pool row.first (pos 0)) n.0) in
      (rw s n.1, s)

-- ---- whether its body holds

module _ (M X : Set) (pool : List ℤ) (row : Row) where
  pub normal_holds : is_weighted row.body ≡ false → {y : Bool} → y ≡ all_hold M X (literals_at pool (row.first + row.heads) row.literals) → y ≡ body_holds M X (rule_at pool row).body
  normal_holds q e = rw (body_normal pool row q) e

  pub weighted_holds : is_weighted row.body ≡ true → {y : Bool} → y ≡ leb (bound_at pool row) (counts M X (row_pairs pool row)) → y ≡ body_holds M X (rule_at pool row).body
  weighted_holds q e = rw (body_weighted pool row q) e

-- ---- whether it is a violated constraint

module _ (M : Set) (pool : List ℤ) (row : Row) where
  pub choice_unviolated : is_choice row.head ≡ true → false ≡ constraint_fails M (rule_at pool row)
  choice_unviolated q = rw (head_choice pool row q)

  pub plain_unviolated : is_choice row.head ≡ false → (row.heads ≡ 0 → ⊥) → false ≡ constraint_fails M (rule_at pool row)
  plain_unviolated q g = rw (head_plain pool row q g)

  pub constraint_violated : is_choice row.head ≡ false → row.heads ≡ 0 → {y : Bool} → y ≡ body_holds M M (rule_at pool row).body → y ≡ constraint_fails M (rule_at pool row)
  constraint_violated q z e = rw (head_none pool row q z) e

-- ---- what it adds

-- growth towards other sets, which are the same among those that hold xs
grown_via : (K K' : Set → Type 0) {xs ys : List ℕ} {b : Bool} → ((X : Set) → Sub (set_of xs) X → K' X → K X) → (K (set_of xs) → K' (set_of xs)) → Grown K xs ys b → Grown K' xs ys b
grown_via K K' to from g = record {
  long = g.long;
  rises = g.rises;
  inside = λ X k s. g.inside X (to X s k) s;
  more = g.more;
  rest = λ q. let h = g.rest q in (h.0, from h.1);
}

chosen_member : (M X : Set) (hs : List ℕ) → Chosen M hs X → (a : ℕ) → T (M a) → T (member a hs) → T (X a)
unfolding member
chosen_member M X [] c a m t = absurd t
chosen_member M X (h ∷ hs) c a m t = go (or_yes (eqb a h) (member a hs) t) (chosen_member M X hs c.1 a m)
  where
    go : T (eqb a h) ⊎ T (member a hs) → (T (member a hs) → T (X a)) → T (X a)
    go (inl e) f = let q : a ≡ h = eqb→eq a h e in rw q (c.0 (rw q at m))
    go (inr s) f = f s

member_chosen : (M X : Set) (hs : List ℕ) → ((a : ℕ) → T (M a) → T (member a hs) → T (X a)) → Chosen M hs X
unfolding member
member_chosen M X [] f = tt
member_chosen M X (h ∷ hs) f = (λ m. f h m (yes_or_left (eqb h h) (member h hs) (eqb_refl h)), member_chosen M X hs (λ a m t. f a m (yes_or_right (eqb a h) (member a hs) t)))

module _ (M : Set) (pool : List ℤ) (row : Row) (xs : List ℕ) where
  abbrev rule : Rule
  rule = rule_at pool row

  -- its body does not hold
  pub rule_unmet : {x : Bool} → x ≡ body_holds M (set_of xs) rule.body → x ≡ false → Grown (KeptBy M rule) xs xs false
  rule_unmet e q =
      grown_none (KeptBy M rule) xs (record { sub = λ a t. absurd (rw (← e, q) at (and_yes (body_holds M (set_of xs) rule.body) (head_adds M rule.head a) t).0) })

  module _ {x : Bool} (e : x ≡ body_holds M (set_of xs) rule.body) (q : x ≡ true) where
    -- its body holds, now and in every larger set
    meets : (X : Set) → Sub (set_of xs) X → T (body_holds M X rule.body)
    meets X s = body_mono M s rule.body (rw (← e, q) tt)

    -- so it is kept where its head is
    kept_head : (K : Set → Type 0) → ((X : Set) → ((a : ℕ) → T (head_adds M rule.head a) → T (X a)) → K X) → ((X : Set) → K X → (a : ℕ) → T (head_adds M rule.head a) → T (X a))
        → {ys : List ℕ} {g : Bool} → Grown K xs ys g → Grown (KeptBy M rule) xs ys g
    kept_head K to from g =
        grown_via K (KeptBy M rule)
        (λ X s k. to X (λ a t. k.sub a (yes_and (body_holds M X rule.body) (head_adds M rule.head a) (meets X s) t)))
        (λ k. record { sub = λ a t. from (set_of xs) k a (and_yes (body_holds M (set_of xs) rule.body) (head_adds M rule.head a) t).1 })
        g

    pub rule_choice : is_choice row.head ≡ true → {heads : List ℤ} → heads ≡ literals_at pool row.first row.heads → {ys : List ℕ} {g : Bool} → Grown (Chosen M (atoms_named heads)) xs ys g → Grown (KeptBy M rule) xs ys g
    rule_choice c {heads} eh g =
        let n : atoms_at pool row.first row.heads ≡ atoms_named heads = rw eh (head_named pool row row.first row.heads) in
        let d : head_at pool row ≡ choice (atoms_named heads) = rw (← n) (head_choice pool row c) in
        kept_head (Chosen M (atoms_named heads))
        (λ X k. member_chosen M X (atoms_named heads) (λ a m t. k a (rw d (yes_and (M a) (member a (atoms_named heads)) m t))))
        (λ X k a t. let s = and_yes (M a) (member a (atoms_named heads)) (rw d at t) in chosen_member M X (atoms_named heads) k a s.0 s.1)
        g

    pub rule_none : is_choice row.head ≡ false → row.heads ≡ 0 → Grown (KeptBy M rule) xs xs false
    rule_none c z =
        let d : head_at pool row ≡ constraint = head_none pool row c z in
        grown_none (KeptBy M rule) xs (record { sub = λ a t. absurd (rw d at (and_yes (body_holds M (set_of xs) rule.body) (head_adds M rule.head a) t).1) })

    pub rule_plain : is_choice row.head ≡ false → (row.heads ≡ 0 → ⊥) → {a : ℕ} → a ≡ named (get_or pool row.first (pos 0)) → a < length xs
        → {ys : List ℕ} {g : Bool} → ys ≡ set xs a 1 → g ≡ not (set_of xs a) → Grown (KeptBy M rule) xs ys g
    rule_plain c z {a} ea l ey eg =
        let d : head_at pool row ≡ plain a = rw ea (head_plain pool row c z) in
        kept_head (λ X. T (X a))
        (λ X k. k a (rw d (eqb_refl a)))
        (λ X k a' t. let p : a' ≡ a = eqb→eq a' a (rw d at t) in rw p k)
        (rw ey (grown_one (λ X. T (X a)) xs a l (λ X k. k) (λ X k. k) eg))

-- ---- all rules

pub formed_each : {n : ℕ} {pool : List ℤ} {rows : List Row} {count : ℕ} → Formed n pool rows count → RulesFormed pool rows count
formed_each {n} {pool} {rows} {count} w = record {
  long = w.long;
  each = λ r h. record {
    places = w.row r h;
    atoms = wide_rule (rule_at pool (row_at rows r)) (span_at (λ (s : ℕ). rule_at pool (row_at rows s)) (RuleIn n) 0 count w.atoms r (omega arith) (omega arith));
  };
}
  where
    wide_in : (a : ℕ) → In n a → In 1024 a
    wide_in a i = omega (arith, w.few)

    wide_body : (b : Body) → Rattle.asp.specs.Program.BodyIn n b → Rattle.asp.specs.Program.BodyIn 1024 b
    wide_body (normal ls) i = all_map (LiteralIn n) (LiteralIn 1024) (λ l k. wide_in (nat_abs l) k) ls i
    wide_body (weighted b ps) i = all_map (λ (p : Weighed). LiteralIn n p.literal) (λ (p : Weighed). LiteralIn 1024 p.literal) (λ p k. wide_in (nat_abs p.literal) k) ps i

    wide_head : (h : Head) → HeadIn n h → HeadIn 1024 h
    wide_head constraint i = i
    wide_head (plain a) i = wide_in a i
    wide_head (choice hs) i = all_map (In n) (In 1024) wide_in hs i

    wide_rule : (u : Rule) → RuleIn n u → RuleIn 1024 u
    wide_rule u i = (wide_head u.head i.0, wide_body u.body i.1)
