-- What the functions of `weigh` come to. Assumes nothing.
use mathlib.Core.Path.{◌≡◌, refl, sym, ap, ap₂, ◌∙◌}
use mathlib.Core.Bool.{Bool, true, false, ◌&&◌}
use mathlib.Core.List.{List, [], ◌∷◌}
use Prim.Native.Nat.{ℕ, ◌+◌, ◌-◌, ◌≤◌, ◌<◌, max}
use native.Mathlib.Omega.{arith}
use lib.Dec.{eqb, ltb, leb}
use borrow.Author.Tests.{le-leb, lt-leb, leb-true, leb-false}
use lib.IntN.{ℤ, pos, nat_abs}
use lib.ListN.{length, get_or, drop}
use Rattle.asp.specs.declared.rules.Row.{Row}
use Rattle.asp.specs.Sets.{pick}
use Rattle.asp.specs.Program.{Weighed}
use Rattle.asp.specs.Tables.{span, is_choice, is_mixed, bound_at, row_pairs}
use Rattle.asp.proofs.Pairs.{PairsLeft, pairs_next, pairs_more, pairs_none}
use Rattle.search.specs.Places.{truth_at}
use Rattle.bodies.proofs.WeighCode.{met_sum}
use Rattle.asp.specs.Growth.{PairsFormed, RowPairs, pairs_of}
use Rattle.search.specs.declared.scan.Rest.{Rest}
use Rattle.search.specs.declared.scan.Rest.TheVariants.{All, One, Off}
use Rattle.search.specs.Scan.{cond_at, meet_of, meets, head_conditions, head_rest, weighted_rest}
use Rattle.search.specs.Weigh.{met_at, breaker_of, body_rest}
use Rattle.search.proofs.ScanLaws.{off_stays}
use Rattle.asp.specs.declared.rules.RuleTable.{RuleTable}
use Rattle.search.specs.Scan.{Readable}
use Rattle.search.specs.Lent.{rules_lent}
use Rattle.counting.specs.declared.index.Index.{Index}
use Rattle.counting.specs.Counters.{Bodies, rest_number, weigh_number, open_at}
use Rattle.counting.specs.Counts.{Indexed}
use Rattle.counting.specs.Moves.{RowWeighs, ListReadable, Weighable}
use Rattle.counting.specs.Lent.{bodies_lent}
use Rattle.counting.proofs.Weighing.{indexed_weighable}

module _ (pool : List ℤ) (row : Row) where
  -- ---- the head

  pub head_chosen : (v : List ℕ) → is_choice row.head ≡ true → Off ≡ head_rest pool v row
  head_chosen v e = rw e (sym (off_stays v (head_conditions pool row)))

  pub head_none : (v : List ℕ) → is_choice row.head ≡ false → row.heads ≡ 0 → All ≡ head_rest pool v row
  unfolding span meets
  head_none v e c = rw (e, c)

  pub head_one : (v : List ℕ) → RowWeighs pool row → is_choice row.head ≡ false → (row.heads ≡ 0 → ⊥) → {s : Rest} → s ≡ meet_of v All (cond_at pool (row.first + row.heads) row.first) → s ≡ head_rest pool v row
  unfolding span meets
  head_one v w e n es =
      let c : row.heads ≡ 1 = single row.heads (w.single e) n in
      rw (e, c) (rw c at es)
    where
      single : (c : ℕ) → c ≤ 1 → (c ≡ 0 → ⊥) → c ≡ 1
      single c l n = omega arith

  pub head_inside : RowWeighs pool row → (row.heads ≡ 0 → ⊥) → row.first < length pool
  head_inside w n = omega (arith, w.inside)

  pub head_small : RowWeighs pool row → (row.heads ≡ 0 → ⊥) → nat_abs (get_or pool row.first (pos 0)) ≤ 1024
  head_small w n = w.small _ (omega arith) (omega arith)

  -- ---- the body

  pub weighs_paired : RowWeighs pool row → RowPairs pool row
  weighs_paired w = record { inside = w.inside; small = λ j a b. w.small j (omega arith) b }

  -- ---- both

  pub number_is : (v : List ℕ) {a : Rest} {x y : ℕ} → a ≡ head_rest pool v row → x ≡ rest_number a → y ≡ rest_number (weighted_rest pool v row) → x + y ≡ weigh_number pool v row
  unfolding weigh_number
  number_is v ea ex ey = ap₂ (λ (m n : ℕ). m + n) (ex ∙ ap rest_number ea) ey

  pub body_plain : (v : List ℕ) {x : Bool} → x ≡ is_mixed row.body → x ≡ false → {b : ℕ} → b ≡ bound_at pool row → {ps : List Weighed} → ps ≡ row_pairs pool row
      → {y : ℕ} → y ≡ rest_number (body_rest false v b ps) → y ≡ rest_number (weighted_rest pool v row)
  body_plain v ex q eb ep ey = let m : is_mixed row.body ≡ false = sym ex ∙ q in rw m (rw (eb, ep) at ey)

-- ---- in one pass

-- a literal is left just if the greatest weight of an undecided one is what lacks
breaker_number : (v : List ℕ) (lack : ℕ) (all ps : List Weighed) → 1 ≤ lack → rest_number (breaker_of false v lack all ps) ≡ pick (leb lack (open_at v ps)) 1 2
unfolding breaker_of open_at
breaker_number v lack all [] h = rw (lt-leb lack 0 h)
breaker_number v lack all (p ∷ ps) h = go (eqb (truth_at v p.literal) 0) (leb lack p.weight) refl (breaker_number v lack all ps h)
  where
    more : (w : ℕ) → leb lack w ≡ true → leb lack (max w (open_at v ps)) ≡ true
    more w e = le-leb lack (max w (open_at v ps)) (omega (arith, leb-true lack w e))

    same : (w : ℕ) → w < lack → leb lack (max w (open_at v ps)) ≡ leb lack (open_at v ps)
    same w l = by (leb lack (open_at v ps)) refl
      where
        by : (b : Bool) → leb lack (open_at v ps) ≡ b → leb lack (max w (open_at v ps)) ≡ b
        by true e = le-leb lack (max w (open_at v ps)) (omega (arith, leb-true lack (open_at v ps) e))
        by false e = lt-leb lack (max w (open_at v ps)) (omega (arith, leb-false lack (open_at v ps) e))

    go : (x y : Bool) → leb lack p.weight ≡ y → rest_number (breaker_of false v lack all ps) ≡ pick (leb lack (open_at v ps)) 1 2
        → rest_number (pick (x && y) (One p.literal) (breaker_of false v lack all ps)) ≡ pick (leb lack (max (pick x p.weight 0) (open_at v ps))) 1 2
    go true true e r = rw (more p.weight e)
    go true false e r = rw (same p.weight (leb-false lack p.weight e)) r
    go false y e r = rw (same 0 h) r

module _ (v : List ℕ) (ps : List Weighed) {b m o : ℕ} (em : m ≡ met_at v ps) (eo : o ≡ open_at v ps) where
  pub plain_all : b ≤ m → 0 ≡ rest_number (body_rest false v b ps)
  unfolding body_rest
  plain_all h = rw (← em, le-leb b m h)

  left : m < b → rest_number (breaker_of false v (b - m) ps ps) ≡ rest_number (body_rest false v b ps)
  unfolding body_rest
  left h = rw (← em, lt-leb b m h)

  pub plain_one : m < b → b - m ≤ o → 1 ≡ rest_number (body_rest false v b ps)
  plain_one h l =
      let z : leb (b - m) (open_at v ps) ≡ true = rw (← eo) (le-leb (b - m) o l) in
      sym (sym (left h) ∙ breaker_number v (b - m) ps ps (omega arith) ∙ (rw z refl))

  pub plain_off : m < b → o < b - m → 2 ≡ rest_number (body_rest false v b ps)
  plain_off h l =
      let z : leb (b - m) (open_at v ps) ≡ false = rw (← eo) (lt-leb (b - m) o l) in
      sym (sym (left h) ∙ breaker_number v (b - m) ps ps (omega arith) ∙ (rw z refl))

-- the loop: the sum as for any other, and the greatest beside it
pub record OpenLeft (v : List ℕ) (ls ws : List ℤ) (most i : ℕ) : Type 0 where
  pub rest : max most (open_at v (pairs_of (drop i ls) (drop i ws))) ≡ open_at v (pairs_of ls ws)

pub open_start : (v : List ℕ) (ls ws : List ℤ) → OpenLeft v ls ws 0 0
open_start v ls ws = record { rest = omega arith }

module _ {v : List ℕ} {ls ws : List ℤ} {most i : ℕ} (w : PairsFormed ls ws) (c : OpenLeft v ls ws most i) where
  pub open_more : i < length ls → {o : ℕ} → o ≡ max most (pick (eqb (truth_at v (get_or ls i (pos 0))) 0) (nat_abs (get_or ws i (pos 0))) 0) → OpenLeft v ls ws o (i + 1)
  unfolding open_at
  open_more h eo = record { rest = let r = rw (pairs_more ls ws i h w.even) at c.rest in omega (arith, r, eo) }

  -- the same, by what a body reads of the pair
  pub open_next_lem : i < length ls → {x w o : ℕ} → x ≡ truth_at v (get_or ls i (pos 0)) → w ≡ nat_abs (get_or ws i (pos 0)) → o ≡ max most (pick (eqb x 0) w 0) → OpenLeft v ls ws o (i + 1)
  open_next_lem h ex ew eo = open_more h (rw (ex, ew) at eo)

  pub open_done : length ls ≤ i → most ≡ open_at v (pairs_of ls ws)
  unfolding open_at
  open_done h = let r = rw (pairs_none ls ws i h) at c.rest in omega (arith, r)

pub met_next : (v : List ℕ) {ls ws : List ℤ} {met i : ℕ} → PairsFormed ls ws → PairsLeft (met_at v) ls ws met i → i < length ls → nat_abs (get_or ws i (pos 0)) < 4294967296
    → {m : ℕ} → m ≡ met + pick (eqb (truth_at v (get_or ls i (pos 0))) 1) (nat_abs (get_or ws i (pos 0))) 0 → PairsLeft (met_at v) ls ws m (i + 1)
met_next v {ls} {ws} {met} {i} f c h l em =
    rw em (pairs_next (met_sum v) f c h {v = pick (eqb (truth_at v (get_or ls i (pos 0))) 1) (nat_abs (get_or ws i (pos 0))) 0} refl (small (eqb (truth_at v (get_or ls i (pos 0))) 1)))
  where
    small : (b : Bool) → pick b (nat_abs (get_or ws i (pos 0))) 0 < 4294967296
    small true = l
    small false = omega arith

-- ---- the list of an atom

module _ (b : Bodies) (o : Index) (w : Weighable b o) where
  pub list_weighable : {a x y : ℕ} → a ≤ 1024 → x ≡ get_or o.starts (2050 + a) 0 → y ≡ get_or o.starts (2050 + a + 1) 0 → ListReadable b o.rules x y
  list_weighable {a} {x} {y} h ex ey = record {
    inside = rw ey (o.shape.inside (2050 + a + 1));
    small = o.shape.small;
    each = λ e p q. w.each a e h (omega arith) (omega arith);
  }

module _ (rules : RuleTable) {o : Index} (i : Indexed (rules_lent rules) o) where
  pub list_readable : Readable (rules_lent rules) → {a x y : ℕ} → a ≤ 1024 → x ≡ get_or o.starts (2050 + a) 0 → y ≡ get_or o.starts (2050 + a + 1) 0 → ListReadable (bodies_lent rules) o.rules x y
  list_readable f h ex ey = list_weighable (bodies_lent rules) o (indexed_weighable i f) h ex ey

pub named_is : {a b x y : ℕ} → x ≡ a → y ≡ b → ltb x y ≡ ltb a b
named_is p q = rw (p, q)
