-- The scan's answer depends on the rules only, however their tables lie: on the conditions of each in their order, on whether it is a choice, and on its place among
-- the rules. Assumes nothing.
use mathlib.Core.Path.{◌≡◌, refl, sym, ap, ◌∙◌}
use mathlib.Core.Bool.{Bool, true, false, not}
use mathlib.Core.List.{List, [], ◌∷◌}
use Prim.Native.Nat.{ℕ, zero, suc, ◌+◌, ◌≤◌}
use native.Mathlib.Omega.{arith}
use lib.IntN.{ℤ, pos, neg_ℤ}
use lib.ListN.{get_or}
use borrow.Author.Tests.{lt-ltb, le-ltb}
use Rattle.asp.specs.declared.rules.Row.{Row}
use Rattle.asp.specs.Sets.{pick}
use Rattle.asp.specs.Literal.{one_signed}
use Rattle.search.specs.Weigh.{literals_of, body_rest, both_rest}
use Rattle.search.proofs.WeighLaws.{row_literals}
use Rattle.asp.specs.Program.{Literal, Weighed, Body, normal, weighted, Head, constraint, plain, choice, Rule, RuleIn}
use Rattle.asp.specs.Tables.{span, literals_at, named, atoms_at, is_choice, is_weighted, is_mixed, pairs_at, bound_at, row_at, plain_head, rule_at, rules_of, RowIn, Formed}
use Rattle.search.specs.declared.scan.Rest.{Rest}
use Rattle.search.specs.declared.scan.Rest.TheVariants.{All, Off}
use Rattle.search.specs.declared.scan.Found.{Found}
use Rattle.search.specs.declared.scan.Found.TheVariants.{Broken, Clear}
use Rattle.search.specs.Scan.{rules, cond_at, conditions, head_conditions, weighted_rest, row_rest, meets, rest_of, is_all, note_of, scan_from, scan_of}
use Rattle.search.proofs.ScanLaws.{off_stays}
use Rattle.search.proofs.Formed.{plain_head_lem, rule_in}

-- ---- one rule

-- what is left of a rule's conditions: the complement of its head atom, and its body; a choice has none that could all be true
abbrev rest_normal : List ℕ → Head → List Literal → Rest
rest_normal v constraint ls = meets v All ls
rest_normal v (plain h) ls = meets v All (neg_ℤ (pos h) ∷ ls)
rest_normal v (choice hs) ls = Off

abbrev rest_weighted : List ℕ → Head → ℕ → List Weighed → Rest
rest_weighted v constraint b ps = body_rest (not (one_signed (literals_of ps))) v b ps
rest_weighted v (plain h) b ps = both_rest (meets v All (neg_ℤ (pos h) ∷ [])) (body_rest (not (one_signed (literals_of ps))) v b ps)
rest_weighted v (choice hs) b ps = Off

abbrev pub rest_by : List ℕ → Head → Body → Rest
rest_by v h (normal ls) = rest_normal v h ls
rest_by v h (weighted b ps) = rest_weighted v h b ps

abbrev pub rest_in : List ℕ → Rule → Rest
rest_in v r = rest_by v r.head r.body

-- from mid on the conditions are the body
body_conds : (pool : List ℤ) (mid k d : ℕ) → mid ≤ k → span (cond_at pool mid) k d ≡ literals_at pool k d
unfolding span
body_conds pool mid k zero h = refl
body_conds pool mid k (suc d) h = rw (le-ltb k mid h, body_conds pool mid (k + 1) d (omega arith))

plain_rest : (v : List ℕ) (pool : List ℤ) (b c d : ℕ) → c ≤ 1 → (c ≡ 1 → pos (named (get_or pool b (pos 0))) ≡ get_or pool b (pos 0))
    → meets v All (span (cond_at pool (b + c)) b (c + d)) ≡ rest_by v (plain_head (atoms_at pool b c)) (normal (literals_at pool (b + c) d))
unfolding span
plain_rest v pool b zero d l h =
    let e : b + 0 ≡ b = omega arith in
    let z : 0 + d ≡ d = omega arith in
    rw (e, z) (ap (meets v All) (body_conds pool b b d (omega arith)))
plain_rest v pool b (suc zero) d l h =
    let z : 1 + d ≡ suc d = omega arith in
    rw (z, lt-ltb b (b + 1) (omega arith), h refl, body_conds pool (b + 1) (b + 1) d (omega arith))
plain_rest v pool b (suc (suc c)) d l h = absurd (omega arith)

head_rest_lem : (v : List ℕ) (pool : List ℤ) (b c w : ℕ) (ps : List Weighed) → c ≤ 1 → (c ≡ 1 → pos (named (get_or pool b (pos 0))) ≡ get_or pool b (pos 0))
    → both_rest (meets v All (span (cond_at pool (b + c)) b c)) (body_rest (not (one_signed (literals_of ps))) v w ps) ≡ rest_weighted v (plain_head (atoms_at pool b c)) w ps
unfolding span meets
head_rest_lem v pool b zero w ps l h = refl
head_rest_lem v pool b (suc zero) w ps l h = rw (lt-ltb b (b + 1) (omega arith), h refl)
head_rest_lem v pool b (suc (suc c)) w ps l h = absurd (omega arith)

module _ (n : ℕ) (v : List ℕ) (pool : List ℤ) (x : Row) (r : RowIn pool x) (i : RuleIn n (rule_at pool x)) where
  abbrev pairs : List Weighed
  pairs = pairs_at pool (x.literals + 1) (x.first + x.heads) x.literals

  abbrev heads : Bool → Head
  heads b = pick b (choice (atoms_at pool x.first x.heads)) (plain_head (atoms_at pool x.first x.heads))

  mixed_is : is_weighted x.body ≡ true → is_mixed x.body ≡ not (one_signed (literals_of pairs))
  mixed_is e = r.signed e ∙ ap (λ (ls : List Literal). not (one_signed ls)) (sym (row_literals pool (x.literals + 1) (x.first + x.heads) x.literals))

  row_rest_lem : row_rest pool v x ≡ rest_in v (rule_at pool x)
  row_rest_lem = go (is_weighted x.body) refl (is_choice x.head) refl
    where
      go : (a : Bool) → is_weighted x.body ≡ a → (b : Bool) → is_choice x.head ≡ b
          → pick a (both_rest (meets v (pick b Off All) (head_conditions pool x)) (weighted_rest pool v x)) (meets v (pick b Off All) (conditions pool x))
          ≡ rest_by v (heads b) (pick a (weighted (bound_at pool x) pairs) (normal (literals_at pool (x.first + x.heads) x.literals)))
      go true q true e = rw (off_stays v (head_conditions pool x))
      go true q false e = rw (mixed_is q) (head_rest_lem v pool x.first x.heads (bound_at pool x) pairs (r.single e) (plain_head_lem n pool x r i e))
      go false q true e = off_stays v (conditions pool x)
      go false q false e = plain_rest v pool x.first x.heads x.literals (r.single e) (plain_head_lem n pool x r i e)

-- ---- the rules

-- the scan of a list of rules, the first of them at place r
unfoldable pub scan_rules : List ℕ → Found → ℕ → List Rule → Found
scan_rules v a r [] = a
scan_rules v a r (x ∷ xs) = pick (is_all (rest_in v x)) (Broken r) (scan_rules v (note_of a (rest_in v x)) (r + 1) xs)

module _ (n : ℕ) (pool : List ℤ) (rows : List Row) (count : ℕ) (f : Formed n pool rows count) (v : List ℕ) where
  from_rules : (a : Found) (i k : ℕ) → i + k ≤ count
      → scan_from (rest_of (rules pool rows count) v) a i k ≡ scan_rules v a i (span (λ (r : ℕ). rule_at pool (row_at rows r)) i k)
  unfolding scan_from scan_rules span
  from_rules a i zero h = refl
  from_rules a i (suc k) h =
      rw (row_rest_lem n v pool (row_at rows i) (f.row i (omega arith)) (rule_in n pool rows count f i (omega arith)), from_rules (note_of a (rest_in v (rule_at pool (row_at rows i)))) (i + 1) k (omega arith))

  pub scan_rules_lem : scan_of (rules pool rows count) v ≡ scan_rules v Clear 0 (rules_of pool rows count)
  scan_rules_lem = from_rules Clear 0 count (omega arith)

-- TABLES WITH THE SAME RULES ARE SCANNED ALIKE
pub scan_same : (n m : ℕ) (pool pool' : List ℤ) (rows rows' : List Row) (count count' : ℕ) → Formed n pool rows count → Formed m pool' rows' count'
    → rules_of pool rows count ≡ rules_of pool' rows' count' → (v : List ℕ) → scan_of (rules pool rows count) v ≡ scan_of (rules pool' rows' count') v
scan_same n m pool pool' rows rows' count count' f g e v = scan_rules_lem n pool rows count f v ∙ ap (scan_rules v Clear 0) e ∙ sym (scan_rules_lem m pool' rows' count' g v)
