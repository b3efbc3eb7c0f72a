-- The scan of the rules under the values of a trail. Document 01: "In the test for failure the scan over rules and their literals is left at the first
-- broken rule." On the way it notes the first literal that would break a rule if added: document 01 leaves that free; docs/DECISIONS.md says why this one. Assumes nothing: these are definitions.
use Rattle.std.specs.Prelude.{◌≡◌, Bool, true, false, List, [], ◌∷◌, ℕ, zero, suc, ◌+◌, ◌<◌, ◌≤◌, eqb, ltb, ℤ, pos, neg_ℤ, nat_abs, length, get_or}
use Rattle.asp.specs.declared.rules.Row.{Row}
use Rattle.asp.specs.Sets.{pick}
use Rattle.asp.specs.Literal.{same_ℤ}
use Rattle.asp.specs.Tables.{span, is_choice, is_weighted, is_mixed, pairs_at, bound_at, row_at}
use Rattle.asp.specs.declared.rules.HeadKind.{HeadKind}
use Rattle.search.specs.Places.{truth_of}
use Rattle.search.specs.Weigh.{body_rest, both_rest}
use Rattle.search.specs.declared.scan.Rest.{Rest}
use Rattle.search.specs.declared.scan.Rest.TheVariants.{All, One, Off}
use Rattle.search.specs.declared.scan.Found.{Found}
use Rattle.search.specs.declared.scan.Found.TheVariants.{Broken, Breaker, Clear}

-- the tables of the rules (see `Tables` of asp): the first `count` rows, and the pool that they point into
pub record Rules : Type 0 where
  pub pool : List ℤ
  pub rows : List Row
  pub count : ℕ

abbrev pub rules : List ℤ → List Row → ℕ → Rules
rules p r k = record { pool = p; rows = r; count = k }

abbrev pub row_of : Rules → ℕ → Row
row_of g r = row_at g.rows r

-- ---- one rule

-- the condition at place k: the complement of a head atom, before mid, or a body literal
abbrev pub cond_at : List ℤ → ℕ → ℕ → ℤ
cond_at pool mid k = pick (ltb k mid) (neg_ℤ (get_or pool k (pos 0))) (get_or pool k (pos 0))

-- the conditions of a rule: its head's complement and its body
abbrev pub conditions : List ℤ → Row → List ℤ
conditions pool w = span (cond_at pool (w.first + w.heads)) w.first (w.heads + w.literals)

-- a condition that is undecided
abbrev pub free_of : Rest → ℤ → Rest
free_of All l = One l
free_of (One f) l = pick (same_ℤ f l) (One f) Off
free_of Off l = Off

-- one more condition, by its truth
abbrev pub meet_value : Rest → ℤ → ℕ → Rest
meet_value s l x = pick (eqb (truth_of l x) 1) s (pick (eqb (truth_of l x) 0) (free_of s l) Off)

abbrev pub meet_of : List ℕ → Rest → ℤ → Rest
meet_of value s l = meet_value s l (get_or value (nat_abs l) 0)

-- what is left of conditions: nothing (all are true), one literal, or more, or one is false
unfoldable pub meets : List ℕ → Rest → List ℤ → Rest
meets value s [] = s
meets value s (l ∷ ls) = meets value (meet_of value s l) ls

-- a choice rule has no conditions that could all be true
abbrev pub begins : HeadKind → Rest
begins kind = pick (is_choice kind) Off All

-- order 2: the conditions of a head alone, and what is left of a weighted body
abbrev pub head_conditions : List ℤ → Row → List ℤ
head_conditions pool w = span (cond_at pool (w.first + w.heads)) w.first w.heads

abbrev pub head_rest : List ℤ → List ℕ → Row → Rest
head_rest pool value w = meets value (begins w.head) (head_conditions pool w)

abbrev pub weighted_rest : List ℤ → List ℕ → Row → Rest
weighted_rest pool value w = body_rest (is_mixed w.body) value (bound_at pool w) (pairs_at pool (w.literals + 1) (w.first + w.heads) w.literals)

abbrev pub row_rest : List ℤ → List ℕ → Row → Rest
row_rest pool value w = pick (is_weighted w.body) (both_rest (head_rest pool value w) (weighted_rest pool value w)) (meets value (begins w.head) (conditions pool w))

abbrev pub rest_of : Rules → List ℕ → ℕ → Rest
rest_of g value r = row_rest g.pool value (row_of g r)

-- ---- the rules

abbrev pub is_all : Rest → Bool
is_all All = true
is_all (One l) = false
is_all Off = false

-- the first literal that is left alone is noted
abbrev pub note_of : Found → Rest → Found
note_of Clear (One l) = Breaker l
note_of Clear All = Clear
note_of Clear Off = Clear
note_of (Breaker f) s = Breaker f
note_of (Broken r) s = Broken r

-- the scan of k rules from r on, with what was noted so far
unfoldable pub scan_from : (ℕ → Rest) → Found → ℕ → ℕ → Found
scan_from p a r zero = a
scan_from p a r (suc k) = pick (is_all (p r)) (Broken r) (scan_from p (note_of a (p r)) (r + 1) k)

abbrev pub scan_of : Rules → List ℕ → Found
scan_of g value = scan_from (rest_of g value) Clear 0 g.count

-- the tables can be read: each place is inside, and literals are of atoms up to 1,024
pub record Readable (g : Rules) : Type 0 where
  pub long : g.count ≤ length g.rows
  pub inside : (r : ℕ) → r < g.count → (row_of g r).first + (row_of g r).heads + (row_of g r).literals ≤ length g.pool
  pub single : (r : ℕ) → r < g.count → is_choice (row_of g r).head ≡ false → (row_of g r).heads ≤ 1
  pub weighed : (r : ℕ) → r < g.count → is_weighted (row_of g r).body ≡ true → (row_of g r).first + (row_of g r).heads + (row_of g r).literals + 1 + (row_of g r).literals ≤ length g.pool
  pub small : (r : ℕ) → r < g.count → (k : ℕ) → (row_of g r).first ≤ k → k < (row_of g r).first + (row_of g r).heads + (row_of g r).literals → nat_abs (get_or g.pool k (pos 0)) ≤ 1024
