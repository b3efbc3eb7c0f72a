-- A number for each rule, kept by every move: what a move does to the table. Assumes nothing: these are definitions.
use Rattle.std.specs.Prelude.{Bool, List, [], ◌∷◌, ℤ, ℕ, zero, suc, ◌+◌, ◌-◌, ◌*◌, max, eqb, ltb, get_or, set}
use Rattle.asp.specs.declared.rules.Row.{Row}
use Rattle.asp.specs.Sets.{pick}
use Rattle.asp.specs.Program.{Weighed}
use Rattle.asp.specs.Tables.{row_at}
use Rattle.search.specs.Places.{truth_at}
use Rattle.search.specs.Scan.{head_rest, weighted_rest}
use Rattle.search.specs.declared.scan.Rest.{Rest}
use Rattle.search.specs.declared.scan.Rest.TheVariants.{All, One, Off}
use Rattle.counting.specs.declared.index.Index.{Index}
use Rattle.counting.specs.Shape.{Shape}
use Rattle.counting.specs.declared.counters.Counters.{Counters}
use Rattle.counting.specs.declared.counters.Marks.{Marks}

-- literal a has list 2a, and its negation list 2a + 1; order 2: the rules with a weighted body that name the atom a have list 2050 + a. Among the heads atom a has list a.
abbrev pub Shaped : Index → Type 0
Shaped o = Shape o.starts o.rules

abbrev pub index : (s r : List ℕ) → Shape s r → Index
index s r f = record { starts = s; rules = r; shape = f }

abbrev pub counters : List ℕ → Marks → Counters
counters k m = record { key = k; marks = m }

abbrev pub marks : ℕ → ℕ → ℕ → ℕ → Marks
marks b l z a = record { broken = b; low = l; zero = z; atom = a }

-- one more, up to 65,535
abbrev pub plus_one : ℕ → ℕ
plus_one k = pick (ltb k 65535) (k + 1) k

abbrev pub least : ℕ → ℕ → ℕ
least r low = pick (ltb r low) r low

abbrev pub lower_marks : ℕ → ℕ → Marks → Marks
lower_marks r k m = pick (ltb 2 k) m (pick (eqb k 1) (marks (plus_one m.broken) (least r m.low) (least r m.zero) m.atom) (marks m.broken (least r m.low) m.zero m.atom))

abbrev pub raise_marks : ℕ → Marks → Marks
raise_marks k m = pick (eqb k 0) (marks (m.broken - 1) m.low m.zero m.atom) m

-- atom a becomes undecided
abbrev pub freed_marks : ℕ → Marks → Marks
freed_marks a m = marks m.broken m.low m.zero (least a m.atom)

abbrev pub freed : ℕ → Counters → Counters
freed a t = counters t.key (freed_marks a t.marks)

unfoldable pub lower_at : ℕ → Counters → Counters
lower_at r t = counters (set t.key r (get_or t.key r 0 - 1)) (lower_marks r (get_or t.key r 0) t.marks)

unfoldable pub raise_at : ℕ → Counters → Counters
raise_at r t = counters (set t.key r (plus_one (get_or t.key r 0))) (raise_marks (get_or t.key r 0) t.marks)

unfoldable pub lower_from : List ℕ → ℕ → ℕ → Counters → Counters
lower_from rs e zero t = t
lower_from rs e (suc k) t = lower_from rs (e + 1) k (lower_at (get_or rs e 0) t)

unfoldable pub raise_from : List ℕ → ℕ → ℕ → Counters → Counters
raise_from rs e zero t = t
raise_from rs e (suc k) t = raise_from rs (e + 1) k (raise_at (get_or rs e 0) t)

-- list i: its first place, and how long it is
abbrev pub first : Index → ℕ → ℕ
first o i = get_or o.starts i 0

abbrev pub list_length : Index → ℕ → ℕ
list_length o i = first o (i + 1) - first o i

unfoldable pub shift_of : Index → ℕ → ℕ → Counters → Counters
shift_of o down up t = raise_from o.rules (first o up) (list_length o up) (lower_from o.rules (first o down) (list_length o down) t)

unfoldable pub decide_of : Index → ℕ → ℕ → Counters → Counters
decide_of o a s t = pick (eqb s 1) (shift_of o (a * 2) (a * 2 + 1) t) (shift_of o (a * 2 + 1) (a * 2) t)

unfoldable pub release_of : Index → ℕ → ℕ → Counters → Counters
release_of o a y t = pick (eqb y 0) t (pick (eqb y 1) (shift_of o (a * 2 + 1) (a * 2) (freed a t)) (shift_of o (a * 2) (a * 2 + 1) (freed a t)))

-- ---- order 2: a rule with a weighted body has its number from the values alone, and gets it anew where the value of one of its atoms changes

abbrev pub rest_number : Rest → ℕ
rest_number All = 0
rest_number (One l) = 1
rest_number Off = 2

-- the greatest weight of an undecided literal
unfoldable pub open_at : List ℕ → List Weighed → ℕ
open_at v [] = 0
open_at v (p ∷ ps) = max (pick (eqb (truth_at v p.literal) 0) p.weight 0) (open_at v ps)

unfoldable pub weigh_number : List ℤ → List ℕ → Row → ℕ
weigh_number pool v w = rest_number (head_rest pool v w) + rest_number (weighted_rest pool v w)

-- the tables that say the bodies
pub record Bodies : Type 0 where
  pub pool : List ℤ
  pub rows : List Row

abbrev pub bodies : List ℤ → List Row → Bodies
bodies p r = record { pool = p; rows = r }

abbrev pub number_of : Bodies → List ℕ → ℕ → ℕ
number_of b v r = weigh_number b.pool v (row_at b.rows r)

-- the marks after rule r had `old` and has `new`
abbrev pub broken_after : ℕ → ℕ → ℕ → ℕ
broken_after old new b = pick (eqb new 0) (pick (eqb old 0) b (plus_one b)) (pick (eqb old 0) (b - 1) b)

abbrev pub put_marks : ℕ → ℕ → ℕ → Marks → Marks
put_marks r old new m = marks (broken_after old new m.broken) (pick (ltb new 2) (least r m.low) m.low) (pick (eqb new 0) (least r m.zero) m.zero) m.atom

unfoldable pub put_at : ℕ → ℕ → Counters → Counters
put_at r k t = counters (set t.key r k) (put_marks r (get_or t.key r 0) k t.marks)

-- .. if it is another
abbrev pub renew_at : ℕ → ℕ → Counters → Counters
renew_at r k t = pick (eqb (get_or t.key r 0) k) t (put_at r k t)

unfoldable pub weigh_from : Bodies → List ℕ → List ℕ → ℕ → ℕ → Counters → Counters
weigh_from b v rs e zero t = t
weigh_from b v rs e (suc k) t = weigh_from b v rs (e + 1) k (renew_at (get_or rs e 0) (number_of b v (get_or rs e 0)) t)

-- some rule with a weighted body names the atom a
abbrev pub is_named : Index → ℕ → Bool
is_named o a = ltb (first o (2050 + a)) (first o (2050 + a + 1))

-- the rules that name the atom a
unfoldable pub weigh_of : Bodies → Index → ℕ → List ℕ → Counters → Counters
weigh_of b o a v t = weigh_from b v o.rules (first o (2050 + a)) (list_length o (2050 + a)) t
