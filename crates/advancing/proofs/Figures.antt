-- Figures on tables: a list of eight, at whose front a figure for each level stands; and what lies above the starts. Assumes nothing.
use mathlib.Core.Path.{◌≡◌, refl, sym, ap, ap₂, ◌∙◌}
use mathlib.Core.List.{List, [], ◌∷◌, ◌++◌, map}
use Prim.Native.Nat.{ℕ, zero, suc, ◌+◌, ◌-◌, ◌≤◌, ◌<◌}
use native.Mathlib.Nat.{zero-add}
use native.Mathlib.Omega.{arith}
use lib.IntN.{ℤ, pos, nat_abs}
use lib.ListN.{length, get_or, take, drop, replicate, length-replicate, length-drop}
use Rattle.asp.specs.declared.entries.Entry.{Entry}
use Rattle.asp.specs.Sets.{Set, set_of}
use Rattle.asp.specs.Program.{LiteralIn}
use Rattle.asp.specs.Cost.{cost, start, level}
use Rattle.asp.specs.Penalty.{charge, above, rise}
use Rattle.asp.specs.Tables.{span, literals_at}
use Rattle.asp.proofs.Spans.{length_span, map_span, all_map}
use Rattle.asp.proofs.Penalties.{Named, level_all, cost_is, aboves, IsAbove}
use Rattle.cores.proofs.Spans.{get_d_span, span_ext}
use Rattle.optimum.specs.Optimize.{charges_on}
use Rattle.advancing.specs.Source.{Levels, Source, many, level_at, start_at, penalties_at, levels_in, penalties_in, entries_in, FormedSource}
use Rattle.advancing.specs.State.{starts_of}
use Rattle.advancing.specs.Finish.{costs_of}

-- ---- eight figures, of which a function of the level gives the first

take_front : {A : Type 0} (xs ys : List A) (n : ℕ) → length xs ≡ n → take n (xs ++ ys) ≡ xs
take_front [] ys zero e = refl
take_front [] ys (suc n) e = absurd (omega arith)
take_front (x ∷ xs) ys zero e = absurd (omega arith)
take_front {A} (x ∷ xs) ys (suc n) e = ap (λ (zs : List A). x ∷ zs) (take_front xs ys n (omega arith))

get_d_front : (xs ys : List ℤ) (j : ℕ) → j < length xs → get_or (xs ++ ys) j (pos 0) ≡ get_or xs j (pos 0)
get_d_front [] ys j h = absurd (omega arith)
get_d_front (x ∷ xs) ys zero h = refl
get_d_front (x ∷ xs) ys (suc j) h = get_d_front xs ys j (omega arith)

module _ (L : Levels) (f : List Entry → ℤ) where
  abbrev listed : List ℤ
  listed = map (λ (q : ℤ). f (level q (entries_in L))) (literals_at L.levels 0 (many L))

  abbrev eight : List ℤ
  eight = listed ++ drop (many L) (replicate 8 (pos 0))

  listed_is : listed ≡ span (λ j. f (level_at L j)) 0 (many L)
  listed_is = map_span (λ (q : ℤ). f (level q (entries_in L))) (λ j. get_or L.levels j (pos 0)) 0 (many L)

  listed_long : length listed ≡ many L
  listed_long = ap length listed_is ∙ length_span (λ j. f (level_at L j)) 0 (many L)

  front_are : take (many L) eight ≡ span (λ j. f (level_at L j)) 0 (many L)
  front_are = take_front listed (drop (many L) (replicate 8 (pos 0))) (many L) listed_long ∙ listed_is

  front_at : (j : ℕ) → j < many L → get_or eight j (pos 0) ≡ f (level_at L j)
  front_at j h =
      get_d_front listed (drop (many L) (replicate 8 (pos 0))) j (omega (arith, listed_long))
      ∙ ap (λ (xs : List ℤ). get_or xs j (pos 0)) listed_is ∙ get_d_span (λ (i : ℕ). f (level_at L i)) 0 (many L) (pos 0) j h
      ∙ ap (λ (i : ℕ). f (level_at L i)) (zero-add j)

  eight_long : many L ≤ 8 → length eight ≡ 8
  eight_long h = length_both listed (drop (many L) (replicate 8 (pos 0))) ∙ ap₂ (λ (a b : ℕ). a + b) listed_long (length-drop (many L) (replicate {A = ℤ} 8 (pos 0)) ∙ ap (λ (n : ℕ). n - many L) (length-replicate {A = ℤ} 8 (pos 0))) ∙ omega arith
    where
      length_both : (xs ys : List ℤ) → length (xs ++ ys) ≡ length xs + length ys
      length_both [] ys = omega arith
      length_both (x ∷ xs) ys = omega (arith, length_both xs ys)

-- ---- the costs of a set, and the starts

module _ (L : Levels) where
  -- the costs as the levels say them
  pub costs_are : (v : List ℕ) → take (many L) (costs_of L v) ≡ map (cost (set_of v)) (levels_in L)
  costs_are v = front_are L (cost (set_of v)) ∙ sym (map_span (cost (set_of v)) (level_at L) 0 (many L))

  pub cost_at : (v : List ℕ) (j : ℕ) → j < many L → get_or (costs_of L v) j (pos 0) ≡ cost (set_of v) (level_at L j)
  cost_at v = front_at L (cost (set_of v))

  pub start_at_lem : (j : ℕ) → j < many L → get_or (starts_of L) j (pos 0) ≡ start_at L j
  start_at_lem = front_at L start

  pub starts_long : many L ≤ 8 → length (starts_of L) ≡ 8
  starts_long = eight_long L start

-- ---- above the starts

aboves_span : (f : ℕ → ℤ) (g : ℕ → ℕ) (i k : ℕ) → aboves (span f i k) (span g i k) ≡ span (λ j. above (f j) (g j)) i k
unfolding aboves span
aboves_span f g i zero = refl
aboves_span f g i (suc k) = ap (λ (zs : List ℤ). above (f i) (g i) ∷ zs) (aboves_span f g (i + 1) k)

abbrev pub starts_in : Levels → List ℤ
starts_in L = span (start_at L) 0 (many L)

-- the figures of a table, as far above the starts
abbrev pub rises_of : Levels → List ℤ → List ℕ
rises_of L lowers = span (λ j. rise (start_at L j) (get_or lowers j (pos 0))) 0 (many L)

-- each figure of a table lies above its level's start
abbrev pub Figured : Levels → List ℤ → Type 0
Figured L lowers = (j : ℕ) → j < many L → IsAbove (start_at L j) (get_or lowers j (pos 0))

front_span : (l : List ℤ) (i m : ℕ) → m ≤ length l → take m l ≡ span (λ j. get_or l (j - i) (pos 0)) i m
unfolding span
front_span l i zero h = refl
front_span [] i (suc m) h = absurd (omega arith)
front_span (x ∷ l) i (suc m) h =
    let e : i - i ≡ 0 = omega arith in
    ap₂ (λ (y : ℤ) (ys : List ℤ). y ∷ ys) (sym (ap (λ (k : ℕ). get_or (x ∷ l) k (pos 0)) e))
    (front_span l (i + 1) m (omega arith) ∙ span_ext (λ j. get_or l (j - (i + 1)) (pos 0)) (λ j. get_or (x ∷ l) (j - i) (pos 0)) (i + 1) m (λ p a b. later p a))
  where
    later : (p : ℕ) → i + 1 ≤ p → get_or l (p - (i + 1)) (pos 0) ≡ get_or (x ∷ l) (p - i) (pos 0)
    later p a = let q : p - i ≡ suc (p - (i + 1)) = omega arith in sym (ap (λ (k : ℕ). get_or (x ∷ l) k (pos 0)) q)

front_is : (l : List ℤ) (m : ℕ) → m ≤ length l → take m l ≡ span (λ j. get_or l j (pos 0)) 0 m
front_is l m h = front_span l 0 m h ∙ span_ext (λ j. get_or l (j - 0) (pos 0)) (λ j. get_or l j (pos 0)) 0 m (λ p a b. same p)
  where
    same : (p : ℕ) → get_or l (p - 0) (pos 0) ≡ get_or l p (pos 0)
    same p = let e : p - 0 ≡ p = omega arith in ap (λ (k : ℕ). get_or l k (pos 0)) e

-- THE FIGURES OF A TABLE ARE WHAT THEY ARE ABOVE THE STARTS
pub figures_are : (L : Levels) (lowers : List ℤ) → many L ≤ length lowers → Figured L lowers → take (many L) lowers ≡ aboves (starts_in L) (rises_of L lowers)
figures_are L lowers h g =
    front_is lowers (many L) h
    ∙ span_ext (λ j. get_or lowers j (pos 0)) (λ j. above (start_at L j) (rise (start_at L j) (get_or lowers j (pos 0)))) 0 (many L) (λ p a b. g p (omega arith))
    ∙ sym (aboves_span (start_at L) (λ j. rise (start_at L j) (get_or lowers j (pos 0))) 0 (many L))

module _ (S : Source) (f : FormedSource S) where
  abbrev L : Levels
  L = S.levels

  named_at : (j : ℕ) → Named (level_at L j)
  named_at j = level_all (λ (e : Entry). 1 ≤ nat_abs e.literal) (get_or L.levels j (pos 0)) (entries_in L) (all_map (λ (e : Entry). LiteralIn S.n e.literal) (λ (e : Entry). 1 ≤ nat_abs e.literal) (λ e h. h.0) (entries_in L) f.atoms)

  -- what a set costs on a level lies above the start by what the penalties charge
  pub cost_above : (M : Set) (j : ℕ) → cost M (level_at L j) ≡ above (start_at L j) (charge M (penalties_at L j))
  cost_above M j = cost_is M (level_at L j) (named_at j)

  pub costs_above : (M : Set) → map (cost M) (levels_in L) ≡ aboves (starts_in L) (charges_on M (penalties_in L))
  costs_above M =
      map_span (cost M) (level_at L) 0 (many L)
      ∙ span_ext (λ j. cost M (level_at L j)) (λ j. above (start_at L j) (charge M (penalties_at L j))) 0 (many L) (λ p a b. cost_above M p)
      ∙ sym (aboves_span (start_at L) (λ j. charge M (penalties_at L j)) 0 (many L))
      ∙ ap (aboves (starts_in L)) (sym (map_span (charge M) (penalties_at L) 0 (many L)))

-- as many figures as levels
pub starts_many : (L : Levels) → length (starts_in L) ≡ many L
starts_many L = length_span (start_at L) 0 (many L)

pub charges_many : (L : Levels) (M : Set) → length (charges_on M (penalties_in L)) ≡ many L
charges_many L M = ap length (map_span (charge M) (penalties_at L) 0 (many L)) ∙ length_span (λ j. charge M (penalties_at L j)) 0 (many L)
