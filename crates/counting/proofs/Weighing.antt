-- The rules that name an atom: their rows can be read. Assumes nothing.
use mathlib.Core.Path.{◌≡◌, refl}
use mathlib.Core.Bool.{true}
use mathlib.Core.List.{List}
use Prim.Native.Nat.{ℕ, ◌+◌, ◌≤◌, ◌<◌}
use native.Mathlib.Omega.{arith}
use lib.Dec.{eqb}
use lib.IntN.{ℤ}
use lib.ListN.{length, get_or}
use borrow.Author.Tests.{eq-eqb}
use Rattle.asp.specs.Sets.{ind}
use Rattle.asp.specs.declared.rules.Row.{Row}
use Rattle.asp.specs.Tables.{is_weighted, Formed}
use Rattle.search.specs.Scan.{Rules, rules, row_of, Readable}
use Rattle.search.proofs.Formed.{readable}
use Rattle.counting.specs.declared.index.Index.{Index}
use Rattle.counting.specs.Counters.{bodies, first, list_length}
use Rattle.counting.specs.Moves.{Weighable}
use Rattle.counting.specs.Counts.{times_in, Indexed}
use Rattle.counting.proofs.Sums.{sum_part}

-- the rows of the weighted bodies can be read
pub indexed_weighable : {g : Rules} {o : Index} → Indexed g o → Readable g → Weighable (bodies g.pool g.rows) o
indexed_weighable {g} {o} i f = record {
  each = λ a e h p q.
      let r = get_or o.rules e 0 in
      let c : get_or o.rules e 0 < g.count = i.inside (2050 + a) e (omega arith) p q in
      let w : is_weighted (row_of g (get_or o.rules e 0)).body ≡ true = i.bodied (get_or o.rules e 0) a c h (some a e p q) in
      record {
        long = omega (arith, f.long);
        row = record { weighted = w; single = f.single (get_or o.rules e 0) c; inside = f.weighed (get_or o.rules e 0) c w; small = f.small (get_or o.rules e 0) c };
      };
}
  where
    some : (a e : ℕ) → first o (2050 + a) ≤ e → e < first o (2050 + a) + list_length o (2050 + a) → times_in o (get_or o.rules e 0) (2050 + a) ≡ 0 → ⊥
    some a e p q z =
        let y = sum_part (λ x. ind (eqb (get_or o.rules x 0) (get_or o.rules e 0))) e (first o (2050 + a)) (list_length o (2050 + a)) p q in
        omega (arith, rw (eq-eqb (get_or o.rules e 0) (get_or o.rules e 0) refl) at y)

pub formed_weighable : {n : ℕ} {pool : List ℤ} {rows : List Row} {o : Index} → Formed n pool rows (length rows) → Indexed (rules pool rows (length rows)) o → {w : List Row} → w ≡ rows → Weighable (bodies pool w) o
formed_weighable f i e = rw e (indexed_weighable i (readable _ _ _ _ f))
