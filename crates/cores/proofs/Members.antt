-- The members of a core, by place and by the list; tests that decide the conditions of a core. Assumes nothing.
use mathlib.Core.Path.{subst}
use mathlib.Core.Logic.{◌≢◌}
use mathlib.Core.Bool.{Bool, true, not, ◌&&◌}
use mathlib.Core.List.{List, [], ◌∷◌}
use Prim.Native.Nat.{ℕ, zero, suc, ◌<◌, zero-le, suc-le-suc}
use native.Mathlib.Nat.{le_of_suc-le-suc, not-suc-le-zero}
use lib.ListN.{length, get_or}
use lib.Dec.{T, leb, ltb, eqb, leb→le, ltb→lt, eqb_refl, T_not}
use mir.Facts.{and_yes}
use Rattle.asp.specs.Program.{All, Out, Distinct}
use Rattle.cores.specs.Sums.{Holds}

-- ---- facts of each member, and facts of each place: what a loop gives is by places, what a proof goes down is by members

pub all_at : (P : ℕ → Type 0) (ms : List ℕ) → All P ms → (i : ℕ) → i < length ms → P (get_or ms i 0)
all_at P [] h i l = absurd (not-suc-le-zero l)
all_at P (m ∷ ms) h zero l = h.0
all_at P (m ∷ ms) h (suc i) l = all_at P ms h.1 i (le_of_suc-le-suc l)

pub at_all : (P : ℕ → Type 0) (ms : List ℕ) → ((i : ℕ) → i < length ms → P (get_or ms i 0)) → All P ms
at_all P [] h = tt
at_all P (m ∷ ms) h = (h 0 (suc-le-suc zero-le), at_all P ms (λ i l. h (suc i) (suc-le-suc l)))

out_all : (m : ℕ) (ms : List ℕ) → All (λ x. m ≢ x) ms → Out m ms
out_all m [] h = tt
out_all m (x ∷ xs) h = (h.0, out_all m xs h.1)

pub at_distinct : (ms : List ℕ) → ((i k : ℕ) → i < k → k < length ms → get_or ms i 0 ≢ get_or ms k 0) → Distinct ms
at_distinct [] h = tt
at_distinct (m ∷ ms) h =
    (out_all m ms (at_all (λ x. m ≢ x) ms (λ k l. h 0 (suc k) (suc-le-suc zero-le) (suc-le-suc l))), at_distinct ms (λ i k l r. h (suc i) (suc k) (suc-le-suc l) (suc-le-suc r)))

-- ---- tests

abbrev pub outb : ℕ → List ℕ → Bool
outb m [] = true
outb m (x ∷ xs) = not (eqb m x) && outb m xs

abbrev pub distinctb : List ℕ → Bool
distinctb [] = true
distinctb (m ∷ ms) = outb m ms && distinctb ms

apart : (m x : ℕ) → T (not (eqb m x)) → m ≢ x
apart m x t e = T_not (eqb m x) t (subst (λ (y : ℕ). T (eqb m y)) e (eqb_refl m))

pub outb_yes : (m : ℕ) (xs : List ℕ) → T (outb m xs) → Out m xs
outb_yes m [] t = tt
outb_yes m (x ∷ xs) t = (apart m x (and_yes (not (eqb m x)) (outb m xs) t).0, outb_yes m xs (and_yes (not (eqb m x)) (outb m xs) t).1)

pub distinctb_yes : (ms : List ℕ) → T (distinctb ms) → Distinct ms
distinctb_yes [] t = tt
distinctb_yes (m ∷ ms) t = (outb_yes m ms (and_yes (outb m ms) (distinctb ms) t).0, distinctb_yes ms (and_yes (outb m ms) (distinctb ms) t).1)

abbrev pub heavyb : ℕ → List ℕ → List ℕ → Bool
heavyb s ws [] = true
heavyb s ws (m ∷ ms) = (ltb m (length ws) && leb s (get_or ws m 0)) && heavyb s ws ms

pub heavyb_yes : (s : ℕ) (ws ms : List ℕ) → T (heavyb s ws ms) → All (Holds s ws) ms
heavyb_yes s ws [] t = tt
heavyb_yes s ws (m ∷ ms) t =
    let a = and_yes (ltb m (length ws) && leb s (get_or ws m 0)) (heavyb s ws ms) t in
    let b = and_yes (ltb m (length ws)) (leb s (get_or ws m 0)) a.0 in
    ((ltb→lt m (length ws) b.0, leb→le s (get_or ws m 0) b.1), heavyb_yes s ws ms a.1)
