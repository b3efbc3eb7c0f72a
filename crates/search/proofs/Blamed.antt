-- What a table of blamed places says, as the list that the theory of `Search` speaks of. Assumes nothing.
use mathlib.Core.Path.{◌≡◌, refl, ◌∙◌}
use mathlib.Core.Bool.{Bool, true, false}
use mathlib.Core.List.{List, [], ◌∷◌}
use Prim.Native.Nat.{ℕ, zero, suc, ◌+◌, ◌≤◌, ◌<◌}
use native.Mathlib.Omega.{arith}
use lib.Dec.{eqb}
use lib.ListN.{length, get_or, set}
use lib.Seq.{get_or-set_same, get_or-set_other}
use borrow.Author.Tests.{eqb-true, eqb-false}
use Rattle.asp.specs.Sets.{pick}
use Rattle.asp.specs.Program.{All}
use Rattle.search.specs.Soft.{blamed_from}
use Rattle.asp.specs.Program.{Out, Distinct}

-- Q holds of all that are blamed, just if it holds at each place where the table says 1
pub blamed_all : (Q : ℕ → Type 0) (b : List ℕ) (i k : ℕ) → All Q (blamed_from b i k) → (j : ℕ) → i ≤ j → j < i + k → get_or b j 0 ≡ 1 → Q j
unfolding blamed_from
blamed_all Q b i zero a j h l e = absurd (omega arith)
blamed_all Q b i (suc k) a j h l e = go (eqb (get_or b i 0) 1) refl a (λ c. blamed_all Q b (i + 1) k c j)
  where
    here : (eqb i j ≡ true → Q j) → (eqb i j ≡ false → Q j) → Q j
    here p q = at (eqb i j) refl
      where
        at : (x : Bool) → eqb i j ≡ x → Q j
        at true z = p z
        at false z = q z

    go : (x : Bool) → eqb (get_or b i 0) 1 ≡ x → All Q (pick x (i ∷ blamed_from b (i + 1) k) (blamed_from b (i + 1) k)) → (All Q (blamed_from b (i + 1) k) → i + 1 ≤ j → j < i + 1 + k → get_or b j 0 ≡ 1 → Q j) → Q j
    go true q a r = here (λ z. let y : i ≡ j = eqb-true i j z in rw (← y) a.0) (λ z. let y = eqb-false i j z in r a.1 (omega arith) (omega arith) e)
    go false q a r =
        here (λ z. let y : i ≡ j = eqb-true i j z in absurd (eqb-false (get_or b i 0) 1 q (rw (← y) at e))) (λ z. let y = eqb-false i j z in r a (omega arith) (omega arith) e)

pub all_blamed : (Q : ℕ → Type 0) (b : List ℕ) (i k : ℕ) → ((j : ℕ) → i ≤ j → j < i + k → get_or b j 0 ≡ 1 → Q j) → All Q (blamed_from b i k)
unfolding blamed_from
all_blamed Q b i zero h = tt
all_blamed Q b i (suc k) h = go (eqb (get_or b i 0) 1) refl (all_blamed Q b (i + 1) k (λ j l m. h j (omega arith) (omega arith)))
  where
    go : (x : Bool) → eqb (get_or b i 0) 1 ≡ x → All Q (blamed_from b (i + 1) k) → All Q (pick x (i ∷ blamed_from b (i + 1) k) (blamed_from b (i + 1) k))
    go true q r = (h i (omega arith) (omega arith) (eqb-true (get_or b i 0) 1 q), r)
    go false q r = r

-- none is there twice
above_out : (m : ℕ) (ms : List ℕ) → All (λ (j : ℕ). m < j) ms → Out m ms
above_out m [] a = tt
above_out m (j ∷ ms) a = (λ e. omega (arith, a.0), above_out m ms a.1)

pub blamed_distinct : (b : List ℕ) (i k : ℕ) → Distinct (blamed_from b i k)
unfolding blamed_from
blamed_distinct b i zero = tt
blamed_distinct b i (suc k) = go (eqb (get_or b i 0) 1) (blamed_distinct b (i + 1) k)
  where
    go : (x : Bool) → Distinct (blamed_from b (i + 1) k) → Distinct (pick x (i ∷ blamed_from b (i + 1) k) (blamed_from b (i + 1) k))
    go true r = (above_out i (blamed_from b (i + 1) k) (all_blamed (λ (j : ℕ). i < j) b (i + 1) k (λ j l m e. omega arith)), r)
    go false r = r

-- one more is blamed: what holds of all then holds of those before, and of it
pub blamed_more : (Q : ℕ → Type 0) (b : List ℕ) (k m : ℕ) → m < k → m < length b → All Q (blamed_from (set b m 1) 0 k) → All Q (blamed_from b 0 k) × Q m
blamed_more Q b k m h l a =
    let f = blamed_all Q (set b m 1) 0 k a in
    (all_blamed Q b 0 k (λ j p q e. f j p q (at j e (eqb j m) refl)), f m (omega arith) (omega arith) (get_or-set_same b m 1 0 l))
  where
    at : (j : ℕ) → get_or b j 0 ≡ 1 → (x : Bool) → eqb j m ≡ x → get_or (set b m 1) j 0 ≡ 1
    at j e true z = let y : j ≡ m = eqb-true j m z in rw y (get_or-set_same b m 1 0 l)
    at j e false z = get_or-set_other b m j 1 0 (eqb-false j m z) ∙ e

-- where nothing is blamed, the list is empty
pub blamed_none : (b : List ℕ) (i k : ℕ) → ((j : ℕ) → get_or b j 0 ≡ 0) → blamed_from b i k ≡ []
unfolding blamed_from
blamed_none b i zero h = refl
blamed_none b i (suc k) h = rw (h i) (blamed_none b (i + 1) k h)
