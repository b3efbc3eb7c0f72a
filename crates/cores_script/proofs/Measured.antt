-- What holds in the loop that adds up the weights of the violated, and what the sum is on the level. Assumes nothing.
use mathlib.Core.Path.{◌≡◌, sym, ap, ap₂, ◌∙◌}
use mathlib.Core.Bool.{Bool, true, false}
use mathlib.Core.List.{List}
use Prim.Native.Nat.{ℕ, suc, ◌+◌, ◌*◌, ◌≤◌, ◌<◌, zero-le}
use native.Mathlib.Nat.{zero-add, add-zero}
use native.Mathlib.Numerals.{add-one}
use native.Mathlib.Omega.{arith}
use lib.ListN.{length, get_or, drop, length-map, drop_of_length-le}
use Rattle.std.proofs.lemmas.List.{get_or-map}
use Rattle.cores.specs.declared.soft.Soft.{Soft}
use Rattle.cores.specs.Columns.{rests_of}
use lib.Seq.{drop-cons}
use Rattle.asp.specs.Sets.{Set, ind}
use Rattle.cores.specs.Sums.{wsum}
use Rattle.cores.specs.Judging.{Judging, violated_at, Known, Answers}
use Rattle.cores.proofs.Sums.{wsum_ext}

-- ---- the loop

-- what is at place p on weighs
abbrev after : (ℕ → ℕ) → ℕ → List ℕ → ℕ
after f p ws = wsum (λ q. f (p + q)) (drop p ws)

pub record Summing (t : Judging) (M : Set) (ws counts : List ℕ) (total p : ℕ) : Type 0 where
  pub known : Known t M counts
  pub long : length counts ≡ 4097
  pub below : p ≤ length ws
  pub bound : total ≤ p * 4294967296
  pub rest : total + after (λ q. ind (violated_at t M q)) p ws ≡ wsum (λ q. ind (violated_at t M q)) ws

pub sum_start : {t : Judging} {M : Set} {counts : List ℕ} → Known t M counts → length counts ≡ 4097 → (ws : List ℕ) → Summing t M ws counts 0 0
sum_start {t} {M} k l ws = record {
  known = k;
  long = l;
  below = zero-le;
  bound = zero-le;
  rest = zero-add _ ∙ wsum_ext _ _ ws (λ q h. ap (λ (x : ℕ). ind (violated_at t M x)) (zero-add q));
}

after_next : (f : ℕ → ℕ) (p : ℕ) (ws : List ℕ) → p < length ws → after f p ws ≡ get_or ws p 0 * f p + after f (p + 1) ws
after_next f p ws h =
    ap (wsum (λ q. f (p + q))) (drop-cons ws p 0 h)
    ∙ ap₂ ◌+◌ (ap (λ (x : ℕ). get_or ws p 0 * f x) (add-zero p))
    (ap (λ (k : ℕ). wsum (λ q. f (p + suc q)) (drop k ws)) (sym (add-one p)) ∙ wsum_ext _ _ (drop (p + 1) ws) (λ q l. ap f (omega arith)))

module _ {t : Judging} {M : Set} {ws counts : List ℕ} {total p : ℕ} where
  sum_next : Summing t M ws counts total p → p < length ws → {b : Bool} {c : List ℕ} → Answers t M counts b (violated_at t M p) c → length c ≡ length counts
      → {n : ℕ} → n ≡ total + get_or ws p 0 * ind b → n ≤ (p + 1) * 4294967296 → Summing t M ws c n (p + 1)
  sum_next s h {b} {c} a u {n} en few = record {
    known = a.known;
    long = u ∙ s.long;
    below = omega arith;
    bound = few;
    rest = omega (arith, s.rest, ap (λ (y : Bool). get_or ws p 0 * ind y) a.is, after_next (λ q. ind (violated_at t M q)) p ws h);
  }

  pub sum_end : Summing t M ws counts total p → length ws ≤ p → total ≡ wsum (λ q. ind (violated_at t M q)) ws
  sum_end s h = omega (arith, s.rest, ap (wsum (λ q. ind (violated_at t M (p + q)))) (drop_of_length-le ws {i = p} h))

-- ---- the same over records that are lent

rest_at : (ss : List Soft) (i : ℕ) (d : Soft) → i < length ss → (get_or ss i d).weight ≡ get_or (rests_of ss) i 0
rest_at ss i d h = sym (get_or-map (λ (r : Soft). r.weight) ss i d 0 h)

inside : (ss : List Soft) (p : ℕ) → p < length ss → p < length (rests_of ss)
inside ss p h = omega (arith, length-map ss (λ (r : Soft). r.weight))

module _ (ss : List Soft) {t : Judging} {M : Set} {counts : List ℕ} {total p : ℕ} where
  -- the weight at place p is added if it is violated
  pub sum_yes : Summing t M (rests_of ss) counts total p → p < length ss → {b : Bool} {c : List ℕ} → Answers t M counts b (violated_at t M p) c → length c ≡ length counts → b ≡ true
      → (d : Soft) → {w : ℕ} → w ≡ (get_or ss p d).weight → w < 4294967296 → {n : ℕ} → n ≡ total + w → Summing t M (rests_of ss) c n (p + 1)
  sum_yes s h {b} a u y d {w} ew small {n} en =
      let e : n ≡ total + get_or (rests_of ss) p 0 * ind b = rw y (omega (arith, rest_at ss p d h)) in
      sum_next s (inside ss p h) a u e (omega (arith, s.bound))

  pub sum_no : Summing t M (rests_of ss) counts total p → p < length ss → {b : Bool} {c : List ℕ} → Answers t M counts b (violated_at t M p) c → length c ≡ length counts → b ≡ false
      → {n : ℕ} → n ≡ total → Summing t M (rests_of ss) c n (p + 1)
  sum_no s h {b} a u y {n} en =
      let e : n ≡ total + get_or (rests_of ss) p 0 * ind b = rw y (omega arith) in
      sum_next s (inside ss p h) a u e (omega (arith, s.bound))

  pub sum_all : Summing t M (rests_of ss) counts total p → length ss ≤ p → total ≡ wsum (λ q. ind (violated_at t M q)) (rests_of ss)
  sum_all s h = sum_end s (omega (arith, length-map ss (λ (r : Soft). r.weight)))
