-- The loops over all rules: violated constraints, one round of the closure, and rounds until nothing is new. Assumes nothing.
use mathlib.Core.Path.{◌≡◌, refl, sym, subst, fun_ext, ◌∙◌}
use mathlib.Core.Bool.{Bool, true, false, ◌||◌}
use mathlib.Core.List.{List}
use mathlib.Core.Logic.{◌⊎◌, inl, inr, ⊎_elim}
use Prim.Native.Nat.{ℕ, zero, suc, ◌+◌, ◌-◌, ◌≤◌, ◌<◌}
use native.Mathlib.Nat.{sub-zero, eq-or-lt_of_le}
use native.Mathlib.Omega.{arith}
use lib.Dec.{T}
use lib.IntN.{ℤ}
use lib.ListN.{length, replicate, length-replicate}
use mir.Facts.{or_yes}
use borrow.Author.Count.{below_more}
use Rattle.asp.specs.Sets.{Set, Sub, In, set_of}
use Rattle.asp.specs.Program.{Rule}
use Rattle.asp.specs.Stable.{rule_adds, adds, constraint_fails, any_violated, Closed, closure}
use Rattle.asp.specs.Tables.{span, row_at, rule_at, rules_of, Formed}
use Rattle.asp.specs.Growth.{Grown, KeptBy, RowFormed, RulesFormed}
use Rattle.asp.specs.declared.rules.Row.{Row}
use Rattle.asp.proofs.Closure.{upto_sub, size, size_le, size_more, size_mono, bit}
use Rattle.asp.proofs.Stability.{yes_or_left, yes_or_right, closure_closed, closure_least, closure_only}
use Rattle.asp.proofs.Spans.{span_more, span_none}
use Rattle.asp.proofs.Growing.{grown_none, grown_join}

-- ---- violated constraints

module _ (M : Set) (pool : List ℤ) (rows : List Row) where
  abbrev at : ℕ → Rule
  at r = rule_at pool (row_at rows r)

  -- the rules from r on decide
  pub record Unviolated (count r : ℕ) : Type 0 where
    pub rest : any_violated M (span at r (count - r)) ≡ any_violated M (rules_of pool rows count)

  pub unviolated_start : (count : ℕ) → Unviolated count 0
  unviolated_start count = record { rest = rw sub-zero }

module _ {M : Set} {pool : List ℤ} {rows : List Row} {count r : ℕ} (u : Unviolated M pool rows count r) where
  pub unviolated_next : r < count → {b : Bool} → b ≡ constraint_fails M (rule_at pool (row_at rows r)) → b ≡ false → Unviolated M pool rows count (r + 1)
  unfolding any_violated
  unviolated_next h e q = record { rest = rw (span_more (at M pool rows) r count h, ← e, q) at u.rest }

  pub violated_here : r < count → {b : Bool} → b ≡ constraint_fails M (rule_at pool (row_at rows r)) → b ≡ true → true ≡ any_violated M (rules_of pool rows count)
  unfolding any_violated
  violated_here h e q = rw (span_more (at M pool rows) r count h, ← e, q) at u.rest

  pub unviolated_done : count ≤ r → false ≡ any_violated M (rules_of pool rows count)
  unfolding any_violated
  unviolated_done h = rw (span_none (at M pool rows) r count h) at u.rest

pub rule_formed : {pool : List ℤ} {rows : List Row} {count : ℕ} → RulesFormed pool rows count → (r : ℕ) → r < count → RowFormed pool (row_at rows r)
rule_formed w r h = w.each r h

-- ---- one round

-- kept by each rule below r
abbrev pub KeptBelow : Set → List ℤ → List Row → ℕ → Set → Type 0
KeptBelow M pool rows r X = (s : ℕ) → s < r → KeptBy M (rule_at pool (row_at rows s)) X

pub record Round (M : Set) (pool : List ℤ) (rows : List Row) (count r : ℕ) (xs ys : List ℕ) (new : Bool) : Type 0 where
  pub stop : r ≤ count
  pub long : length ys ≡ 1025
  pub grown : Grown (KeptBelow M pool rows r) xs ys new

pub round_start : (M : Set) (pool : List ℤ) (rows : List Row) (count : ℕ) {xs : List ℕ} → length xs ≡ 1025 → Round M pool rows count 0 xs xs false
round_start M pool rows count {xs} l = record { stop = omega arith; long = l; grown = grown_none (KeptBelow M pool rows 0) xs (λ s h. absurd (omega arith)) }

-- a set kept by each rule is closed, and the other way round
closed_from : (M X : Set) (f : ℕ → Rule) (i k : ℕ) → ((s : ℕ) → i ≤ s → s < i + k → KeptBy M (f s) X) → Sub (adds M (span f i k) X) X
unfolding adds span
closed_from M X f i zero h = record { sub = λ a t. absurd t }
closed_from M X f i (suc k) h =
    let r = closed_from M X f (i + 1) k (λ s a b. h s (omega arith) (omega arith)) in
    record { sub = λ a t. ⊎_elim ((h i (omega arith) (omega arith)).sub a) (r.sub a) (or_yes (rule_adds M (f i) X a) (adds M (span f (i + 1) k) X a) t) }

adds_at : (M X : Set) (f : ℕ → Rule) (s x i k : ℕ) → i ≤ s → s < i + k → T (rule_adds M (f s) X x) → T (adds M (span f i k) X x)
unfolding adds span
adds_at M X f s x i zero a b t = absurd (omega arith)
adds_at M X f s x i (suc k) a b t = go (eq-or-lt_of_le a) (adds_at M X f s x (i + 1) k)
  where
    go : (i ≡ s) ⊎ (i < s) → (i + 1 ≤ s → s < i + 1 + k → T (rule_adds M (f s) X x) → T (adds M (span f (i + 1) k) X x)) → T (rule_adds M (f i) X x || adds M (span f (i + 1) k) X x)
    go (inl e) r = yes_or_left (rule_adds M (f i) X x) (adds M (span f (i + 1) k) X x) (rw e t)
    go (inr l) r = yes_or_right (rule_adds M (f i) X x) (adds M (span f (i + 1) k) X x) (r (omega arith) (omega arith) t)

closed_to : (M X : Set) (f : ℕ → Rule) (i k : ℕ) → Sub (adds M (span f i k) X) X → (s : ℕ) → i ≤ s → s < i + k → KeptBy M (f s) X
closed_to M X f i k c s a b = record { sub = λ x t. c.sub x (adds_at M X f s x i k a b t) }

module _ {M : Set} {pool : List ℤ} {rows : List Row} {count r : ℕ} {xs ys : List ℕ} {new : Bool} (d : Round M pool rows count r xs ys new) where
  pub round_long : length ys ≡ 1025
  round_long = d.long

  pub round_next : r < count → {zs : List ℕ} {one b : Bool} → Grown (KeptBy M (rule_at pool (row_at rows r))) ys zs one → b ≡ (new || one) → Round M pool rows count (r + 1) xs zs b
  round_next h g e = record {
    stop = omega arith;
    long = g.long ∙ d.long;
    grown =
        grown_join (KeptBelow M pool rows r) (KeptBy M (rule_at pool (row_at rows r))) (KeptBelow M pool rows (r + 1))
        (λ X k. (λ s l. k s (omega arith), k r (omega arith)))
        (λ X k j. below_more (λ s. KeptBy M (rule_at pool (row_at rows s)) X) r k j)
        d.grown g e;
  }

  pub round_done : count ≤ r → Grown (Closed (rules_of pool rows count) M) xs ys new
  round_done h =
      let q : r ≡ count = omega (arith, d.stop) in
      let g : Grown (KeptBelow M pool rows count) xs ys new = rw (← q) d.grown in
      record {
        long = g.long;
        rises = g.rises;
        inside = λ X c s. g.inside X (λ t l. closed_to M X (λ (u : ℕ). rule_at pool (row_at rows u)) 0 count c t (omega arith) (omega arith)) s;
        more = g.more;
        rest = λ e. let k = g.rest e in (k.0, closed_from M (set_of xs) (λ (u : ℕ). rule_at pool (row_at rows u)) 0 count (λ t a b. k.1 t (omega arith)));
      }

-- ---- rounds until nothing is new

pub record Closing (n : ℕ) (M : Set) (pool : List ℤ) (rows : List Row) (count : ℕ) (xs : List ℕ) (new : Bool) : Type 0 where
  pub long : length xs ≡ 1025
  pub inside : Sub (set_of xs) (closure n (rules_of pool rows count) M)
  pub closed : new ≡ false → Closed (rules_of pool rows count) M (set_of xs)

-- what is left: each round but the last adds an atom of 1 to n
abbrev pub left : ℕ → List ℕ → Bool → ℕ
left n xs new = n - size n (set_of xs) + bit new

nothing_in : (k : ℕ) → (a : ℕ) → T (set_of (replicate k 0) a) → ⊥
nothing_in zero a t = t
nothing_in (suc k) zero t = t
nothing_in (suc k) (suc a) t = nothing_in k a t

clash : {A : Type 0} → true ≡ false → A
clash {A} q = let z : ◌≡◌ {A = ℕ} 0 1 = cc in absurd (omega arith)

pub closing_start : (n : ℕ) (M : Set) (pool : List ℤ) (rows : List Row) (count : ℕ) {xs : List ℕ} → xs ≡ replicate 1025 0 → Closing n M pool rows count xs true
closing_start n M pool rows count e = rw e (record {
  long = length-replicate {A = ℕ} 1025 0;
  inside = record { sub = λ a t. absurd (nothing_in 1025 a t) };
  closed = λ q. clash q;
})

module _ {n : ℕ} {M : Set} {pool : List ℤ} {rows : List Row} {count : ℕ} (w : Formed n pool rows count) where
  pub closing_next : {xs ys : List ℕ} {new one : Bool} → Closing n M pool rows count xs new → Grown (Closed (rules_of pool rows count) M) xs ys one → Closing n M pool rows count ys one
  closing_next {xs} {ys} c g = record {
    long = g.long ∙ c.long;
    inside = g.inside (closure n (rules_of pool rows count) M) (closure_closed n (rules_of pool rows count) w.atoms M) c.inside;
    closed = λ q. let r = g.rest q in subst (λ (l : List ℕ). Closed (rules_of pool rows count) M (set_of l)) (sym r.0) r.1;
  }

  pub closing_less : {xs ys : List ℕ} {new one : Bool} → Closing n M pool rows count xs new → new ≡ true → Grown (Closed (rules_of pool rows count) M) xs ys one → left n ys one < left n xs new
  closing_less {xs} {ys} {new} {one} c t g = rw t (go one refl)
    where
      grows : size n (set_of xs) ≤ size n (set_of ys)
      grows = size_mono n (set_of xs) (set_of ys) (upto_sub g.rises)

      go : (b : Bool) → one ≡ b → left n ys one < left n xs true
      go false e = rw e (omega (arith, grows, size_le n (set_of xs)))
      go true e =
          let m = g.more e in
          let i : In n m.0 = (closure_only n (rules_of pool rows count) w.atoms M).only m.0 ((closing_next c g).inside.sub m.0 m.1) in
          rw e (omega (arith, size_more n (set_of xs) (set_of ys) (upto_sub g.rises) m.0 i m.1 m.2, size_le n (set_of ys)))

-- two sets that hold each other are one
pub set_ext : (X Y : Set) → Sub X Y → Sub Y X → X ≡ Y
set_ext X Y f g = fun_ext (λ a. go (X a) (Y a) (f.sub a) (g.sub a))
  where
    go : (x y : Bool) → (T x → T y) → (T y → T x) → x ≡ y
    go true true f g = refl
    go true false f g = absurd (f tt)
    go false true f g = absurd (g tt)
    go false false f g = refl

pub closing_long : {n : ℕ} {M : Set} {pool : List ℤ} {rows : List Row} {count : ℕ} {xs : List ℕ} {new : Bool} → Closing n M pool rows count xs new → length xs ≡ 1025
closing_long c = c.long

pub closing_done : {n : ℕ} {M : Set} {pool : List ℤ} {rows : List Row} {count : ℕ} {xs : List ℕ} {new : Bool} → Closing n M pool rows count xs new → new ≡ false
    → set_of xs ≡ closure n (rules_of pool rows count) M
closing_done {n} {M} {pool} {rows} {count} {xs} c q = set_ext (set_of xs) (closure n (rules_of pool rows count) M) c.inside (closure_least n (rules_of pool rows count) M (set_of xs) (c.closed q))
