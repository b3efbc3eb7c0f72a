-- Laws of the sums over lists by position. Assumes nothing.
use mathlib.Core.Path.{◌≡◌, refl, sym, ap, ap₂, ◌∙◌, subst}
use mathlib.Core.Logic.{◌⊎◌, inl, inr}
use mathlib.Core.Bool.{Bool, true, false, not}
use mathlib.Core.List.{List, [], ◌∷◌, ◌++◌}
use Prim.Native.Nat.{ℕ, zero, suc, ◌+◌, ◌-◌, ◌*◌, ◌≤◌, ◌<◌, zero-le, suc-le-suc}
use native.Mathlib.Nat.{add-mul, mul-zero, sub-add_cancel, sub-eq-zero_of_le, zero-add, suc-add, le_of_suc-le-suc, not-suc-le-zero}
use native.Mathlib.Omega.{arith}
use lib.ListN.{length, get_or, set, replicate, length-set}
use lib.Seq.{lt-length-set, get_or-set_other}
use lib.Dec.{T, ltb, lt→ltb}
use lib.Arith.{le→nltb}
use native.Mathlib.Decide.{dec_lt}
use Rattle.asp.specs.Sets.{ind}
use Rattle.asp.specs.Program.{All, Out, Distinct}
use Rattle.cores.specs.Sums.{wsum, sum_over, Holds, lose}

-- ---- congruence: f counts only at the positions that there are

pub wsum_ext : (f g : ℕ → ℕ) (ws : List ℕ) → ((p : ℕ) → p < length ws → f p ≡ g p) → wsum f ws ≡ wsum g ws
wsum_ext f g [] e = refl
wsum_ext f g (w ∷ ws) e =
    ap₂ (λ (x y : ℕ). w * x + y) (e 0 (suc-le-suc zero-le)) (wsum_ext (λ q. f (suc q)) (λ q. g (suc q)) ws (λ q h. e (suc q) (suc-le-suc h)))

pub count_ext : (f g : ℕ → ℕ) (ms : List ℕ) → All (λ m. f m ≡ g m) ms → sum_over f ms ≡ sum_over g ms
count_ext f g [] e = refl
count_ext f g (m ∷ ms) e = omega (arith, e.0, count_ext f g ms e.1)

-- ---- one update

sub_mul : (w s x : ℕ) → s ≤ w → (w - s) * x + s * x ≡ w * x
sub_mul w s x l = sym (add-mul (w - s) s x) ∙ ap (λ (z : ℕ). z * x) (sub-add_cancel l)

pub wsum_set : (f : ℕ → ℕ) (ws : List ℕ) (p s : ℕ) → p < length ws → s ≤ get_or ws p 0 → wsum f (set ws p (get_or ws p 0 - s)) + s * f p ≡ wsum f ws
wsum_set f [] p s h l = absurd (not-suc-le-zero h)
wsum_set f (w ∷ ws) zero s h l = omega (arith, sub_mul w s (f 0) l)
wsum_set f (w ∷ ws) (suc p) s h l = omega (arith, wsum_set (λ q. f (suc q)) ws p s (le_of_suc-le-suc h) l)

-- ---- append

pub wsum_append : (f : ℕ → ℕ) (ws vs : List ℕ) → wsum f (ws ++ vs) ≡ wsum f ws + wsum (λ q. f (length ws + q)) vs
wsum_append f [] vs = simp zero-add
wsum_append f (w ∷ ws) vs = omega (arith, wsum_append (λ q. f (suc q)) ws vs, wsum_ext (λ q. f (suc (length ws) + q)) (λ q. f (suc (length ws + q))) vs (λ q h. ap f (suc-add (length ws) q)))

-- ---- several updates, at distinct positions

-- an update at p leaves what may be taken elsewhere
pub holds_set : (s : ℕ) (ws : List ℕ) (p a : ℕ) (ms : List ℕ) → Out p ms → All (Holds s ws) ms → All (Holds s (set ws p a)) ms
holds_set s ws p a [] o h = tt
holds_set s ws p a (m ∷ ms) o h =
    ((lt-length-set ws p a h.0.0, subst (λ (x : ℕ). s ≤ x) (sym (get_or-set_other ws p m a 0 (λ e. o.0 (sym e)))) h.0.1), holds_set s ws p a ms o.1 h.1)

pub length_lose : (s : ℕ) (ms ws : List ℕ) → length (lose s ms ws) ≡ length ws
length_lose s [] ws = refl
length_lose s (m ∷ ms) ws = length_lose s ms (set ws m (get_or ws m 0 - s)) ∙ length-set ws m (get_or ws m 0 - s)

pub wsum_lose : (f : ℕ → ℕ) (s : ℕ) (ms ws : List ℕ) → Distinct ms → All (Holds s ws) ms → wsum f (lose s ms ws) + s * sum_over f ms ≡ wsum f ws
wsum_lose f s [] ws d h = omega arith
wsum_lose f s (m ∷ ms) ws d h =
    let w : ℕ = get_or ws m 0 - s in
    omega (arith, wsum_lose f s ms (set ws m w) d.1 (holds_set s ws m w ms d.0 h.1), wsum_set f ws m s h.0.0 h.0.1)

-- ---- the new wishes: Σ over q < c of s * f q

pub wsum_replicate_one : (s c : ℕ) → wsum (λ q. 1) (replicate c s) ≡ s * c
wsum_replicate_one s zero = omega arith
wsum_replicate_one s (suc c) = omega (arith, wsum_replicate_one s c)

-- a number is below another, or not
pub below_or : (a b : ℕ) → (a < b) ⊎ (b ≤ a)
below_or a b = go (dec_lt a b)
  where
    go : Dec (a < b) → (a < b) ⊎ (b ≤ a)
    go (yes h) = inl h
    go (no h) = inr (omega arith)

pub ind_true : (b : Bool) → T b → ind b ≡ 1
ind_true true t = refl
ind_true false t = absurd t

pub ind_false : (b : Bool) → T (not b) → ind b ≡ 0
ind_false true t = absurd t
ind_false false t = refl

pub ind_lt : (a b : ℕ) → a < b → ind (ltb a b) ≡ 1
ind_lt a b h = ind_true (ltb a b) (lt→ltb a b h)

pub ind_ge : (a b : ℕ) → b ≤ a → ind (ltb a b) ≡ 0
ind_ge a b h = ind_false (ltb a b) (le→nltb a b h)

-- [i < u] + [i + 1 < u] + .. , c of them, is u - i, where u is at most i + c
pub wsum_above : (s u c i : ℕ) → u ≤ i + c → wsum (λ q. ind (ltb (i + q) u)) (replicate c s) ≡ s * (u - i)
wsum_above s u zero i h = sym (ap (λ (z : ℕ). s * z) (sub-eq-zero_of_le (omega arith)) ∙ mul-zero s)
wsum_above s u (suc c) i h = go (wsum_above s u c (suc i) (omega arith)) (below_or (i + 0) u)
  where
    shift : wsum (λ q. ind (ltb (i + suc q) u)) (replicate c s) ≡ wsum (λ q. ind (ltb (suc i + q) u)) (replicate c s)
    shift = wsum_ext _ _ (replicate c s) (λ q l. ap (λ (z : ℕ). ind (ltb z u)) (omega arith))

    go : wsum (λ q. ind (ltb (suc i + q) u)) (replicate c s) ≡ s * (u - suc i) → (i + 0 < u) ⊎ (u ≤ i + 0) → wsum (λ q. ind (ltb (i + q) u)) (replicate (suc c) s) ≡ s * (u - i)
    go ih (inl l) =
        let e : u - i ≡ suc (u - suc i) = omega arith in
        omega (arith, shift, ap (λ (z : ℕ). s * z) (ind_lt (i + 0) u l), ap (λ (z : ℕ). s * z) e)
    go ih (inr l) =
        let e : u - i ≡ u - suc i = omega arith in
        omega (arith, shift, ap (λ (z : ℕ). s * z) (ind_ge (i + 0) u l), ap (λ (z : ℕ). s * z) e)

-- ---- bounds

pub count_one : (ms : List ℕ) → sum_over (λ m. 1) ms ≡ length ms
count_one [] = refl
count_one (m ∷ ms) = omega (arith, count_one ms)

pub count_le : (f : ℕ → ℕ) (ms : List ℕ) → ((m : ℕ) → f m ≤ 1) → sum_over f ms ≤ length ms
count_le f [] h = zero-le
count_le f (m ∷ ms) h = omega (arith, h m, count_le f ms h)

pub ind_le : (b : Bool) → ind b ≤ 1
ind_le true = omega arith
ind_le false = omega arith

-- the members, each of weight s at least, weigh s times their number at least
pub members_weigh : (s : ℕ) (ms ws : List ℕ) → Distinct ms → All (Holds s ws) ms → s * length ms ≤ wsum (λ p. 1) ws
members_weigh s ms ws d h = omega (arith, wsum_lose (λ p. 1) s ms ws d h, ap (λ (z : ℕ). s * z) (count_one ms))

-- what weighs nothing wherever f is not 0 sums to nothing
pub wsum_none : (f : ℕ → ℕ) (ws : List ℕ) → ((p : ℕ) → p < length ws → 0 < get_or ws p 0 → f p ≡ 0) → wsum f ws ≡ 0
wsum_none f [] h = refl
wsum_none f (w ∷ ws) h = go w (h 0 (suc-le-suc zero-le)) (wsum_none (λ q. f (suc q)) ws (λ q l. h (suc q) (suc-le-suc l)))
  where
    go : (w : ℕ) → (0 < w → f 0 ≡ 0) → wsum (λ q. f (suc q)) ws ≡ 0 → w * f 0 + wsum (λ q. f (suc q)) ws ≡ 0
    go zero e ih = omega arith
    go (suc w) e ih = omega (arith, ap (λ (z : ℕ). suc w * z) (e (suc-le-suc zero-le)))

-- a list whose weights are all 1 at least weighs its length at least
pub each_weighs : (ws : List ℕ) → ((p : ℕ) → p < length ws → 1 ≤ get_or ws p 0) → length ws ≤ wsum (λ p. 1) ws
each_weighs [] h = zero-le
each_weighs (w ∷ ws) h = omega (arith, h 0 (suc-le-suc zero-le), each_weighs ws (λ q l. h (suc q) (suc-le-suc l)))
