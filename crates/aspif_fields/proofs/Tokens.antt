-- The digits that a line begins with, one by one, and what a number is by its token. Assumes nothing.
use mathlib.Core.Path.{◌≡◌, refl, sym, ◌∙◌, subst}
use mathlib.Core.Bool.{Bool, true, false, not, ◌&&◌, and-eq-true_iff}
use mathlib.Core.List.{List, [], ◌∷◌}
use mathlib.Core.Logic.{◌⊎◌, inl, inr, ⊎_elim}
use Prim.Native.Nat.{ℕ, zero, suc, ◌+◌, ◌-◌, ◌*◌, ◌<◌, ◌≤◌, min}
use native.Mathlib.Omega.{arith}
use Rattle.std.specs.Prelude.{Option, Some, None}
use Rattle.std.specs.List.{slice_get}
use lib.Dec.{leb, ltb, eqb}
use lib.IntN.{ℤ, pos, negsuc}
use lib.ListN.{length, drop, drop_of_length-le}
use borrow.Author.Tests.{ltb-true, ltb-false, leb-true, lt-leb, ne_eqb}
use Rattle.std.proofs.Math.Seq.{drop-length}
use Rattle.std.proofs.lemmas.List.{length-drop, drop-drop}
use Rattle.asp.specs.Sets.{pick}
use Rattle.aspif_fields.specs.Fields.{Read, got, bad, bind, within, formed, token, ranged, number, natural, signing, signed_token, signed_up_to, signed, field, next, is_digit, digits, decimal, over}
use Rattle.aspif_fields.specs.SeenFields.{capped, cut_signed, capped_signed, Ending}

pub lt_or_le : (a b : ℕ) → (a < b) ⊎ (b ≤ a)
lt_or_le a b = go (ltb a b) refl
  where
    go : (t : Bool) → ltb a b ≡ t → (a < b) ⊎ (b ≤ a)
    go true q = inl (ltb-true a b q)
    go false q = inr (ltb-false a b q)

pub within_ends : (lo hi b : ℕ) → within lo hi b ≡ true → (lo ≤ b) × (b ≤ hi)
within_ends lo hi b h = let e = (and-eq-true_iff (leb lo b) (leb b hi)).0 h in (leb-true lo b e.0, leb-true b hi e.1)

pub digit_low : (b : ℕ) → is_digit b ≡ true → 48 ≤ b
digit_low b h = (within_ends 48 57 b h).0

pub digits_more : (l : List ℕ) → is_digit (next l) ≡ true → digits l ≡ next l ∷ digits (drop 1 l)
unfolding digits
digits_more [] h = absurd (omega (arith, digit_low 0 h))
digits_more (b ∷ l) h = rw h

pub digits_none : (l : List ℕ) → is_digit (next l) ≡ false → digits l ≡ []
unfolding digits
digits_none [] h = refl
digits_none (b ∷ l) h = rw h

abbrev limit : ℕ
limit = 1000000001

pub cut : (ds : List ℕ) (v : ℕ) → min limit (decimal (min limit v) ds) ≡ min limit (decimal v ds)
unfolding decimal
cut [] v = omega arith
cut (d ∷ ds) v =
    let e : min limit (min limit v * 10 + (d - 48)) ≡ min limit (v * 10 + (d - 48)) = omega arith in
    sym (cut ds (min limit v * 10 + (d - 48))) ∙ rw e (cut ds (v * 10 + (d - 48)))

-- what scanning the digits of s has come to: v is the value so far, and l is left
pub record Scanning (s l : List ℕ) (v : ℕ) : Type 0 where
  pub low : v ≤ 1000000001
  pub value : min limit (decimal v (digits l)) ≡ min limit (decimal 0 (digits s))
  pub past : drop (length (digits l)) l ≡ drop (length (digits s)) s
  pub count : length l + length (digits s) ≡ length s + length (digits l)

pub scan_more : (s l m : List ℕ) (v w b : ℕ) → Scanning s l v → Some b ≡ slice_get l 0 → is_digit b ≡ true → w ≡ min limit (v * 10 + (b - 48)) → m ≡ drop 1 l → Scanning s m w
unfolding decimal
scan_more s [] m v w b h e d f g = let z : ◌≡◌ {A = Option ℕ} (Some b) None = e in cc
scan_more s (c ∷ l) m v w b h e d f g =
    let same : b ≡ c = cc in
    let more = digits_more (c ∷ l) (rw same at d) in
    let z = rw more at h.value in
    let p = rw more at h.past in
    let q = rw more at h.count in
    rw (g, f, same) (record { low = omega arith; value = cut (digits l) (v * 10 + (c - 48)) ∙ z; past = p; count = omega (arith, q) })

-- the scan is over where no digit comes next
abbrev pub Over : List ℕ → Type 0
Over l = is_digit (next l) ≡ false

pub scan_value : (s l : List ℕ) (v : ℕ) → Scanning s l v → Over l → v ≡ min limit (decimal 0 (digits s))
unfolding decimal
scan_value s l v h d = let z = rw (digits_none l d) at h.value in omega (arith, z, h.low)

pub scan_past : (s l : List ℕ) (v : ℕ) → Scanning s l v → Over l → l ≡ drop (length (digits s)) s
scan_past s l v h d = rw (digits_none l d) at h.past

pub scan_count : (s l : List ℕ) (v : ℕ) → Scanning s l v → Over l → length l + length (digits s) ≡ length s
scan_count s l v h d = let q = rw (digits_none l d) at h.count in omega (arith, q)

pub at_end : (l : List ℕ) → None ≡ slice_get l 0 → is_digit (next l) ≡ false
at_end [] e = refl
at_end (c ∷ l) e = let z : ◌≡◌ {A = Option ℕ} None (Some c) = e in cc

pub at_other : (l : List ℕ) (b : ℕ) → Some b ≡ slice_get l 0 → is_digit b ≡ false → is_digit (next l) ≡ false
at_other [] b e d = refl
at_other (c ∷ l) b e d = let same : b ≡ c = cc in rw same at d

formed_cases : (b : Bool) (v : ℕ) (r : List ℕ) → capped (pick b (got v r) (bad 2)) ≡ pick b (got (min limit v) r) (bad 2)
formed_cases true v r = refl
formed_cases false v r = refl

-- a token by the test of the code
pub tokened : (l r : List ℕ) (n v : ℕ) (leads is_over ok : Bool) → n ≡ length (digits l) → v ≡ min limit (decimal 0 (digits l)) → r ≡ drop (length (digits l)) l
    → leads ≡ eqb (next l) 48 → is_over ≡ over r → ok ≡ (ltb 0 n && (not (leads && ltb 1 n) && is_over)) → capped (token l) ≡ pick ok (got v r) (bad 2)
unfolding token
tokened l r n v leads is_over ok d f e g h k =
    rw (k, h, g, e, f, d) (formed_cases (formed (length (digits l)) l) (decimal 0 (digits l)) (drop (length (digits l)) l))

and_false : (a : Bool) → (a && false) ≡ false
and_false true = refl
and_false false = refl

cut_range : (lo hi v : ℕ) (r : List ℕ) → hi ≤ 1000000000 → pick (within lo hi v) (got v r) (bad 4) ≡ pick (within lo hi (min limit v)) (got (min limit v) r) (bad 4)
cut_range lo hi v r h = ⊎_elim
    (λ l. let e : min limit v ≡ v = omega arith in rw e)
    (λ g. rw (lt-leb v hi (omega arith), lt-leb (min limit v) hi (omega arith), and_false (leb lo v), and_false (leb lo (min limit v))))
    (lt_or_le v limit)

-- a number by its token t, whose value is cut at the limit
pub numbered : (lo hi v : ℕ) (t : Read ℕ) (r : List ℕ) → hi ≤ 1000000000 → got v r ≡ capped t → bind t (ranged lo hi) ≡ ranged lo hi v r
numbered lo hi v (bad c) r h q = let z : ◌≡◌ {A = ℕ} 0 1 = cc in absurd (omega arith)
numbered lo hi v (got w u) r h q =
    let x : v ≡ min limit w = cc in
    let y : r ≡ u = cc in
    rw (x, y) (cut_range lo hi w u h)

pub unnumbered : (lo hi : ℕ) (t : Read ℕ) → bad 2 ≡ capped t → bind t (ranged lo hi) ≡ bad 2
unnumbered lo hi (bad c) q = sym q
unnumbered lo hi (got w u) q = let z : ◌≡◌ {A = ℕ} 0 1 = cc in absurd (omega arith)

-- the space of a field comes before its form
pub field_bind : {A B : Type 0} (f : List ℕ → Read A) (k : A → List ℕ → Read B) (l : List ℕ) → field (λ (m : List ℕ). bind (f m) k) l ≡ bind (field f l) k
field_bind f k l = go (eqb (next l) 32)
  where
    go : (b : Bool) → pick b (bind (f (drop 1 l)) k) (bad 2) ≡ bind (pick b (f (drop 1 l)) (bad 2)) k
    go true = refl
    go false = refl

pub natural_token : (lo hi : ℕ) (l : List ℕ) → natural lo hi l ≡ bind (field token l) (ranged lo hi)
unfolding natural number
natural_token lo hi l = field_bind token (ranged lo hi) l

pub signed_token_lem : (hi : ℕ) (l : List ℕ) → field (signed hi) l ≡ bind (field signed_token l) (signed_up_to hi)
unfolding signed
signed_token_lem hi l = field_bind signed_token (signed_up_to hi) l

-- ---- numbers that may have a minus

-- a token's sign, and its value cut at the limit
pub capped_sign : (minus : Bool) (t : Read ℕ) → capped_signed (bind t (signing minus)) ≡ bind (capped t) (signing minus)
capped_sign minus (bad c) = refl
capped_sign false (got v r) = refl
capped_sign true (got zero r) = refl
capped_sign true (got (suc v) r) =
    let e : min limit (suc v) ≡ suc (min 1000000000 v) = omega arith in
    rw (e, ne_eqb (suc (min 1000000000 v)) 0 (omega arith), ne_eqb (suc v) 0 (omega arith))

-- a space, and then a minus or none
pub minus_by : (l m r : List ℕ) (minus : Bool) → eqb (next l) 32 ≡ true → m ≡ drop 1 l → minus ≡ eqb (next m) 45 → r ≡ pick minus (drop 1 m) m
    → capped_signed (field signed_token l) ≡ bind (capped (token r)) (signing minus)
unfolding signed_token
minus_by l m r minus h e f g = rw (h, ← e, ← f) (go minus g)
  where
    go : (b : Bool) → r ≡ pick b (drop 1 m) m → capped_signed (pick b (bind (token (drop 1 m)) (signing true)) (bind (token m) (signing false))) ≡ bind (capped (token r)) (signing b)
    go true q = rw q (capped_sign true (token (drop 1 m)))
    go false q = rw q (capped_sign false (token m))

pub no_space : (l : List ℕ) → eqb (next l) 32 ≡ false → field signed_token l ≡ bad 2
no_space l h = rw h

cut_upto : (hi : ℕ) (z : ℤ) (r : List ℕ) → hi ≤ 1000000000 → signed_up_to hi z r ≡ signed_up_to hi (cut_signed z) r
cut_upto hi (pos n) r h = ⊎_elim
    (λ l. let e : min limit n ≡ n = omega arith in rw e)
    (λ g. rw (lt-leb n hi (omega arith), lt-leb (min limit n) hi (omega arith)))
    (lt_or_le n limit)
cut_upto hi (negsuc n) r h = ⊎_elim
    (λ l. let e : min 1000000000 n ≡ n = omega arith in rw e)
    (λ g. rw (lt-leb (suc n) hi (omega arith), lt-leb (suc (min 1000000000 n)) hi (omega arith)))
    (lt_or_le n 1000000000)

-- a signed number by its token
pub signed_numbered : (hi : ℕ) (z : ℤ) (t : Read ℤ) (r : List ℕ) → hi ≤ 1000000000 → got z r ≡ capped_signed t → bind t (signed_up_to hi) ≡ signed_up_to hi z r
signed_numbered hi z (bad c) r h q = let w : ◌≡◌ {A = ℕ} 0 1 = cc in absurd (omega arith)
signed_numbered hi z (got y u) r h q =
    let e : z ≡ cut_signed y = cc in
    let f : r ≡ u = cc in
    rw (e, f) (cut_upto hi y u h)

pub signed_unnumbered : (hi : ℕ) (t : Read ℤ) → bad 2 ≡ capped_signed t → bind t (signed_up_to hi) ≡ bad 2
signed_unnumbered hi (bad c) q = sym q
signed_unnumbered hi (got y u) q = let w : ◌≡◌ {A = ℕ} 0 1 = cc in absurd (omega arith)

-- ---- what a number leaves of the line is its end

pub drop_ending : (k : ℕ) (l : List ℕ) → Ending (drop k l) l
drop_ending k l =
    let n : length (drop k l) ≡ length l - k = length-drop k l in
    record {
      less = omega (arith, n);
      is = ⊎_elim
          (λ m. let e : length l - length (drop k l) ≡ k = omega (arith, n) in rw e)
          (λ g. let e : length l - length (drop k l) ≡ length l = omega (arith, n) in rw (e, drop_of_length-le l {i = k} g, drop-length l))
          (lt_or_le k (length l));
    }

ending_drop : (k : ℕ) (r l : List ℕ) → Ending r (drop k l) → Ending r l
ending_drop k r l h =
    let e : r ≡ drop (k + (length (drop k l) - length r)) l = h.is ∙ drop-drop (length (drop k l) - length r) k l in
    subst (λ (m : List ℕ). Ending m l) (sym e) (drop_ending (k + (length (drop k l) - length r)) l)

abbrev pub Leaves : {A : Type 0} → List ℕ → Read A → Type 0
Leaves l (got a r) = Ending r l
Leaves l (bad c) = Unit {0}

token_leaves : (l : List ℕ) → Leaves l (token l)
unfolding token
token_leaves l = go (formed (length (digits l)) l)
  where
    go : (b : Bool) → Leaves l (pick b (got (decimal 0 (digits l)) (drop (length (digits l)) l)) (bad 2))
    go true = drop_ending (length (digits l)) l
    go false = tt

pub number_leaves : (lo hi : ℕ) (l : List ℕ) → Leaves l (number lo hi l)
unfolding number
number_leaves lo hi l = go (token l) (token_leaves l)
  where
    in_range : (b : Bool) (v : ℕ) (r : List ℕ) → Ending r l → Leaves l (pick b (got v r) (bad 4))
    in_range true v r h = h
    in_range false v r h = tt

    go : (t : Read ℕ) → Leaves l t → Leaves l (bind t (ranged lo hi))
    go (got v r) h = in_range (within lo hi v) v r h
    go (bad c) h = tt

pub natural_leaves : (lo hi : ℕ) (l : List ℕ) → Leaves l (natural lo hi l)
unfolding natural
natural_leaves lo hi l = go (eqb (next l) 32)
  where
    up : (n : Read ℕ) → Leaves (drop 1 l) n → Leaves l n
    up (got v r) h = ending_drop 1 r l h
    up (bad c) h = tt

    go : (b : Bool) → Leaves l (pick b (number lo hi (drop 1 l)) (bad 2))
    go true = up (number lo hi (drop 1 l)) (number_leaves lo hi (drop 1 l))
    go false = tt

-- of a number that was read
pub number_ending : (lo hi v : ℕ) (r l : List ℕ) → got v r ≡ number lo hi l → Ending r l
number_ending lo hi v r l e = rw (← e) at (number_leaves lo hi l)

pub natural_ending : (lo hi v : ℕ) (r l : List ℕ) → got v r ≡ natural lo hi l → Ending r l
natural_ending lo hi v r l e = rw (← e) at (natural_leaves lo hi l)
