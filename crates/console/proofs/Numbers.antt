-- What holds in the loop over the digits of a number. Assumes nothing.
use mathlib.Core.Path.{◌≡◌, refl, sym, ap, ◌∙◌}
use mathlib.Core.Bool.{Bool, true, false, ◌&&◌}
use mathlib.Core.List.{List, [], ◌∷◌}
use Prim.Native.Nat.{ℕ, suc, ◌+◌, ◌-◌, ◌*◌, ◌≤◌, ◌<◌}
use native.Mathlib.Numerals.{add-one}
use native.Mathlib.Omega.{arith}
use lib.ListN.{length, get_or, drop, drop_of_length-le}
use lib.Seq.{drop-cons}
use borrow.Author.Tests.{lt-ltb, le-ltb}
use Rattle.std.specs.Prelude.{Some, None}
use Rattle.asp.specs.Sets.{pick}
use Rattle.aspif_fields.specs.Fields.{is_digit}
use Rattle.console.specs.Number.{all_digits, value_from, value_of, in_range, digits_of}

value_grows : (v : ℕ) (s : List ℕ) → v ≤ value_from v s
unfolding value_from
value_grows v [] = omega arith
value_grows v (b ∷ s) = omega (arith, value_grows (v * 10 + (b - 48)) s)

-- the first i bytes are digits, of value v
pub record Valuing (s : List ℕ) (v i : ℕ) : Type 0 where
  pub digits : all_digits (drop i s) ≡ all_digits s
  pub rest : value_from v (drop i s) ≡ value_of s
  pub small : v ≤ 4294967295

pub valuing_start : (s : List ℕ) → Valuing s 0 0
valuing_start s = record { digits = refl; rest = refl; small = omega arith }

module _ {s : List ℕ} {v i : ℕ} (k : Valuing s v i) (h : i < length s) where
  abbrev here : ℕ
  here = get_or s i 0

  split : (is_digit here && all_digits (drop (suc i) s)) ≡ all_digits s
  unfolding all_digits
  split = rw (drop-cons s i 0 h) at k.digits

  stepped : value_from (v * 10 + (here - 48)) (drop (suc i) s) ≡ value_of s
  unfolding value_from
  stepped = rw (drop-cons s i 0 h) at k.rest

  pub valuing_other : is_digit here ≡ false → None ≡ digits_of s
  valuing_other e = let d : all_digits s ≡ false = sym split ∙ ap (λ (b : Bool). b && all_digits (drop (suc i) s)) e in rw d refl

  pub valuing_next : is_digit here ≡ true → {u : ℕ} → u ≡ v * 10 + (here - 48) → u ≤ 4294967295 → Valuing s u (i + 1)
  valuing_next e f l = record {
    digits = rw add-one (sym (ap (λ (b : Bool). b && all_digits (drop (suc i) s)) e) ∙ split);
    rest = rw (f, add-one) stepped;
    small = l;
  }

  pub valuing_out : 4294967295 < v * 10 + (here - 48) → None ≡ digits_of s
  valuing_out l = go (all_digits s)
    where
      beyond : 4294967295 < value_of s
      beyond = omega (arith, stepped, value_grows (v * 10 + (here - 48)) (drop (suc i) s))

      go : (b : Bool) → None ≡ pick b (in_range (value_of s)) None
      go true = rw (lt-ltb _ _ beyond) refl
      go false = refl

pub valuing_done : {s : List ℕ} {v i : ℕ} → Valuing s v i → length s ≤ i → Some v ≡ digits_of s
unfolding value_from all_digits
valuing_done {s} {v} {i} k h =
    let e : v ≡ value_of s = rw (drop_of_length-le s h) at k.rest in
    let d : true ≡ all_digits s = rw (drop_of_length-le s h) at k.digits in
    let b : value_of s ≤ 4294967295 = omega (arith, k.small) in
    rw (sym d, le-ltb _ _ b) (ap Some e)
