-- Laws of blame: adding a place, looking one up, the flags. Assumes nothing.
use mathlib.Core.Path.{◌≡◌, refl, sym, ap, ◌∙◌}
use mathlib.Core.Bool.{Bool, true, false}
use mathlib.Core.List.{List, ◌∷◌}
use Prim.Native.Nat.{ℕ, suc, ◌+◌, ◌-◌, ◌≤◌, ◌<◌}
use native.Mathlib.Numerals.{add-one}
use lib.Dec.{eqb}
use lib.ListN.{length, get_or, set, drop, length-set, drop_of_length-le}
use lib.Seq.{drop-cons}
use borrow.Author.Tests.{eq-eqb, ne_eqb}
use Rattle.asp.specs.Sets.{pick}
use Rattle.asp.specs.Stable.{member}
use Rattle.advancing.specs.Turn.{blame_tables, blame_entry, blame_place, flagged}

-- ---- the soft literal of an entry

module _ (ps : List ℕ) (i : ℕ) (fs core : List ℕ) (from : ℕ) where
  pub entry_old : get_or fs i 0 ≡ 1 → blame_tables fs core from ≡ blame_entry ps i (blame_tables fs core from)
  entry_old e = rw (eq-eqb (get_or fs i 0) 1 e)

  pub entry_new : (get_or fs i 0 ≡ 1 → ⊥) → {q x : ℕ} → q ≡ get_or ps i 0 → x ≡ q → {k : ℕ} → k ≡ from - 1 → {c : List ℕ} → c ≡ set core (from - 1) x → blame_tables (set fs i 1) c k ≡ blame_entry ps i (blame_tables fs core from)
  entry_new f eq ex ek ec = rw (ne_eqb (get_or fs i 0) 1 f, ek, ec, ex, eq)

-- ---- any soft literal

module _ (ps : List ℕ) (p : ℕ) (fs core : List ℕ) (from : ℕ) where
  pub place_old : {b : Bool} → b ≡ member p (drop from core) → b ≡ true → blame_tables fs core from ≡ blame_place ps p (blame_tables fs core from)
  place_old e q = rw (← e, q)

  pub place_new : {b : Bool} → b ≡ member p (drop from core) → b ≡ false → {gs : List ℕ} → gs ≡ flagged p 0 ps fs → {k : ℕ} → k ≡ from - 1 → {x : ℕ} → x ≡ p
      → {c : List ℕ} → c ≡ set core (from - 1) x → blame_tables gs c k ≡ blame_place ps p (blame_tables fs core from)
  place_new e q eg ek ex ec = rw (← e, q, eg, ek, ec, ex)

pub place_room : (from : ℕ) (core : List ℕ) (p : ℕ) {b : Bool} → (member p (drop from core) ≡ false → 1 ≤ from) → b ≡ member p (drop from core) → b ≡ false → 1 ≤ from
place_room from core p f e q = f (sym e ∙ q)

-- ---- looking a place up

pub record Among (ps : List ℕ) (p i : ℕ) : Type 0 where
  pub rest : member p (drop i ps) ≡ member p ps

pub among_start : (ps : List ℕ) (p : ℕ) → Among ps p 0
among_start ps p = record { rest = refl }

module _ {ps : List ℕ} {p i : ℕ} (a : Among ps p i) where
  pub among_here : i < length ps → {q : ℕ} → q ≡ get_or ps i 0 → q ≡ p → true ≡ member p ps
  unfolding member
  among_here h eq e = rw (drop-cons ps i 0 h, eq-eqb p (get_or ps i 0) (sym e ∙ eq)) at a.rest

  pub among_next : i < length ps → {q : ℕ} → q ≡ get_or ps i 0 → (q ≡ p → ⊥) → Among ps p (i + 1)
  unfolding member
  among_next h eq f = record { rest = rw add-one (rw (drop-cons ps i 0 h, ne_eqb p (get_or ps i 0) (λ e. f (eq ∙ sym e))) at a.rest) }

  pub among_done : length ps ≤ i → false ≡ member p ps
  unfolding member
  among_done h = rw (drop_of_length-le ps h) at a.rest

-- ---- the flags

one : (p i x : ℕ) (xs gs : List ℕ) → flagged p i (x ∷ xs) gs ≡ flagged p (suc i) xs (pick (eqb x p) (set gs i 1) gs)
unfolding flagged
one p i x xs gs = ap (λ (k : ℕ). flagged p k xs (pick (eqb x p) (set gs i 1) gs)) (add-one i)

pub record Flagging (ps : List ℕ) (p i : ℕ) (fs gs : List ℕ) : Type 0 where
  pub long : length gs ≡ 4096
  pub rest : flagged p i (drop i ps) gs ≡ flagged p 0 ps fs

pub flagging_start : (ps : List ℕ) (p : ℕ) (fs : List ℕ) → length fs ≡ 4096 → Flagging ps p 0 fs fs
flagging_start ps p fs l = record { long = l; rest = refl }

module _ {ps : List ℕ} {p i : ℕ} {fs gs : List ℕ} (a : Flagging ps p i fs gs) where
  pub flagging_next : i < length ps → {q : ℕ} → q ≡ get_or ps i 0 → {hs : List ℕ} → hs ≡ pick (eqb q p) (set gs i 1) gs → Flagging ps p (i + 1) fs hs
  flagging_next h {q} eq {hs} e = record {
    long = ap length e ∙ same_long (eqb q p);
    rest = rw e (rw (eq, add-one) (step ∙ a.rest));
  }
    where
      same_long : (b : Bool) → length (pick b (set gs i 1) gs) ≡ 4096
      same_long true = length-set gs i 1 ∙ a.long
      same_long false = a.long

      step : flagged p (suc i) (drop (suc i) ps) (pick (eqb (get_or ps i 0) p) (set gs i 1) gs) ≡ flagged p i (drop i ps) gs
      step = sym (ap (λ (l : List ℕ). flagged p i l gs) (drop-cons ps i 0 h) ∙ flagged_one (get_or ps i 0) (drop (suc i) ps))
        where
          flagged_one : (x : ℕ) (xs : List ℕ) → flagged p i (x ∷ xs) gs ≡ flagged p (suc i) xs (pick (eqb x p) (set gs i 1) gs)
          flagged_one x xs = one p i x xs gs

  pub flagging_done : length ps ≤ i → gs ≡ flagged p 0 ps fs
  unfolding flagged
  flagging_done h = rw (drop_of_length-le ps h) at a.rest
