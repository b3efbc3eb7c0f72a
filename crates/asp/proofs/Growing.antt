-- Laws of `Grown`: adding an atom, adding nothing, one growth after another; and what a choice and a rule come to. Assumes nothing.
use mathlib.Core.Path.{◌≡◌, refl, sym, ap, subst, ◌∙◌}
use mathlib.Core.Bool.{Bool, true, false, not, ◌||◌}
use mathlib.Core.List.{List, [], ◌∷◌, ◌++◌, map}
use mathlib.Core.Logic.{◌⊎◌, inl, inr}
use Prim.Native.Nat.{ℕ, zero, suc, ◌+◌, ◌≤◌, ◌<◌}
use native.Mathlib.Decide.{ℕ_discrete}
use native.Mathlib.Omega.{arith}
use lib.Dec.{T, eqb→eq}
use lib.IntN.{ℤ, pos, negsuc, nat_abs}
use lib.ListN.{length, get_or, take, set, length-set}
use lib.Seq.{get_or-set_same, get_or-set_other}
use mir.Facts.{yes_eqb}
use Rattle.std.proofs.lemmas.List.{take_more, take_all}
use Rattle.asp.specs.Sets.{Set, Sub, In, set_of}
use Rattle.asp.specs.Program.{All}
use Rattle.asp.specs.Tables.{named}
use Rattle.asp.specs.Growth.{Grown, ChosenAtom, Chosen, atoms_named}
use Rattle.asp.proofs.Closure.{sub_refl, sub_trans}

clash : {A : Type 0} → true ≡ false → A
clash {A} q = let z : ◌≡◌ {A = ℕ} 0 1 = cc in absurd (omega arith)

-- ---- bytes as a set

-- a byte that is set to 1
pub set_in : (xs : List ℕ) (a : ℕ) → a < length xs → T (set_of (set xs a 1) a)
set_in xs a h = yes_eqb (get_or-set_same xs a 1 0 h)

pub set_keeps : (xs : List ℕ) (a : ℕ) → a < length xs → Sub (set_of xs) (set_of (set xs a 1))
set_keeps xs a h = record { sub = λ b t. go b t (ℕ_discrete b a) }
  where
    go : (b : ℕ) → T (set_of xs b) → Dec (b ≡ a) → T (set_of (set xs a 1) b)
    go b t (yes e) = rw e (set_in xs a h)
    go b t (no f) = rw (get_or-set_other xs a b 1 0 f) t

set_else : (xs : List ℕ) (a b : ℕ) → T (set_of (set xs a 1) b) → (b ≡ a) ⊎ T (set_of xs b)
set_else xs a b t = go (ℕ_discrete b a)
  where
    go : Dec (b ≡ a) → (b ≡ a) ⊎ T (set_of xs b)
    go (yes e) = inl e
    go (no f) = inr (rw (get_or-set_other xs a b 1 0 f) at t)

-- ---- growth

-- an atom is added that every kept set has
pub grown_one : (K : Set → Type 0) (xs : List ℕ) (a : ℕ) → a < length xs → ((X : Set) → K X → T (X a)) → ((X : Set) → T (X a) → K X)
    → {b : Bool} → b ≡ not (set_of xs a) → Grown K xs (set xs a 1) b
grown_one K xs a h needs gives {b} e = record {
  long = length-set xs a 1;
  rises = set_keeps xs a h;
  inside = λ X k s. record { sub = λ c t. go X k s c (set_else xs a c t) };
  more = λ q. (a, set_in xs a h, not_in (set_of xs a) (sym e ∙ q));
  rest = λ q. still (in_already (set_of xs a) (sym e ∙ q));
}
  where
    go : (X : Set) → K X → Sub (set_of xs) X → (c : ℕ) → (c ≡ a) ⊎ T (set_of xs c) → T (X c)
    go X k s c (inl r) = rw r (needs X k)
    go X k s c (inr t) = s.sub c t

    not_in : (x : Bool) → not x ≡ true → T x → ⊥
    not_in true q t = clash (sym q)
    not_in false q t = t

    in_already : (x : Bool) → not x ≡ false → T x
    in_already true q = tt
    in_already false q = clash q

    still : T (set_of xs a) → (set xs a 1 ≡ xs) × K (set_of xs)
    still t = (ap (set xs a) (sym (eqb→eq (get_or xs a 0) 1 t)) ∙ lib.Seq.set-get_or xs a 0, gives (set_of xs) t)

-- nothing is added to a set that is kept already
pub grown_none : (K : Set → Type 0) (xs : List ℕ) → K (set_of xs) → Grown K xs xs false
grown_none K xs k = record {
  long = refl;
  rises = sub_refl;
  inside = λ X h s. s;
  more = λ q. clash (sym q);
  rest = λ q. (refl, k);
}

or_cases : (g h : Bool) → (g || h) ≡ true → (g ≡ true) ⊎ (h ≡ true)
or_cases true h q = inl refl
or_cases false h q = inr q

or_none : (g h : Bool) → (g || h) ≡ false → (g ≡ false) × (h ≡ false)
or_none true h q = clash q
or_none false h q = (refl, q)

-- one growth after another
pub grown_join : (K K' K'' : Set → Type 0) → ((X : Set) → K'' X → K X × K' X) → ((X : Set) → K X → K' X → K'' X)
    → {xs ys zs : List ℕ} {g h b : Bool} → Grown K xs ys g → Grown K' ys zs h → b ≡ (g || h) → Grown K'' xs zs b
grown_join K K' K'' both join {xs} {ys} {zs} {g} {h} {b} one two e = record {
  long = two.long ∙ one.long;
  rises = sub_trans one.rises two.rises;
  inside = λ X k s. two.inside X (both X k).1 (one.inside X (both X k).0 s);
  more = λ q. new (or_cases g h (sym e ∙ q));
  rest = λ q. still (or_none g h (sym e ∙ q));
}
  where
    new : (g ≡ true) ⊎ (h ≡ true) → (a : ℕ) × T (set_of zs a) × (T (set_of xs a) → ⊥)
    new (inl q) = let m = one.more q in (m.0, two.rises.sub m.0 m.1, m.2)
    new (inr q) = let m = two.more q in (m.0, m.1, λ t. m.2 (one.rises.sub m.0 t))

    still : (g ≡ false) × (h ≡ false) → (zs ≡ xs) × K'' (set_of xs)
    still q =
        let u = one.rest q.0 in
        let v = two.rest q.1 in
        (v.0 ∙ u.0, join (set_of xs) u.1 (subst (λ (l : List ℕ). K' (set_of l)) u.0 v.1))

-- ---- atoms of a pool

pub named_abs : (l : ℤ) → 1 ≤ named l → nat_abs l ≡ named l
named_abs (pos a) h = refl
named_abs (negsuc a) h = absurd (omega arith)

-- the atoms that head literals name: that of the literal at a place
pub named_at : (heads : List ℤ) {i : ℕ} → All (In 1024) (atoms_named heads) → i < length heads → In 1024 (named (get_or heads i (pos 0)))
named_at [] a l = absurd (omega arith)
named_at (h ∷ hs) {i = zero} a l = a.0
named_at (h ∷ hs) {i = suc i} a l = named_at hs {i = i} a.1 (omega arith)

pub named_atom : (heads : List ℤ) {i : ℕ} → All (In 1024) (atoms_named heads) → i < length heads → {a : ℕ} → a ≡ nat_abs (get_or heads i (pos 0)) → In 1024 a × (a ≡ named (get_or heads i (pos 0)))
named_atom heads {i} h l {a} e =
    let n = named_at heads h l in
    let s : a ≡ named (get_or heads i (pos 0)) = e ∙ named_abs (get_or heads i (pos 0)) n.0 in
    (rw s n, s)

pub named_small : (heads : List ℤ) {i : ℕ} → All (In 1024) (atoms_named heads) → i < length heads → nat_abs (get_or heads i (pos 0)) ≤ 1024
named_small heads h l = (named_atom heads h l refl).0.1

-- an atom that is in M is added, one that is not is passed over
pub chosen_in : (M : Set) {xs ys : List ℕ} {a h : ℕ} {b u : Bool} → length xs ≡ 1025 → In 1024 h → a ≡ h → b ≡ M a → b ≡ true → ys ≡ set xs a 1 → u ≡ not (set_of xs a)
    → Grown (ChosenAtom M h) xs ys u
chosen_in M {xs} {ys} {a} {h} long i e m q s n =
    let t : T (M h) = rw (← e, ← m, q) tt in
    rw (s, e) (grown_one (ChosenAtom M h) xs h (omega arith) (λ X k. k t) (λ X x m'. x) (n ∙ ap (λ (z : ℕ). not (set_of xs z)) e))

pub chosen_out : (M : Set) (xs : List ℕ) {a h : ℕ} {b : Bool} → a ≡ h → b ≡ M a → b ≡ false → Grown (ChosenAtom M h) xs xs false
chosen_out M xs {a} {h} e m q = grown_none (ChosenAtom M h) xs (λ t. absurd (rw (← e, ← m, q) at t))

-- ---- the loop over the atoms of a choice

all_snoc : {A : Type 0} (P : A → Type 0) (xs : List A) (x : A) → All P xs → P x → All P (xs ++ (x ∷ []))
all_snoc P [] x h k = (k, tt)
all_snoc P (y ∷ xs) x h k = (h.0, all_snoc P xs x h.1 k)

snoc_all : {A : Type 0} (P : A → Type 0) (xs : List A) (x : A) → All P (xs ++ (x ∷ [])) → All P xs × P x
snoc_all P [] x h = (tt, h.0)
snoc_all P (y ∷ xs) x h = let r = snoc_all P xs x h.1 in ((h.0, r.0), r.1)

pub record Choosing (M : Set) (heads : List ℤ) (i : ℕ) (xs ys : List ℕ) (new : Bool) : Type 0 where
  pub long : length ys ≡ length xs
  pub grown : Grown (Chosen M (atoms_named (take i heads))) xs ys new

pub choosing_start : (M : Set) (heads : List ℤ) (xs : List ℕ) → Choosing M heads 0 xs xs false
choosing_start M heads xs = record { long = refl; grown = grown_none (λ X. Unit {0}) xs tt }

map_snoc : {A B : Type 0} (f : A → B) (xs : List A) (x : A) → map f (xs ++ (x ∷ [])) ≡ map f xs ++ (f x ∷ [])
map_snoc f [] x = refl
map_snoc {B = B} f (y ∷ xs) x = ap (λ (l : List B). f y ∷ l) (map_snoc f xs x)

module _ {M : Set} {heads : List ℤ} {i : ℕ} {xs ys : List ℕ} {new : Bool} (c : Choosing M heads i xs ys new) where
  pub choosing_next : i < length heads → {zs : List ℕ} {one b : Bool} → Grown (ChosenAtom M (named (get_or heads i (pos 0)))) ys zs one → b ≡ (new || one) → Choosing M heads (i + 1) xs zs b
  choosing_next h {zs} {one} {b} g e = record {
    long = g.long ∙ c.long;
    grown =
        grown_join (Chosen M before) (ChosenAtom M here) (Chosen M (atoms_named (take (i + 1) heads)))
        (λ X w. snoc_all (λ a. ChosenAtom M a X) before here (rw last at w))
        (λ X w v. rw last (all_snoc (λ a. ChosenAtom M a X) before here w v))
        c.grown g e;
  }
    where
      here : ℕ
      here = named (get_or heads i (pos 0))

      before : List ℕ
      before = atoms_named (take i heads)

      last : atoms_named (take (i + 1) heads) ≡ before ++ (here ∷ [])
      last = rw (take_more heads i (pos 0) h, map_snoc named (take i heads) (get_or heads i (pos 0)))

  pub choosing_done : length heads ≤ i → Grown (Chosen M (atoms_named heads)) xs ys new
  choosing_done h = rw (take_all i heads h) at c.grown
