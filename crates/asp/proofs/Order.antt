-- The comparison of costs is a total order that agrees with equality of lists. Over any figures with a linear order. Assumes nothing.
use mathlib.Core.Path.{◌≡◌, refl, sym, ap, ap₂, subst, ◌∙◌}
use mathlib.Core.Bool.{Bool, true, false, not, ◌&&◌, ◌||◌}
use mathlib.Core.List.{List, [], ◌∷◌}
use mathlib.Core.Logic.{◌⊎◌, inl, inr}
use Prim.Native.Nat.{ℕ, suc, ◌<◌}
use native.Mathlib.Omega.{arith}
use lib.Dec.{T, ltb, ltb→lt, lt→ltb}
use lib.IntN.{ℤ, pos, negsuc}
use lib.ListN.{length}
use lib.Signed.{lt_z}
use mir.Facts.{or_yes, and_yes, yes_and, T_not, not_T}
use Rattle.asp.specs.Cost.{cheaper, NoDearer}
use Rattle.asp.proofs.Stability.{yes_or_left, yes_or_right}

-- a strict order in which any two figures are equal or compare
pub record Linear {A : Type 0} (lt : A → A → Bool) : Type 0 where
  pub irreflexive : (x : A) → T (lt x x) → ⊥
  pub transitive : (x y z : A) → T (lt x y) → T (lt y z) → T (lt x z)
  pub connected : (x y : A) → (T (lt x y) → ⊥) → (T (lt y x) → ⊥) → x ≡ y

pub ltb_linear : Linear ltb
ltb_linear = record {
  irreflexive = λ x t. omega (arith, ltb→lt x x t);
  transitive = λ x y z s t. lt→ltb x z (omega (arith, ltb→lt x y s, ltb→lt y z t));
  connected = λ x y f g. go x y (λ h. f (lt→ltb x y h)) (λ h. g (lt→ltb y x h));
}
  where
    go : (x y : ℕ) → (x < y → ⊥) → (y < x → ⊥) → x ≡ y
    go x y f g = omega arith

-- signed figures too
pub lt_z_linear : Linear lt_z
lt_z_linear = record { irreflexive = irreflexive; transitive = transitive; connected = connected }
  where
    irreflexive : (x : ℤ) → T (lt_z x x) → ⊥
    irreflexive (pos x) t = omega (arith, ltb→lt x x t)
    irreflexive (negsuc x) t = omega (arith, ltb→lt x x t)

    transitive : (x y z : ℤ) → T (lt_z x y) → T (lt_z y z) → T (lt_z x z)
    transitive (pos x) (pos y) (pos z) s t = lt→ltb x z (omega (arith, ltb→lt x y s, ltb→lt y z t))
    transitive (pos x) (pos y) (negsuc z) s t = t
    transitive (pos x) (negsuc y) z s t = absurd s
    transitive (negsuc x) (pos y) (pos z) s t = tt
    transitive (negsuc x) (pos y) (negsuc z) s t = absurd t
    transitive (negsuc x) (negsuc y) (pos z) s t = tt
    transitive (negsuc x) (negsuc y) (negsuc z) s t = lt→ltb z x (omega (arith, ltb→lt y x s, ltb→lt z y t))

    equal : (x y : ℕ) → (T (ltb x y) → ⊥) → (T (ltb y x) → ⊥) → x ≡ y
    equal x y f g = go (λ h. f (lt→ltb x y h)) (λ h. g (lt→ltb y x h))
      where
        go : (x < y → ⊥) → (y < x → ⊥) → x ≡ y
        go f g = omega arith

    connected : (x y : ℤ) → (T (lt_z x y) → ⊥) → (T (lt_z y x) → ⊥) → x ≡ y
    connected (pos x) (pos y) f g = ap pos (equal x y f g)
    connected (pos x) (negsuc y) f g = absurd (g tt)
    connected (negsuc x) (pos y) f g = absurd (f tt)
    connected (negsuc x) (negsuc y) f g = ap negsuc (equal x y g f)

-- a Boolean is yes or no
yes_or_no : (b : Bool) → T b ⊎ (T b → ⊥)
yes_or_no true = inl tt
yes_or_no false = inr (λ t. t)

module _ {A : Type 0} (lt : A → A → Bool) (order : Linear lt) where
  -- two figures compare one way or are equal
  compare_figures : (x y : A) → T (lt x y) ⊎ ((x ≡ y) ⊎ T (lt y x))
  compare_figures x y = go (yes_or_no (lt x y)) (yes_or_no (lt y x))
    where
      go : T (lt x y) ⊎ (T (lt x y) → ⊥) → T (lt y x) ⊎ (T (lt y x) → ⊥) → T (lt x y) ⊎ ((x ≡ y) ⊎ T (lt y x))
      go (inl s) k = inl s
      go (inr f) (inl t) = inr (inr t)
      go (inr f) (inr g) = inr (inl (order.connected x y f g))

  -- ---- no dearer

  pub no_dearer_long : (xs ys : List A) → NoDearer lt xs ys → length xs ≡ length ys
  no_dearer_long [] [] h = refl
  no_dearer_long [] (y ∷ ys) h = absurd h
  no_dearer_long (x ∷ xs) [] h = absurd h
  no_dearer_long (x ∷ xs) (y ∷ ys) (inl h) = ap suc h.1
  no_dearer_long (x ∷ xs) (y ∷ ys) (inr h) = ap suc (no_dearer_long xs ys h.1)

  pub no_dearer_refl : (xs : List A) → NoDearer lt xs xs
  no_dearer_refl [] = tt
  no_dearer_refl (x ∷ xs) = inr (refl, no_dearer_refl xs)

  pub no_dearer_trans : (xs ys zs : List A) → NoDearer lt xs ys → NoDearer lt ys zs → NoDearer lt xs zs
  no_dearer_trans [] [] zs h k = k
  no_dearer_trans [] (y ∷ ys) zs h k = absurd h
  no_dearer_trans (x ∷ xs) [] zs h k = absurd h
  no_dearer_trans (x ∷ xs) (y ∷ ys) [] h k = absurd k
  no_dearer_trans (x ∷ xs) (y ∷ ys) (z ∷ zs) (inl h) (inl k) = inl (order.transitive x y z h.0 k.0, h.1 ∙ k.1)
  no_dearer_trans (x ∷ xs) (y ∷ ys) (z ∷ zs) (inl h) (inr k) = inl (subst (λ (v : A). T (lt x v)) k.0 h.0, h.1 ∙ no_dearer_long ys zs k.1)
  no_dearer_trans (x ∷ xs) (y ∷ ys) (z ∷ zs) (inr h) (inl k) = inl (subst (λ (v : A). T (lt v z)) (sym h.0) k.0, no_dearer_long xs ys h.1 ∙ k.1)
  no_dearer_trans (x ∷ xs) (y ∷ ys) (z ∷ zs) (inr h) (inr k) = inr (h.0 ∙ k.0, no_dearer_trans xs ys zs h.1 k.1)

  pub no_dearer_antisym : (xs ys : List A) → NoDearer lt xs ys → NoDearer lt ys xs → xs ≡ ys
  no_dearer_antisym [] [] h k = refl
  no_dearer_antisym [] (y ∷ ys) h k = absurd h
  no_dearer_antisym (x ∷ xs) [] h k = absurd h
  no_dearer_antisym (x ∷ xs) (y ∷ ys) (inl h) (inl k) = absurd (order.irreflexive x (order.transitive x y x h.0 k.0))
  no_dearer_antisym (x ∷ xs) (y ∷ ys) (inl h) (inr k) = absurd (order.irreflexive x (subst (λ (v : A). T (lt x v)) k.0 h.0))
  no_dearer_antisym (x ∷ xs) (y ∷ ys) (inr h) (inl k) = absurd (order.irreflexive y (subst (λ (v : A). T (lt y v)) h.0 k.0))
  no_dearer_antisym (x ∷ xs) (y ∷ ys) (inr h) (inr k) = ap₂ (λ (v : A) (vs : List A). v ∷ vs) h.0 (no_dearer_antisym xs ys h.1 k.1)

  pub no_dearer_total : (xs ys : List A) → length xs ≡ length ys → NoDearer lt xs ys ⊎ NoDearer lt ys xs
  no_dearer_total [] [] e = inl tt
  no_dearer_total [] (y ∷ ys) e = absurd (omega arith)
  no_dearer_total (x ∷ xs) [] e = absurd (omega arith)
  no_dearer_total (x ∷ xs) (y ∷ ys) e = go (compare_figures x y) (no_dearer_total xs ys (omega arith))
    where
      go : T (lt x y) ⊎ ((x ≡ y) ⊎ T (lt y x)) → NoDearer lt xs ys ⊎ NoDearer lt ys xs → NoDearer lt (x ∷ xs) (y ∷ ys) ⊎ NoDearer lt (y ∷ ys) (x ∷ xs)
      go (inl h) r = inl (inl (h, omega arith))
      go (inr (inl q)) (inl r) = inl (inr (q, r))
      go (inr (inl q)) (inr r) = inr (inr (sym q, r))
      go (inr (inr h)) r = inr (inl (h, omega arith))

  -- ---- the test `cheaper`, on lists of one length: strictly less, and else the other is no dearer

  pub cheaper_no_dearer : (xs ys : List A) → length xs ≡ length ys → T (cheaper lt xs ys) → NoDearer lt xs ys
  unfolding cheaper
  cheaper_no_dearer [] ys e t = absurd t
  cheaper_no_dearer (x ∷ xs) [] e t = absurd t
  cheaper_no_dearer (x ∷ xs) (y ∷ ys) e t = go (or_yes (lt x y) (not (lt y x) && cheaper lt xs ys) t) (cheaper_no_dearer xs ys (omega arith))
    where
      go : T (lt x y) ⊎ T (not (lt y x) && cheaper lt xs ys) → (T (cheaper lt xs ys) → NoDearer lt xs ys) → NoDearer lt (x ∷ xs) (y ∷ ys)
      go (inl h) r = inl (h, omega arith)
      go (inr k) r = equal (compare_figures x y) (and_yes (not (lt y x)) (cheaper lt xs ys) k)
        where
          equal : T (lt x y) ⊎ ((x ≡ y) ⊎ T (lt y x)) → T (not (lt y x)) × T (cheaper lt xs ys) → NoDearer lt (x ∷ xs) (y ∷ ys)
          equal (inl h) j = inl (h, omega arith)
          equal (inr (inl q)) j = inr (q, r j.1)
          equal (inr (inr h)) j = absurd (T_not (lt y x) h j.0)

  pub cheaper_or : (xs ys : List A) → length xs ≡ length ys → T (cheaper lt xs ys) ⊎ NoDearer lt ys xs
  unfolding cheaper
  cheaper_or [] [] e = inr tt
  cheaper_or [] (y ∷ ys) e = absurd (omega arith)
  cheaper_or (x ∷ xs) [] e = absurd (omega arith)
  cheaper_or (x ∷ xs) (y ∷ ys) e = go (compare_figures x y) (cheaper_or xs ys (omega arith))
    where
      go : T (lt x y) ⊎ ((x ≡ y) ⊎ T (lt y x)) → T (cheaper lt xs ys) ⊎ NoDearer lt ys xs
          → T (lt x y || (not (lt y x) && cheaper lt xs ys)) ⊎ NoDearer lt (y ∷ ys) (x ∷ xs)
      go (inl h) r = inl (yes_or_left (lt x y) (not (lt y x) && cheaper lt xs ys) h)
      go (inr (inl q)) (inl r) =
          inl
          (yes_or_right (lt x y) (not (lt y x) && cheaper lt xs ys)
          (yes_and (not (lt y x)) (cheaper lt xs ys) (not_T (lt y x) (λ t. order.irreflexive y (subst (λ (v : A). T (lt y v)) q t))) r))
      go (inr (inl q)) (inr r) = inr (inr (sym q, r))
      go (inr (inr h)) r = inr (inl (h, omega arith))

  -- what is cheaper is not at least as dear
  pub not_cheaper : (xs ys : List A) → NoDearer lt xs ys → T (cheaper lt ys xs) → ⊥
  unfolding cheaper
  not_cheaper [] [] h t = t
  not_cheaper [] (y ∷ ys) h t = absurd h
  not_cheaper (x ∷ xs) [] h t = absurd h
  not_cheaper (x ∷ xs) (y ∷ ys) h t = go h (or_yes (lt y x) (not (lt x y) && cheaper lt ys xs) t) (not_cheaper xs ys)
    where
      go : (T (lt x y) × (length xs ≡ length ys)) ⊎ ((x ≡ y) × NoDearer lt xs ys) → T (lt y x) ⊎ T (not (lt x y) && cheaper lt ys xs)
          → (NoDearer lt xs ys → T (cheaper lt ys xs) → ⊥) → ⊥
      go (inl l) (inl s) r = order.irreflexive x (order.transitive x y x l.0 s)
      go (inl l) (inr s) r = T_not (lt x y) l.0 (and_yes (not (lt x y)) (cheaper lt ys xs) s).0
      go (inr q) (inl s) r = order.irreflexive y (subst (λ (v : A). T (lt y v)) q.0 s)
      go (inr q) (inr s) r = r q.1 (and_yes (not (lt x y)) (cheaper lt ys xs) s).1

  pub cheaper_irreflexive : (xs : List A) → T (cheaper lt xs xs) → ⊥
  cheaper_irreflexive xs t = not_cheaper xs xs (no_dearer_refl xs) t

  -- cheaper than what is no dearer, or no dearer than what is cheaper, is cheaper
  pub cheaper_then : (xs ys zs : List A) → length xs ≡ length ys → T (cheaper lt xs ys) → NoDearer lt ys zs → T (cheaper lt xs zs)
  cheaper_then xs ys zs e t h = go (cheaper_or xs zs (e ∙ no_dearer_long ys zs h))
    where
      go : T (cheaper lt xs zs) ⊎ NoDearer lt zs xs → T (cheaper lt xs zs)
      go (inl s) = s
      go (inr k) = absurd (not_cheaper ys xs (no_dearer_trans ys zs xs h k) t)

  pub then_cheaper : (xs ys zs : List A) → NoDearer lt xs ys → length ys ≡ length zs → T (cheaper lt ys zs) → T (cheaper lt xs zs)
  then_cheaper xs ys zs h e t = go (cheaper_or xs zs (no_dearer_long xs ys h ∙ e))
    where
      go : T (cheaper lt xs zs) ⊎ NoDearer lt zs xs → T (cheaper lt xs zs)
      go (inl s) = s
      go (inr k) = absurd (not_cheaper zs ys (no_dearer_trans zs xs ys k h) t)
