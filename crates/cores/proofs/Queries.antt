-- What holds in the loops that prepare a query: one record for each loop, and its laws. Assumes nothing.
use mathlib.Core.Path.{◌≡◌, refl, sym, ap, ap₂, ◌∙◌}
use mathlib.Core.Bool.{Bool, true, false}
use mathlib.Core.List.{List, [], ◌∷◌, map}
use Prim.Native.Nat.{ℕ, ◌+◌, ◌≤◌, ◌<◌, max}
use native.Mathlib.Nat.{add-zero}
use native.Mathlib.Numerals.{add-one}
use native.Mathlib.Omega.{arith}
use lib.Dec.{ltb, eqb}
use lib.IntN.{ℤ, pos, neg_ℤ}
use lib.ListN.{length, get_or, set, drop, length-map, drop_of_length-le}
use lib.Seq.{drop-cons, sets}
use Rattle.std.proofs.lemmas.List.{get_or-map}
use borrow.Author.Tests.{lt-ltb, le-ltb}
use Rattle.asp.specs.Sets.{pick}
use Rattle.asp.specs.Stable.{keep}
use Rattle.cores.specs.declared.soft.Soft.{Soft}
use Rattle.cores.specs.Level.{under, assumed_from}
use Rattle.cores.specs.Columns.{rests_of, ListedPlaces, listed_places, assumed_of, entries_among, Pairs, pairs, put_pair, Paired, paired, put_entry, entry_columns}
use Rattle.cores.proofs.Strata.{assumed_yes, assumed_no}

cut : {A : Type 0} (l : List A) (i : ℕ) (d : A) → i < length l → drop i l ≡ get_or l i d ∷ drop (i + 1) l
cut l i d h = rw (add-one, drop-cons l i d)

-- ---- the next stratum

-- the greater of w and the best so far, if w is below s
abbrev raised_by : ℕ → ℕ → ℕ → ℕ
raised_by s w best = pick (ltb w s) (max w best) best

pub record Falling (s : ℕ) (ws : List ℕ) (best i : ℕ) : Type 0 where
  pub below : i ≤ length ws
  pub rest : max best (under s (drop i ws)) ≡ under s ws

fall_one : (s b w : ℕ) (ws : List ℕ) → max (raised_by s w b) (under s ws) ≡ max b (under s (w ∷ ws))
unfolding under
fall_one s b w ws = elim (ltb w s) as (λ x. max (pick x (max w b) b) (under s ws) ≡ max b (pick x (max w (under s ws)) (under s ws))) [ true ↦ omega arith | false ↦ refl ]

fall_none : (s b : ℕ) → max b (under s []) ≡ b
unfolding under
fall_none s b = omega arith

module _ {s : ℕ} {ws : List ℕ} {best i : ℕ} where
  pub fall_next : Falling s ws best i → i < length ws → {w : ℕ} → w ≡ get_or ws i 0 → {b : ℕ} → b ≡ raised_by s w best → Falling s ws b (i + 1)
  fall_next f h {w} ew {b} eb = record {
    below = omega arith;
    rest =
        ap (λ (x : ℕ). max x (under s (drop (i + 1) ws))) (eb ∙ ap (λ (x : ℕ). raised_by s x best) ew)
        ∙ fall_one s best (get_or ws i 0) (drop (i + 1) ws)
        ∙ sym (ap (λ (l : List ℕ). max best (under s l)) (cut ws i 0 h)) ∙ f.rest;
  }

  pub fall_end : Falling s ws best i → length ws ≤ i → best ≡ under s ws
  fall_end f h = sym (fall_none s best) ∙ sym (ap (λ (l : List ℕ). max best (under s l)) (drop_of_length-le ws {i = i} h)) ∙ f.rest

-- the same over records that are lent
rests_long : (ss : List Soft) → length (rests_of ss) ≡ length ss
rests_long ss = length-map ss (λ (r : Soft). r.weight)

rest_at : (ss : List Soft) (i : ℕ) (d : Soft) → i < length ss → (get_or ss i d).weight ≡ get_or (rests_of ss) i 0
rest_at ss i d h = sym (get_or-map (λ (r : Soft). r.weight) ss i d 0 h)

raised_yes : (s w best : ℕ) → w < s → max w best ≡ raised_by s w best
raised_yes s w best h = rw (lt-ltb w s h)

raised_no : (s w best : ℕ) → s ≤ w → best ≡ raised_by s w best
raised_no s w best h = rw (le-ltb w s h)

module _ (ss : List Soft) (d : Soft) {s best i : ℕ} where
  pub fall_soft : Falling s (rests_of ss) best i → i < length ss → (get_or ss i d).weight < s → {b : ℕ} → b ≡ max (get_or ss i d).weight best → Falling s (rests_of ss) b (i + 1)
  fall_soft f h l e = fall_next f (omega (arith, rests_long ss)) (rest_at ss i d h) (e ∙ raised_yes s (get_or ss i d).weight best l)

  pub skip_soft : Falling s (rests_of ss) best i → i < length ss → s ≤ (get_or ss i d).weight → {b : ℕ} → b ≡ best → Falling s (rests_of ss) b (i + 1)
  skip_soft f h l e = fall_next f (omega (arith, rests_long ss)) (rest_at ss i d h) (e ∙ raised_no s (get_or ss i d).weight best l)

pub fall_all : {s : ℕ} (ss : List Soft) {best i : ℕ} → Falling s (rests_of ss) best i → length ss ≤ i → best ≡ under s (rests_of ss)
fall_all ss f h = fall_end f (omega (arith, rests_long ss))

-- ---- the assumed places

-- the list xs is still to be put from place n on
abbrev to_come : List ℕ → ℕ → List ℕ → ListedPlaces
to_come ps n xs = listed_places (sets ps n xs) (n + length xs)

put_one : (ps : List ℕ) (n x : ℕ) (xs : List ℕ) → to_come ps n (x ∷ xs) ≡ to_come (set ps n x) (n + 1) xs
put_one ps n x xs = ap₂ (λ (a b : ℕ). listed_places (sets (set ps n x) a xs) b) (sym (add-one n)) (omega arith)

put_none : (ps : List ℕ) (n : ℕ) → to_come ps n [] ≡ listed_places ps n
put_none ps n = ap (listed_places ps) (add-zero n)

pub record Picking (s : ℕ) (ws ps₀ ps : List ℕ) (n i : ℕ) : Type 0 where
  pub below : i ≤ length ws
  pub few : n ≤ i
  pub rest : to_come ps n (assumed_from s i (drop i ws)) ≡ assumed_of s ws ps₀

module _ {s : ℕ} {ws ps₀ ps : List ℕ} {n i : ℕ} where
  pub pick_next : Picking s ws ps₀ ps n i → i < length ws → {w : ℕ} → w ≡ get_or ws i 0 → s ≤ w → {x : ℕ} → x ≡ i
      → {ps₁ : List ℕ} → ps₁ ≡ set ps n x → {n₁ : ℕ} → n₁ ≡ n + 1 → Picking s ws ps₀ ps₁ n₁ (i + 1)
  pick_next p h {w} ew l {x} ex {ps₁} ep {n₁} en = record {
    below = omega arith;
    few = omega (arith, p.few);
    rest =
        ap₂ (λ (a : List ℕ) (b : ℕ). to_come a b (assumed_from s (i + 1) (drop (i + 1) ws))) (ep ∙ ap (set ps n) ex) en
        ∙ sym (put_one ps n i (assumed_from s (i + 1) (drop (i + 1) ws)))
        ∙ sym (ap (to_come ps n) (assumed_yes s i (get_or ws i 0) (drop (i + 1) ws) (omega arith)))
        ∙ sym (ap (λ (l : List ℕ). to_come ps n (assumed_from s i l)) (cut ws i 0 h)) ∙ p.rest;
  }

  pub pick_skip : Picking s ws ps₀ ps n i → i < length ws → {w : ℕ} → w ≡ get_or ws i 0 → w < s
      → {ps₁ : List ℕ} → ps₁ ≡ ps → {n₁ : ℕ} → n₁ ≡ n → Picking s ws ps₀ ps₁ n₁ (i + 1)
  pick_skip p h {w} ew l {ps₁} ep {n₁} en = record {
    below = omega arith;
    few = omega (arith, p.few);
    rest =
        ap₂ (λ (a : List ℕ) (b : ℕ). to_come a b (assumed_from s (i + 1) (drop (i + 1) ws))) ep en
        ∙ sym (ap (to_come ps n) (assumed_no s i (get_or ws i 0) (drop (i + 1) ws) (omega arith)))
        ∙ sym (ap (λ (l : List ℕ). to_come ps n (assumed_from s i l)) (cut ws i 0 h)) ∙ p.rest;
  }

  pub pick_end : Picking s ws ps₀ ps n i → length ws ≤ i → listed_places ps n ≡ assumed_of s ws ps₀
  unfolding assumed_from
  pick_end p h = sym (put_none ps n) ∙ sym (ap (λ (l : List ℕ). to_come ps n (assumed_from s i l)) (drop_of_length-le ws {i = i} h)) ∙ p.rest

-- the same over records that are lent
module _ (ss : List Soft) (d : Soft) {s : ℕ} {ps₀ ps : List ℕ} {n i : ℕ} where
  pub pick_soft : Picking s (rests_of ss) ps₀ ps n i → i < length ss → s ≤ (get_or ss i d).weight → {ps₁ : List ℕ} → ps₁ ≡ set ps n i → {n₁ : ℕ} → n₁ ≡ n + 1 → Picking s (rests_of ss) ps₀ ps₁ n₁ (i + 1)
  pick_soft p h l ep en = pick_next p (omega (arith, rests_long ss)) (rest_at ss i d h) l refl ep en

  pub leave_soft : Picking s (rests_of ss) ps₀ ps n i → i < length ss → (get_or ss i d).weight < s → {ps₁ : List ℕ} → ps₁ ≡ ps → {n₁ : ℕ} → n₁ ≡ n → Picking s (rests_of ss) ps₀ ps₁ n₁ (i + 1)
  leave_soft p h l ep en = pick_skip p (omega (arith, rests_long ss)) (rest_at ss i d h) l ep en

pub pick_all : {s : ℕ} (ss : List Soft) {ps₀ ps : List ℕ} {n i : ℕ} → Picking s (rests_of ss) ps₀ ps n i → length ss ≤ i → listed_places ps n ≡ assumed_of s (rests_of ss) ps₀
pick_all ss p h = pick_end p (omega (arith, rests_long ss))

-- ---- those of them that are an entry's

keep_yes : (f : ℕ → Bool) (p : ℕ) (ps : List ℕ) → f p ≡ true → keep f (p ∷ ps) ≡ p ∷ keep f ps
unfolding keep
keep_yes f p ps e = rw e

keep_no : (f : ℕ → Bool) (p : ℕ) (ps : List ℕ) → f p ≡ false → keep f (p ∷ ps) ≡ keep f ps
unfolding keep
keep_no f p ps e = rw e

keep_nil : (f : ℕ → Bool) → keep f [] ≡ []
unfolding keep
keep_nil f = refl

-- the places ps are still to be put from position n on
abbrev pairs_to_come : List ℤ → Pairs → ℕ → List ℕ → Paired
pairs_to_come ls t n ps = paired (pairs (sets t.places n ps) (sets t.wishes n (map (λ (p : ℕ). neg_ℤ (get_or ls p (pos 0))) ps))) (n + length ps)

pair_one : (ls : List ℤ) (t : Pairs) (n p : ℕ) (ps : List ℕ) → pairs_to_come ls t n (p ∷ ps) ≡ pairs_to_come ls (put_pair ls n p t) (n + 1) ps
pair_one ls t n p ps =
    ap₂ (λ (a b : ℕ). paired (pairs (sets (set t.places n p) a ps) (sets (set t.wishes n (neg_ℤ (get_or ls p (pos 0)))) a (map (λ (q : ℕ). neg_ℤ (get_or ls q (pos 0))) ps))) b)
    (sym (add-one n)) (omega arith)

pair_none : (ls : List ℤ) (t : Pairs) (n : ℕ) → pairs_to_come ls t n [] ≡ paired t n
pair_none ls t n = ap (paired t) (add-zero n)

pub record Pairing (ls : List ℤ) (js as' : List ℕ) (t₀ t : Pairs) (n i : ℕ) : Type 0 where
  pub below : i ≤ length as'
  pub few : n ≤ i
  pub rest : pairs_to_come ls t n (entries_among js (drop i as')) ≡ entry_columns ls (entries_among js as') t₀

module _ {ls : List ℤ} {js as' : List ℕ} {t₀ t : Pairs} {n i : ℕ} where
  pub pair_next : Pairing ls js as' t₀ t n i → i < length as' → {p : ℕ} → p ≡ get_or as' i 0 → {t₁ : Pairs} {n₁ : ℕ} → paired t₁ n₁ ≡ put_entry js ls p (paired t n)
      → Pairing ls js as' t₀ t₁ n₁ (i + 1)
  pair_next c h {p} ep {t₁} {n₁} e = go (eqb (get_or js (get_or as' i 0) 0) 0) refl
    where
      step : paired t₁ n₁ ≡ put_entry js ls (get_or as' i 0) (paired t n)
      step = e ∙ ap (λ (x : ℕ). put_entry js ls x (paired t n)) ep

      come : (x y : Paired) → x ≡ y → pairs_to_come ls x.pairs x.count (entries_among js (drop (i + 1) as')) ≡ pairs_to_come ls y.pairs y.count (entries_among js (drop (i + 1) as'))
      come x y q = ap (λ (z : Paired). pairs_to_come ls z.pairs z.count (entries_among js (drop (i + 1) as'))) q

      go : (b : Bool) → eqb (get_or js (get_or as' i 0) 0) 0 ≡ b → Pairing ls js as' t₀ t₁ n₁ (i + 1)
      go true q =
          let f : paired t₁ n₁ ≡ paired (put_pair ls n (get_or as' i 0) t) (n + 1) = rw q at step in
          record {
            below = omega arith;
            few = omega (arith, c.few, ap (λ (z : Paired). z.count) f);
            rest =
                come (paired t₁ n₁) (paired (put_pair ls n (get_or as' i 0) t) (n + 1)) f
                ∙ sym (pair_one ls t n (get_or as' i 0) (entries_among js (drop (i + 1) as')))
                ∙ sym (ap (pairs_to_come ls t n) (keep_yes (λ p. eqb (get_or js p 0) 0) (get_or as' i 0) (drop (i + 1) as') q))
                ∙ sym (ap (λ (l : List ℕ). pairs_to_come ls t n (entries_among js l)) (cut as' i 0 h)) ∙ c.rest;
          }
      go false q =
          let f : paired t₁ n₁ ≡ paired t n = rw q at step in
          record {
            below = omega arith;
            few = omega (arith, c.few, ap (λ (z : Paired). z.count) f);
            rest =
                come (paired t₁ n₁) (paired t n) f
                ∙ sym (ap (pairs_to_come ls t n) (keep_no (λ p. eqb (get_or js p 0) 0) (get_or as' i 0) (drop (i + 1) as') q))
                ∙ sym (ap (λ (l : List ℕ). pairs_to_come ls t n (entries_among js l)) (cut as' i 0 h)) ∙ c.rest;
          }

  pub pair_end : Pairing ls js as' t₀ t n i → length as' ≤ i → paired t n ≡ entry_columns ls (entries_among js as') t₀
  pair_end c h =
      sym (pair_none ls t n)
      ∙ sym (ap (pairs_to_come ls t n) (keep_nil (λ p. eqb (get_or js p 0) 0)))
      ∙ sym (ap (λ (l : List ℕ). pairs_to_come ls t n (entries_among js l)) (drop_of_length-le as' {i = i} h)) ∙ c.rest
