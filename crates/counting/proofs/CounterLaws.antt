-- The equations that the functions of `counters` follow. Assumes nothing.
use mathlib.Core.Path.{◌≡◌, refl, sym, ap, ◌∙◌}
use mathlib.Core.Bool.{Bool, true, false}
use mathlib.Core.List.{List}
use Prim.Native.Nat.{ℕ, zero, suc, ◌+◌, ◌-◌, ◌*◌, ◌≤◌, ◌<◌}
use native.Mathlib.Omega.{arith}
use lib.Dec.{eqb, ltb}
use lib.ListN.{length, get_or, set, length-set}
use borrow.Author.Tests.{lt-ltb, le-ltb, ltb-false, eq-eqb, ne_eqb}
use Rattle.asp.specs.Sets.{pick}
use Rattle.counting.specs.declared.counters.Marks.{Marks}
use Rattle.counting.specs.declared.index.Index.{Index}
use Rattle.counting.specs.Moves.{RowReadable, ListReadable}
use Rattle.counting.specs.declared.counters.Counters.{Counters}
use Rattle.counting.specs.Counters.{counters, marks, plus_one, least, lower_marks, raise_marks, freed_marks, freed, lower_at, raise_at, lower_from, raise_from, first, list_length, shift_of, decide_of, release_of, broken_after, put_marks, put_at, renew_at, is_named, Bodies, number_of, weigh_from, weigh_of}

pub more_one : (k : ℕ) → k < 65535 → k + 1 ≡ plus_one k
more_one k h = rw (lt-ltb k 65535 h)

pub more_same : (k : ℕ) → 65535 ≤ k → k ≡ plus_one k
more_same k h = rw (le-ltb k 65535 h)

pub least_first : (r low : ℕ) → r < low → r ≡ least r low
least_first r low h = rw (lt-ltb r low h)

pub least_second : (r low : ℕ) → low ≤ r → low ≡ least r low
least_second r low h = rw (le-ltb r low h)

-- ---- marks

module _ (m : Marks) (r k : ℕ) where
  pub marks_far : 2 < k → m ≡ lower_marks r k m
  marks_far h = rw (lt-ltb 2 k h)

  pub marks_broken : k ≤ 2 → k ≡ 1 → {b l z : ℕ} → b ≡ plus_one m.broken → l ≡ least r m.low → z ≡ least r m.zero → marks b l z m.atom ≡ lower_marks r k m
  marks_broken h e p q s = rw (le-ltb 2 k h, eq-eqb k 1 e, p, q, s)

  pub marks_near : k ≤ 2 → (k ≡ 1 → ⊥) → {l : ℕ} → l ≡ least r m.low → marks m.broken l m.zero m.atom ≡ lower_marks r k m
  marks_near h e q = rw (le-ltb 2 k h, ne_eqb k 1 e, q)

module _ (m : Marks) (k : ℕ) where
  pub marks_mended : k ≡ 0 → {b : ℕ} → b ≡ m.broken - 1 → marks b m.low m.zero m.atom ≡ raise_marks k m
  marks_mended e q = rw (eq-eqb k 0 e, q)

  pub marks_same : (k ≡ 0 → ⊥) → m ≡ raise_marks k m
  marks_same e = rw (ne_eqb k 0 e)

pub marks_freed : (m : Marks) (a : ℕ) {x : ℕ} → x ≡ least a m.atom → marks m.broken m.low m.zero x ≡ freed_marks a m
marks_freed m a e = rw e

-- ---- one rule

module _ (t : Counters) (r : ℕ) where
  pub lower_one : {x : ℕ} {n : Marks} → x ≡ get_or t.key r 0 - 1 → n ≡ lower_marks r (get_or t.key r 0) t.marks → counters (set t.key r x) n ≡ lower_at r t
  unfolding lower_at
  lower_one e q = rw (e, q)

  pub raise_one : {x : ℕ} {n : Marks} → x ≡ plus_one (get_or t.key r 0) → n ≡ raise_marks (get_or t.key r 0) t.marks → counters (set t.key r x) n ≡ raise_at r t
  unfolding raise_at
  raise_one e q = rw (e, q)

lower_len : (r : ℕ) (t : Counters) → length (lower_at r t).key ≡ length t.key
unfolding lower_at
lower_len r t = simp length-set

raise_len : (r : ℕ) (t : Counters) → length (raise_at r t).key ≡ length t.key
unfolding raise_at
raise_len r t = simp length-set

pub lower_all_len : (rs : List ℕ) (e k : ℕ) (t : Counters) → length (lower_from rs e k t).key ≡ length t.key
unfolding lower_from
lower_all_len rs e zero t = refl
lower_all_len rs e (suc k) t = lower_all_len rs (e + 1) k (lower_at (get_or rs e 0) t) ∙ lower_len (get_or rs e 0) t

pub raise_all_len : (rs : List ℕ) (e k : ℕ) (t : Counters) → length (raise_from rs e k t).key ≡ length t.key
unfolding raise_from
raise_all_len rs e zero t = refl
raise_all_len rs e (suc k) t = raise_all_len rs (e + 1) k (raise_at (get_or rs e 0) t) ∙ raise_len (get_or rs e 0) t

-- ---- the mark of the atoms stays

lower_atom : (r : ℕ) (t : Counters) → (lower_at r t).marks.atom ≡ t.marks.atom
unfolding lower_at
lower_atom r t = go (ltb 2 (get_or t.key r 0)) (eqb (get_or t.key r 0) 1)
  where
    go : (b d : Bool) → (pick b t.marks (pick d (marks (plus_one t.marks.broken) (least r t.marks.low) (least r t.marks.zero) t.marks.atom) (marks t.marks.broken (least r t.marks.low) t.marks.zero t.marks.atom))).atom ≡ t.marks.atom
    go true d = refl
    go false true = refl
    go false false = refl

raise_atom : (r : ℕ) (t : Counters) → (raise_at r t).marks.atom ≡ t.marks.atom
unfolding raise_at
raise_atom r t = go (eqb (get_or t.key r 0) 0)
  where
    go : (b : Bool) → (pick b (marks (t.marks.broken - 1) t.marks.low t.marks.zero t.marks.atom) t.marks).atom ≡ t.marks.atom
    go true = refl
    go false = refl

lower_all_atom : (rs : List ℕ) (e k : ℕ) (t : Counters) → (lower_from rs e k t).marks.atom ≡ t.marks.atom
unfolding lower_from
lower_all_atom rs e zero t = refl
lower_all_atom rs e (suc k) t = lower_all_atom rs (e + 1) k (lower_at (get_or rs e 0) t) ∙ lower_atom (get_or rs e 0) t

pub raise_all_atom : (rs : List ℕ) (e k : ℕ) (t : Counters) → (raise_from rs e k t).marks.atom ≡ t.marks.atom
unfolding raise_from
raise_all_atom rs e zero t = refl
raise_all_atom rs e (suc k) t = raise_all_atom rs (e + 1) k (raise_at (get_or rs e 0) t) ∙ raise_atom (get_or rs e 0) t

pub shift_atom : (o : Index) (down up : ℕ) (t : Counters) → (shift_of o down up t).marks.atom ≡ t.marks.atom
unfolding shift_of
shift_atom o down up t = raise_all_atom o.rules (first o up) (list_length o up) (lower_from o.rules (first o down) (list_length o down) t) ∙ lower_all_atom o.rules (first o down) (list_length o down) t

-- ---- the loops

pub record Lowering (rs : List ℕ) (from end : ℕ) (t₀ t : Counters) (e : ℕ) : Type 0 where
  pub long : length t.key ≡ 2048
  pub rest : lower_from rs e (end - e) t ≡ lower_from rs from (end - from) t₀

pub record Raising (rs : List ℕ) (from end : ℕ) (t₀ t : Counters) (e : ℕ) : Type 0 where
  pub long : length t.key ≡ 2048
  pub rest : raise_from rs e (end - e) t ≡ raise_from rs from (end - from) t₀

module _ (rs : List ℕ) (end e : ℕ) (t : Counters) where
  lower_more : e < end → lower_from rs e (end - e) t ≡ lower_from rs (e + 1) (end - (e + 1)) (lower_at (get_or rs e 0) t)
  unfolding lower_from
  lower_more h = let q : end - e ≡ suc (end - (e + 1)) = omega arith in rw q

  lower_none : end ≤ e → lower_from rs e (end - e) t ≡ t
  unfolding lower_from
  lower_none h = let q : end - e ≡ 0 = omega arith in rw q

  raise_more : e < end → raise_from rs e (end - e) t ≡ raise_from rs (e + 1) (end - (e + 1)) (raise_at (get_or rs e 0) t)
  unfolding raise_from
  raise_more h = let q : end - e ≡ suc (end - (e + 1)) = omega arith in rw q

  raise_none : end ≤ e → raise_from rs e (end - e) t ≡ t
  unfolding raise_from
  raise_none h = let q : end - e ≡ 0 = omega arith in rw q

pub lowering_start : (rs : List ℕ) (from end : ℕ) (t : Counters) → length t.key ≡ 2048 → Lowering rs from end t t from
lowering_start rs from end t h = record { long = h; rest = refl }

pub raising_start : (rs : List ℕ) (from end : ℕ) (t : Counters) → length t.key ≡ 2048 → Raising rs from end t t from
raising_start rs from end t h = record { long = h; rest = refl }

module _ {rs : List ℕ} {from end e : ℕ} {t₀ t : Counters} where
  pub lowering_next : Lowering rs from end t₀ t e → e < end → {r : ℕ} → r ≡ get_or rs e 0 → {t₁ : Counters} → t₁ ≡ lower_at r t → Lowering rs from end t₀ t₁ (e + 1)
  lowering_next i h {r} er q = rw (q, er) (record { long = lower_len (get_or rs e 0) t ∙ i.long; rest = sym (lower_more rs end e t h) ∙ i.rest })

  pub lowering_done : Lowering rs from end t₀ t e → end ≤ e → t ≡ lower_from rs from (end - from) t₀
  lowering_done i h = sym (lower_none rs end e t h) ∙ i.rest

  pub raising_next : Raising rs from end t₀ t e → e < end → {r : ℕ} → r ≡ get_or rs e 0 → {t₁ : Counters} → t₁ ≡ raise_at r t → Raising rs from end t₀ t₁ (e + 1)
  raising_next i h {r} er q = rw (q, er) (record { long = raise_len (get_or rs e 0) t ∙ i.long; rest = sym (raise_more rs end e t h) ∙ i.rest })

  pub raising_done : Raising rs from end t₀ t e → end ≤ e → t ≡ raise_from rs from (end - from) t₀
  raising_done i h = sym (raise_none rs end e t h) ∙ i.rest

module _ {rs key : List ℕ} {from end e : ℕ} {t₀ : Counters} {m : Marks} where
  pub lowering_long : Lowering rs from end t₀ (counters key m) e → length key ≡ 2048
  lowering_long i = i.long

  pub raising_long : Raising rs from end t₀ (counters key m) e → length key ≡ 2048
  raising_long i = i.long

pub rule_small : (rs : List ℕ) → ((e : ℕ) → get_or rs e 0 < 2048) → (e : ℕ) {r : ℕ} → r ≡ get_or rs e 0 → r < 2048
rule_small rs h e q = rw q (h e)

-- ---- two lists

module _ (o : Index) (down up : ℕ) where
  pub shifted : {a b : ℕ} → a ≡ get_or o.starts down 0 → b ≡ get_or o.starts (down + 1) 0
      → (t : Counters) {t₁ t₂ : Counters} → t₁ ≡ lower_from o.rules a (b - a) t → t₂ ≡ raise_from o.rules (first o up) (list_length o up) t₁ → t₂ ≡ shift_of o down up t
  unfolding shift_of
  shifted ea eb t p q = rw (q, p, ea, eb)

module _ (o : Index) (a s : ℕ) (t : Counters) where
  pub decided_in : s ≡ 1 → {t₁ : Counters} → t₁ ≡ shift_of o (a * 2) (a * 2 + 1) t → t₁ ≡ decide_of o a s t
  unfolding decide_of
  decided_in e q = rw (eq-eqb s 1 e) q

  pub decided_out : (s ≡ 1 → ⊥) → {t₁ : Counters} → t₁ ≡ shift_of o (a * 2 + 1) (a * 2) t → t₁ ≡ decide_of o a s t
  unfolding decide_of
  decided_out e q = rw (ne_eqb s 1 e) q

  pub released_none : s ≡ 0 → t ≡ release_of o a s t
  unfolding release_of
  released_none e = rw (eq-eqb s 0 e)

  pub released_in : (s ≡ 0 → ⊥) → s ≡ 1 → {m : Marks} → m ≡ freed_marks a t.marks → {t₁ : Counters} → t₁ ≡ shift_of o (a * 2 + 1) (a * 2) (counters t.key m) → t₁ ≡ release_of o a s t
  unfolding release_of
  released_in h e p q = rw (ne_eqb s 0 h, eq-eqb s 1 e, ← p) q

  pub released_out : (s ≡ 0 → ⊥) → (s ≡ 1 → ⊥) → {m : Marks} → m ≡ freed_marks a t.marks → {t₁ : Counters} → t₁ ≡ shift_of o (a * 2) (a * 2 + 1) (counters t.key m) → t₁ ≡ release_of o a s t
  unfolding release_of
  released_out h e p q = rw (ne_eqb s 0 h, ne_eqb s 1 e, ← p) q

-- ---- lengths

shift_len : (o : Index) (down up : ℕ) (t : Counters) → length (shift_of o down up t).key ≡ length t.key
unfolding shift_of
shift_len o down up t = raise_all_len o.rules (first o up) (list_length o up) (lower_from o.rules (first o down) (list_length o down) t) ∙ lower_all_len o.rules (first o down) (list_length o down) t

pub release_len : (o : Index) (a y : ℕ) (t : Counters) → length (release_of o a y t).key ≡ length t.key
unfolding release_of
release_len o a y t = go (eqb y 0) (eqb y 1)
  where
    go : (b d : Bool) → length (pick b t (pick d (shift_of o (a * 2 + 1) (a * 2) (freed a t)) (shift_of o (a * 2) (a * 2 + 1) (freed a t)))).key ≡ length t.key
    go true d = refl
    go false true = shift_len o (a * 2 + 1) (a * 2) (freed a t)
    go false false = shift_len o (a * 2) (a * 2 + 1) (freed a t)

pub decide_len : (o : Index) (a s : ℕ) (t : Counters) → length (decide_of o a s t).key ≡ length t.key
unfolding decide_of
decide_len o a s t = go (eqb s 1)
  where
    go : (d : Bool) → length (pick d (shift_of o (a * 2) (a * 2 + 1) t) (shift_of o (a * 2 + 1) (a * 2) t)).key ≡ length t.key
    go true = shift_len o (a * 2) (a * 2 + 1) t
    go false = shift_len o (a * 2 + 1) (a * 2) t

module _ (o : Index) (a s : ℕ) where
  pub assigned : {t₁ t₂ t₃ : Counters} → t₂ ≡ decide_of o a s t₁ → t₁ ≡ t₃ → t₂ ≡ decide_of o a s t₃
  assigned p q = p ∙ ap (decide_of o a s) q

-- ---- order 2: another number

module _ (old new b : ℕ) where
  pub broken_still : new ≡ 0 → old ≡ 0 → b ≡ broken_after old new b
  broken_still p q = rw (eq-eqb new 0 p, eq-eqb old 0 q)

  pub broken_more : new ≡ 0 → (old ≡ 0 → ⊥) → {x : ℕ} → x ≡ plus_one b → x ≡ broken_after old new b
  broken_more p q e = rw (eq-eqb new 0 p, ne_eqb old 0 q) e

  pub broken_less : (new ≡ 0 → ⊥) → old ≡ 0 → {x : ℕ} → x ≡ b - 1 → x ≡ broken_after old new b
  broken_less p q e = rw (ne_eqb new 0 p, eq-eqb old 0 q) e

  pub broken_same : (new ≡ 0 → ⊥) → (old ≡ 0 → ⊥) → b ≡ broken_after old new b
  broken_same p q = rw (ne_eqb new 0 p, ne_eqb old 0 q)

module _ (r new low : ℕ) where
  pub low_here : new < 2 → {x : ℕ} → x ≡ least r low → x ≡ pick (ltb new 2) (least r low) low
  low_here p e = rw (lt-ltb new 2 p) e

  pub low_still : 2 ≤ new → low ≡ pick (ltb new 2) (least r low) low
  low_still p = rw (le-ltb new 2 p)

  pub zero_here : new ≡ 0 → {x : ℕ} → x ≡ least r low → x ≡ pick (eqb new 0) (least r low) low
  zero_here p e = rw (eq-eqb new 0 p) e

  pub zero_still : (new ≡ 0 → ⊥) → low ≡ pick (eqb new 0) (least r low) low
  zero_still p = rw (ne_eqb new 0 p)

pub marks_put : (m : Marks) (r old new : ℕ) {b l z : ℕ} → b ≡ broken_after old new m.broken → l ≡ pick (ltb new 2) (least r m.low) m.low → z ≡ pick (eqb new 0) (least r m.zero) m.zero → marks b l z m.atom ≡ put_marks r old new m
marks_put m r old new p q s = rw (p, q, s)

pub put_one : (key : List ℕ) (r x : ℕ) (m : Marks) {n : Marks} → n ≡ put_marks r (get_or key r 0) x m → counters (set key r x) n ≡ put_at r x (counters key m)
unfolding put_at
put_one key r x m q = rw q

put_len : (r x : ℕ) (t : Counters) → length (put_at r x t).key ≡ length t.key
unfolding put_at
put_len r x t = simp length-set

renew_len : (r x : ℕ) (t : Counters) → length (renew_at r x t).key ≡ length t.key
renew_len r x t = go (eqb (get_or t.key r 0) x)
  where
    go : (b : Bool) → length (pick b t (put_at r x t)).key ≡ length t.key
    go true = refl
    go false = put_len r x t

module _ (key : List ℕ) (r x : ℕ) (m : Marks) where
  pub renew_same : get_or key r 0 ≡ x → counters key m ≡ renew_at r x (counters key m)
  renew_same e = rw (eq-eqb (get_or key r 0) x e)

  pub renew_put : (get_or key r 0 ≡ x → ⊥) → {t₁ : Counters} → t₁ ≡ put_at r x (counters key m) → t₁ ≡ renew_at r x (counters key m)
  renew_put n e = rw (ne_eqb (get_or key r 0) x n) e

-- no rule with a weighted body names the atom
pub weigh_none : (b : Bodies) (o : Index) (a : ℕ) (v : List ℕ) (t : Counters) → is_named o a ≡ false → weigh_of b o a v t ≡ t
unfolding weigh_of weigh_from
weigh_none b o a v t e = let z : list_length o (2050 + a) ≡ 0 = omega (arith, ltb-false (first o (2050 + a)) (first o (2050 + a + 1)) e) in rw z

weigh_all_len : (b : Bodies) (v rs : List ℕ) (e k : ℕ) (t : Counters) → length (weigh_from b v rs e k t).key ≡ length t.key
unfolding weigh_from
weigh_all_len b v rs e zero t = refl
weigh_all_len b v rs e (suc k) t = weigh_all_len b v rs (e + 1) k (renew_at (get_or rs e 0) (number_of b v (get_or rs e 0)) t) ∙ renew_len (get_or rs e 0) (number_of b v (get_or rs e 0)) t

pub weigh_len : (b : Bodies) (o : Index) (a : ℕ) (v : List ℕ) (t : Counters) → length (weigh_of b o a v t).key ≡ length t.key
unfolding weigh_of
weigh_len b o a v t = weigh_all_len b v o.rules (first o (2050 + a)) (list_length o (2050 + a)) t

pub record Weighing (b : Bodies) (v rs : List ℕ) (from end : ℕ) (t₀ t : Counters) (e : ℕ) : Type 0 where
  pub long : length t.key ≡ 2048
  pub after : from ≤ e
  pub rest : weigh_from b v rs e (end - e) t ≡ weigh_from b v rs from (end - from) t₀

module _ (b : Bodies) (v rs : List ℕ) (from end : ℕ) where
  pub weighing_start : (t : Counters) → length t.key ≡ 2048 → Weighing b v rs from end t t from
  weighing_start t l = record { long = l; after = omega arith; rest = refl }

  pub weighing_next : {t₀ t : Counters} {e : ℕ} → Weighing b v rs from end t₀ t e → e < end → {r : ℕ} → r ≡ get_or rs e 0 → {x : ℕ} → x ≡ number_of b v r → {t₁ : Counters} → t₁ ≡ renew_at r x t → Weighing b v rs from end t₀ t₁ (e + 1)
  unfolding weigh_from
  weighing_next {t₀} {t} {e} w h er ex et = rw (et, ex, er) (record {
    long = renew_len (get_or rs e 0) (number_of b v (get_or rs e 0)) t ∙ w.long;
    after = omega (arith, w.after);
    rest = let q : end - e ≡ suc (end - (e + 1)) = omega arith in rw q at w.rest;
  })

  module _ (l : ListReadable b rs from end) {t₀ t : Counters} {e : ℕ} (w : Weighing b v rs from end t₀ t e) (h : e < end) where
    pub weighing_inside : e < length rs
    weighing_inside = omega (arith, l.inside)

    pub weighing_row : {r : ℕ} → r ≡ get_or rs e 0 → RowReadable b r
    weighing_row er = rw er (l.each e w.after h)

    pub weighing_small : {r : ℕ} → r ≡ get_or rs e 0 → r < 2048
    weighing_small er = rw er (l.small e)

  pub weighing_done : {t₀ t : Counters} {e : ℕ} → Weighing b v rs from end t₀ t e → end ≤ e → t ≡ weigh_from b v rs from (end - from) t₀
  unfolding weigh_from
  weighing_done {t₀} {t} {e} w h = let q : end - e ≡ 0 = omega arith in rw q at w.rest

pub weighed_all : (b : Bodies) (o : Index) (v : List ℕ) (a : ℕ) (t : Counters) {x y : ℕ} → x ≡ get_or o.starts (2050 + a) 0 → y ≡ get_or o.starts (2050 + a + 1) 0 → {t₁ : Counters} → t₁ ≡ weigh_from b v o.rules x (y - x) t → t₁ ≡ weigh_of b o a v t
unfolding weigh_of
weighed_all b o v a t ex ey e = rw (ex, ey) at e
