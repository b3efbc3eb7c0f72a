-- The tables that a set is judged with: they are in order, and how code judges by them. Assumes nothing.
use mathlib.Core.Path.{◌≡◌, refl, sym, ap, ap₂, ◌∙◌, subst}
use mathlib.Core.Logic.{◌⊎◌, inl, inr}
use mathlib.Core.Bool.{Bool, true, false}
use mathlib.Core.List.{List, [], ◌∷◌, ◌++◌}
use Prim.Native.Nat.{ℕ, zero, suc, ◌+◌, ◌-◌, ◌≤◌, ◌<◌, zero-le}
use native.Mathlib.Nat.{zero-add}
use native.Mathlib.Numerals.{add-one}
use native.Mathlib.Omega.{arith}
use lib.Dec.{eqb, ltb}
use lib.IntN.{ℤ, pos, nat_abs}
use lib.ListN.{length, get_or, drop, replicate, length-replicate, get_or-replicate, length-map, get_or-map, drop_of_length-le, get_or-eq_default}
use lib.Seq.{drop-cons, slice, slice-cons, length-slice, get_or-take, get_or-drop}
use mir.Syntax.{w32}
use mir.Val.{to_z, of_z}
use mir.Facts.{to_z-of_z}
use Rattle.std.specs.Prelude.{Option, Some, None}
use borrow.Author.Tests.{eq-eqb, ne_eqb, eqb-true}
use Rattle.asp.specs.Sets.{Set, pick, ind}
use Rattle.asp.specs.Program.{All}
use Rattle.asp.specs.Stable.{holds}
use Rattle.cores.specs.Soft.{Kind, entry, derived, core_number, core_of, kind_at, count_by, judge, Earlier, InOrder}
use Rattle.cores.specs.Judging.{Judging, kind_from, kind_in, kinds_in, members_in, cores_in, violated_at, count_in, FormedJudging, Known, Stays, Answers, CountAnswers, first_violated}
use Rattle.asp.proofs.Signed.{small_fits}
use Rattle.cores.specs.declared.soft.Soft.{Soft}
use Rattle.cores.specs.Columns.{literals_of, cores_of, indices_of}
use Rattle.cores.specs.Tables.{no_soft, judging_of}
use Rattle.cores.proofs.Sums.{below_or}
use Rattle.cores.proofs.Judgements.{unfolds}
use Rattle.cores.proofs.Members.{at_all}
use Rattle.cores.proofs.Spans.{length_span, get_d_span}

-- ---- the kinds and the cores, by place

pub number_of : (l : ℤ) (j i : ℕ) → core_number (kind_from l j i) ≡ j
number_of l j i = go (eqb j 0) refl
  where
    go : (b : Bool) → eqb j 0 ≡ b → core_number (pick b (entry l) (derived j i)) ≡ j
    go true e = sym (eqb-true j 0 e)
    go false e = refl

module _ (t : Judging) where
  pub kind_at_lem : (p : ℕ) → p < length t.literals → kind_at (kinds_in t) p ≡ kind_in t p
  kind_at_lem p h = get_d_span (kind_in t) 0 (length t.literals) (entry (pos 0)) p h ∙ ap (kind_in t) (zero-add p)

  pub core_at : (j : ℕ) → j < length t.ends - 1 → core_of (cores_in t) (suc j) ≡ members_in t.ends t.members j
  core_at j h = get_d_span (members_in t.ends t.members) 0 (length t.ends - 1) [] j h ∙ ap (members_in t.ends t.members) (zero-add j)

  pub cores_many : length (cores_in t) ≡ length t.ends - 1
  cores_many = length_span (members_in t.ends t.members) 0 (length t.ends - 1)

  pub kinds_many : length (kinds_in t) ≡ length t.literals
  kinds_many = length_span (kind_in t) 0 (length t.literals)

  module _ (f : FormedJudging t) where
    number_in : (p : ℕ) → core_number (kind_at (kinds_in t) p) ≤ length (cores_in t)
    number_in p = go (below_or p (length t.literals))
      where
        go : (p < length t.literals) ⊎ (length t.literals ≤ p) → core_number (kind_at (kinds_in t) p) ≤ length (cores_in t)
        go (inl h) =
            omega (
              arith,
              ap core_number (kind_at_lem p h),
              number_of (get_or t.literals p (pos 0)) (get_or t.cores p 0) (get_or t.indices p 0),
              f.core_in p,
              cores_many,
            )
        go (inr h) = subst (λ (k : Kind). core_number k ≤ length (cores_in t)) (sym (get_or-eq_default (kinds_in t) (entry (pos 0)) {n = p} (rw kinds_many h))) zero-le

    -- member i of core j + 1
    member_earlier : (j i : ℕ) → i < length (members_in t.ends t.members j) → Earlier (kinds_in t) (suc j) (get_or (members_in t.ends t.members j) i 0)
    member_earlier j i h =
        let a : ℕ = get_or t.ends j 0 in
        let e : ℕ = get_or t.ends (j + 1) 0 in
        let l : length (members_in t.ends t.members j) ≡ e - a = length-slice a e t.members (f.end_in (j + 1)) in
        let q : a + i < e = omega arith in
        let m : ℕ = get_or t.members (a + i) 0 in
        let x : m < length t.literals = f.member_in (a + i) (omega (arith, f.end_in (j + 1))) in
        let y : get_or t.cores m 0 ≤ j = f.falls j (a + i) (omega arith) q in
        let z : core_number (kind_at (kinds_in t) m) ≡ get_or t.cores m 0 = ap core_number (kind_at_lem m x) ∙ number_of (get_or t.literals m (pos 0)) (get_or t.cores m 0) (get_or t.indices m 0) in
        let w : Earlier (kinds_in t) (suc j) m = (rw kinds_many x, omega arith) in
        rw (get_or-drop, get_or-take) w

    members_earlier : (j : ℕ) → All (Earlier (kinds_in t) j) (core_of (cores_in t) j)
    members_earlier zero = tt
    members_earlier (suc j) = go (below_or j (length t.ends - 1))
      where
        go : (j < length t.ends - 1) ⊎ (length t.ends - 1 ≤ j) → All (Earlier (kinds_in t) (suc j)) (core_of (cores_in t) (suc j))
        go (inl h) = subst (All (Earlier (kinds_in t) (suc j))) (sym (core_at j h)) (at_all (Earlier (kinds_in t) (suc j)) (members_in t.ends t.members j) (member_earlier j))
        go (inr h) = subst (All (Earlier (kinds_in t) (suc j))) (sym (get_or-eq_default (cores_in t) [] {n = j} (rw cores_many h))) tt

    pub formed_order : InOrder (kinds_in t) (cores_in t)
    formed_order = record { cores = number_in; members = members_earlier }

    -- ---- judging one soft literal

    judged_in : (M : Set) (p : ℕ) → p < length t.literals → violated_at t M p ≡ judge M (cores_in t) (violated_at t M) (kind_in t p)
    judged_in M p h = unfolds M (kinds_in t) (cores_in t) formed_order p ∙ ap (judge M (cores_in t) (violated_at t M)) (kind_at_lem p h)

    pub entry_in : (M : Set) (p : ℕ) → p < length t.literals → get_or t.cores p 0 ≡ 0 → violated_at t M p ≡ holds M (get_or t.literals p (pos 0))
    entry_in M p h e = judged_in M p h ∙ ap (λ (b : Bool). judge M (cores_in t) (violated_at t M) (pick b (entry (get_or t.literals p (pos 0))) (derived (get_or t.cores p 0) (get_or t.indices p 0)))) (eq-eqb (get_or t.cores p 0) 0 e)

    pub derived_in : (M : Set) (p : ℕ) → p < length t.literals → (get_or t.cores p 0 ≡ 0 → ⊥) → violated_at t M p ≡ ltb (get_or t.indices p 0) (count_in t M (get_or t.cores p 0))
    derived_in M p h e = judged_in M p h ∙ ap (λ (b : Bool). judge M (cores_in t) (violated_at t M) (pick b (entry (get_or t.literals p (pos 0))) (derived (get_or t.cores p 0) (get_or t.indices p 0)))) (ne_eqb (get_or t.cores p 0) 0 e)

    -- the members of core j
    pub core_slice : (j : ℕ) → 1 ≤ j → j < length t.ends → core_of (cores_in t) j ≡ slice (get_or t.ends (j - 1) 0) (get_or t.ends j 0) t.members
    core_slice zero l h = absurd (omega arith)
    core_slice (suc j) l h =
        core_at j (omega arith)
        ∙ ap₂ (λ (a e : ℕ). slice (get_or t.ends a 0) (get_or t.ends e 0) t.members) (omega arith) (omega arith)

-- ---- what `violated` asks and gives

module _ {t : Judging} {M : Set} {p : ℕ} where
  pub judge_entry : FormedJudging t → {counts : List ℕ} → Known t M counts → p < length t.literals → {j : ℕ} → j ≡ get_or t.cores p 0 → j ≡ 0
      → {r : Bool} → r ≡ holds M (get_or t.literals p (pos 0)) → Answers t M counts r (violated_at t M p) counts
  judge_entry f k h ej z e = record { is = e ∙ sym (entry_in t f M p h (sym ej ∙ z)); known = k; stays = λ i w. w }

  pub judge_derived : FormedJudging t → p < length t.literals → {j : ℕ} → j ≡ get_or t.cores p 0 → (j ≡ 0 → ⊥) → {n : ℕ} {before after : List ℕ} → CountAnswers t M before n j after
      → {i : ℕ} → i ≡ get_or t.indices p 0 → Answers t M before (ltb i n) (violated_at t M p) after
  judge_derived f h {j} ej z {n} {before} {after} a {i} ei = record {
    is = ap₂ ltb ei (a.is ∙ ap (count_in t M) ej) ∙ sym (derived_in t f M p h (λ q. z (ej ∙ q)));
    known = a.known;
    stays = a.stays;
  }

-- ---- counting a core

count_cons : (U : ℕ → Bool) (l : List ℕ) (k e : ℕ) → k < e → e ≤ length l → count_by U (slice k e l) ≡ ind (U (get_or l k 0)) + count_by U (slice (k + 1) e l)
count_cons U l k e h le = rw (add-one, slice-cons k e l 0)

-- n are violated of the members of core j up to place k
pub record Counting (t : Judging) (M : Set) (j end : ℕ) (before counts : List ℕ) (k n : ℕ) : Type 0 where
  pub known : Known t M counts
  pub stays : Stays before counts
  pub long : length counts ≡ length before
  pub ends : end ≡ get_or t.ends j 0
  pub from : get_or t.ends (j - 1) 0 ≤ k
  pub few : n ≤ k
  pub inside : k ≤ length t.members
  pub rest : n + count_by (violated_at t M) (slice k end t.members) ≡ count_in t M j

pub count_start : {t : Judging} {M : Set} → FormedJudging t → {counts : List ℕ} → Known t M counts → {j : ℕ} → 1 ≤ j → j < length t.ends
    → {e : ℕ} → e ≡ get_or t.ends j 0 → {k : ℕ} → k ≡ get_or t.ends (j - 1) 0 → Counting t M j e counts counts k 0
count_start {t} {M} f {counts} o {j} l h {e} ee {k} ek = record {
  known = o;
  stays = λ i w. w;
  long = refl;
  ends = ee;
  from = omega arith;
  few = omega arith;
  inside = omega (arith, f.end_in (j - 1));
  rest = zero-add _ ∙ ap₂ (λ (a b : ℕ). count_by (violated_at t M) (slice a b t.members)) ek ee ∙ sym (ap (count_by (violated_at t M)) (core_slice t f j l h));
}

module _ {t : Judging} {M : Set} {j e : ℕ} {before counts : List ℕ} {k n : ℕ} where
  -- the place of a member
  pub member_place : Counting t M j e before counts k n → FormedJudging t → k < e → k < length t.members
  member_place c f h = omega (arith, f.end_in j, c.ends)

  pub count_yes : Counting t M j e before counts k n → FormedJudging t → k < e → {m : ℕ} → m ≡ get_or t.members k 0 → {b : Bool} {after : List ℕ} → Answers t M counts b (violated_at t M m) after → length after ≡ length counts → b ≡ true
      → {n₁ : ℕ} → n₁ ≡ n + 1 → Counting t M j e before after (k + 1) n₁
  count_yes c f h {m} em {b} {after} a u q {n₁} en = record {
    known = a.known;
    stays = λ i w. a.stays i (c.stays i w);
    long = u ∙ c.long;
    ends = c.ends;
    from = omega (arith, c.from);
    few = omega (arith, c.few);
    inside = omega (arith, member_place c f h);
    rest =
        let v : violated_at t M (get_or t.members k 0) ≡ true = sym (ap (violated_at t M) em) ∙ sym a.is ∙ q in
        omega (arith, c.rest, ap ind v, count_cons (violated_at t M) t.members k e h (omega (arith, f.end_in j, c.ends)));
  }

  pub count_no : Counting t M j e before counts k n → FormedJudging t → k < e → {m : ℕ} → m ≡ get_or t.members k 0 → {b : Bool} {after : List ℕ} → Answers t M counts b (violated_at t M m) after → length after ≡ length counts → b ≡ false
      → {n₁ : ℕ} → n₁ ≡ n → Counting t M j e before after (k + 1) n₁
  count_no c f h {m} em {b} {after} a u q {n₁} en = record {
    known = a.known;
    stays = λ i w. a.stays i (c.stays i w);
    long = u ∙ c.long;
    ends = c.ends;
    from = omega (arith, c.from);
    few = omega (arith, c.few);
    inside = omega (arith, member_place c f h);
    rest =
        let v : violated_at t M (get_or t.members k 0) ≡ false = sym (ap (violated_at t M) em) ∙ sym a.is ∙ q in
        omega (arith, c.rest, ap ind v, count_cons (violated_at t M) t.members k e h (omega (arith, f.end_in j, c.ends)));
  }

-- ---- the first violated place of a list

first_none : (U : ℕ → Bool) → first_violated U [] ≡ None
unfolding first_violated
first_none U = refl

first_here : (U : ℕ → Bool) (p : ℕ) (ps : List ℕ) → U p ≡ true → first_violated U (p ∷ ps) ≡ Some p
unfolding first_violated
first_here U p ps e = rw e

first_next : (U : ℕ → Bool) (p : ℕ) (ps : List ℕ) → U p ≡ false → first_violated U (p ∷ ps) ≡ first_violated U ps
unfolding first_violated
first_next U p ps e = rw e

-- none of the first i places is violated
pub record Passing (t : Judging) (M : Set) (ps before counts : List ℕ) (i : ℕ) : Type 0 where
  pub known : Known t M counts
  pub stays : Stays before counts
  pub long : length counts ≡ length before
  pub below : i ≤ length ps
  pub rest : first_violated (violated_at t M) (drop i ps) ≡ first_violated (violated_at t M) ps

pub pass_start : {t : Judging} {M : Set} (ps : List ℕ) {counts : List ℕ} → Known t M counts → Passing t M ps counts counts 0
pass_start ps k = record { known = k; stays = λ i w. w; long = refl; below = zero-le; rest = refl }

cut_at : (ps : List ℕ) (i : ℕ) → i < length ps → drop i ps ≡ get_or ps i 0 ∷ drop (i + 1) ps
cut_at ps i h = rw (add-one, drop-cons ps i 0)

module _ {t : Judging} {M : Set} {ps before counts : List ℕ} {i : ℕ} where
  pub pass_next : Passing t M ps before counts i → i < length ps → {p : ℕ} → p ≡ get_or ps i 0 → {b : Bool} {after : List ℕ} → Answers t M counts b (violated_at t M p) after → length after ≡ length counts → b ≡ false → Passing t M ps before after (i + 1)
  pass_next c h {p} ep {b} {after} a u q = record {
    known = a.known;
    stays = λ x w. a.stays x (c.stays x w);
    long = u ∙ c.long;
    below = omega arith;
    rest =
        sym (first_next (violated_at t M) (get_or ps i 0) (drop (i + 1) ps) (sym (ap (violated_at t M) ep) ∙ sym a.is ∙ q))
        ∙ sym (ap (first_violated (violated_at t M)) (cut_at ps i h)) ∙ c.rest;
  }

  pub pass_here : Passing t M ps before counts i → i < length ps → {p : ℕ} → p ≡ get_or ps i 0 → {b : Bool} {after : List ℕ} → Answers t M counts b (violated_at t M p) after → b ≡ true
      → Answers t M before (Some p) (first_violated (violated_at t M) ps) after
  pass_here c h {p} ep {b} {after} a q = record {
    is =
        ap Some ep
        ∙ sym (first_here (violated_at t M) (get_or ps i 0) (drop (i + 1) ps) (sym (ap (violated_at t M) ep) ∙ sym a.is ∙ q))
        ∙ sym (ap (first_violated (violated_at t M)) (cut_at ps i h)) ∙ c.rest;
    known = a.known;
    stays = λ x w. a.stays x (c.stays x w);
  }

  pub pass_end : Passing t M ps before counts i → length ps ≤ i → Answers t M before None (first_violated (violated_at t M) ps) counts
  pass_end c h = record {
    is = sym (first_none (violated_at t M)) ∙ sym (ap (first_violated (violated_at t M)) (drop_of_length-le ps {i = i} h)) ∙ c.rest;
    known = c.known;
    stays = c.stays;
  }

-- ---- two lists, one after the other

first_append : (U : ℕ → Bool) (ps qs : List ℕ) → first_violated U ps ≡ None → first_violated U (ps ++ qs) ≡ first_violated U qs
unfolding first_violated
first_append U [] qs e = refl
first_append U (p ∷ ps) qs e = go (U p) e (first_append U ps qs)
  where
    go : (b : Bool) → pick b (Some p) (first_violated U ps) ≡ None → (first_violated U ps ≡ None → first_violated U (ps ++ qs) ≡ first_violated U qs)
        → pick b (Some p) (first_violated U (ps ++ qs)) ≡ first_violated U qs
    go true e f = let z : ◌≡◌ {A = ℕ} 0 1 = cc in absurd (omega arith)
    go false e f = f e

first_found : (U : ℕ → Bool) (ps qs : List ℕ) (p : ℕ) → first_violated U ps ≡ Some p → first_violated U (ps ++ qs) ≡ Some p
unfolding first_violated
first_found U [] qs p e = let z : ◌≡◌ {A = ℕ} 0 1 = cc in absurd (omega arith)
first_found U (x ∷ ps) qs p e = go (U x) e (first_found U ps qs p)
  where
    go : (b : Bool) → pick b (Some x) (first_violated U ps) ≡ Some p → (first_violated U ps ≡ Some p → first_violated U (ps ++ qs) ≡ Some p)
        → pick b (Some x) (first_violated U (ps ++ qs)) ≡ Some p
    go true e f = e
    go false e f = f e

module _ {t : Judging} {M : Set} (ps qs : List ℕ) {r : Option ℕ} {before counts : List ℕ} where
  pub found_first : Answers t M before r (first_violated (violated_at t M) ps) counts → (p : ℕ) → r ≡ Some p → Some p ≡ first_violated (violated_at t M) (ps ++ qs)
  found_first a p e = sym (first_found (violated_at t M) ps qs p (sym a.is ∙ e))

  pub found_second : Answers t M before r (first_violated (violated_at t M) ps) counts → r ≡ None → {r₂ : Option ℕ} {counts₂ : List ℕ} → Answers t M counts r₂ (first_violated (violated_at t M) qs) counts₂
      → r₂ ≡ first_violated (violated_at t M) (ps ++ qs)
  found_second a e b = b.is ∙ sym (first_append (violated_at t M) ps qs (sym a.is ∙ e))

-- no count is kept yet
none_kept : (n j : ℕ) → ◌≡◌ {A = ℕ} (get_or (replicate n 0) j 0) 0
none_kept n j = go (below_or j n)
  where
    go : (j < n) ⊎ (n ≤ j) → ◌≡◌ {A = ℕ} (get_or (replicate n 0) j 0) 0
    go (inl h) = get_or-replicate n j 0 0 h
    go (inr h) = get_or-eq_default (replicate n 0) 0 {n = j} (rw length-replicate h)

pub known_none : {t : Judging} {n : ℕ} → length t.ends ≤ n → (M : Set) → Known t M (replicate n 0)
known_none {t} {n} h M = record { long = rw length-replicate h; kept = λ j z. absurd (z (none_kept n j)) }

-- ---- the same of records that are lent

module _ (ss : List Soft) (es ms : List ℕ) (f : FormedJudging (judging_of ss es ms)) (p : ℕ) (h : p < length ss) {r : Soft} (er : r ≡ get_or ss p no_soft) where
  literal_is : r.literal ≡ get_or (literals_of ss) p (pos 0)
  literal_is = ap (λ (x : Soft). x.literal) er ∙ sym (get_or-map (λ (x : Soft). x.literal) ss p no_soft)

  core_is : r.core ≡ get_or (cores_of ss) p 0
  core_is = ap (λ (x : Soft). x.core) er ∙ sym (get_or-map (λ (x : Soft). x.core) ss p no_soft)

  index_is : r.index ≡ get_or (indices_of ss) p 0
  index_is = ap (λ (x : Soft). x.index) er ∙ sym (get_or-map (λ (x : Soft). x.index) ss p no_soft)

  inside : p < length (literals_of ss)
  inside = rw length-map h

  -- a literal that goes to a call stands as `to_z w32 (of_z w32 l)`, its bits read back
  pub literal_back : to_z w32 (of_z w32 r.literal) ≡ r.literal
  literal_back = to_z-of_z (small_fits r.literal (subst (λ (l : ℤ). nat_abs l ≤ 1024) (sym literal_is) (f.small p)))

  pub literal_small : nat_abs (to_z w32 (of_z w32 r.literal)) ≤ 1024
  literal_small = subst (λ (l : ℤ). nat_abs l ≤ 1024) (sym (literal_back ∙ literal_is)) (f.small p)

  pub judge_entry_of : {M : Set} {counts : List ℕ} → Known (judging_of ss es ms) M counts → {j : ℕ} → j ≡ r.core → j ≡ 0 → {b : Bool} → b ≡ holds M (to_z w32 (of_z w32 r.literal))
      → Answers (judging_of ss es ms) M counts b (violated_at (judging_of ss es ms) M p) counts
  judge_entry_of {M} k ej z e = judge_entry f k inside (ej ∙ core_is) z (e ∙ ap (holds M) (literal_back ∙ literal_is))

  pub judge_derived_of : {M : Set} {j : ℕ} → j ≡ r.core → (j ≡ 0 → ⊥) → {n : ℕ} {before after : List ℕ} → CountAnswers (judging_of ss es ms) M before n j after
      → {i : ℕ} → i ≡ r.index → Answers (judging_of ss es ms) M before (ltb i n) (violated_at (judging_of ss es ms) M p) after
  judge_derived_of ej z a ei = judge_derived f inside (ej ∙ core_is) z a (ei ∙ index_is)
