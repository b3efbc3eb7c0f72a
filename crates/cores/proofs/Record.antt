-- A core is recorded: what is kept. Assumes nothing.
use mathlib.Core.Path.{◌≡◌, refl, sym, ap, ◌∙◌, subst}
use mathlib.Core.Logic.{◌⊎◌, inl, inr}
use mathlib.Core.Bool.{Bool, true, false}
use mathlib.Core.List.{List, [], ◌∷◌, ◌++◌}
use Prim.Native.Nat.{ℕ, zero, suc, ◌+◌, ◌-◌, ◌*◌, ◌≤◌, ◌<◌, zero-le, suc-le-suc}
use native.Mathlib.Nat.{add-zero, suc-add, le_refl, le_of_suc-le-suc, not-suc-le-zero, add-sub_of_le}
use native.Mathlib.Omega.{arith}
use lib.IntN.{pos}
use lib.ListN.{length, replicate, length-replicate, length-append, get_or-append}
use lib.Seq.{get_or-append-add, get_or-append_seam}
use lib.Dec.{ltb}
use Rattle.asp.specs.Sets.{Set, ind}
use Rattle.asp.specs.Program.{All}
use Rattle.cores.specs.Sums.{wsum, sum_over, lose}
use Rattle.cores.specs.Soft.{Kind, entry, derived, core_number, core_of, kind_at, judge, violated, Earlier, InOrder}
use Rattle.cores.specs.Level.{Level, recorded, fewer, derived_from}
use Rattle.cores.specs.Identity.{Problem, Good, Core}
use Rattle.cores.proofs.Sums.{below_or, wsum_ext, count_ext, wsum_append, wsum_lose, length_lose, wsum_above, wsum_replicate_one, count_one, count_le, ind_le}
use Rattle.cores.proofs.Judgements.{all_map, unfolds, core_of_append, old_judgement}

-- ---- small facts

pub fewer_is : (ms : List ℕ) → 1 ≤ length ms → suc (fewer ms) ≡ length ms
fewer_is [] h = absurd (not-suc-le-zero h)
fewer_is (m ∷ ms) h = omega arith

-- what holds below n, and from n on, holds
pub by_place {ℓ} : (P : ℕ → Type ℓ) (n : ℕ) → ((p : ℕ) → p < n → P p) → ((q : ℕ) → P (n + q)) → (p : ℕ) → P p
by_place P n f g p = go (below_or p n)
  where
    go : (p < n) ⊎ (n ≤ p) → P p
    go (inl h) = f p h
    go (inr h) = subst P (add-sub_of_le h) (g (p - n))

pub length_derived : (j i n : ℕ) → length (derived_from j i n) ≡ n
length_derived j i zero = refl
length_derived j i (suc n) = ap suc (length_derived j (suc i) n)

-- new soft literal q is derived (j, i + q)
kind_derived : (j i n q : ℕ) → q < n → kind_at (derived_from j i n) q ≡ derived j (i + q)
kind_derived j i zero q h = absurd (not-suc-le-zero h)
kind_derived j i (suc n) zero h = ap (derived j) (sym (add-zero i))
kind_derived j i (suc n) (suc q) h = kind_derived j (suc i) n q (le_of_suc-le-suc h) ∙ ap (derived j) (omega arith)

number_derived : (j i n q : ℕ) → core_number (kind_at (derived_from j i n) q) ≤ j
number_derived j i zero q = zero-le
number_derived j i (suc n) zero = le_refl j
number_derived j i (suc n) (suc q) = number_derived j (suc i) n q

-- the last core
core_of_last : (cs : List (List ℕ)) (ms : List ℕ) → core_of (cs ++ (ms ∷ [])) (suc (length cs)) ≡ ms
core_of_last cs ms = get_or-append_seam cs ms [] []

module _ (ks : List Kind) (cs : List (List ℕ)) (o : InOrder ks cs) (ms : List ℕ) (inside : All (λ m. m < length ks) ms) (n : ℕ) where
  abbrev ks' : List Kind
  ks' = ks ++ derived_from (suc (length cs)) 1 n

  abbrev cs' : List (List ℕ)
  cs' = cs ++ (ms ∷ [])

  cores_more : length cs' ≡ suc (length cs)
  cores_more = omega (arith, length-append cs (ms ∷ []))

  old_kind : (p : ℕ) → p < length ks → kind_at ks' p ≡ kind_at ks p
  old_kind p h = get_or-append ks (derived_from (suc (length cs)) 1 n) (entry (pos 0)) p h

  new_kind : (q : ℕ) → kind_at ks' (length ks + q) ≡ kind_at (derived_from (suc (length cs)) 1 n) q
  new_kind q = get_or-append-add ks (derived_from (suc (length cs)) 1 n) q (entry (pos 0))

  earlier_kept : (j m : ℕ) → Earlier ks j m → Earlier ks' j m
  earlier_kept j m e = (omega (arith, length-append ks (derived_from (suc (length cs)) 1 n)), subst (λ (k : Kind). core_number k < j) (sym (old_kind m e.0)) e.1)

  new_members : (q : ℕ) → All (Earlier ks' (suc (length cs) + q)) (core_of cs' (suc (length cs) + q))
  new_members zero =
      subst (λ (j : ℕ). All (Earlier ks' j) (core_of cs' j)) (sym (add-zero (suc (length cs))))
      (subst (All (Earlier ks' (suc (length cs)))) (sym (core_of_last cs ms))
      (all_map ms (λ m h. earlier_kept (suc (length cs)) m (h, suc-le-suc (o.cores m))) inside))
  new_members (suc q) =
      subst (All (Earlier ks' (suc (length cs) + suc q)))
      (sym (ap (core_of cs') (suc-add (length cs) (suc q)) ∙ get_or-append-add cs (ms ∷ []) (suc q) [])) tt

  pub in_order : InOrder ks' cs'
  in_order = record {
    cores = by_place (λ p. core_number (kind_at ks' p) ≤ length cs') (length ks)
        (λ p h. subst (λ (k : Kind). core_number k ≤ length cs') (sym (old_kind p h)) (omega (arith, o.cores p, cores_more)))
        (λ q. subst (λ (k : Kind). core_number k ≤ length cs') (sym (new_kind q)) (omega (arith, number_derived (suc (length cs)) 1 n q, cores_more)));
    members = by_place (λ j. All (Earlier ks' j) (core_of cs' j)) (suc (length cs))
        (λ j h. subst (All (Earlier ks' j)) (sym (core_of_append cs (ms ∷ []) j (le_of_suc-le-suc h))) (all_map (core_of cs j) (earlier_kept j) (o.members j)))
        new_members;
  }

  module _ (M : Set) where
    pub old_soft : (p : ℕ) → p < length ks → violated M ks' cs' p ≡ violated M ks cs p
    old_soft p h = old_judgement M ks cs o (derived_from (suc (length cs)) 1 n) (ms ∷ []) p h

    -- the i-th new soft literal is violated where more than i members are
    pub new_soft : (q : ℕ) → q < n → violated M ks' cs' (length ks + q) ≡ ltb (1 + q) (sum_over (λ m. ind (violated M ks cs m)) ms)
    new_soft q h =
        unfolds M ks' cs' in_order (length ks + q)
        ∙ ap (judge M cs' (violated M ks' cs')) (new_kind q ∙ kind_derived (suc (length cs)) 1 n q h)
        ∙ rw (core_of_last cs ms, count_ext (λ m. ind (violated M ks' cs' m)) (λ m. ind (violated M ks cs m)) ms (all_map ms (λ m h'. ap ind (old_soft m h')) inside))

-- what a core says, that no model meets all its members, as a count
pub some_violated : (U : ℕ → Bool) (ms : List ℕ) → (All (λ m. U m ≡ false) ms → ⊥) → 1 ≤ sum_over (λ m. ind (U m)) ms
some_violated U [] h = absurd (h tt)
some_violated U (m ∷ ms) h = go (U m) refl (λ a. some_violated U ms a)
  where
    go : (b : Bool) → U m ≡ b → ((All (λ m. U m ≡ false) ms → ⊥) → 1 ≤ sum_over (λ m. ind (U m)) ms) → 1 ≤ ind (U m) + sum_over (λ m. ind (U m)) ms
    go true e ih = omega (arith, ap ind e)
    go false e ih = omega (arith, ih (λ a. h (e, a)))

-- ---- what is kept

module _ (P : Problem) where
  open P use {Model, cost_of, whole}

  module _ (l : Level) (s : ℕ) (ms : List ℕ) (g : Good P l) (c : Core P l s ms) where
    inside_kinds : All (λ m. m < length l.kinds) ms
    inside_kinds = all_map ms (λ m h. subst (λ (n : ℕ). m < n) (sym g.as_long) h.0) c.heavy

    -- lower + Σ remaining is the level's weight
    weight_kept : (recorded l s ms).lower + wsum (λ p. 1) (recorded l s ms).rests ≡ whole
    weight_kept =
        omega (
          arith,
          g.weighs,
          wsum_append (λ p. 1) (lose s ms l.rests) (replicate (fewer ms) s),
          wsum_lose (λ p. 1) s ms l.rests c.distinct c.heavy,
          wsum_replicate_one s (fewer ms),
          ap (λ (z : ℕ). s * z) (count_one ms ∙ sym (fewer_is ms c.some)),
        )

    long_kept : length (lose s ms l.rests) ≡ length l.kinds
    long_kept = length_lose s ms l.rests ∙ sym g.as_long

    -- the identity: u of the members are violated, and + s - s * u + s * (u - 1) is nothing
    module _ (M : Set) (h : Model M) where
      before : ℕ → ℕ
      before p = ind (violated M l.kinds l.cores p)

      after : ℕ → ℕ
      after p = ind (violated M (recorded l s ms).kinds (recorded l s ms).cores p)

      old_sum : wsum after (lose s ms l.rests) ≡ wsum before (lose s ms l.rests)
      unfolding before after
      old_sum = wsum_ext after before (lose s ms l.rests) (λ p h'.
          ap ind (old_soft l.kinds l.cores g.ordered ms inside_kinds (fewer ms) M p (subst (λ (n : ℕ). p < n) long_kept h')))

      new_sum : wsum (λ q. after (length (lose s ms l.rests) + q)) (replicate (fewer ms) s) ≡ s * (sum_over before ms - 1)
      unfolding before after
      new_sum =
          wsum_ext _ (λ q. ind (ltb (1 + q) (sum_over before ms))) (replicate (fewer ms) s) (λ q h'.
          ap (λ (n : ℕ). after (n + q)) long_kept
          ∙ ap ind (new_soft l.kinds l.cores g.ordered ms inside_kinds (fewer ms) M q (subst (λ (n : ℕ). q < n) (length-replicate (fewer ms) s) h')))
          ∙ wsum_above s (sum_over before ms) (fewer ms) 1 (omega (arith, count_le before ms (λ m. ind_le (violated M l.kinds l.cores m)), fewer_is ms c.some))

      identity_kept : cost_of M ≡ l.lower + s + wsum after (lose s ms l.rests ++ replicate (fewer ms) s)
      unfolding before
      identity_kept =
          let one : 1 ≤ sum_over before ms = c.refuted M h in
          let e : sum_over before ms ≡ suc (sum_over before ms - 1) = omega arith in
          omega (arith, g.identity M h, wsum_append after (lose s ms l.rests) (replicate (fewer ms) s), old_sum, new_sum, wsum_lose before s ms l.rests c.distinct c.heavy, ap (λ (z : ℕ). s * z) e)

    -- RECORDING A CORE KEEPS THE IDENTITY AND THE WEIGHT
    pub kept : Good P (recorded l s ms)
    unfolding after
    kept = record {
      as_long = omega (
        arith,
        long_kept,
        length-append l.kinds (derived_from (suc (length l.cores)) 1 (fewer ms)),
        length_derived (suc (length l.cores)) 1 (fewer ms),
        length-append (lose s ms l.rests) (replicate (fewer ms) s),
        length-replicate (fewer ms) s,
      );
      ordered = in_order l.kinds l.cores g.ordered ms inside_kinds (fewer ms);
      identity = identity_kept;
      weighs = weight_kept;
    }
