-- What the number 2 says on a full trail: each rule that adds an atom of the set has it. Assumes nothing.
use mathlib.Core.Path.{◌≡◌, refl, sym, ap, ap₂, ◌∙◌}
use mathlib.Core.Bool.{Bool, beq, true, false, not, ◌&&◌, ◌||◌}
use mathlib.Core.List.{List, [], ◌∷◌}
use mathlib.Core.Logic.{◌⊎◌, inl, inr, ⊎_elim}
use Prim.Native.Nat.{ℕ, zero, suc, ◌+◌, ◌-◌, ◌*◌, ◌≤◌, ◌<◌}
use native.Mathlib.Omega.{arith}
use lib.Dec.{T, eqb, ltb, leb, eqb→eq}
use lib.IntN.{ℤ, pos, negsuc, nat_abs}
use lib.ListN.{get_or}
use mir.Facts.{and_yes, or_yes}
use borrow.Author.Tests.{eqb-true, eqb-false, ltb-true, ltb-false, lt-ltb, le-ltb, eq-eqb, ne_eqb}
use Rattle.asp.specs.declared.rules.Row.{Row}
use Rattle.asp.specs.Sets.{Set, Sub, In, set_of, pick, same, ind}
use Rattle.asp.specs.Program.{Weighed, All, LiteralIn}
use Rattle.asp.specs.Stable.{holds, holds_in, all_hold, counts, body_holds, member, head_adds, rule_adds, adds, constraint_fails, any_violated, Stable, closure, is_stable}
use Rattle.asp.specs.Tables.{span, named, literals_at, atoms_at, is_choice, is_weighted, is_mixed, pairs_at, bound_at, row_at, head_at, rule_at, rules_of, Formed}
use Rattle.asp.proofs.RowLaws.{body_weighted, body_normal, head_choice, head_none, head_plain}
use Rattle.asp.proofs.Stability.{stable_yes, closure_least, rule_mono, head_in}
use Rattle.asp.specs.Growth.{KeptBy}
use Rattle.asp.proofs.Growing.{grown_none}
use Rattle.asp.proofs.Rounds.{Round, round_next, Closing}
use Rattle.asp.proofs.Signed.{clash}
use Rattle.search.specs.Places.{truth_of, truth_at}
use Rattle.search.specs.Scan.{Rules, rules, cond_at, meet_of, meets, head_conditions, head_rest, weighted_rest}
use Rattle.search.specs.Weigh.{owed_at, met_at, least_at, body_rest}
use Rattle.search.specs.declared.scan.Rest.{Rest}
use Rattle.search.proofs.ScanLaws.{off_stays}
use Rattle.search.proofs.Formed.{named_is, rule_in, atom_in_lem}
use Rattle.counting.specs.declared.index.Index.{Index}
use Rattle.counting.specs.declared.counters.Counters.{Counters}
use Rattle.counting.specs.Counters.{first, list_length, rest_number, weigh_number}
use Rattle.counting.specs.Counts.{sum_from, times_in, weigh, term, key_of, list_of}
use Rattle.counting.proofs.Sums.{sum_none}
use Rattle.counting.proofs.Support.{supported}
use Rattle.indexing.specs.Sorting.{spot_of, weighed_in, mid_in, lo_in, hi_in, stands}
use Rattle.indexing.specs.Leaf.{Whole, Leaf, Unsupported}
use Rattle.indexing.proofs.Indexing.{StandsAt, in_list, listed, lo_plain, lo_choice, seen_there, indexed}

-- ---- sums with one term

sum_only : (f : ℕ → ℕ) (c i k : ℕ) → ((a : ℕ) → a < i + k → (a ≡ c → ⊥) → f a ≡ 0) → i ≤ c → c < i + k → sum_from f i k ≡ f c
unfolding sum_from
sum_only f c i zero h p q = absurd (omega arith)
sum_only f c i (suc k) h p q = go (eqb i c) refl (sum_only f c (i + 1) k (λ a l n. h a (omega arith) n))
  where
    go : (b : Bool) → eqb i c ≡ b → (i + 1 ≤ c → c < i + 1 + k → sum_from f (i + 1) k ≡ f c) → f i + sum_from f (i + 1) k ≡ f c
    go true e r = let z : i ≡ c = eqb-true i c e in rw z (omega (arith, sum_none f (c + 1) k (λ a x y. h a (omega arith) (λ w. absurd (omega arith)))))
    go false e r = let n = eqb-false i c e in omega (arith, h i (omega arith) n, r (omega arith) (omega arith))

weigh_none : (x : ℕ) → weigh 0 x ≡ 0
weigh_none x = go (eqb x 1) (eqb x 0)
  where
    go : (b d : Bool) → ◌≡◌ {A = ℕ} (pick b 0 (pick d 0 (0 + 0))) 0
    go true d = refl
    go false true = refl
    go false false = refl

-- ---- what holds in the set is true on the trail

-- what lies between a set and a part that agrees with it, agrees with it
same_between : (n : ℕ) (M X Y : Set) → Sub X Y → Sub Y M → true ≡ same n M X → true ≡ same n M Y
unfolding same
same_between zero M X Y p q e = refl
same_between (suc k) M X Y p q e = go (M (suc k)) refl (X (suc k)) refl (Y (suc k)) refl (same_between k M X Y p q) e
  where
    go : (m : Bool) → M (suc k) ≡ m → (x : Bool) → X (suc k) ≡ x → (y : Bool) → Y (suc k) ≡ y → (true ≡ same k M X → true ≡ same k M Y) → true ≡ (beq m x && same k M X) → true ≡ (beq m y && same k M Y)
    go true a true b true c ih w = ih w
    go true a true b false c ih w = absurd (rw c at (p.sub (suc k) (rw b tt)))
    go true a false b y c ih w = absurd (clash (sym w))
    go false a true b y c ih w = absurd (clash (sym w))
    go false a false b true c ih w = absurd (rw a at (q.sub (suc k) (rw c tt)))
    go false a false b false c ih w = ih w

module _ (n : ℕ) (v : List ℕ) (w : Whole n v) (small : (a : ℕ) → get_or v a 0 ≤ 2) where
  in_true : (x : ℕ) → T (set_of v x) → get_or v x 0 ≡ 1
  in_true x t = eqb→eq (get_or v x 0) 1 t

  out_true : (x : ℕ) → In n x → T (not (set_of v x)) → get_or v x 0 ≡ 2
  out_true x i t = go (get_or v x 0) refl t (small x)
    where
      go : (y : ℕ) → get_or v x 0 ≡ y → T (not (eqb y 1)) → y ≤ 2 → get_or v x 0 ≡ 2
      go zero e u l = absurd (w.full x i e)
      go (suc zero) e u l = absurd u
      go (suc (suc zero)) e u l = e
      go (suc (suc (suc y))) e u l = absurd (omega arith)

  pub holds_true : (l : ℤ) → In n (nat_abs l) → T (holds (set_of v) l) → truth_at v l ≡ 1
  holds_true (pos x) i t = rw (in_true x t)
  holds_true (negsuc x) i t = rw (out_true (suc x) i t)

  -- order 2: on a full trail a literal is true just if it holds, and none is undecided
  pub truth_full : (l : ℤ) → In n (nat_abs l) → (eqb (truth_at v l) 1 ≡ holds (set_of v) l) × (eqb (truth_at v l) 0 ≡ false)
  truth_full (pos x) i = go (get_or v x 0) refl (small x)
    where
      go : (y : ℕ) → get_or v x 0 ≡ y → y ≤ 2 → (eqb (truth_of (pos x) y) 1 ≡ eqb y 1) × (eqb (truth_of (pos x) y) 0 ≡ false)
      go zero e l = absurd (w.full x i e)
      go (suc zero) e l = (refl, refl)
      go (suc (suc zero)) e l = (refl, refl)
      go (suc (suc (suc y))) e l = absurd (omega arith)
  truth_full (negsuc x) i = go (get_or v (suc x) 0) refl (small (suc x))
    where
      go : (y : ℕ) → get_or v (suc x) 0 ≡ y → y ≤ 2 → (eqb (truth_of (negsuc x) y) 1 ≡ not (eqb y 1)) × (eqb (truth_of (negsuc x) y) 0 ≡ false)
      go zero e l = absurd (w.full (suc x) i e)
      go (suc zero) e l = (refl, refl)
      go (suc (suc zero)) e l = (refl, refl)
      go (suc (suc (suc y))) e l = absurd (omega arith)

  met_full : (ps : List Weighed) → All (λ (p : Weighed). LiteralIn n p.literal) ps → met_at v ps ≡ counts (set_of v) (set_of v) ps
  unfolding met_at counts
  met_full [] i = refl
  met_full (p ∷ ps) i = rw ((truth_full p.literal i.0).0, met_full ps i.1)

  owed_full : (ps : List Weighed) → All (λ (p : Weighed). LiteralIn n p.literal) ps → owed_at v ps ≡ counts (set_of v) (set_of v) ps
  unfolding owed_at counts
  owed_full [] i = refl
  owed_full (p ∷ ps) i = rw ((truth_full p.literal i.0).0, (truth_full p.literal i.0).1, owed_full ps i.1)

  -- so the least weight is what the set counts
  least_full : (mixed : Bool) (ps : List Weighed) → All (λ (p : Weighed). LiteralIn n p.literal) ps → least_at mixed v ps ≡ counts (set_of v) (set_of v) ps
  least_full true ps i = owed_full ps i
  least_full false ps i = met_full ps i

  pub body_full : (mixed : Bool) (b : ℕ) (ps : List Weighed) → All (λ (p : Weighed). LiteralIn n p.literal) ps → T (leb b (counts (set_of v) (set_of v) ps)) → body_rest mixed v b ps ≡ Rest.All
  unfolding body_rest
  body_full mixed b ps i t = rw (least_full mixed ps i, is_true (leb b (counts (set_of v) (set_of v) ps)) t)
    where
      is_true : (x : Bool) → T x → x ≡ true
      is_true true t = refl
      is_true false t = absurd t

-- ---- a body that holds

hold_at : (M X : Set) (pool : List ℤ) (i k : ℕ) → T (all_hold M X (literals_at pool i k)) → (j : ℕ) → i ≤ j → j < i + k → T (holds_in M X (get_or pool j (pos 0)))
unfolding all_hold span
hold_at M X pool i zero t j a b = absurd (omega arith)
hold_at M X pool i (suc k) t j a b = go (eqb i j) refl (hold_at M X pool (i + 1) k (and_yes (holds_in M X (get_or pool i (pos 0))) (all_hold M X (literals_at pool (i + 1) k)) t).1 j)
  where
    go : (x : Bool) → eqb i j ≡ x → (i + 1 ≤ j → j < i + 1 + k → T (holds_in M X (get_or pool j (pos 0)))) → T (holds_in M X (get_or pool j (pos 0)))
    go true e r = let z : i ≡ j = eqb-true i j e in rw z at (and_yes (holds_in M X (get_or pool i (pos 0))) (all_hold M X (literals_at pool (i + 1) k)) t).0
    go false e r = let n = eqb-false i j e in r (omega arith) (omega arith)

-- ---- an atom among the heads

record Headed (pool : List ℤ) (i k a : ℕ) : Type 0 where
  at : ℕ
  from : i ≤ at
  to : at < i + k
  is : named (get_or pool at (pos 0)) ≡ a

member_at : (pool : List ℤ) (a i k : ℕ) → T (member a (atoms_at pool i k)) → Headed pool i k a
unfolding member span
member_at pool a i zero t = absurd t
member_at pool a i (suc k) t = go (or_yes (eqb a (named (get_or pool i (pos 0)))) (member a (atoms_at pool (i + 1) k)) t) (member_at pool a (i + 1) k)
  where
    go : T (eqb a (named (get_or pool i (pos 0)))) ⊎ T (member a (atoms_at pool (i + 1) k)) → (T (member a (atoms_at pool (i + 1) k)) → Headed pool (i + 1) k a) → Headed pool i (suc k) a
    go (inl e) r = record { at = i; from = omega arith; to = omega arith; is = sym (eqb→eq a (named (get_or pool i (pos 0))) e) }
    go (inr u) r = let p = r u in record { at = p.at; from = omega (arith, p.from); to = omega (arith, p.to); is = p.is }

head_adds_lem : (M : Set) (pool : List ℤ) (w : Row) (a : ℕ) → T (head_adds M (head_at pool w) a) → Headed pool w.first w.heads a
head_adds_lem M pool w a t = go (is_choice w.head) refl (eqb w.heads 0) refl
  where
    go : (x : Bool) → is_choice w.head ≡ x → (y : Bool) → eqb w.heads 0 ≡ y → Headed pool w.first w.heads a
    go true e y q = member_at pool a w.first w.heads (and_yes (M a) (member a (atoms_at pool w.first w.heads)) (rw (head_choice pool w e) at t)).1
    go false e true q = absurd (rw (head_none pool w e (eqb-true w.heads 0 q)) at t)
    go false e false q =
        let n = eqb-false w.heads 0 q in
        record { at = w.first; from = omega arith; to = omega arith; is = sym (eqb→eq a (named (get_or pool w.first (pos 0))) (rw (head_plain pool w e n) at t)) }

-- ---- the number of a rule that adds an atom of the set

module _ (n : ℕ) (pool : List ℤ) (rows : List Row) (count : ℕ) (form : Formed n pool rows count) (o h : Index) (v : List ℕ) (t : Counters) (leaf : Leaf (rules pool rows count) n o h v t) where
  abbrev G : Rules
  G = rules pool rows count

  abbrev M : Set
  M = set_of v

  small : (a : ℕ) → get_or v a 0 ≤ 2
  small = leaf.counted.small

  module _ (r : ℕ) (c : r < count) (body : T (body_holds M M (rule_at pool (row_at rows r)).body)) (nw : is_weighted (row_at rows r).body ≡ false) where
    abbrev W : Row
    W = row_at rows r

    body_true : (k : ℕ) → W.first + W.heads ≤ k → k < W.first + W.heads + W.literals → truth_at v (get_or pool k (pos 0)) ≡ 1
    body_true k a b = holds_true n v leaf.whole small (get_or pool k (pos 0)) (atom_in_lem n pool rows count form r c k (omega arith) b) (hold_at M M pool (W.first + W.heads) W.literals (rw (body_normal pool W nw) at body) k a b)

    cond_body : (k : ℕ) → W.first + W.heads ≤ k → cond_at pool (W.first + W.heads) k ≡ get_or pool k (pos 0)
    cond_body k a = rw (le-ltb k (W.first + W.heads) a)

    -- a literal that is true wherever it is held weighs nothing
    weigh_lit : (l : ℤ) → 1 ≤ nat_abs l → nat_abs l ≤ 1024 → (StandsAt G leaf.readied r c l → truth_at v l ≡ 1) → weigh (times_in o r (list_of l)) (truth_at v l) ≡ 0
    weigh_lit l p u f = go (times_in o r (list_of l)) refl
      where
        go : (m : ℕ) → times_in o r (list_of l) ≡ m → weigh m (truth_at v l) ≡ 0
        go zero e = weigh_none (truth_at v l)
        go (suc m) e = let z = f (in_list G o leaf.readied leaf.conditions r l c nw p u (λ w. absurd (omega arith))) in rw z

    term_zero : (a : ℕ) → a ≤ 1024 → ((l : ℤ) → nat_abs l ≡ a → StandsAt G leaf.readied r c l → truth_at v l ≡ 1) → term o r a (get_or v a 0) ≡ 0
    term_zero zero b f =
        let ix = indexed G o leaf.readied leaf.conditions in
        rw ((ix.none r).0, (ix.none r).1) (ap₂ (λ (x y : ℕ). x + y) (weigh_none (truth_of (pos 0) (get_or v 0 0))) (weigh_none (truth_of (negsuc 0) (get_or v 0 0))))
    term_zero (suc a) b f = ap₂ (λ (x y : ℕ). x + y) (weigh_lit (pos (suc a)) (omega arith) b (f (pos (suc a)) refl)) (weigh_lit (negsuc a) (omega arith) b (f (negsuc a) refl))

    -- a literal that is held in the body
    in_body : (l : ℤ) (p : StandsAt G leaf.readied r c l) → W.first + W.heads ≤ p.at → truth_at v l ≡ 1
    in_body l p a = let z : l ≡ get_or pool p.at (pos 0) = sym p.is ∙ cond_body p.at a in rw z (body_true p.at a p.to)

    body_key : W.first + W.heads ≤ lo_in false (row_at rows r) → sum_from (λ a. term o r a (get_or v a 0)) 0 1025 ≡ 0
    body_key a = sum_none (λ a. term o r a (get_or v a 0)) 0 1025 (λ x p q. term_zero x (omega arith) (λ l e k. in_body l k (omega (arith, k.from))))

    normal_choice : is_choice W.head ≡ true → key_of G o v r ≡ 2
    normal_choice e = rw (nw, e) (omega (arith, body_key (let z = lo_choice G leaf.readied r c e in omega arith)))

    normal_constraint : is_choice W.head ≡ false → W.heads ≡ 0 → key_of G o v r ≡ 0
    normal_constraint m e = rw (nw, m) (omega (arith, body_key (let z = lo_plain G leaf.readied r c m in omega arith)))

    -- the head atom, which is in: its complement is the one condition that is false
    module _ (a : ℕ) (plain-rule : is_choice W.head ≡ false) (one : W.heads ≡ 1) (head : get_or pool W.first (pos 0) ≡ pos (suc a)) (inside : T (M (suc a))) (lim : suc a ≤ 1024) where
      value_one : get_or v (suc a) 0 ≡ 1
      value_one = in_true n v leaf.whole small (suc a) inside

      cond_head : cond_at pool (W.first + W.heads) W.first ≡ negsuc a
      cond_head = rw (lt-ltb W.first (W.first + W.heads) (omega arith), head)

      other : (l : ℤ) → (l ≡ negsuc a → ⊥) → StandsAt G leaf.readied r c l → truth_at v l ≡ 1
      other l m p = go (ltb p.at (W.first + W.heads)) refl
        where
          go : (x : Bool) → ltb p.at (W.first + W.heads) ≡ x → truth_at v l ≡ 1
          go true e =
              let u = lo_plain G leaf.readied r c plain-rule in
              let z : p.at ≡ W.first = omega (arith, p.from, ltb-true p.at (W.first + W.heads) e) in
              absurd (m (sym p.is ∙ ap (cond_at pool (W.first + W.heads)) z ∙ cond_head))
          go false e = in_body l p (ltb-false p.at (W.first + W.heads) e)

      at_head : term o r (suc a) (get_or v (suc a) 0) ≡ 2
      at_head =
          let u = lo_plain G leaf.readied r c plain-rule in
          let tms : times_in o r (suc a * 2 + 1) ≡ 1 = ap (λ (l : ℤ). times_in o r (list_of l)) (sym cond_head) ∙ listed G o leaf.readied leaf.conditions r W.first c nw (omega arith) (omega arith) in
          rw (value_one, tms) refl

      normal_plain : key_of G o v r ≡ 2
      normal_plain =
          rw (nw, plain-rule)
          (omega (
            arith,
            at_head,
            sum_only (λ x. term o r x (get_or v x 0)) (suc a) 0 1025
                (λ x y m. term_zero x (omega arith) (λ l e p. other l (λ w. m (sym e ∙ ap nat_abs w)) p))
                (omega arith) (omega arith),
          ))

  -- ---- order 2: the same of a rule with a weighted body

  module _ (r : ℕ) (c : r < count) (body : T (body_holds M M (rule_at pool (row_at rows r)).body)) (w : is_weighted (row_at rows r).body ≡ true) where
    abbrev X : Row
    X = row_at rows r

    body_all : weighted_rest pool v X ≡ Rest.All
    body_all =
        body_full n v leaf.whole small (is_mixed X.body) (bound_at pool X) (pairs_at pool (X.literals + 1) (X.first + X.heads) X.literals) (rw (body_weighted pool X w) at (rule_in n pool rows count form r c).1)
        (rw (body_weighted pool X w) at body)

    key_by : (s : Rest) → head_rest pool v X ≡ s → key_of G o v r ≡ rest_number s
    unfolding weigh_number
    key_by s e = rw (w, e, body_all) (omega arith)

    weighted_choice : is_choice X.head ≡ true → key_of G o v r ≡ 2
    weighted_choice e = key_by Rest.Off (rw e (off_stays v (head_conditions pool X)))

    weighted_constraint : is_choice X.head ≡ false → X.heads ≡ 0 → key_of G o v r ≡ 0
    unfolding span meets
    weighted_constraint e z = key_by Rest.All (rw (e, z) refl)

    module _ (a : ℕ) (m : is_choice X.head ≡ false) (one : X.heads ≡ 1) (head : get_or pool X.first (pos 0) ≡ pos (suc a)) where
      head_is : head_rest pool v X ≡ meet_of v Rest.All (negsuc a)
      unfolding span meets
      head_is = rw (m, one, lt-ltb X.first (X.first + 1) (omega arith), head) refl

      weighted_plain : T (M (suc a)) → key_of G o v r ≡ 2
      weighted_plain u = key_by Rest.Off (head_is ∙ (let z = in_true n v leaf.whole small (suc a) u in rw z refl))

      weighted_broken : In n (suc a) → T (not (M (suc a))) → key_of G o v r ≡ 0
      weighted_broken i u = key_by Rest.All (head_is ∙ (let z = out_true n v leaf.whole small (suc a) i u in rw z refl))

  -- ---- either body

  module _ (r : ℕ) (c : r < count) (body : T (body_holds M M (rule_at pool (row_at rows r)).body)) where
    key_choice : is_choice (row_at rows r).head ≡ true → key_of G o v r ≡ 2
    key_choice e = go (is_weighted (row_at rows r).body) refl
      where
        go : (b : Bool) → is_weighted (row_at rows r).body ≡ b → key_of G o v r ≡ 2
        go true w = weighted_choice r c body w e
        go false w = normal_choice r c body w e

    key_constraint : is_choice (row_at rows r).head ≡ false → (row_at rows r).heads ≡ 0 → key_of G o v r ≡ 0
    key_constraint m e = go (is_weighted (row_at rows r).body) refl
      where
        go : (b : Bool) → is_weighted (row_at rows r).body ≡ b → key_of G o v r ≡ 0
        go true w = weighted_constraint r c body w m e
        go false w = normal_constraint r c body w m e

    key_plain : (a : ℕ) → is_choice (row_at rows r).head ≡ false → (row_at rows r).heads ≡ 1 → get_or pool (row_at rows r).first (pos 0) ≡ pos (suc a) → T (M (suc a)) → suc a ≤ 1024 → key_of G o v r ≡ 2
    key_plain a m one hd u l = go (is_weighted (row_at rows r).body) refl
      where
        go : (b : Bool) → is_weighted (row_at rows r).body ≡ b → key_of G o v r ≡ 2
        go true w = weighted_plain r c body w a m one hd u
        go false w = normal_plain r c body w a m one hd u l

  -- each rule that adds an atom of the set has the number 2
  pub adds_two : (r : ℕ) → r < count → (a : ℕ) → T (rule_adds M (rule_at pool (row_at rows r)) M a) → T (M a) → get_or t.key r 0 ≡ 2
  adds_two r c a u i = leaf.counted.each r c ∙ go (is_choice (row_at rows r).head) refl a (leaf.whole.only.only a i) i hd
    where
      both : T (body_holds M M (rule_at pool (row_at rows r)).body) × T (head_adds M (head_at pool (row_at rows r)) a)
      both = and_yes (body_holds M M (rule_at pool (row_at rows r)).body) (head_adds M (head_at pool (row_at rows r)) a) u

      hd : Headed pool (row_at rows r).first (row_at rows r).heads a
      hd = head_adds_lem M pool (row_at rows r) a both.1

      go : (x : Bool) → is_choice (row_at rows r).head ≡ x → (b : ℕ) → In n b → T (M b) → Headed pool (row_at rows r).first (row_at rows r).heads b → key_of G o v r ≡ 2
      go true e b j k p = key_choice r c both.0 e
      go false e zero j k p = absurd (omega (arith, j.0))
      go false e (suc b) j k p =
          let m : is_choice (row_at rows r).head ≡ false = e in
          let s = (form.row r c).single m in
          let z : p.at ≡ (row_at rows r).first = omega (arith, p.from, p.to) in
          let y : (row_at rows r).heads ≡ 1 = omega (arith, p.from, p.to) in
          let x : named (get_or pool (row_at rows r).first (pos 0)) ≡ suc b = rw z at p.is in
          key_plain r c both.0 b m y (sym (named_is n (get_or pool (row_at rows r).first (pos 0)) (rw x j)) ∙ ap pos x) k (omega (arith, j.1, form.few))

  -- ---- the head lists

  head_stands : (r a : ℕ) → r < count → In n a → Headed pool (row_at rows r).first (row_at rows r).heads a → stands true G r a ≡ true
  unfolding spot_of weighed_in mid_in lo_in hi_in
  head_stands r a c i p =
      seen_there (λ k. nat_abs (get_or pool k (pos 0))) (row_at rows r).first a ((row_at rows r).first + (row_at rows r).heads - (row_at rows r).first) p.at p.from (omega (arith, p.to))
      (let x = p.is in ap nat_abs (sym (named_is n (get_or pool p.at (pos 0)) (rw x i)) ∙ ap pos x))

  pub unsupported_adds : (a : ℕ) → In n a → T (M a) → Unsupported h t.key a → (r : ℕ) → r < count → T (rule_adds M (rule_at pool (row_at rows r)) M a) → ⊥
  unsupported_adds a i k un r c u =
      let hd = head_adds_lem M pool (row_at rows r) a (and_yes (body_holds M M (rule_at pool (row_at rows r)).body) (head_adds M (head_at pool (row_at rows r)) a) u).1 in
      let s : times_in h r a ≡ 1 = leaf.heads.times r a (omega (arith, i.1, form.few)) c ∙ ap ind (head_stands r a c i hd) in
      let z : times_in h r a ≡ 0 = sum_none (λ x. ind (eqb (get_or h.rules x 0) r)) (first h a) (list_length h a) (λ e p q. ap ind (ne_eqb (get_or h.rules e 0) r (λ w. un.none e p q (rw w (adds_two r c a u k))))) in
      absurd (omega arith)

  -- ---- all rules

  adds_at : (X : Set) (a i k : ℕ) (Q : Type 0) → T (adds M (span (λ (s : ℕ). rule_at pool (row_at rows s)) i k) X a) → ((s : ℕ) → i ≤ s → s < i + k → T (rule_adds M (rule_at pool (row_at rows s)) X a) → Q) → Q
  unfolding adds span
  adds_at X a i zero Q u f = absurd u
  adds_at X a i (suc k) Q u f =
      ⊎_elim (λ y. f i (omega arith) (omega arith) y) (λ y. adds_at X a (i + 1) k Q y (λ s p q z. f s (omega arith) (omega arith) z))
      (or_yes (rule_adds M (rule_at pool (row_at rows i)) X a) (adds M (span (λ (s : ℕ). rule_at pool (row_at rows s)) (i + 1) k) X a) u)

  -- An atom of the set that no rule with the number 2 has in its head: the set is not stable.
  pub unsupported_unstable : (a : ℕ) → In n a → get_or v a 0 ≡ 1 → Unsupported h t.key a → Stable (rules_of pool rows count) M → ⊥
  unsupported_unstable a i e un s =
      let k : T (M a) = rw (eq-eqb (get_or v a 0) 1 e) tt in
      adds_at M a 0 count ⊥ (supported (rules_of pool rows count) M s a k) (λ r p q u. unsupported_adds a i k un r (omega arith) u)

  pub lacks_unstable : (a : ℕ) → In n a × (get_or v a 0 ≡ 1) × Unsupported h t.key a → false ≡ is_stable n (rules_of pool rows count) M
  lacks_unstable a x = go (is_stable n (rules_of pool rows count) M) refl
    where
      go : (b : Bool) → is_stable n (rules_of pool rows count) M ≡ b → false ≡ b
      go true e = absurd (unsupported_unstable a x.0 x.1 x.2 (stable_yes n (rules_of pool rows count) form.atoms M leaf.whole.only (rw e tt)))
      go false e = refl

  -- ---- no rule broken: no constraint is violated, and the set is closed

  violated_none : (r : ℕ) → r < count → constraint_fails M (rule_at pool (row_at rows r)) ≡ false
  violated_none r c = go (constraint_fails M (rule_at pool (row_at rows r))) refl (is_choice (row_at rows r).head) refl (eqb (row_at rows r).heads 0) refl
    where
      go : (b : Bool) → constraint_fails M (rule_at pool (row_at rows r)) ≡ b → (x : Bool) → is_choice (row_at rows r).head ≡ x → (y : Bool) → eqb (row_at rows r).heads 0 ≡ y → b ≡ false
      go false e x p y q = refl
      go true e true p y q = absurd (clash (rw (head_choice pool (row_at rows r) p) at e))
      go true e false p false q = absurd (clash (rw (head_plain pool (row_at rows r) p (eqb-false (row_at rows r).heads 0 q)) at e))
      go true e false p true q =
          let m : is_choice (row_at rows r).head ≡ false = p in
          let z = eqb-true (row_at rows r).heads 0 q in
          let u : body_holds M M (rule_at pool (row_at rows r)).body ≡ true = rw (head_none pool (row_at rows r) m z) at e in
          absurd (leaf.unbroken.unbroken r c (leaf.counted.each r c ∙ key_constraint r c (rw u tt) m z))

  any_none : (i k : ℕ) → i + k ≤ count → any_violated M (span (λ (s : ℕ). rule_at pool (row_at rows s)) i k) ≡ false
  unfolding any_violated span
  any_none i zero l = refl
  any_none i (suc k) l = rw (violated_none i (omega arith), any_none (i + 1) k (omega arith)) refl

  -- What is left of the test: the closure alone.
  pub closure_left : is_stable n (rules_of pool rows count) M ≡ same n M (closure n (rules_of pool rows count) M)
  closure_left = rw (any_none 0 count (omega arith)) refl

  -- a plain rule whose body holds has its head in
  key_broken : (r : ℕ) → r < count → T (body_holds M M (rule_at pool (row_at rows r)).body) → is_choice (row_at rows r).head ≡ false → (a : ℕ) → In n a → (row_at rows r).heads ≡ 1 → get_or pool (row_at rows r).first (pos 0) ≡ pos a → T (not (M a)) → key_of G o v r ≡ 0
  key_broken r c body m zero i one hd u = absurd (omega (arith, i.0))
  key_broken r c body m (suc a) i one hd u = go (is_weighted (row_at rows r).body) refl
    where
      go : (b : Bool) → is_weighted (row_at rows r).body ≡ b → key_of G o v r ≡ 0
      go true w = weighted_broken r c body w a m one hd i u
      go false nw = rw (nw, m) (omega (arith, sum_none (λ x. term o r x (get_or v x 0)) 0 1025 (λ x p q. term_zero r c body nw x (omega arith) (λ l e k. each nw l k (ltb k.at ((row_at rows r).first + (row_at rows r).heads)) refl))))
        where
          each : is_weighted (row_at rows r).body ≡ false → (l : ℤ) (k : StandsAt G leaf.readied r c l) → (b : Bool) → ltb k.at ((row_at rows r).first + (row_at rows r).heads) ≡ b → truth_at v l ≡ 1
          each nw l k true e =
              let w = lo_plain G leaf.readied r c m in
              let z : k.at ≡ (row_at rows r).first = omega (arith, k.from, ltb-true k.at ((row_at rows r).first + (row_at rows r).heads) e) in
              let y : cond_at pool ((row_at rows r).first + (row_at rows r).heads) (row_at rows r).first ≡ negsuc a = rw (lt-ltb (row_at rows r).first ((row_at rows r).first + (row_at rows r).heads) (omega arith), hd) in
              let x : l ≡ negsuc a = sym k.is ∙ ap (cond_at pool ((row_at rows r).first + (row_at rows r).heads)) z ∙ y in
              rw x (holds_true n v leaf.whole small (negsuc a) i u)
          each nw l k false e = in_body r c body nw l k (ltb-false k.at ((row_at rows r).first + (row_at rows r).heads) e)

  -- so what a rule adds to the set is in it
  pub kept : (r : ℕ) → r < count → (a : ℕ) → T (rule_adds M (rule_at pool (row_at rows r)) M a) → T (M a)
  kept r c a u = go (is_choice (row_at rows r).head) refl (M a) refl
    where
      both : T (body_holds M M (rule_at pool (row_at rows r)).body) × T (head_adds M (head_at pool (row_at rows r)) a)
      both = and_yes (body_holds M M (rule_at pool (row_at rows r)).body) (head_adds M (head_at pool (row_at rows r)) a) u

      hd : Headed pool (row_at rows r).first (row_at rows r).heads a
      hd = head_adds_lem M pool (row_at rows r) a both.1

      go : (x : Bool) → is_choice (row_at rows r).head ≡ x → (y : Bool) → M a ≡ y → T (M a)
      go x e true q = rw q tt
      go true e false q = (and_yes (M a) (member a (atoms_at pool (row_at rows r).first (row_at rows r).heads)) (rw (head_choice pool (row_at rows r) e) at both.1)).0
      go false e false q =
          let m : is_choice (row_at rows r).head ≡ false = e in
          let s = (form.row r c).single m in
          let z : hd.at ≡ (row_at rows r).first = omega (arith, hd.from, hd.to) in
          let y : (row_at rows r).heads ≡ 1 = omega (arith, hd.from, hd.to) in
          let x : named (get_or pool (row_at rows r).first (pos 0)) ≡ a = rw z at hd.is in
          let i : In n a = head_in n M (head_at pool (row_at rows r)) (rule_in n pool rows count form r c).0 a both.1 in
          absurd (leaf.unbroken.unbroken r c (leaf.counted.each r c ∙ key_broken r c both.0 m a i y (sym (named_is n (get_or pool (row_at rows r).first (pos 0)) (rw x i)) ∙ ap pos x) (rw q tt)))

  -- ---- rounds over the rules with the number 2

  module _ {r : ℕ} {xs ys : List ℕ} {new : Bool} (d : Round M pool rows count r xs ys new) (inside : Sub (set_of xs) M) (c : r < count) where
    ys_in : Sub (set_of ys) M
    ys_in = d.grown.inside M (λ s l. record { sub = λ a u. kept s (omega (arith, d.stop)) a u }) inside

    pub round_skip : (get_or t.key r 0 ≡ 2 → ⊥) → Round M pool rows count (r + 1) xs ys new
    round_skip m =
        round_next d c (grown_none (KeptBy M (rule_at pool (row_at rows r))) ys (record { sub = λ a u. let w = rule_mono M ys_in (rule_at pool (row_at rows r)) a u in absurd (m (adds_two r c a w (kept r c a w))) })) (go new)
      where
        go : (b : Bool) → b ≡ (b || false)
        go true = refl
        go false = refl

  -- and the closure is in the set
  closure_below : Sub (closure n (rules_of pool rows count) M) M
  closure_below = closure_least n (rules_of pool rows count) M M (record { sub = λ b w. adds_at M b 0 count (T (M b)) w (λ s p q z. kept s (omega arith) b z) })

  pub closure_in : {xs : List ℕ} {new : Bool} → Closing n M pool rows count xs new → Sub (set_of xs) M
  closure_in x = record { sub = λ a u. closure_below.sub a (x.inside.sub a u) }

  -- so it is all of the set as soon as a part of it is
  pub closure_all : {xs : List ℕ} {new : Bool} → Closing n M pool rows count xs new → true ≡ same n M (set_of xs) → true ≡ same n M (closure n (rules_of pool rows count) M)
  closure_all {xs} x e = same_between n M (set_of xs) (closure n (rules_of pool rows count) M) x.inside closure_below e
