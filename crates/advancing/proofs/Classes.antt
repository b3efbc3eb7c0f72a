-- What the queries on the tables are about: the stable models, those with the settled costs, the soft literals that are assumed. Assumes nothing.
use mathlib.Core.Path.{◌≡◌, refl, sym, ap, ◌∙◌, subst}
use mathlib.Core.Bool.{Bool, true, false, not, ◌&&◌, cond, true≢false}
use mathlib.Core.List.{List, [], ◌∷◌, map}
use mathlib.Core.Logic.{◌≢◌}
use Prim.Native.Nat.{ℕ, zero, suc, ◌+◌, ◌≤◌, ◌<◌, zero-le}
use native.Mathlib.Decide.{ℕ_discrete}
use native.Mathlib.Omega.{arith}
use lib.Dec.{T, eqb}
use lib.IntN.{ℤ, pos, neg_ℤ, nat_abs}
use lib.ListN.{length, get_or, take, length-map, get_or-map}
use Rattle.asp.specs.Sets.{Set, In, Only, pick}
use Rattle.asp.specs.Program.{All, LiteralIn, Out, Distinct}
use Rattle.asp.specs.Stable.{is_stable, holds, keep}
use Rattle.asp.specs.Literal.{same_ℤ}
use Rattle.asp.specs.Cost.{cost}
use Rattle.asp.specs.Penalty.{charge, above, rise}
use Rattle.asp.proofs.Signed.{abs_neg, same_refl, same_true}
use Rattle.asp.proofs.Penalties.{rise_above, above_none, is_above}
use Rattle.asp.proofs.Literals.{holds_complement}
use Rattle.asp.proofs.Stability.{stable_only, stable_yes, yes_stable}
use Rattle.search.proofs.Unbroken.{stable_unbroken}
use Rattle.cores.specs.Sums.{Holds}
use Rattle.cores.specs.Soft.{Kind, entry, derived, kind_at, violated, judged}
use Rattle.cores.specs.Level.{assumed_from}
use Rattle.cores.specs.Judging.{violated_at}
use Rattle.cores.specs.Tables.{SoundTables, no_soft, kind_of, level_of, level_judging}
use Rattle.cores.specs.declared.soft.Soft.{Soft}
use Rattle.cores.specs.declared.level.LevelTables.{LevelTables}
use Rattle.cores.proofs.Links.{rests_count}
use Rattle.cores.proofs.Strata.{assumed_length, assumed_distinct, assumed_heavy, every_assumed}
use Rattle.cores.proofs.Lent.{judging_formed, judging_level}
use Rattle.advancing.specs.Source.{Levels, Source, many, level_at, start_at, penalties_at, penalties_in, rules_in, FormedSource}
use Rattle.advancing.specs.Turn.{query_of, assumed_in, entry_places, wished_in, settled_from, in_class}
use Rattle.advancing.specs.State.{first_work}
use Rattle.advancing.specs.Advance.{work_query}
use Rattle.advancing.specs.Ready.{ReadyQuery}
use Rattle.advancing.specs.Facts.{Model}
use Rattle.advancing.specs.Meaning.{past_at, settled_at}
use Rattle.optimum.proofs.Floor.{Costs, Base}
use Rattle.optimum.proofs.Invariant.{Given}
use Rattle.advancing.proofs.Figures.{Figured, start_at_lem, cost_above}
use Rattle.advancing.proofs.Stepping.{all_at}
use Rattle.advancing.proofs.Verdicts.{Answers}

pub keep_length : {A : Type 0} (f : A → Bool) (xs : List A) → length (keep f xs) ≤ length xs
unfolding keep
keep_length f [] = omega arith
keep_length {A} f (x ∷ xs) = go (f x) (keep_length f xs)
  where
    go : (b : Bool) → length (keep f xs) ≤ length xs → length (cond b (x ∷ keep f xs) (keep f xs)) ≤ suc (length xs)
    go true h = omega arith
    go false h = omega arith

abbrev pub given : Source → Given
given S = record { n = S.n; Model = Model S; levels = penalties_in S.levels }

-- ---- the settled costs

settled_all : (f : ℕ → ℤ) (lowers : List ℤ) (i k : ℕ) → settled_from f lowers i k ≡ true → (l : ℕ) → i ≤ l → l < i + k → f l ≡ get_or lowers l (pos 0)
unfolding settled_from
settled_all f lowers i zero e l h g = absurd (omega arith)
settled_all f lowers i (suc k) e l h g = go (same_ℤ (f i) (get_or lowers i (pos 0))) refl e (λ c. settled_all f lowers (i + 1) k c l)
  where
    go : (b : Bool) → same_ℤ (f i) (get_or lowers i (pos 0)) ≡ b → (b && settled_from f lowers (i + 1) k) ≡ true → (settled_from f lowers (i + 1) k ≡ true → i + 1 ≤ l → l < i + 1 + k → f l ≡ get_or lowers l (pos 0))
        → f l ≡ get_or lowers l (pos 0)
    go true q c r = by (ℕ_discrete i l)
      where
        by : Dec (i ≡ l) → f l ≡ get_or lowers l (pos 0)
        by (yes z) = subst (λ (x : ℕ). f x ≡ get_or lowers x (pos 0)) z (same_true (f i) (get_or lowers i (pos 0)) q)
        by (no z) = r c (omega arith) (omega arith)
    go false q c r = absurd (true≢false (sym c))

all_settled : (f : ℕ → ℤ) (lowers : List ℤ) (i k : ℕ) → ((l : ℕ) → i ≤ l → l < i + k → f l ≡ get_or lowers l (pos 0)) → settled_from f lowers i k ≡ true
unfolding settled_from
all_settled f lowers i zero h = refl
all_settled f lowers i (suc k) h =
    rw (ap (λ (z : ℤ). same_ℤ z (get_or lowers i (pos 0))) (h i (omega arith) (omega arith)) ∙ same_refl (get_or lowers i (pos 0))) (all_settled f lowers (i + 1) k (λ l a b. h l (omega arith) (omega arith)))

module _ (S : Source) (f : FormedSource S) (lowers : List ℤ) (M : Set) where
  abbrev levels : Levels
  levels = S.levels

  -- the settled costs, as what is charged
  pub costs_at_lem : (j : ℕ) → ((l : ℕ) → l < j → cost M (level_at levels l) ≡ get_or lowers l (pos 0)) → Costs (past_at levels j) (settled_at levels lowers j) M
  costs_at_lem zero h = tt
  costs_at_lem (suc j) h =
      (sym (rise_above (start_at levels j) (charge M (penalties_at levels j))) ∙ ap (rise (start_at levels j)) (sym (cost_above S f M j) ∙ h j (omega arith)), costs_at_lem j (λ l k. h l (omega arith)))

  pub at_costs : Figured levels lowers → (j : ℕ) → j ≤ many levels → Costs (past_at levels j) (settled_at levels lowers j) M → (l : ℕ) → l < j → cost M (level_at levels l) ≡ get_or lowers l (pos 0)
  at_costs g zero k c l h = absurd (omega arith)
  at_costs g (suc j) k c l h = by (ℕ_discrete l j) (at_costs g j (omega arith) c.1 l)
    where
      by : Dec (l ≡ j) → (l < j → cost M (level_at levels l) ≡ get_or lowers l (pos 0)) → cost M (level_at levels l) ≡ get_or lowers l (pos 0)
      by (yes z) r = rw z (cost_above S f M j ∙ ap (above (start_at levels j)) c.0 ∙ sym (g j (omega arith)))
      by (no z) r = r (omega arith)

-- ---- the class of a query: "stable models with the settled costs"

is_true : (b : Bool) → b ≡ true → T b
is_true b e = rw e tt

true_is : (b : Bool) → T b → b ≡ true
true_is true t = refl
true_is false t = absurd t

both : (a b : Bool) → (a && b) ≡ true → (a ≡ true) × (b ≡ true)
both true b e = (refl, e)
both false b e = absurd (true≢false (sym e))

module _ (S : Source) (f : FormedSource S) (level : ℕ) (lowers : List ℤ) where
  abbrev Class : Set → Type 0
  Class = Base (Model S) (past_at S.levels level) (settled_at S.levels lowers level)

  pub class_yes : (M : Set) → Only S.n M → in_class S level lowers M ≡ true → Class M
  class_yes M o e =
      let z = both (is_stable S.n (rules_in S) M) (settled_from (λ j. cost M (level_at S.levels j)) lowers 0 level) e in (
        stable_yes S.n (rules_in S) f.rules.atoms M o (is_true _ z.0),
        costs_at_lem S f lowers M level (λ l h. settled_all (λ j. cost M (level_at S.levels j)) lowers 0 level z.1 l zero-le (omega arith)),
      )

  pub class_no : Figured S.levels lowers → level ≤ many S.levels → (M : Set) → Class M → in_class S level lowers M ≡ true
  class_no g k M c =
      rw (true_is (is_stable S.n (rules_in S) M) (yes_stable S.n (rules_in S) f.rules.atoms M c.0))
      (all_settled (λ j. cost M (level_at S.levels j)) lowers 0 level (λ l a h. at_costs S f lowers M g level k c.1 l (omega arith)))

pub model_only : (S : Source) → FormedSource S → (M : Set) → Model S M → Only S.n M
model_only S f M m = stable_only S.n (rules_in S) f.rules.atoms M m

-- ---- the soft literals of entries wish for literals of atoms 1 to n

abbrev pub KindIn : ℕ → Kind → Type 0
KindIn n (entry l) = LiteralIn n l
KindIn n (derived j i) = Unit {0}

kind_at_lem : (n : ℕ) (ks : List Kind) → All (KindIn n) ks → (p : ℕ) → p < length ks → KindIn n (kind_at ks p)
kind_at_lem n [] a p h = absurd (omega arith)
kind_at_lem n (k ∷ ks) a zero h = a.0
kind_at_lem n (k ∷ ks) a (suc p) h = kind_at_lem n ks a.1 p (omega arith)

entry_violated : (M : Set) (ks : List Kind) (cs : List (List ℕ)) (p : ℕ) (l : ℤ) → kind_at ks p ≡ entry l → violated M ks cs p ≡ holds M l
unfolding violated
entry_violated M ks cs p l e = go (length cs)
  where
    go : (n : ℕ) → judged M ks cs n p ≡ holds M l
    go zero = rw e refl
    go (suc n) = rw e refl

keep_all : {A : Type 0} (P : A → Type 0) (f : A → Bool) (xs : List A) → All P xs → All (λ x. P x × (f x ≡ true)) (keep f xs)
unfolding keep
keep_all P f [] a = tt
keep_all P f (x ∷ xs) a = go (f x) refl (keep_all P f xs a.1)
  where
    go : (b : Bool) → f x ≡ b → All (λ x. P x × (f x ≡ true)) (keep f xs) → All (λ x. P x × (f x ≡ true)) (cond b (x ∷ keep f xs) (keep f xs))
    go true e r = ((a.0, e), r)
    go false e r = r

keep_out : (m : ℕ) (f : ℕ → Bool) (xs : List ℕ) → Out m xs → Out m (keep f xs)
unfolding keep
keep_out m f [] a = tt
keep_out m f (x ∷ xs) a = go (f x) (keep_out m f xs a.1)
  where
    go : (b : Bool) → Out m (keep f xs) → Out m (cond b (x ∷ keep f xs) (keep f xs))
    go true r = (a.0, r)
    go false r = r

keep_distinct : (f : ℕ → Bool) (xs : List ℕ) → Distinct xs → Distinct (keep f xs)
unfolding keep
keep_distinct f [] a = tt
keep_distinct f (x ∷ xs) a = go (f x) (keep_distinct f xs a.1)
  where
    go : (b : Bool) → Distinct (keep f xs) → Distinct (cond b (x ∷ keep f xs) (keep f xs))
    go true r = (keep_out x f xs a.0, r)
    go false r = r

out_at : (m : ℕ) (xs : List ℕ) → Out m xs → (i : ℕ) → i < length xs → m ≢ get_or xs i 0
out_at m [] a i h = absurd (omega arith)
out_at m (x ∷ xs) a zero h = a.0
out_at m (x ∷ xs) a (suc i) h = out_at m xs a.1 i (omega arith)

apart : (xs : List ℕ) → Distinct xs → (i j : ℕ) → i < length xs → j < length xs → get_or xs i 0 ≡ get_or xs j 0 → i ≡ j
apart [] d i j h g e = absurd (omega arith)
apart (x ∷ xs) d zero zero h g e = refl
apart (x ∷ xs) d zero (suc j) h g e = absurd (out_at x xs d.0 j (omega arith) e)
apart (x ∷ xs) d (suc i) zero h g e = absurd (out_at x xs d.0 i (omega arith) (sym e))
apart (x ∷ xs) d (suc i) (suc j) h g e = ap suc (apart xs d.1 i j (omega arith) (omega arith) e)

all_over : {A : Type 0} (P Q : A → Type 0) → ((x : A) → P x → Q x) → (xs : List A) → All P xs → All Q xs
all_over P Q f [] a = tt
all_over P Q f (x ∷ xs) a = (f x a.0, all_over P Q f xs a.1)

-- ---- the query of a level's tables

module _ (n : ℕ) (t : LevelTables) (s : ℕ) (ok : SoundTables t) (k : All (KindIn n) (level_of t).kinds) where
  abbrev softs_here : List Soft
  softs_here = take t.count t.softs

  pub entries_are : All (λ p. Holds s (level_of t).rests p × (eqb (get_or (level_judging t).cores p 0) 0 ≡ true)) (entry_places t s)
  entries_are = keep_all (Holds s (level_of t).rests) (λ p. eqb (get_or (level_judging t).cores p 0) 0) (assumed_in t s) (assumed_heavy s (level_of t).rests)

  entry_is : (i : ℕ) → i < length (entry_places t s) → Holds s (level_of t).rests (get_or (entry_places t s) i 0) × (eqb (get_or (level_judging t).cores (get_or (entry_places t s) i 0) 0) 0 ≡ true)
  entry_is i h = all_at (λ p. Holds s (level_of t).rests p × (eqb (get_or (level_judging t).cores p 0) 0 ≡ true)) (entry_places t s) entries_are i h

  pub wished_long : length (wished_in t s) ≡ length (entry_places t s)
  wished_long = length-map (entry_places t s) (λ (p : ℕ). neg_ℤ (get_or (level_judging t).literals p (pos 0)))

  kinds_long : length (level_of t).kinds ≡ length (level_of t).rests
  kinds_long = length-map softs_here kind_of ∙ sym (length-map softs_here (λ (r : Soft). r.weight))

  literals_long : length (level_judging t).literals ≡ length (level_of t).rests
  literals_long = length-map softs_here (λ (r : Soft). r.literal) ∙ sym (length-map softs_here (λ (r : Soft). r.weight))

  -- the soft literal of an entry, by its place
  pub kind_of_lem : (p : ℕ) → eqb (get_or (level_judging t).cores p 0) 0 ≡ true → kind_at (level_of t).kinds p ≡ entry (get_or (level_judging t).literals p (pos 0))
  kind_of_lem p e =
      let c : get_or (level_judging t).cores p 0 ≡ (get_or softs_here p no_soft).core = get_or-map (λ (r : Soft). r.core) softs_here p no_soft in
      let l : get_or (level_judging t).literals p (pos 0) ≡ (get_or softs_here p no_soft).literal = get_or-map (λ (r : Soft). r.literal) softs_here p no_soft in
      get_or-map kind_of softs_here p no_soft
      ∙ ap (λ (b : Bool). pick b (entry (get_or softs_here p no_soft).literal) (derived (get_or softs_here p no_soft).core (get_or softs_here p no_soft).index)) (ap (λ (x : ℕ). eqb x 0) (sym c) ∙ e)
      ∙ ap entry (sym l)

  literal_in : (i : ℕ) → i < length (entry_places t s) → LiteralIn n (get_or (level_judging t).literals (get_or (entry_places t s) i 0) (pos 0))
  literal_in i h =
      let z = entry_is i h in
      subst (KindIn n) (kind_of_lem (get_or (entry_places t s) i 0) z.1) (kind_at_lem n (level_of t).kinds k (get_or (entry_places t s) i 0) (rw kinds_long z.0.0))

  wish_is : (i : ℕ) → i < length (entry_places t s) → get_or (wished_in t s) i (pos 0) ≡ neg_ℤ (get_or (level_judging t).literals (get_or (entry_places t s) i 0) (pos 0))
  wish_is i h = map_at (λ (p : ℕ). neg_ℤ (get_or (level_judging t).literals p (pos 0))) (entry_places t s) i h
    where
      map_at : (f : ℕ → ℤ) (xs : List ℕ) (i : ℕ) → i < length xs → get_or (map f xs) i (pos 0) ≡ f (get_or xs i 0)
      map_at f [] i h = absurd (omega arith)
      map_at f (x ∷ xs) zero h = refl
      map_at f (x ∷ xs) (suc i) h = map_at f xs i (omega arith)

  pub wished_in_lem : (i : ℕ) → i < length (wished_in t s) → In n (nat_abs (get_or (wished_in t s) i (pos 0)))
  wished_in_lem i h = let g : i < length (entry_places t s) = omega (arith, wished_long) in rw (wish_is i g, abs_neg) (literal_in i g)

  -- what is wished holds where the soft literal is not violated
  pub wish_holds : (M : Set) (i : ℕ) → i < length (wished_in t s) → violated M (level_of t).kinds (level_of t).cores (get_or (entry_places t s) i 0) ≡ false → T (holds M (get_or (wished_in t s) i (pos 0)))
  wish_holds M i h e =
      let g : i < length (entry_places t s) = omega (arith, wished_long) in
      let l : ℤ = get_or (level_judging t).literals (get_or (entry_places t s) i 0) (pos 0) in
      let v : holds M l ≡ false = sym (entry_violated M (level_of t).kinds (level_of t).cores (get_or (entry_places t s) i 0) l (kind_of_lem (get_or (entry_places t s) i 0) (entry_is i g).1)) ∙ e in
      is_true _ (ap (holds M) (wish_is i g) ∙ holds_complement M l (literal_in i g).0 ∙ ap not v)

  entry_heavy : (i : ℕ) → i < length (wished_in t s) → Holds s (level_of t).rests (get_or (entry_places t s) i 0)
  entry_heavy i h = (entry_is i (omega (arith, wished_long))).0

  below : (m : ℕ) → Holds s (level_of t).rests m → m < length (level_judging t).literals
  below m h = rw literals_long h.0

-- THE QUERY OF A LEVEL CAN BE ASKED
module _ (S : Source) (f : FormedSource S) (level : ℕ) (lowers : List ℤ) (t : LevelTables) (s : ℕ) (h : level ≤ many S.levels) (l : length lowers ≡ 8) (ok : SoundTables t)
    (k : All (KindIn S.n) (level_of t).kinds) where
  pub level_ready : ReadyQuery S (query_of level lowers t s)
  unfolding query_of
  level_ready = record {
    source = f;
    level = h;
    lowers_len = l;
    wished_in_lem = wished_in_lem S.n t s ok k;
    wished_few = omega (arith, wished_long S.n t s ok k, keep_length (λ (p : ℕ). eqb (get_or (level_judging t).cores p 0) 0) (assumed_in t s), assumed_length s 0 (level_of t).rests, rests_count t ok.formed, ok.formed.softs_few);
    places_long = sym (wished_long S.n t s ok k);
    places_apart = apart (entry_places t s) (keep_distinct (λ p. eqb (get_or (level_judging t).cores p 0) 0) (assumed_in t s) (assumed_distinct s 0 (level_of t).rests));
    places_in = all_over (λ p. Holds s (level_of t).rests p × (eqb (get_or (level_judging t).cores p 0) 0 ≡ true)) (λ m. m < length (level_judging t).literals) (λ m z. below S.n t s ok k m z.0) (entry_places t s) (entries_are S.n t s ok k);
    assumed_in_lem = all_over (Holds s (level_of t).rests) (λ m. m < length (level_judging t).literals) (below S.n t s ok k) (assumed_in t s) (assumed_heavy s (level_of t).rests);
    judging = judging_formed t ok.formed ok.ordered;
    few = omega (arith, literals_long S.n t s ok k, rests_count t ok.formed, ok.formed.softs_few);
  }

  -- AND ANSWERS FOR ITS CLASS
  pub level_answers : Figured S.levels lowers → Answers S (query_of level lowers t s) (Base (Model S) (past_at S.levels level) (settled_at S.levels lowers level)) (Holds s (level_of t).rests)
      (λ M m. violated M (level_of t).kinds (level_of t).cores m ≡ false)
  unfolding query_of
  level_answers g = record {
    class_yes = class_yes S f level lowers;
    class_no = class_no S f level lowers g h;
    only = λ M c. model_only S f M c.0;
    unbroken = λ M c. stable_unbroken (rules_in S) M c.0;
    entries = entry_heavy S.n t s ok k;
    wishes = wish_holds S.n t s ok k;
    each = assumed_heavy s (level_of t).rests;
    every = λ M a m h. sym (judging_level t ok.formed M m) ∙ every_assumed s (λ p. violated_at (level_judging t) M p ≡ false) (level_of t).rests a m h;
    unmet = λ M m h v w. true≢false (sym v ∙ judging_level t ok.formed M m ∙ w);
  }

-- THE FIRST QUERY
module _ (S : Source) (f : FormedSource S) where
  pub first_answers : Answers S (work_query (first_work S.levels)) (Model S) (λ m. ⊥) (λ M m. Unit {0})
  unfolding query_of assumed_from keep
  first_answers = record {
    class_yes = λ M o e. (class_yes S f 0 (first_work S.levels).lowers M o e).0;
    class_no = λ M c. class_no S f 0 (first_work S.levels).lowers (λ j h. is_above (start_at S.levels j) 0 (start_at_lem S.levels j h ∙ sym (above_none (start_at S.levels j)))) zero-le M (c, tt);
    only = model_only S f;
    unbroken = λ M c. stable_unbroken (rules_in S) M c;
    entries = λ i h. absurd (omega arith);
    wishes = λ M i h. absurd (omega arith);
    each = tt;
    every = λ M a m h. tt;
    unmet = λ M m h. absurd h;
  }
