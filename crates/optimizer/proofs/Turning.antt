-- One step of a query as the code makes it, and steps in a loop. Assumes nothing.
use mathlib.Core.Path.{◌≡◌, refl, sym, ap, ap₂, ◌∙◌, subst}
use mathlib.Core.Bool.{Bool, true, false}
use mathlib.Core.List.{List}
use Prim.Native.Nat.{ℕ, suc, ◌+◌, ◌-◌, ◌≤◌, ◌<◌}
use native.Mathlib.Nat.{sub-zero}
use native.Mathlib.Omega.{arith}
use lib.Dec.{eqb}
use lib.IntN.{ℤ}
use lib.ListN.{length}
use Rattle.std.specs.Borrow.{Bor}
use Rattle.asp.specs.Sets.{Set, set_of, pick}
use Rattle.search.specs.declared.trail.Places.{Places}
use Rattle.search.specs.Places.{SoundTrail, back_of}
use Rattle.search.specs.Soft.{assumed_entries}
use Rattle.search.specs.Step.{test_of, Stepped, stepped, step_of, moved_by}
use Rattle.search.specs.declared.step.Tested.{Tested}
use Rattle.search.specs.declared.step.Tested.TheVariants.{RuleBroken, Full, SoftViolated, Open}
use Rattle.advancing.specs.declared.state.Blame.{Blame}
use Rattle.advancing.specs.declared.state.Turn.{Turn}
use Rattle.advancing.specs.declared.state.Turn.TheVariants.{Going, Without, Model}
use Rattle.advancing.specs.declared.state.Judgement.{Judgement}
use Rattle.advancing.specs.declared.state.Judgement.TheVariants.{Wanted, Dead, Violated}
use Rattle.advancing.specs.Source.{Source, rule_tables, Tries}
use Rattle.advancing.specs.Turn.{QueryTables, blamed_of, blame_entry, blame_place, judge_full, Turned, turned, backed, judged_turn, turn_by, assumed_by, turn_of, is_going, Turns, turns, one_more, go_on, turns_of}
use Rattle.advancing.specs.Ready.{ReadyQuery, GoodBlame, softs}
use Rattle.optimizer.specs.Turning.{backed_turn}
use Rattle.optimizer.specs.declared.query.Query.{Query}
use Rattle.optimizer.specs.Lent.{source_lent, query_lent}
use Rattle.advancing.proofs.Stepping.{first_is, soft_formed, violated_entry, violated_in_lem, entry_good, place_good}
use Rattle.search.proofs.Kept.{after_step}

-- ---- the code's answers

-- after a cut
pub backed_is : {r : Turn} {t : Places} {b : Blame} → r ≡ backed_turn t.len → turned r t b ≡ backed t b
backed_is {t = t} {b = b} e = rw e (go (eqb t.len 0))
  where
    go : (x : Bool) → turned (pick x Without Going) t b ≡ pick x (turned Without t b) (turned Going t b)
    go true = refl
    go false = refl

module _ (S : Source) (q : QueryTables) (t : Places) (b : Blame) where
  pub judged_wanted : {j : Judgement} → j ≡ judge_full S q (blamed_of b) t.value → j ≡ Wanted → turned Model t b ≡ judged_turn q t b (judge_full S q (blamed_of b) t.value)
  judged_wanted e k = rw (← e, k)

  pub judged_dead : {j : Judgement} → j ≡ judge_full S q (blamed_of b) t.value → j ≡ Dead → {x : Turned} → x ≡ backed (back_of t) b → x ≡ judged_turn q t b (judge_full S q (blamed_of b) t.value)
  judged_dead e k z = rw (← e, k) z

  pub judged_violated : {j : Judgement} {p : ℕ} → j ≡ judge_full S q (blamed_of b) t.value → j ≡ Violated p → {b₁ : Blame} → b₁ ≡ blame_place q.places p b → {x : Turned} → x ≡ backed (back_of t) b₁
      → x ≡ judged_turn q t b (judge_full S q (blamed_of b) t.value)
  judged_violated e k f z = rw (← e, k, ← f) z

  pub step_by : {tried : List ℕ} → Tries S tried → {x : Tested} {t₁ : Places}
      → stepped x t₁ ≡ step_of (rule_tables S) S.n (assumed_entries q.wished b.flags (length q.wished) (set_of tried)) t → stepped x t₁ ≡ step_of (rule_tables S) S.n (assumed_by S q b) t
  step_by h e = e ∙ ap (λ (f : Set). step_of (rule_tables S) S.n (assumed_entries q.wished b.flags (length q.wished) f) t) (first_is h)

  tested_is : {x : Tested} {t₁ : Places} → stepped x t₁ ≡ step_of (rule_tables S) S.n (assumed_by S q b) t → x ≡ test_of (rule_tables S) S.n (assumed_by S q b) t.value t.len
  tested_is e = ap (λ (s : Stepped). s.tested) e

  -- the trail after a step that finds y
  pub moved : {x : Tested} {t₁ : Places} → stepped x t₁ ≡ step_of (rule_tables S) S.n (assumed_by S q b) t → (y : Tested) → x ≡ y → t₁ ≡ moved_by y t
  moved e y z = ap (λ (s : Stepped). s.trail) e ∙ ap (λ (w : Tested). moved_by w t) (sym (tested_is e) ∙ z)

  -- a step is what the test's answer makes of it
  turn_is : {x : Tested} {t₁ : Places} → stepped x t₁ ≡ step_of (rule_tables S) S.n (assumed_by S q b) t → (y : Tested) → x ≡ y → turn_by S q t b y ≡ turn_of S q t b
  unfolding turn_of
  turn_is e y z = ap (turn_by S q t b) (sym z ∙ tested_is e)

  pub turn_broken : {x : Tested} {t₁ : Places} → stepped x t₁ ≡ step_of (rule_tables S) S.n (assumed_by S q b) t → {k : ℕ} → x ≡ RuleBroken k → {y : Turned} → y ≡ backed t₁ b → y ≡ turn_of S q t b
  turn_broken e {k} z f = f ∙ ap (λ (s : Places). backed s b) (moved e (RuleBroken k) z) ∙ turn_is e (RuleBroken k) z

  pub turn_violated : {x : Tested} {t₁ : Places} → stepped x t₁ ≡ step_of (rule_tables S) S.n (assumed_by S q b) t → {i : ℕ} → x ≡ SoftViolated i → {b₁ : Blame} → b₁ ≡ blame_entry q.places i b
      → {y : Turned} → y ≡ backed t₁ b₁ → y ≡ turn_of S q t b
  turn_violated e {i} z g f = f ∙ ap₂ backed (moved e (SoftViolated i) z) g ∙ turn_is e (SoftViolated i) z

  pub turn_open : {x : Tested} {t₁ : Places} → stepped x t₁ ≡ step_of (rule_tables S) S.n (assumed_by S q b) t → {l : ℤ} → x ≡ Open l → turned Going t₁ b ≡ turn_of S q t b
  turn_open e {l} z = ap (λ (s : Places). turned Going s b) (moved e (Open l) z) ∙ turn_is e (Open l) z

  pub turn_full : {x : Tested} {t₁ : Places} → stepped x t₁ ≡ step_of (rule_tables S) S.n (assumed_by S q b) t → x ≡ Full → {y : Turned} → y ≡ judged_turn q t₁ b (judge_full S q (blamed_of b) t₁.value) → y ≡ turn_of S q t b
  turn_full e z f = f ∙ ap (λ (s : Places). judged_turn q s b (judge_full S q (blamed_of b) s.value)) (moved e Full z) ∙ turn_is e Full z

-- ---- what a walk keeps

module _ {S : Source} {q : QueryTables} (r : ReadyQuery S q) {t : Places} {b : Blame} (g : GoodBlame q b) (d : SoundTrail S.n t) {x : Tested} {t₁ : Places} (e : stepped x t₁ ≡ step_of (rule_tables S) S.n (assumed_by S q b) t) where
  pub step_after : SoundTrail S.n t₁
  step_after = after_step S.pool S.rows S.rulecount S.n (assumed_by S q b) t r.source.rules (soft_formed r g) d e

  pub violated_place : {i : ℕ} → x ≡ SoftViolated i → i < length q.places
  violated_place z = violated_entry r g t d (sym (ap (λ (y : Stepped). y.tested) e) ∙ z)

  pub violated_good : {i : ℕ} → x ≡ SoftViolated i → {b₁ : Blame} → b₁ ≡ blame_entry q.places i b → GoodBlame q b₁
  violated_good {i} z f = subst (GoodBlame q) (sym f) (entry_good r g i (violated_place z))

module _ {S : Source} {q : QueryTables} (r : ReadyQuery S q) (t : Places) {b : Blame} (g : GoodBlame q b) {j : Judgement} (e : j ≡ judge_full S q (blamed_of b) t.value) where
  pub judged_place : {p : ℕ} → j ≡ Violated p → p < softs q
  judged_place z = violated_in_lem r g t.value (sym z ∙ e)

  pub judged_good : {p : ℕ} → j ≡ Violated p → {b₁ : Blame} → b₁ ≡ blame_place q.places p b → GoodBlame q b₁
  judged_good {p} z f = subst (GoodBlame q) (sym f) (place_good r g p (judged_place z))

-- a step of the same query
pub same_turn : {q r : Bor Query} → r ≡ q → (t : Places) (b : Blame) {x : Turned} → x ≡ turn_of (source_lent r.now.ground) (query_lent r.now) t b → x ≡ turn_of (source_lent q.now.ground) (query_lent q.now) t b
same_turn h t b e = e ∙ ap (λ (q : Bor Query). turn_of (source_lent q.now.ground) (query_lent q.now) t b) h

-- ---- steps in a loop

abbrev pub plus : ℕ → Turns → Turns
plus m r = turns r.turned (m + r.made)

pub record Turned-on (S : Source) (q : QueryTables) (budget : ℕ) (t₀ : Places) (b₀ : Blame) (t : Places) (b : Blame) (made : ℕ) : Type 0 where
  pub below : made ≤ budget
  pub rest : plus made (turns_of S q (budget - made) t b) ≡ turns_of S q budget t₀ b₀

plus_zero : (r : Turns) → plus 0 r ≡ r
plus_zero r = let e : 0 + r.made ≡ r.made = omega arith in rw e

pub turns_start : (S : Source) (q : QueryTables) (budget : ℕ) {t : Places} {b : Blame} → Turned-on S q budget t b t b 0
turns_start S q budget {t} {b} = record { below = omega arith; rest = rw sub-zero (plus_zero (turns_of S q budget t b)) }

module _ {S : Source} {q : QueryTables} {budget : ℕ} {t₀ : Places} {b₀ : Blame} {t : Places} {b : Blame} {made : ℕ} (k : Turned-on S q budget t₀ b₀ t b made) where
  more : made < budget → turns_of S q (budget - made) t b ≡ one_more (go_on (turn_of S q t b) (turns_of S q (budget - (made + 1)) (turn_of S q t b).trail (turn_of S q t b).blame))
  unfolding turns_of
  more h = let e : budget - made ≡ suc (budget - (made + 1)) = omega arith in rw e

  pub turns_next : made < budget → {x : Turn} {t₁ : Places} {b₁ : Blame} → turned x t₁ b₁ ≡ turn_of S q t b → {g : Bool} → g ≡ is_going x → g ≡ true → Turned-on S q budget t₀ b₀ t₁ b₁ (made + 1)
  turns_next h {x} {t₁} {b₁} e f p = record {
    below = omega arith;
    rest =
        let u : turns_of S q (budget - made) t b ≡ one_more (turns_of S q (budget - (made + 1)) t₁ b₁) = more h ∙ rw (← e, ← f, p) in
        shift (turns_of S q (budget - (made + 1)) t₁ b₁) ∙ ap (plus made) (sym u) ∙ k.rest;
  }
    where
      shift : (y : Turns) → turns y.turned (made + 1 + y.made) ≡ turns y.turned (made + suc y.made)
      shift y = let z : made + 1 + y.made ≡ made + suc y.made = omega arith in rw z

  pub turns_out : made < budget → {x : Turn} {t₁ : Places} {b₁ : Blame} → turned x t₁ b₁ ≡ turn_of S q t b → {g : Bool} → g ≡ is_going x → g ≡ false → {m : ℕ} → m ≡ made + 1
      → turns (turned x t₁ b₁) m ≡ turns_of S q budget t₀ b₀
  turns_out h {x} {t₁} {b₁} e f p n =
      let u : turns_of S q (budget - made) t b ≡ turns (turned x t₁ b₁) 1 = more h ∙ rw (← e, ← f, p) in
      ap (turns (turned x t₁ b₁)) n ∙ ap (plus made) (sym u) ∙ k.rest

  pub turns_done : budget ≤ made → turns (turned Going t b) budget ≡ turns_of S q budget t₀ b₀
  unfolding turns_of
  turns_done h =
      let e : budget - made ≡ 0 = omega arith in
      let z : made + 0 ≡ budget = omega (arith, k.below) in
      rw (e, z) at k.rest
