-- Steps of a query at once are advances, one by one. Assumes nothing.
use mathlib.Core.Path.{◌≡◌, refl, sym, ap, ap₂, ◌∙◌, subst}
use mathlib.Core.Bool.{Bool, true, false}
use mathlib.Core.Logic.{◌⊎◌, inl, inr}
use Prim.Native.Nat.{ℕ, zero, suc, ◌+◌, ◌-◌, ◌≤◌, ◌<◌}
use native.Mathlib.Omega.{arith}
use borrow.Author.Tests.{lt-ltb, le-ltb}
use Rattle.asp.specs.Sets.{pick}
use Rattle.search.specs.declared.trail.Places.{Places}
use Rattle.cores.proofs.Sums.{below_or}
use Rattle.advancing.specs.declared.state.Blame.{Blame}
use Rattle.advancing.specs.declared.state.Search.{Search}
use Rattle.advancing.specs.declared.state.Turn.{Turn}
use Rattle.advancing.specs.declared.state.Turn.TheVariants.{Going, Without, Model}
use Rattle.advancing.specs.Source.{Source}
use Rattle.advancing.specs.Turn.{QueryTables, Turned, turned, Turns, turns, one_more, go_on, turn_of, turns_of, is_going}
use Rattle.advancing.specs.State.{search, is_running}
use Rattle.advancing.specs.Advance.{finish_turn, work_query, bumped, advance_of, advances_of, made_by}
use Rattle.advancing.specs.Run.{bumped_by, AfterRun, after_run, steps_of, query_run, ReadyRun, Steady, run_of}

-- ---- the figure, as the code counts it

pub counted_over : (k c : ℕ) → k ≤ 18446744073709551615 → 18446744073709551615 - k < c → 18446744073709551615 ≡ bumped_by k c
counted_over k c l h = let x : 18446744073709551615 < c + k = omega arith in rw (lt-ltb _ _ x) refl

pub counted_under : (k c : ℕ) → k ≤ 18446744073709551615 → c ≤ 18446744073709551615 - k → c + k ≡ bumped_by k c
counted_under k c l h = let x : c + k ≤ 18446744073709551615 = omega arith in rw (le-ltb _ _ x) refl

-- ---- the figure

abbrev top : ℕ
top = 18446744073709551615

bumped_top : (k c : ℕ) → top < c + k → bumped_by k c ≡ top
bumped_top k c h = rw (lt-ltb _ _ h) refl

bumped_in : (k c : ℕ) → c + k ≤ top → bumped_by k c ≡ c + k
bumped_in k c h = rw (le-ltb _ _ h) refl

pub bumped_le : (c : ℕ) → c ≤ top → bumped c ≤ top
bumped_le c h = go (below_or c top)
  where
    go : (c < top) ⊎ (top ≤ c) → bumped c ≤ top
    go (inl l) = rw (lt-ltb _ _ l) (omega arith)
    go (inr l) = rw (le-ltb _ _ l) h

pub bumped_none : (c : ℕ) → c ≤ top → bumped_by 0 c ≡ c
bumped_none c h = let y : c + 0 ≡ c = omega arith in bumped_in 0 c (omega arith) ∙ y

pub bumped_more : (k c : ℕ) → c ≤ top → bumped_by (suc k) c ≡ bumped_by k (bumped c)
bumped_more k c h = go (below_or c top)
  where
    inner : c < top → (top < c + 1 + k) ⊎ (c + 1 + k ≤ top) → bumped_by (suc k) c ≡ bumped_by k (c + 1)
    inner l (inl x) = bumped_top (suc k) c (omega arith) ∙ sym (bumped_top k (c + 1) x)
    inner l (inr x) = let y : c + suc k ≡ c + 1 + k = omega arith in bumped_in (suc k) c (omega arith) ∙ y ∙ sym (bumped_in k (c + 1) x)

    last : top ≤ c → (top < c + k) ⊎ (c + k ≤ top) → bumped_by (suc k) c ≡ bumped_by k c
    last l (inl x) = bumped_top (suc k) c (omega arith) ∙ sym (bumped_top k c x)
    last l (inr x) = let y : top ≡ c + k = omega arith in bumped_top (suc k) c (omega arith) ∙ y ∙ sym (bumped_in k c x)

    go : (c < top) ⊎ (top ≤ c) → bumped_by (suc k) c ≡ bumped_by k (bumped c)
    go (inl l) = rw (lt-ltb _ _ l) (inner l (below_or top (c + 1 + k)))
    go (inr l) = rw (le-ltb _ _ l) (last l (below_or top (c + k)))

-- ---- steps

-- one step, in the form of steps
going_on : (x : Turned) → go_on x (turns (turned Going x.trail x.blame) 0) ≡ turns x 0
going_on x = go x.turn
  where
    go : (y : Turn) → go_on (turned y x.trail x.blame) (turns (turned Going x.trail x.blame) 0) ≡ turns (turned y x.trail x.blame) 0
    go Going = refl
    go Without = refl
    go Model = refl

pub made_le : (S : Source) (q : QueryTables) (k : ℕ) (t : Places) (b : Blame) → (turns_of S q k t b).made ≤ k
unfolding turns_of
made_le S q zero t b = omega arith
made_le S q (suc k) t b = go (is_going (turn_of S q t b).turn) (made_le S q k (turn_of S q t b).trail (turn_of S q t b).blame)
  where
    go : (x : Bool) → (turns_of S q k (turn_of S q t b).trail (turn_of S q t b).blame).made ≤ k
        → suc (pick x (turns_of S q k (turn_of S q t b).trail (turn_of S q t b).blame) (turns (turn_of S q t b) 0)).made ≤ suc k
    go true h = omega arith
    go false h = omega arith

pub made_some : (S : Source) (q : QueryTables) (k : ℕ) (t : Places) (b : Blame) → 1 ≤ k → 1 ≤ (turns_of S q k t b).made
unfolding turns_of
made_some S q zero t b h = absurd (omega arith)
made_some S q (suc k) t b h = omega arith

-- the state after an advance while the query goes on
pub going_advance : (S : Source) (s : Search) → is_running s.phase ≡ true → {x : Turned} → x ≡ turn_of S (work_query s.work) s.trail s.blame → is_going x.turn ≡ true
    → advance_of S s ≡ search s.phase (bumped s.advances) x.trail x.blame s.work
unfolding advance_of
going_advance S s p {x} e g = rw (p, ← e, g) refl

pub ending_advance : (S : Source) (s : Search) → is_running s.phase ≡ true → {x : Turned} → x ≡ turn_of S (work_query s.work) s.trail s.blame
    → advance_of S s ≡ finish_turn S s.phase (bumped s.advances) s.work x
unfolding advance_of
ending_advance S s p {x} e = rw (p, ← e) refl

-- ---- STEPS OF A QUERY ARE ADVANCES

-- the state while the query goes on after a step that came to x
abbrev onward : Search → Turned → Search
onward s x = search s.phase (bumped s.advances) x.trail x.blame s.work

-- the state after r
abbrev reached : Source → Search → ℕ → Turns → Search
reached S s c r = finish_turn S s.phase (bumped_by r.made c) s.work r.turned

more : (S : Source) (k : ℕ) (s : Search) → is_running s.phase ≡ true → s.advances ≤ top → (x : Turned) → x ≡ turn_of S (work_query s.work) s.trail s.blame
    → (query_run S k (onward s x)).search ≡ advances_of S (query_run S k (onward s x)).made (onward s x) → (g : Bool) → is_going x.turn ≡ g
    → reached S s s.advances (one_more (pick g (steps_of S k (onward s x)) (turns x 0))) ≡ advances_of S (one_more (pick g (steps_of S k (onward s x)) (turns x 0))).made s
unfolding advances_of
more S k s p h x e ih true g =
    ap (λ (c : ℕ). finish_turn S s.phase c s.work (steps_of S k (onward s x)).turned) (bumped_more (steps_of S k (onward s x)).made s.advances h)
    ∙ ih ∙ ap (advances_of S (steps_of S k (onward s x)).made) (sym (going_advance S s p e g))
more S k s p h x e ih false g =
    ap (λ (c : ℕ). finish_turn S s.phase c s.work x) (bumped_more 0 s.advances h ∙ bumped_none (bumped s.advances) (bumped_le s.advances h))
    ∙ sym (ending_advance S s p e)

pub steps_advance : (S : Source) (k : ℕ) (s : Search) → is_running s.phase ≡ true → s.advances ≤ top → (query_run S k s).search ≡ advances_of S (query_run S k s).made s
unfolding turns_of advances_of
steps_advance S zero s p h = ap (λ (c : ℕ). search s.phase c s.trail s.blame s.work) (bumped_none s.advances h)
steps_advance S (suc k) s p h =
    more S k s p h (turn_of S (work_query s.work) s.trail s.blame) refl
    (steps_advance S k (onward s (turn_of S (work_query s.work) s.trail s.blame)) p (bumped_le s.advances h)) _ refl

-- advances one after the other
pub advances_plus : (S : Source) (j k : ℕ) (s : Search) → advances_of S (j + k) s ≡ advances_of S k (advances_of S j s)
unfolding advances_of
advances_plus S zero k s = let y : 0 + k ≡ k = omega arith in ap (λ (n : ℕ). advances_of S n s) y
advances_plus S (suc j) k s = let y : suc j + k ≡ suc (j + k) = omega arith in ap (λ (n : ℕ). advances_of S n s) y ∙ advances_plus S j k (advance_of S s)

-- at rest nothing is made, and nothing changes
pub rest_advance : (S : Source) (s : Search) → is_running s.phase ≡ false → advance_of S s ≡ s
unfolding advance_of
rest_advance S s p = rw p refl

pub rest_advances : (S : Source) (k : ℕ) (s : Search) → is_running s.phase ≡ false → advances_of S k s ≡ s
unfolding advances_of
rest_advances S zero s p = refl
rest_advances S (suc k) s p = ap (advances_of S k) (rest_advance S s p) ∙ rest_advances S k s p

pub rest_made : (S : Source) (k : ℕ) (s : Search) → is_running s.phase ≡ false → made_by S k s ≡ 0
unfolding made_by
rest_made S zero s p = refl
rest_made S (suc k) s p = rw p refl

-- how many a run makes: those of the query, and those after it
counted_more : (S : Source) (k : ℕ) (s : Search) → is_running s.phase ≡ true → s.advances ≤ top → (x : Turned) → x ≡ turn_of S (work_query s.work) s.trail s.blame
    → made_by S k (onward s x) ≡ (steps_of S k (onward s x)).made + made_by S (k - (steps_of S k (onward s x)).made) (advances_of S (steps_of S k (onward s x)).made (onward s x))
    → (g : Bool) → is_going x.turn ≡ g
    → suc (made_by S k (advance_of S s)) ≡ suc (pick g (steps_of S k (onward s x)) (turns x 0)).made + made_by S (suc k - suc (pick g (steps_of S k (onward s x)) (turns x 0)).made) (advances_of S (pick g (steps_of S k (onward s x)) (turns x 0)).made (advance_of S s))
unfolding advances_of
counted_more S k s p h x e ih true g =
    let a = going_advance S s p e g in
    let m = (steps_of S k (onward s x)).made in
    let y : suc k - suc m ≡ k - m = omega arith in
    ap (λ (z : Search). suc (made_by S k z)) a ∙ ap suc ih ∙ ap (λ (n : ℕ). suc (m + made_by S n (advances_of S m (onward s x)))) (sym y)
    ∙ ap (λ (z : Search). suc (m + made_by S (suc k - suc m) (advances_of S m z))) (sym a) ∙ omega arith
counted_more S k s p h x e ih false g = let y : suc k - 1 ≡ k = omega arith in ap (λ (n : ℕ). suc (made_by S n (advance_of S s))) (sym y) ∙ omega arith

pub steps_made : (S : Source) (k : ℕ) (s : Search) → is_running s.phase ≡ true → s.advances ≤ top
    → made_by S k s ≡ (steps_of S k s).made + made_by S (k - (steps_of S k s).made) (advances_of S (steps_of S k s).made s)
unfolding turns_of advances_of made_by
steps_made S zero s p h = refl
steps_made S (suc k) s p h =
    ap (λ (b : Bool). pick b (suc (made_by S k (advance_of S s))) 0) p
    ∙ counted_more S k s p h (turn_of S (work_query s.work) s.trail s.blame) refl
    (steps_made S k (onward s (turn_of S (work_query s.work) s.trail s.blame)) p (bumped_le s.advances h)) _ refl

none_made : (S : Source) (s : Search) (n : ℕ) → n + made_by S 0 s ≡ n
unfolding made_by
none_made S s n = omega arith

-- ---- the loop of a run: made so far, at the state s
pub record Running (S : Source) (budget : ℕ) (start : Search) (s : Search) (made : ℕ) : Type 0 where
  pub at : s ≡ advances_of S made start
  pub below : made ≤ budget
  pub rest : made_by S budget start ≡ made + made_by S (budget - made) s

pub running_start : (S : Source) (budget : ℕ) (start : Search) → Running S budget start start 0
unfolding advances_of
running_start S budget start = record { at = refl; below = omega arith; rest = let y : budget - 0 ≡ budget = omega arith in rw y (omega arith) }

module _ {S : Source} {budget : ℕ} {start s : Search} {made : ℕ} (i : Running S budget start s made) where
  -- the state can be advanced from
  pub running_ready : Steady S start → (k : ℕ) → ReadyRun S k s
  running_ready a k = subst (ReadyRun S k) (sym i.at) (a made k)

  pub running_end : budget ≤ made → after_run s made ≡ run_of S budget start
  running_end h =
      let e : made ≡ budget = omega (arith, i.below, h) in
      let z : budget - made ≡ 0 = omega arith in
      ap₂ after_run (i.at ∙ ap (λ (n : ℕ). advances_of S n start) e) (sym (i.rest ∙ ap (λ (n : ℕ). made + made_by S n s) z ∙ none_made S s made))

  pub running_rest : {b : Bool} → b ≡ is_running s.phase → b ≡ false → after_run s made ≡ run_of S budget start
  running_rest f g =
      let p : is_running s.phase ≡ false = sym f ∙ g in
      let y : made + (budget - made) ≡ budget = omega (arith, i.below) in
      ap₂ after_run
      (sym (rest_advances S (budget - made) s p) ∙ ap (advances_of S (budget - made)) i.at ∙ sym (advances_plus S made (budget - made) start) ∙ ap (λ (n : ℕ). advances_of S n start) y)
      (let z : made_by S (budget - made) s ≡ 0 = rest_made S (budget - made) s p in omega (arith, i.rest, z))

  module _ (h : made < budget) {b : Bool} (f : b ≡ is_running s.phase) (g : b ≡ true) (c : s.advances ≤ 18446744073709551615) {k : ℕ} (l : k ≡ budget - made) {u : Search} {m : ℕ} (e : after_run u m ≡ query_run S k s) where
    running : is_running s.phase ≡ true
    running = sym f ∙ g

    many_made : m ≡ (steps_of S k s).made
    many_made = ap (λ (x : AfterRun). x.made) e

    pub made_more : (made < made + m) × (made + m ≤ budget)
    made_more =
        let a = made_some S (work_query s.work) k s.trail s.blame (omega arith) in
        let d = made_le S (work_query s.work) k s.trail s.blame in
        (omega (arith, a, many_made), omega (arith, d, many_made))

    pub running_next : Running S budget start u (made + m)
    running_next = record {
      at = there ∙ ap (advances_of S m) i.at ∙ sym (advances_plus S made m start);
      below = made_more.1;
      rest = i.rest ∙ ap (λ (n : ℕ). made + made_by S n s) (sym l) ∙ ap (λ (n : ℕ). made + n) (steps_made S k s running c) ∙ ap (λ (n : ℕ). made + (n + made_by S (k - n) (advances_of S n s))) (sym many_made) ∙ last;
    }
      where
        there : u ≡ advances_of S m s
        there = ap (λ (x : AfterRun). x.search) e ∙ steps_advance S k s running c ∙ ap (λ (n : ℕ). advances_of S n s) (sym many_made)

        last : made + (m + made_by S (k - m) (advances_of S m s)) ≡ made + m + made_by S (budget - (made + m)) u
        last =
            let y : k - m ≡ budget - (made + m) = omega arith in
            ap (λ (n : ℕ). made + (m + made_by S n (advances_of S m s))) y ∙ ap (λ (x : Search). made + (m + made_by S (budget - (made + m)) x)) (sym there) ∙ omega arith

-- a run of one is one advance
pub one_advance : (S : Source) (s : Search) {u : Search} {m : ℕ} → after_run u m ≡ run_of S 1 s → u ≡ advance_of S s
unfolding advances_of
one_advance S s e = ap (λ (x : AfterRun). x.search) e
