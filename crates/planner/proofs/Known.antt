-- What is known of the program that a service holds, by the ghost field of `Service`. The field's fact is truncated, so each fact that is drawn from it is one that has
-- one proof at most. Assumes nothing.
use Rattle.std.proofs.Common.{◌≡◌, ℕ, zero, suc, ◌+◌, ◌-◌, ◌≤◌, ◌<◌, Bool, true, false, ℤ, nat_abs, List, [], ◌∷◌, length, take, refl, sym, ap, ◌∙◌, subst, arith, ◌⊎◌, inl, inr}
use Rattle.std.proofs.Math.Logic.{∥∥₁_elim, ∥∥₁_prop}
use Rattle.std.proofs.Props.{props}
use Rattle.std.specs.Coded.{×_prop, Unit-prop, le_prop}
use mathlib.Core.HLevel.{Σ_prop_path}
use Rattle.asp.specs.declared.entries.Entry.{Entry}
use Rattle.asp.specs.Program.{Head, constraint, plain, choice, Body, normal, weighted, Rule, Symbol, Program, All, LiteralIn, HeadIn, BodyIn, RuleIn, ProgramIn}
use Rattle.asp.specs.Sets.{In}
use Rattle.asp.specs.Tables.{symbol_row}
use Rattle.asp.specs.declared.symbols.SymbolRow.{SymbolRow}
use Rattle.asp.specs.Paying.{SymbolFormed}
use Rattle.aspif.specs.Store.{WellFormed, BodyWeighs}
use Rattle.aspif_tables.specs.declared.table.Stored.{Stored}
use Rattle.aspif_tables.specs.Lists.{Below, Descending}
use Rattle.cores.proofs.Sums.{below_or}
use Rattle.advancing.specs.declared.state.Search.{Search}
use Rattle.advancing.specs.Source.{Source, FormedSource}
use Rattle.advancing.specs.State.{is_running, fresh_for}
use Rattle.advancing.specs.Advance.{advance_of, advances_of, made_by}
use Rattle.std.specs.Prelude.{Option}
use Rattle.advancing.specs.Facts.{Facts, has_model, is_in_work}
use Rattle.advancing.specs.Run.{Reached}
use Rattle.advancing.proofs.Advancing.{advances_plus, rest_advances}
use Rattle.advancing.proofs.Reached.{reached_facts}
use Rattle.planner.specs.declared.service.Loaded.{Loaded}
use Rattle.planner.specs.declared.service.Status.{Status}
use Rattle.planner.specs.Held.{source_of, PreparedFor, status_of}
use Rattle.planner.specs.Sound.{Sound}
use Rattle.planner.specs.Calls.{Seen, seen, seen_in, given, level_seen, stratum_seen}
use Rattle.planner.proofs.Moving.{seen_is}
use Rattle.planner.proofs.Link.{formed_source, levels_many, name_inside, symbol_formed}
use Rattle.planner.proofs.Counting.{once}

-- ---- facts about tables

all_prop : {A : Type 0} {P : A → Type 0} → ((x : A) → IsProp (P x)) → (xs : List A) → IsProp (All P xs)
all_prop f [] = Unit-prop
all_prop f (x ∷ xs) = ×_prop (f x) (all_prop f xs)

in_prop : (n a : ℕ) → IsProp (In n a)
in_prop n a = ×_prop le_prop le_prop

head_prop : (n : ℕ) (h : Head) → IsProp (HeadIn n h)
head_prop n constraint = Unit-prop
head_prop n (plain a) = in_prop n a
head_prop n (choice as') = all_prop (in_prop n) as'

body_prop : (n : ℕ) (b : Body) → IsProp (BodyIn n b)
body_prop n (normal ls) = all_prop (λ l. in_prop n _) ls
body_prop n (weighted b ps) = all_prop (λ p. in_prop n _) ps

rule_prop : (n : ℕ) (r : Rule) → IsProp (RuleIn n r)
rule_prop n r = ×_prop (head_prop n r.head) (body_prop n r.body)

rules_prop : (n : ℕ) (rs : List Rule) → IsProp (All (RuleIn n) rs)
rules_prop n rs = all_prop (rule_prop n) rs

entries_prop : (P : Entry → Type 0) → ((e : Entry) → IsProp (P e)) → (es : List Entry) → IsProp (All P es)
entries_prop P f es = all_prop f es

formed_prop : (S : Source) → IsProp (FormedSource S)
formed_prop S = Prim.hlevel (rules_prop, entries_prop, props)

literals_prop : (n : ℕ) (ls : List ℤ) → IsProp (All (λ (l : ℤ). In n (nat_abs l)) ls)
literals_prop n ls = all_prop (λ l. in_prop n (nat_abs l)) ls

symbol_prop : (conditions : List ℤ) (row : SymbolRow) → IsProp (SymbolFormed conditions row)
symbol_prop conditions row = Prim.hlevel (literals_prop, props)

symbols_prop : (n : ℕ) (ys : List Symbol) → IsProp (All (λ (y : Symbol). All (LiteralIn n) y.condition) ys)
symbols_prop n ys = all_prop (λ y. literals_prop n y.condition) ys

program_prop : (n : ℕ) (P : Program) → IsProp (ProgramIn n P)
program_prop n P = Prim.hlevel (rules_prop, entries_prop, symbols_prop, props)

weighs_prop : (b : Body) → IsProp (BodyWeighs b)
weighs_prop (normal ls) = Unit-prop
weighs_prop (weighted b ps) = ×_prop le_prop (all_prop (λ p. le_prop) ps)

bodies_prop : (rs : List Rule) → IsProp (All (λ (r : Rule). BodyWeighs r.body) rs)
bodies_prop rs = all_prop (λ r. weighs_prop r.body) rs

below_prop : (q : ℤ) (qs : List ℤ) → IsProp (Below q qs)
below_prop q [] = Unit-prop
below_prop q (r ∷ rs) = Prim.hlevel props

descending_prop : (qs : List ℤ) → IsProp (Descending qs)
descending_prop [] = Unit-prop
descending_prop (q ∷ qs) = ×_prop (below_prop q qs) (descending_prop qs)

well_formed_prop : (p : Stored) → IsProp (WellFormed p)
well_formed_prop p = Prim.hlevel (rules_prop, entries_prop, program_prop, bodies_prop, descending_prop, props)

prepared_prop : (l : Loaded) → IsProp (PreparedFor l.stored l.prepared)
prepared_prop l = Prim.hlevel props

-- ---- how many advances led to a state: those that were made while running

module _ (S : Source) where
  abbrev first : Search
  first = fresh_for S.levels

  -- m advances led to s, each made while running
  abbrev Steps : Search → Type 0
  Steps s = (m : ℕ) × ((s ≡ advances_of S m first) × ((j : ℕ) → j < m → is_running (advances_of S j first).phase ≡ true))

  -- those after the end do nothing
  made_leads : (k : ℕ) (s : Search) → advances_of S k s ≡ advances_of S (made_by S k s) s
  unfolding advances_of made_by
  made_leads zero s = refl
  made_leads (suc k) s = go (is_running s.phase) refl (made_leads k (advance_of S s))
    where
      go : (b : Bool) → is_running s.phase ≡ b → advances_of S k (advance_of S s) ≡ advances_of S (made_by S k (advance_of S s)) (advance_of S s) → advances_of S (suc k) s ≡ advances_of S (made_by S (suc k) s) s
      go true e ih = ih ∙ ap (λ (n : ℕ). advances_of S n s) (sym (once S k s true e))
      go false e ih = rest_advances S (suc k) s e ∙ ap (λ (n : ℕ). advances_of S n s) (sym (once S k s false e))

  made_running : (k : ℕ) (s : Search) (j : ℕ) → j < made_by S k s → is_running (advances_of S j s).phase ≡ true
  unfolding advances_of made_by
  made_running zero s j h = absurd (omega arith)
  made_running (suc k) s j h = go (is_running s.phase) refl j h (made_running k (advance_of S s))
    where
      go : (b : Bool) → is_running s.phase ≡ b → (j : ℕ) → j < made_by S (suc k) s → ((i : ℕ) → i < made_by S k (advance_of S s) → is_running (advances_of S i (advance_of S s)).phase ≡ true)
          → is_running (advances_of S j s).phase ≡ true
      go true e zero h f = e
      go true e (suc j) h f = f j (omega (arith, once S k s true e))
      go false e j h f = absurd (omega (arith, once S k s false e))

  steps_are : {s : Search} → Reached S s → Steps s
  steps_are r = (made_by S r.made first, (r.is ∙ made_leads r.made first, made_running r.made first))

  -- k advances from a state are all made, where it runs before each
  all_made : (k : ℕ) (s : Search) → ((j : ℕ) → j < k → is_running (advances_of S j s).phase ≡ true) → made_by S k s ≡ k
  unfolding advances_of made_by
  all_made zero s r = refl
  all_made (suc k) s r = once S k s true (r 0 (omega arith)) ∙ ap suc (all_made k (advance_of S s) (λ j h. r (suc j) (omega arith)))

  -- a state that comes again comes again and again, and the search runs for ever
  runs_on : (m d : ℕ) → 1 ≤ d → advances_of S (m + d) first ≡ advances_of S m first → ((j : ℕ) → j < m + d → is_running (advances_of S j first).phase ≡ true)
      → (n k : ℕ) → k < n → is_running (advances_of S k first).phase ≡ true
  runs_on m d l e r zero k h = absurd (omega arith)
  runs_on m d l e r (suc n) k h = go (below_or k (m + d)) (runs_on m d l e r n)
    where
      go : (k < m + d) ⊎ (m + d ≤ k) → ((i : ℕ) → i < n → is_running (advances_of S i first).phase ≡ true) → is_running (advances_of S k first).phase ≡ true
      go (inl b) f = r k b
      go (inr b) f =
          let i : ℕ = k - (m + d) in
          let a : (m + d) + i ≡ k = omega arith in
          let z : advances_of S k first ≡ advances_of S (m + i) first =
          ap (λ (x : ℕ). advances_of S x first) (sym a) ∙ advances_plus S (m + d) i first ∙ ap (advances_of S i) e ∙ sym (advances_plus S m i first) in
          ap (λ (x : Search). is_running x.phase) z ∙ f (m + i) (omega arith)

  module _ (w : FormedSource S) where
    -- but it ends
    no_cycle : (m d : ℕ) → 1 ≤ d → advances_of S (m + d) first ≡ advances_of S m first → ((j : ℕ) → j < m + d → is_running (advances_of S j first).phase ≡ true) → ⊥
    no_cycle m d l e r = over _ (λ k. (reached_facts S w k).few (runs k))
      where
        runs : (k : ℕ) → is_running (advances_of S k first).phase ≡ true
        runs k = runs_on m d l e r (suc k) k (omega arith)

        over : (b : ℕ) → ((k : ℕ) → made_by S k first < b) → ⊥
        over b f = absurd (omega (arith, f b, all_made b first (λ j h. runs j)))

    one_count : {s : Search} (u v : Steps s) → u.0 < v.0 → ⊥
    one_count u v h =
        let d : ℕ = v.0 - u.0 in
        let e : u.0 + d ≡ v.0 = omega arith in
        no_cycle u.0 d (omega arith) (ap (λ (x : ℕ). advances_of S x first) e ∙ sym v.1.0 ∙ u.1.0) (λ j l. v.1.1 j (omega arith))

    steps_prop : (s : Search) → IsProp (Steps s)
    steps_prop s u v = Σ_prop_path (λ m. Prim.hlevel props) (go (below_or u.0 v.0) (below_or v.0 u.0))
      where
        go : (u.0 < v.0) ⊎ (v.0 ≤ u.0) → (v.0 < u.0) ⊎ (u.0 ≤ v.0) → u.0 ≡ v.0
        go (inl l) y = absurd (one_count u v l)
        go (inr l) (inl k) = absurd (one_count v u k)
        go (inr l) (inr k) = omega arith

-- ---- WHAT IS KNOWN

pub known_tables : {p : Stored} → ∥ WellFormed p ∥₁ → FormedSource (source_of p)
known_tables {p} h = ∥∥₁_elim h (formed_prop (source_of p)) (formed_source p)

module _ {l : Loaded} (h : ∥ Sound l ∥₁) where
  pub known_formed : ∥ WellFormed l.stored ∥₁
  known_formed = ∥∥₁_elim h ∥∥₁_prop (λ s. ∣ s.formed ∣₁)

  pub known_source : FormedSource (source_of l.stored)
  known_source = known_tables known_formed

  pub known_prepared : PreparedFor l.stored l.prepared
  known_prepared = ∥∥₁_elim h (prepared_prop l) (λ s. s.prepared)

  pub known_reached : Reached (source_of l.stored) l.search
  known_reached =
      let u = ∥∥₁_elim h (steps_prop (source_of l.stored) known_source l.search) (λ s. steps_are (source_of l.stored) s.reached) in
      record { source = known_source; made = u.0; is = u.1.0 }

  -- all that is sound: the ghost field says `Sound` whole
  pub known_sound : Sound l
  known_sound = record { formed = ∥∥₁_elim known_formed (well_formed_prop l.stored) (λ w. w); prepared = known_prepared; reached = known_reached }

  pub known_levels : l.stored.counts.levels ≤ 8
  known_levels = ∥∥₁_elim h le_prop (λ s. s.formed.within.levels)

  pub known_entries : l.stored.counts.entries ≤ 512
  known_entries = ∥∥₁_elim h le_prop (λ s. s.formed.within.entries)

  pub known_symbols : l.stored.counts.symbols ≤ 512
  known_symbols = ∥∥₁_elim h le_prop (λ s. s.formed.within.symbols)

  pub known_text : l.stored.counts.text ≤ length l.stored.text
  known_text = ∥∥₁_elim h le_prop (λ s. omega (arith, s.formed.text, s.formed.sized.text))

  pub known_end : l.stored.counts.text ≤ 65536
  known_end = ∥∥₁_elim h le_prop (λ s. s.formed.text)

  pub known_atoms : l.stored.counts.atoms ≤ 1024
  known_atoms = ∥∥₁_elim h le_prop (λ s. s.formed.formed.few)

  pub known_name : (i : ℕ) → i < l.stored.counts.symbols → (symbol_row l.stored.symbols i).name + (symbol_row l.stored.symbols i).length ≤ length l.stored.text
  known_name i b = ∥∥₁_elim h le_prop (λ s. name_inside l.stored s.formed i b)

  pub known_symbol : (i : ℕ) → i < l.stored.counts.symbols → SymbolFormed l.stored.conditions (symbol_row l.stored.symbols i)
  known_symbol i b = ∥∥₁_elim h (symbol_prop l.stored.conditions (symbol_row l.stored.symbols i)) (λ s. symbol_formed l.stored s.formed i b)

  -- the level in work is one of the levels
  pub known_level : is_in_work l.search.phase ≡ true → l.search.work.level < 8
  known_level b = ∥∥₁_elim h le_prop (λ s. level_few s b)
    where
      level_few : Sound l → is_in_work l.search.phase ≡ true → l.search.work.level < 8
      level_few s b =
          let S = source_of l.stored in
          let r = s.reached in
          let f = subst (Facts S (made_by S r.made (fresh_for S.levels))) (sym r.is) (reached_facts S r.source r.made) in
          omega (arith, f.level b, levels_many l.stored s.formed, s.formed.within.levels)

  seen_prop : (x y : Seen) → IsProp (x ≡ y)
  seen_prop x y = Prim.hlevel props

  -- the figures
  pub known_figures : {a : Status} → a ≡ status_of l.search.phase → {us : Option (List ℤ)} → us ≡ given (has_model l.search.phase) (take l.stored.counts.levels l.search.work.uppers)
      → {j : ℕ} → j ≡ level_seen l.search.phase l.search.work.level → {t : ℕ} → t ≡ stratum_seen l.search.phase l.search.work.stratum
      → seen a l.search.advances (take l.stored.counts.levels l.stored.levels) (take l.stored.counts.levels l.search.work.lowers) us j t ≡ seen_in l.stored l.search
  known_figures ea eu ej et = ∥∥₁_elim h (seen_prop _ _) (λ s. seen_is l.stored s.formed l.search ea eu ej et)
