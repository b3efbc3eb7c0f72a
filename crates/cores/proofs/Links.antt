-- From the code's tables to the level that they mean: opening, recording, the limits. Assumes nothing.
use mathlib.Core.Path.{◌≡◌, refl, sym, ap, ap₂, ◌∙◌}
use mathlib.Core.Logic.{◌⊎◌, inl, inr}
use mathlib.Core.Bool.{Bool}
use mathlib.Core.List.{List, [], ◌∷◌, ◌++◌, map}
use Prim.Native.Nat.{ℕ, zero, suc, ◌+◌, ◌-◌, ◌≤◌, ◌<◌, zero-le}
use native.Mathlib.Nat.{zero-add, not-suc-le-zero}
use native.Mathlib.Numerals.{add-one}
use native.Mathlib.Omega.{arith}
use lib.IntN.{pos, nat_abs}
use lib.ListN.{length, get_or, set, take, drop, replicate, length-append, length-set, length-replicate, length-map, get_or-map}
use lib.Seq.{sets, sets-eq, length-sets, slice, length-slice, take_at, drop_at, take-append-le, length-take-le, take-set-lt, get_or-take, get_or-set_same, get_or-set_other, map-set_same, take-take, get_or-append-add}
use borrow.Author.Tests.{ne_eqb}
use Rattle.asp.specs.Sets.{pick}
use Rattle.asp.specs.Program.{All}
use Rattle.asp.specs.Penalty.{Penalty}
use Rattle.asp.specs.Tables.{span}
use Rattle.cores.specs.declared.soft.Soft.{Soft}
use Rattle.cores.specs.declared.level.LevelTables.{LevelTables}
use Rattle.cores.specs.Sums.{lose}
use Rattle.cores.specs.Soft.{Kind, entry, derived}
use Rattle.cores.specs.Level.{weighty, opened, fewer, derived_from, recorded, held, core_fits, room}
use Rattle.cores.specs.Judging.{members_in}
use Rattle.cores.specs.Tables.{no_soft, entry_soft, lighter_by, lighten, new_softs, softs_of, opened_tables, held_in, recorded_tables, Counted, Room, kind_of, level_of, FormedTables}
use Rattle.cores.proofs.Sums.{below_or}
use Rattle.cores.proofs.Limits.{held_append}
use Rattle.cores.proofs.Members.{all_at}
use Rattle.cores.proofs.Spans.{span_ext, span_last, length_span}

-- ---- lists

module _ {A : Type 0} where
  -- a list put from place k on, as far as it then reaches
  pub take_sets : (l : List A) (k : ℕ) (xs : List A) → k + length xs ≤ length l → take (k + length xs) (sets l k xs) ≡ take k l ++ xs
  take_sets l k xs h =
      ap (take (k + length xs)) (sets-eq xs l k h)
      ∙ take_at (take k l ++ xs) (drop (k + length xs) l) (k + length xs) (length-append (take k l) xs ∙ ap (λ (n : ℕ). n + length xs) (length-take-le k l (omega arith)))

  -- what lies before is as it was
  pub take_before : (l : List A) (k : ℕ) (xs : List A) (b : ℕ) → k + length xs ≤ length l → b ≤ k → take b (sets l k xs) ≡ take b l
  take_before l k xs b h le =
      sym (take-take b (k + length xs) (sets l k xs) (omega arith))
      ∙ ap (take b) (take_sets l k xs h)
      ∙ take-append-le b (take k l) xs (rw (length-take-le k l (omega arith)) le)
      ∙ take-take b k l le

  map_append : {B : Type 0} (f : A → B) (xs ys : List A) → map f (xs ++ ys) ≡ map f xs ++ map f ys
  map_append f [] ys = refl
  map_append {B = B} f (x ∷ xs) ys = ap (λ (l : List B). f x ∷ l) (map_append f xs ys)

  map_map : {B C : Type 0} (f : A → B) (g : B → C) (xs : List A) → map g (map f xs) ≡ map (λ x. g (f x)) xs
  map_map f g [] = refl
  map_map {C = C} f g (x ∷ xs) = ap (λ (l : List C). g (f x) ∷ l) (map_map f g xs)

  map_set : {B : Type 0} (f : A → B) (xs : List A) (i : ℕ) (x : A) → map f (set xs i x) ≡ set (map f xs) i (f x)
  map_set f [] i x = refl
  map_set f (y ∷ xs) zero x = refl
  map_set {B = B} f (y ∷ xs) (suc i) x = ap (λ (l : List B). f y ∷ l) (map_set f xs i x)

-- ---- what members lose

length_lighten : (s : ℕ) (ms : List ℕ) (t : List Soft) → length (lighten s ms t) ≡ length t
unfolding lighten
length_lighten s [] t = refl
length_lighten s (m ∷ ms) t = length_lighten s ms (set t m (lighter_by s (get_or t m no_soft))) ∙ length-set t m (lighter_by s (get_or t m no_soft))

lighten_take : (s n : ℕ) (ms : List ℕ) (t : List Soft) → All (λ m. m < n) ms → take n (lighten s ms t) ≡ lighten s ms (take n t)
unfolding lighten
lighten_take s n [] t a = refl
lighten_take s n (m ∷ ms) t a =
    lighten_take s n ms (set t m (lighter_by s (get_or t m no_soft))) a.1
    ∙ ap (lighten s ms) (take-set-lt n t m (lighter_by s (get_or t m no_soft)) a.0 ∙ ap (λ (x : Soft). set (take n t) m (lighter_by s x)) (sym (get_or-take n t m no_soft a.0)))

-- no soft literal becomes another
lighten_kinds : (s : ℕ) (ms : List ℕ) (t : List Soft) → map kind_of (lighten s ms t) ≡ map kind_of t
unfolding lighten
lighten_kinds s [] t = refl
lighten_kinds s (m ∷ ms) t = lighten_kinds s ms (set t m (lighter_by s (get_or t m no_soft))) ∙ map-set_same kind_of t m (lighter_by s (get_or t m no_soft)) no_soft refl

abbrev weight_of : Soft → ℕ
weight_of r = r.weight

lighten_rests : (s : ℕ) (ms : List ℕ) (t : List Soft) → map weight_of (lighten s ms t) ≡ lose s ms (map weight_of t)
unfolding lighten
lighten_rests s [] t = refl
lighten_rests s (m ∷ ms) t =
    lighten_rests s ms (set t m (lighter_by s (get_or t m no_soft)))
    ∙ ap (lose s ms) (map_set weight_of t m (lighter_by s (get_or t m no_soft)) ∙ ap (λ (w : ℕ). set (map weight_of t) m (w - s)) (sym (get_or-map weight_of t m no_soft)))

-- ---- the new soft literals

length_new : (j i n s : ℕ) → length (new_softs j i n s) ≡ n
unfolding new_softs
length_new j i zero s = refl
length_new j i (suc n) s = ap suc (length_new j (i + 1) n s)

new_kinds : (c i n s : ℕ) → map kind_of (new_softs (c + 1) i n s) ≡ derived_from (suc c) i n
unfolding new_softs
new_kinds c i zero s = refl
new_kinds c i (suc n) s =
    ap₂ ◌∷◌
    (ap (λ (b : Bool). pick b (entry (pos 0)) (derived (c + 1) i)) (ne_eqb (c + 1) 0 (λ e. omega arith)) ∙ ap (λ (j : ℕ). derived j i) (add-one c))
    (new_kinds c (i + 1) n s ∙ ap (λ (k : ℕ). derived_from (suc c) k n) (add-one i))

new_rests : (j i n s : ℕ) → map weight_of (new_softs j i n s) ≡ replicate n s
unfolding new_softs
new_rests j i zero s = refl
new_rests j i (suc n) s = ap (λ (l : List ℕ). s ∷ l) (new_rests j (i + 1) n s)

fewer_less : (ms : List ℕ) → length ms - 1 ≡ fewer ms
fewer_less [] = refl
fewer_less (m ∷ ms) = omega arith

-- ---- how far the tables are filled

module _ (t : LevelTables) (f : FormedTables t) where
  pub kinds_count : length (level_of t).kinds ≡ t.count
  kinds_count = length-map (take t.count t.softs) kind_of ∙ length-take-le t.count t.softs (omega (arith, f.softs_len, f.softs_few))

  pub rests_count : length (level_of t).rests ≡ t.count
  rests_count = length-map (take t.count t.softs) weight_of ∙ length-take-le t.count t.softs (omega (arith, f.softs_len, f.softs_few))

  pub cores_count : length (level_of t).cores ≡ t.cores
  cores_count = length_span (members_in t.ends t.members) 0 t.cores

  held_upto : (c : ℕ) → c ≤ t.cores → held (span (members_in t.ends t.members) 0 c) ≡ get_or t.ends c 0
  unfolding held span
  held_upto zero h = sym f.first
  held_upto (suc c) h =
      let k : length (members_in t.ends t.members c) ≡ get_or t.ends (c + 1) 0 - get_or t.ends c 0 =
      length-slice (get_or t.ends c 0) (get_or t.ends (c + 1) 0) t.members (omega (arith, f.within (c + 1) (omega arith), f.held_few, f.members_len)) in
      ap held (ap (span (members_in t.ends t.members) 0) (sym (add-one c)) ∙ span_last (members_in t.ends t.members) 0 c)
      ∙ held_append (span (members_in t.ends t.members) 0 c) (members_in t.ends t.members (0 + c))
      ∙ ap₂ ◌+◌ (held_upto c (omega arith)) (ap (λ (x : ℕ). length (members_in t.ends t.members x)) (zero-add c) ∙ k)
      ∙ omega (arith, f.rising c h, ap (λ (x : ℕ). get_or t.ends x 0) (add-one c))

  pub held_count : held (level_of t).cores ≡ held_in t
  held_count = held_upto t.cores (omega arith)

  -- THE LIMITS ARE THOSE OF THE LEVEL
  pub fits_room : (ms : List ℕ) → core_fits t.count (held_in t) (length ms) ≡ room (level_of t) ms
  fits_room ms = ap₂ (λ (k h : ℕ). core_fits k h (length ms)) (sym kinds_count) (sym held_count)

  pub counted : (n : ℕ) → 1 ≤ n → n ≤ 4096 → Counted t n
  counted n h l = record { softs = f.softs_few; members = f.held_few; cores = f.cores_few; some = h; few = l }

-- ---- a level is opened

module _ (es : List Penalty) (few : length (softs_of es) ≤ 4096) where
  opened_softs : take (length (softs_of es)) (sets (replicate 4096 no_soft) 0 (softs_of es)) ≡ softs_of es
  opened_softs =
      ap (λ (n : ℕ). take n (sets (replicate 4096 no_soft) 0 (softs_of es))) (sym (zero-add (length (softs_of es))))
      ∙ take_sets (replicate 4096 no_soft) 0 (softs_of es) (omega (arith, length-replicate 4096 no_soft))

  -- THE TABLES THAT A LEVEL IS OPENED WITH MEAN THE LEVEL OPENED
  pub opened_level : level_of (opened_tables es) ≡ opened es
  unfolding span
  opened_level =
      ap₂ (λ (ks : List Kind) (ws : List ℕ). record { kinds = ks; rests = ws; cores = []; lower = 0 })
      (ap (map kind_of) opened_softs ∙ map_map (λ (e : Penalty). entry_soft e.literal e.weight) kind_of (weighty es))
      (ap (map weight_of) opened_softs ∙ map_map (λ (e : Penalty). entry_soft e.literal e.weight) weight_of (weighty es))

  softs_small : (xs : List Penalty) → All (λ (e : Penalty). nat_abs e.literal ≤ 1024) xs → All (λ (r : Soft). nat_abs r.literal ≤ 1024) (map (λ (e : Penalty). entry_soft e.literal e.weight) xs)
  softs_small [] a = tt
  softs_small (x ∷ xs) a = (a.0, softs_small xs a.1)

  -- and they are in shape
  pub opened_formed : All (λ (e : Penalty). nat_abs e.literal ≤ 1024) (weighty es) → FormedTables (opened_tables es)
  opened_formed a = record {
    softs_len = length-sets (replicate 4096 no_soft) 0 (softs_of es) ∙ length-replicate 4096 no_soft;
    members_len = length-replicate {A = ℕ} 4096 0;
    ends_len = length-replicate {A = ℕ} 4097 0;
    softs_few = few;
    held_few = zero-le;
    cores_few = zero-le;
    first = refl;
    rising = λ j h. absurd (not-suc-le-zero h);
    within = λ j h. none j h;
    inside = λ k h. absurd (not-suc-le-zero h);
    small = rw opened_softs (softs_small (weighty es) a);
  }
    where
      none : (j : ℕ) → j ≤ 0 → get_or (replicate 4097 0) j 0 ≤ 0
      none zero h = zero-le
      none (suc j) h = absurd (not-suc-le-zero h)

-- ---- a core is recorded

abbrev Small : Soft → Type 0
Small r = nat_abs r.literal ≤ 1024

small_append : (xs ys : List Soft) → All Small xs → All Small ys → All Small (xs ++ ys)
small_append [] ys a b = b
small_append (x ∷ xs) ys a b = (a.0, small_append xs ys a.1 b)

small_set : (xs : List Soft) (i s : ℕ) → All Small xs → All Small (set xs i (lighter_by s (get_or xs i no_soft)))
small_set [] i s a = tt
small_set (x ∷ xs) zero s a = a
small_set (x ∷ xs) (suc i) s a = (a.0, small_set xs i s a.1)

small_lighten : (s : ℕ) (ms : List ℕ) (xs : List Soft) → All Small xs → All Small (lighten s ms xs)
unfolding lighten
small_lighten s [] xs a = a
small_lighten s (m ∷ ms) xs a = small_lighten s ms (set xs m (lighter_by s (get_or xs m no_soft))) (small_set xs m s a)

small_new : (j i n s : ℕ) → All Small (new_softs j i n s)
unfolding new_softs
small_new j i zero s = tt
small_new j i (suc n) s = (zero-le, small_new j (i + 1) n s)

module _ (t : LevelTables) (s : ℕ) (ms : List ℕ) (f : FormedTables t) (room : Room t (length ms)) (inside : All (λ m. m < t.count) ms) where
  abbrev lost : List Soft
  lost = lighten s ms t.softs

  abbrev new : List Soft
  new = new_softs (t.cores + 1) 1 (length ms - 1) s

  abbrev t' : LevelTables
  t' = recorded_tables t s ms

  lost_long : length lost ≡ 4096
  lost_long = length_lighten s ms t.softs ∙ f.softs_len

  new_long : length new ≡ length ms - 1
  new_long = length_new (t.cores + 1) 1 (length ms - 1) s

  recorded_softs : take (t.count + (length ms - 1)) (sets lost t.count new) ≡ lighten s ms (take t.count t.softs) ++ new
  recorded_softs =
      ap (λ (n : ℕ). take (t.count + n) (sets lost t.count new)) (sym new_long)
      ∙ take_sets lost t.count new (omega (arith, lost_long, new_long, room.softs))
      ∙ ap (λ (l : List Soft). l ++ new) (lighten_take s t.count ms t.softs inside)

  recorded_kinds : map kind_of (take (t.count + (length ms - 1)) (sets lost t.count new)) ≡ (level_of t).kinds ++ derived_from (suc (length (level_of t).cores)) 1 (fewer ms)
  recorded_kinds =
      ap (map kind_of) recorded_softs ∙ map_append kind_of (lighten s ms (take t.count t.softs)) new
      ∙ ap₂ ◌++◌ (lighten_kinds s ms (take t.count t.softs))
      (new_kinds t.cores 1 (length ms - 1) s ∙ ap₂ (λ (j n : ℕ). derived_from (suc j) 1 n) (sym (cores_count t f)) (fewer_less ms))

  recorded_rests : map weight_of (take (t.count + (length ms - 1)) (sets lost t.count new)) ≡ lose s ms (level_of t).rests ++ replicate (fewer ms) s
  recorded_rests =
      ap (map weight_of) recorded_softs ∙ map_append weight_of (lighten s ms (take t.count t.softs)) new
      ∙ ap₂ ◌++◌ (lighten_rests s ms (take t.count t.softs))
      (new_rests (t.cores + 1) 1 (length ms - 1) s ∙ ap (λ (n : ℕ). replicate n s) (fewer_less ms))

  -- the ends: the old ones, and one more
  old_end : (j : ℕ) → j ≤ t.cores → get_or t'.ends j 0 ≡ get_or t.ends j 0
  old_end j h = get_or-set_other t.ends (t.cores + 1) j (held_in t + length ms) 0 (λ e. absurd (omega arith))

  new_end : get_or t'.ends (t.cores + 1) 0 ≡ held_in t + length ms
  new_end = get_or-set_same t.ends (t.cores + 1) (held_in t + length ms) 0 (omega (arith, f.ends_len, f.cores_few, f.held_few, room.members, room.counted.some))

  members_fit : held_in t + length ms ≤ length t.members
  members_fit = omega (arith, f.members_len, room.members)

  old_core : (j : ℕ) → j < t.cores → members_in t'.ends t'.members j ≡ members_in t.ends t.members j
  old_core j h =
      ap₂ (λ (a e : ℕ). slice a e t'.members) (old_end j (omega arith)) (old_end (j + 1) (omega arith))
      ∙ ap (drop (get_or t.ends j 0)) (take_before t.members (held_in t) ms (get_or t.ends (j + 1) 0) members_fit (f.within (j + 1) (omega arith)))

  new_core : members_in t'.ends t'.members t.cores ≡ ms
  new_core =
      ap₂ (λ (a e : ℕ). slice a e t'.members) (old_end t.cores (omega arith)) new_end
      ∙ ap (drop (held_in t)) (take_sets t.members (held_in t) ms members_fit)
      ∙ drop_at (take (held_in t) t.members) ms (held_in t) (length-take-le (held_in t) t.members (omega (arith, members_fit)))

  recorded_cores : span (members_in t'.ends t'.members) 0 (t.cores + 1) ≡ (level_of t).cores ++ (ms ∷ [])
  recorded_cores =
      span_last (members_in t'.ends t'.members) 0 t.cores
      ∙ ap₂ (λ (a : List (List ℕ)) (b : List ℕ). a ++ (b ∷ []))
      (span_ext (members_in t'.ends t'.members) (members_in t.ends t.members) 0 t.cores (λ j l h. old_core j (omega arith)))
      (ap (members_in t'.ends t'.members) (zero-add t.cores) ∙ new_core)

  -- THE TABLES AFTER A CORE MEAN THE LEVEL WITH THE CORE RECORDED
  pub recorded_level : level_of (recorded_tables t s ms) ≡ recorded (level_of t) s ms
  recorded_level =
      ap (λ (ks : List Kind). record { kinds = ks; rests = (level_of t').rests; cores = (level_of t').cores; lower = t.lower + s }) recorded_kinds
      ∙ ap₂ (λ (ws : List ℕ) (cs : List (List ℕ)). record { kinds = (level_of t).kinds ++ derived_from (suc (length (level_of t).cores)) 1 (fewer ms); rests = ws; cores = cs; lower = t.lower + s })
      recorded_rests recorded_cores

  -- ---- and they stay in shape

  old_member : (k : ℕ) → k < held_in t → get_or t'.members k 0 ≡ get_or t.members k 0
  old_member k h =
      sym (get_or-take (held_in t) t'.members k 0 h)
      ∙ ap (λ (l : List ℕ). get_or l k 0) (take_before t.members (held_in t) ms (held_in t) members_fit (omega arith))
      ∙ get_or-take (held_in t) t.members k 0 h

  new_member : (i : ℕ) → i < length ms → get_or t'.members (held_in t + i) 0 ≡ get_or ms i 0
  new_member i h =
      sym (get_or-take (held_in t + length ms) t'.members (held_in t + i) 0 (omega arith))
      ∙ ap (λ (l : List ℕ). get_or l (held_in t + i) 0) (take_sets t.members (held_in t) ms members_fit)
      ∙ ap (λ (n : ℕ). get_or (take (held_in t) t.members ++ ms) (n + i) 0) (sym (length-take-le (held_in t) t.members (omega (arith, members_fit))))
      ∙ get_or-append-add (take (held_in t) t.members) ms i 0

  rising_kept : (j : ℕ) → j < t.cores + 1 → get_or t'.ends j 0 ≤ get_or t'.ends (j + 1) 0
  rising_kept j h = go (below_or j t.cores)
    where
      go : (j < t.cores) ⊎ (t.cores ≤ j) → get_or t'.ends j 0 ≤ get_or t'.ends (j + 1) 0
      go (inl l) = omega (arith, old_end j (omega arith), old_end (j + 1) (omega arith), f.rising j l)
      go (inr l) = let e : j ≡ t.cores = omega arith in rw e (omega (arith, old_end t.cores (omega arith), new_end))

  within_kept : (j : ℕ) → j ≤ t.cores + 1 → get_or t'.ends j 0 ≤ held_in t + length ms
  within_kept j h = go (below_or t.cores j)
    where
      go : (t.cores < j) ⊎ (j ≤ t.cores) → get_or t'.ends j 0 ≤ held_in t + length ms
      go (inl l) = let e : j ≡ t.cores + 1 = omega arith in rw e (omega (arith, new_end))
      go (inr l) = omega (arith, old_end j l, f.within j l)

  inside_kept : (k : ℕ) → k < held_in t + length ms → get_or t'.members k 0 < t.count + (length ms - 1)
  inside_kept k h = go (below_or k (held_in t))
    where
      go : (k < held_in t) ⊎ (held_in t ≤ k) → get_or t'.members k 0 < t.count + (length ms - 1)
      go (inl l) = omega (arith, old_member k l, f.inside k l)
      go (inr l) =
          let e : held_in t + (k - held_in t) ≡ k = omega arith in
          let q : k - held_in t < length ms = omega arith in
          omega (arith, ap (λ (n : ℕ). get_or t'.members n 0) e, new_member (k - held_in t) q, all_at (λ m. m < t.count) ms inside (k - held_in t) q)

  pub recorded_formed : FormedTables (recorded_tables t s ms)
  recorded_formed = record {
    softs_len = length-sets lost t.count new ∙ lost_long;
    members_len = length-sets t.members (held_in t) ms ∙ f.members_len;
    ends_len = length-set t.ends (t.cores + 1) (held_in t + length ms) ∙ f.ends_len;
    softs_few = room.softs;
    held_few = omega (arith, new_end, room.members);
    cores_few = omega (arith, new_end, f.cores_few, room.counted.some);
    first = old_end 0 zero-le ∙ f.first;
    rising = rising_kept;
    within = λ j h. omega (arith, within_kept j h, new_end);
    inside = λ k h. inside_kept k (omega (arith, new_end));
    small = rw recorded_softs (small_append (lighten s ms (take t.count t.softs)) new (small_lighten s ms (take t.count t.softs) f.small) (small_new (t.cores + 1) 1 (length ms - 1) s));
  }
