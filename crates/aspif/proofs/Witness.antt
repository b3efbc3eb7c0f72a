-- Every accepted text has well-formed tables that hold its program and its text: they are built from these two. Assumes nothing.
use mathlib.Core.Path.{◌≡◌, refl, sym, ap, ◌∙◌, subst}
use mathlib.Core.Bool.{Bool, true, false, not}
use mathlib.Core.List.{List, [], ◌∷◌, ◌++◌, map, append_assoc}
use Prim.Native.Nat.{ℕ, suc, ◌+◌, ◌-◌, ◌≤◌, ◌<◌}
use native.Mathlib.Omega.{arith}
use lib.IntN.{ℤ, pos, nat_abs}
use lib.ListN.{length, get_or, replicate, length-append, length-replicate}
use lib.Seq.{get_or-append-add}
use Rattle.asp.specs.declared.rules.HeadKind.{HeadKind}
use Rattle.asp.specs.declared.rules.HeadKind.TheVariants as head
use Rattle.asp.specs.declared.rules.BodyKind.{BodyKind}
use Rattle.asp.specs.declared.rules.BodyKind.TheVariants as body
use Rattle.asp.specs.declared.rules.Row.{Row}
use Rattle.asp.specs.declared.entries.Entry.{Entry}
use Rattle.asp.specs.declared.symbols.SymbolRow.{SymbolRow}
use Rattle.asp.specs.Sets.{pick}
use Rattle.asp.specs.Literal.{one_signed}
use Rattle.asp.specs.Program.{Weighed, Body, normal, weighted, Head, constraint, plain, choice, Rule, Symbol, Program, atoms, All, RuleIn, ProgramIn}
use Rattle.asp.specs.Tables.{span, literals_at, pair_at, pairs_at, named, atoms_at, is_choice, is_weighted, is_mixed, no_row, row_at, head_at, rule_at, RowIn, no_entry, no_symbol, symbol_row, symbol_at}
use Rattle.asp.proofs.Spans.{span_at}
use Rattle.aspif_lines.specs.Text.{sum, head_size, body_size, rule_size, condition_size, name_size, fits, text_of, accepted}
use Rattle.aspif_lines.specs.Seen.{body_from, bytes_at}
use Rattle.asp.proofs.Spans.{map_span}
use Rattle.aspif_lines.proofs.Spans.{span_shift}
use Rattle.aspif_lines.proofs.Heads.{length_map}
use Rattle.aspif_tables.specs.Lists.{Descending, Within, Sized}
use Rattle.aspif_tables.specs.Lists.{lists_of}
use Rattle.aspif.specs.Store.{BodyWeighs, stored_program, stored_text, WellFormed}
use Rattle.aspif_tables.specs.declared.table.Counts.{Counts}
use Rattle.aspif_tables.specs.declared.table.Stored.{Stored}
use Rattle.aspif.proofs.Onwards.{limits_within}
use Rattle.aspif.proofs.Accepted.{Good, accepted_good}
use Rattle.aspif.proofs.Names.{NameLies, names_in}
use Rattle.aspif.proofs.RoundTrip.{stored_short, accepted_short}
use Rattle.aspif.proofs.Loads.{atoms_bound, program_in}

-- ---- a list at the front of a table

-- the values at the places from 0 on are xs, where each place after the first is a place of the rest
fronts : {A : Type 0} (f : List A → ℕ → A) → ((x : A) (xs : List A) → f (x ∷ xs) 0 ≡ x) → ((x : A) (xs : List A) (j : ℕ) → f (x ∷ xs) (suc j) ≡ f xs j)
    → (xs : List A) → span (f xs) 0 (length xs) ≡ xs
unfolding span
fronts f h t [] = refl
fronts f h t (x ∷ xs) =
    let rest : span (f (x ∷ xs)) 1 (length xs) ≡ span (f xs) 0 (length xs) =
    span_shift (f (x ∷ xs)) (f xs) 1 0 (length xs) (λ j l. let p : 1 + j ≡ suc j = omega arith in let q : 0 + j ≡ j = omega arith in rw (p, q) (t x xs j)) in
    rw (h x xs, rest, fronts f h t xs)

-- one list
list_front : {A : Type 0} (d : A) (xs zs : List A) → span (λ (j : ℕ). get_or (xs ++ zs) j d) 0 (length xs) ≡ xs
list_front d xs zs = fronts (λ ys j. get_or (ys ++ zs) j d) (λ y ys. refl) (λ y ys j. refl) xs

-- a list in the midst of a table
list_at : {A : Type 0} (d : A) (xs ys zs : List A) → span (λ (j : ℕ). get_or (xs ++ (ys ++ zs)) j d) (length xs) (length ys) ≡ ys
list_at d xs ys zs =
    span_shift (λ (j : ℕ). get_or (xs ++ (ys ++ zs)) j d) (λ (j : ℕ). get_or (ys ++ zs) j d) (length xs) 0 (length ys)
    (λ j l. let q : 0 + j ≡ j = omega arith in rw q (get_or-append-add xs (ys ++ zs) j d)) ∙ list_front d ys zs

-- the table of n places with xs at its front
abbrev padded : {A : Type 0} → A → ℕ → List A → List A
padded d n xs = xs ++ replicate (n - length xs) d

padded_length : {A : Type 0} (d : A) (n : ℕ) (xs : List A) → length xs ≤ n → length (padded d n xs) ≡ n
padded_length d n xs h = omega (arith, length-append xs (replicate (n - length xs) d), length-replicate (n - length xs) d)

-- ---- lists laid one after the other

unfoldable laid : {A B : Type 0} → (A → List B) → List A → List B
laid f [] = []
laid f (x ∷ xs) = f x ++ laid f xs

laid_length : {A B : Type 0} (f : A → List B) (size : A → ℕ) → ((x : A) → length (f x) ≡ size x) → (xs : List A) → length (laid f xs) ≡ sum size xs
unfolding laid sum
laid_length f size h [] = refl
laid_length f size h (x ∷ xs) = omega (arith, length-append (f x) (laid f xs), h x, laid_length f size h xs)

-- ---- a pool of items laid one after the other, and a row for each that says where it lies

module _ {A R : Type 0} (P : A → Type 0) (lay : A → List ℤ) (row : ℕ → (x : A) → P x → R) where
  unfoldable rows : ℕ → (xs : List A) → All P xs → List R
  rows i [] h = []
  rows i (x ∷ xs) h = row i x h.0 ∷ rows (i + length (lay x)) xs h.1

  -- as many rows as items
  rows_count : (i : ℕ) (xs : List A) (h : All P xs) → length (rows i xs h) ≡ length xs
  unfolding rows
  rows_count i [] h = refl
  rows_count i (x ∷ xs) h = ap suc (rows_count (i + length (lay x)) xs h.1)

  -- what is so of every row of an item that ends by n
  rows_all : (Q : R → Type 0) (n : ℕ) → ((i : ℕ) (x : A) (p : P x) → i + length (lay x) ≤ n → Q (row i x p)) → (i : ℕ) (xs : List A) (h : All P xs) → i + length (laid lay xs) ≤ n → All Q (rows i xs h)
  unfolding rows laid
  rows_all Q n f i [] h l = tt
  rows_all Q n f i (x ∷ xs) h l =
      (f i x h.0 (omega (arith, length-append (lay x) (laid lay xs))), rows_all Q n f (i + length (lay x)) xs h.1 (omega (arith, length-append (lay x) (laid lay xs))))

  -- the items come back, where each comes back by its row
  rows_back : (at : List ℤ → R → A) → ((xs : List ℤ) (x : A) (zs : List ℤ) (p : P x) → at (xs ++ (lay x ++ zs)) (row (length xs) x p) ≡ x)
      → (before : List ℤ) (xs : List A) (after : List ℤ) (h : All P xs) → map (at (before ++ (laid lay xs ++ after))) (rows (length before) xs h) ≡ xs
  unfolding rows laid
  rows_back at f before [] after h = refl
  rows_back at f before (x ∷ xs) after h =
      let e : before ++ ((lay x ++ laid lay xs) ++ after) ≡ before ++ (lay x ++ (laid lay xs ++ after)) = rw (append_assoc (lay x) (laid lay xs) after) in
      let d : (before ++ lay x) ++ (laid lay xs ++ after) ≡ before ++ (lay x ++ (laid lay xs ++ after)) = append_assoc before (lay x) (laid lay xs ++ after) in
      let r = rows_back at f (before ++ lay x) xs after h.1 in
      subst (λ (ys : List ℤ). map (at ys) (rows (length before) (x ∷ xs) h) ≡ x ∷ xs) (sym e)
      (rw (f before x (laid lay xs ++ after) h.0) (ap (λ (ys : List A). x ∷ ys) (rw (length-append before (lay x), d) at r)))

  -- what is so of the row of every item among others is so of all
  rows_hold : (Q : List ℤ → R → Type 0) → ((xs : List ℤ) (x : A) (zs : List ℤ) (p : P x) → Q (xs ++ (lay x ++ zs)) (row (length xs) x p))
      → (before : List ℤ) (xs : List A) (after : List ℤ) (h : All P xs) → All (Q (before ++ (laid lay xs ++ after))) (rows (length before) xs h)
  unfolding rows laid
  rows_hold Q f before [] after h = tt
  rows_hold Q f before (x ∷ xs) after h =
      let e : before ++ ((lay x ++ laid lay xs) ++ after) ≡ before ++ (lay x ++ (laid lay xs ++ after)) = rw (append_assoc (lay x) (laid lay xs) after) in
      let d : (before ++ lay x) ++ (laid lay xs ++ after) ≡ before ++ (lay x ++ (laid lay xs ++ after)) = append_assoc before (lay x) (laid lay xs ++ after) in
      let r = rows_hold Q f (before ++ lay x) xs after h.1 in
      subst (λ (ys : List ℤ). All (Q ys) (rows (length before) (x ∷ xs) h)) (sym e) (f before x (laid lay xs ++ after) h.0, rw (length-append before (lay x), d) at r)

  -- the table of n rows with these at its front
  module _ (d : R) (n : ℕ) (xs : List A) (h : All P xs) where
    abbrev table : List R
    table = padded d n (rows 0 xs h)

    abbrev at_table : ℕ → R
    at_table j = get_or table j d

    table_length : length xs ≤ n → length table ≡ n
    table_length l = padded_length d n (rows 0 xs h) (omega (arith, rows_count 0 xs h))

    table_rows : span at_table 0 (length xs) ≡ rows 0 xs h
    table_rows = rw (← rows_count 0 xs h) (list_front d (rows 0 xs h) _)

    table_all : (Q : R → Type 0) (e : ℕ) → ((i : ℕ) (x : A) (p : P x) → i + length (lay x) ≤ e → Q (row i x p)) → length (laid lay xs) ≤ e → (j : ℕ) → j < length xs → Q (at_table j)
    table_all Q e f l j b = span_at at_table Q 0 (length xs) (subst (All Q) (sym table_rows) (rows_all Q e f 0 xs h (omega arith))) j (omega arith) (omega arith)

    table_hold : (Q : List ℤ → R → Type 0) → ((ys : List ℤ) (x : A) (zs : List ℤ) (p : P x) → Q (ys ++ (lay x ++ zs)) (row (length ys) x p))
        → (zs : List ℤ) (j : ℕ) → j < length xs → Q (laid lay xs ++ zs) (at_table j)
    table_hold Q f zs j b = span_at at_table (Q (laid lay xs ++ zs)) 0 (length xs) (subst (All (Q (laid lay xs ++ zs))) (sym table_rows) (rows_hold Q f [] xs zs h)) j (omega arith) (omega arith)

    table_back : (at : List ℤ → R → A) → ((ys : List ℤ) (x : A) (zs : List ℤ) (p : P x) → at (ys ++ (lay x ++ zs)) (row (length ys) x p) ≡ x)
        → (zs : List ℤ) → span (λ (j : ℕ). at (laid lay xs ++ zs) (at_table j)) 0 (length xs) ≡ xs
    table_back at f zs = sym (map_span (at (laid lay xs ++ zs)) at_table 0 (length xs)) ∙ ap (map (at (laid lay xs ++ zs))) table_rows ∙ rows_back at f [] xs zs h

-- ---- rules: the head's atoms, then the body's literals, then the bound and the weights of a weighted one

abbrev head_list : Head → List ℕ
head_list constraint = []
head_list (plain a) = a ∷ []
head_list (choice hs) = hs

abbrev chosen : Head → Bool
chosen constraint = false
chosen (plain a) = false
chosen (choice hs) = true

abbrev weighs : Body → Bool
weighs (normal ls) = false
weighs (weighted b ps) = true

abbrev body_list : Body → List ℤ
body_list (normal ls) = ls
body_list (weighted b ps) = map (λ (q : Weighed). q.literal) ps

abbrev body_tail : Body → List ℤ
body_tail (normal ls) = []
body_tail (weighted b ps) = pos b ∷ map (λ (q : Weighed). pos q.weight) ps

abbrev rule_laid : Rule → List ℤ
rule_laid r = map pos (head_list r.head) ++ (body_list r.body ++ body_tail r.body)

abbrev head_kind : Head → HeadKind
head_kind constraint = head.Plain
head_kind (plain a) = head.Plain
head_kind (choice hs) = head.Choice

abbrev weighed_kind : Bool → BodyKind
weighed_kind true = body.Weighted
weighed_kind false = body.Mixed

abbrev body_kind : Body → BodyKind
body_kind (normal ls) = body.Normal
body_kind (weighted b ps) = weighed_kind (one_signed (map (λ (q : Weighed). q.literal) ps))

kind_choice : (h : Head) → is_choice (head_kind h) ≡ chosen h
unfolding is_choice
kind_choice constraint = refl
kind_choice (plain a) = refl
kind_choice (choice hs) = refl

kind_weighted : (b : Body) → is_weighted (body_kind b) ≡ weighs b
unfolding is_weighted
kind_weighted (normal ls) = refl
kind_weighted (weighted b ps) = go (one_signed (map (λ (q : Weighed). q.literal) ps))
  where
    go : (c : Bool) → is_weighted (weighed_kind c) ≡ true
    go true = refl
    go false = refl

kind_mixed : (b : Body) → weighs b ≡ true → is_mixed (body_kind b) ≡ not (one_signed (body_list b))
unfolding is_mixed
kind_mixed (normal ls) e = let z : ◌≡◌ {A = ℕ} 0 1 = cc in absurd (omega arith)
kind_mixed (weighted b ps) e = go (one_signed (map (λ (q : Weighed). q.literal) ps))
  where
    go : (c : Bool) → is_mixed (weighed_kind c) ≡ not c
    go true = refl
    go false = refl

abbrev row_of : ℕ → (r : Rule) → RuleIn 1024 r → Row
row_of i r p = record { head = head_kind r.head; body = body_kind r.body; first = i; heads = length (head_list r.head); literals = length (body_list r.body) }

head_length : (h : Head) → length (head_list h) ≡ head_size h
head_length constraint = refl
head_length (plain a) = refl
head_length (choice hs) = refl

body_length : (b : Body) → length (body_list b) ≡ body_size b
body_length (normal ls) = refl
body_length (weighted b ps) = length_map (λ (q : Weighed). q.literal) ps

tail_length : (b : Body) → length (body_tail b) ≡ pick (weighs b) (length (body_list b) + 1) 0
tail_length (normal ls) = refl
tail_length (weighted b ps) = omega (arith, length_map (λ (q : Weighed). pos q.weight) ps, length_map (λ (q : Weighed). q.literal) ps)

tail_few : (b : Body) → length (body_tail b) ≤ length (body_list b) + 1
tail_few (normal ls) = omega arith
tail_few (weighted b ps) = omega (arith, tail_length (weighted b ps))

laid_sizes : (r : Rule) → length (rule_laid r) ≡ length (head_list r.head) + length (body_list r.body) + length (body_tail r.body)
laid_sizes r =
    omega (arith, length-append (map pos (head_list r.head)) (body_list r.body ++ body_tail r.body), length-append (body_list r.body) (body_tail r.body), length_map pos (head_list r.head))

-- each rule takes no more than twice its places, and one
rules_few : (rs : List Rule) → length (laid rule_laid rs) ≤ sum rule_size rs + sum rule_size rs + length rs
unfolding laid sum
rules_few [] = omega arith
rules_few (r ∷ rs) =
    omega (arith, length-append (rule_laid r) (laid rule_laid rs), laid_sizes r, head_length r.head, body_length r.body, tail_few r.body, rules_few rs)

-- a plain head has one atom at most
head_single : (h : Head) → chosen h ≡ false → length (head_list h) ≤ 1
head_single constraint n = omega arith
head_single (plain a) n = omega arith
head_single (choice hs) n = let z : ◌≡◌ {A = ℕ} 0 1 = cc in absurd (omega arith)

named_pos : (hs : List ℕ) → map named (map pos hs) ≡ hs
named_pos [] = refl
named_pos (h ∷ hs) = ap (λ (t : List ℕ). h ∷ t) (named_pos hs)

-- head atoms and bodies come back
atoms_at_lem : (xs : List ℤ) (hs : List ℕ) (zs : List ℤ) → atoms_at (xs ++ (map pos hs ++ zs)) (length xs) (length hs) ≡ hs
atoms_at_lem xs hs zs =
    let ls : literals_at (xs ++ (map pos hs ++ zs)) (length xs) (length hs) ≡ map pos hs = rw (length_map pos hs) at (list_at (pos 0) xs (map pos hs) zs) in
    sym (map_span named (λ (j : ℕ). get_or (xs ++ (map pos hs ++ zs)) j (pos 0)) (length xs) (length hs)) ∙ ap (map named) ls ∙ named_pos hs

head_back : (h : Head) (w : BodyKind) (xs zs : List ℤ) (d : ℕ) → head_at (xs ++ (map pos (head_list h) ++ zs)) (record { head = head_kind h; body = w; first = length xs; heads = length (head_list h); literals = d }) ≡ h
head_back constraint w xs zs d = rw (kind_choice constraint, atoms_at_lem xs [] zs)
head_back (plain a) w xs zs d = rw (kind_choice (plain a), atoms_at_lem xs (a ∷ []) zs)
head_back (choice hs) w xs zs d = rw (kind_choice (choice hs), atoms_at_lem xs hs zs)

-- a weighted body after the literals `before`
module _ (before : List ℤ) (b : ℕ) (ps : List Weighed) (zs : List ℤ) where
  abbrev lits : List ℤ
  lits = map (λ (q : Weighed). q.literal) ps

  abbrev ws : List ℤ
  ws = map (λ (q : Weighed). pos q.weight) ps

  abbrev held : List ℤ
  held = before ++ (lits ++ (pos b ∷ (ws ++ zs)))

  -- beyond the literals
  beyond : (j : ℕ) → get_or held (length before + (length lits + j)) (pos 0) ≡ get_or (pos b ∷ (ws ++ zs)) j (pos 0)
  beyond j = get_or-append-add before (lits ++ (pos b ∷ (ws ++ zs))) (length lits + j) (pos 0) ∙ get_or-append-add lits (pos b ∷ (ws ++ zs)) j (pos 0)

  bound_back : nat_abs (get_or held (length before + length lits) (pos 0)) ≡ b
  bound_back = let e : length before + length lits ≡ length before + (length lits + 0) = omega arith in rw (e, beyond 0)

  abbrev pair_of : List Weighed → ℕ → Weighed
  pair_of qs j = record { literal = get_or (map (λ (q : Weighed). q.literal) qs ++ (pos b ∷ (ws ++ zs))) j (pos 0); weight = nat_abs (get_or (map (λ (q : Weighed). pos q.weight) qs ++ zs) j (pos 0)) }

  pair_there : (j : ℕ) → pair_at held (length lits + 1) (length before + j) ≡ pair_of ps (0 + j)
  pair_there j =
      let z : 0 + j ≡ j = omega arith in
      let e : length before + j + (length lits + 1) ≡ length before + (length lits + suc j) = omega arith in
      rw (z, get_or-append-add before (lits ++ (pos b ∷ (ws ++ zs))) j (pos 0), e, beyond (suc j))

  pairs_back : pairs_at held (length lits + 1) (length before) (length lits) ≡ ps
  pairs_back =
      span_shift (pair_at held (length lits + 1)) (pair_of ps) (length before) 0 (length lits) (λ j l. pair_there j)
      ∙ ap (span (pair_of ps) 0) (length_map (λ (q : Weighed). q.literal) ps)
      ∙ fronts pair_of (λ q qs. refl) (λ q qs j. refl) ps

body_back : (b : Body) (before zs : List ℤ) → body_from (before ++ (body_list b ++ (body_tail b ++ zs))) (weighs b) (length before) (length (body_list b)) ≡ b
body_back (normal ls) before zs = rw (list_at (pos 0) before ls zs)
body_back (weighted b ps) before zs = rw (bound_back before b ps zs, pairs_back before b ps zs)

-- a rule among others: its head after xs, its body after that
module _ (xs : List ℤ) (r : Rule) (zs : List ℤ) (p : RuleIn 1024 r) where
  abbrev among : List ℤ
  among = xs ++ (rule_laid r ++ zs)

  abbrev hs : List ℤ
  hs = map pos (head_list r.head)

  abbrev after : List ℤ
  after = body_list r.body ++ (body_tail r.body ++ zs)

  by_head : among ≡ xs ++ (hs ++ after)
  by_head = rw (append_assoc hs (body_list r.body ++ body_tail r.body) zs, append_assoc (body_list r.body) (body_tail r.body) zs)

  by_body : among ≡ (xs ++ hs) ++ after
  by_body = by_head ∙ sym (append_assoc xs hs after)

  body_place : length (xs ++ hs) ≡ length xs + length (head_list r.head)
  body_place = omega (arith, length-append xs hs, length_map pos (head_list r.head))

  body_there : body_from among (weighs r.body) (length xs + length (head_list r.head)) (length (body_list r.body)) ≡ r.body
  body_there = rw (by_body, ← body_place) (body_back r.body (xs ++ hs) zs)

  literals_there : literals_at among (length xs + length (head_list r.head)) (length (body_list r.body)) ≡ body_list r.body
  literals_there = rw (by_body, ← body_place) (list_at (pos 0) (xs ++ hs) (body_list r.body) (body_tail r.body ++ zs))

  head_there : head_at among (row_of (length xs) r p) ≡ r.head
  head_there = rw by_head (head_back r.head (body_kind r.body) xs after (length (body_list r.body)))

  rule_back : rule_at among (row_of (length xs) r p) ≡ r
  rule_back = rw (head_there, kind_weighted r.body, body_there)

  row_formed : RowIn among (row_of (length xs) r p)
  row_formed =
      let long = length-append xs (rule_laid r ++ zs) in
      let part = length-append (rule_laid r) zs in
      record {
        inside = omega (arith, long, part, laid_sizes r);
        single = λ q. head_single r.head (sym (kind_choice r.head) ∙ q);
        weighed = λ q. let w : weighs r.body ≡ true = sym (kind_weighted r.body) ∙ q in omega (arith, long, part, laid_sizes r, rw w at (tail_length r.body));
        signed = λ q. let w : weighs r.body ≡ true = sym (kind_weighted r.body) ∙ q in kind_mixed r.body w ∙ ap (λ (ls : List ℤ). not (one_signed ls)) (sym literals_there);
      }

-- ---- symbols: where the name lies in the text w, and the condition

abbrev condition_laid : Symbol → List ℤ
condition_laid y = y.condition

module _ (w : List ℕ) where
  abbrev put_symbol : ℕ → (y : Symbol) → NameLies w y → SymbolRow
  put_symbol i y p = record { name = length p.before; length = length y.name; condition = i; literals = length y.condition }

  name_inside : (y : Symbol) (p : NameLies w y) → length p.before + length y.name ≤ length w
  name_inside y p = omega (arith, ap length p.is, length-append p.before (y.name ++ p.after), length-append y.name p.after)

  name_back : (y : Symbol) (p : NameLies w y) (t : List ℕ) → bytes_at (w ++ t) (length p.before) (length y.name) ≡ y.name
  name_back y p t =
      let e : w ++ t ≡ p.before ++ (y.name ++ (p.after ++ t)) =
      ap (λ (v : List ℕ). v ++ t) p.is ∙ append_assoc p.before (y.name ++ p.after) t ∙ rw (append_assoc y.name p.after t) in
      rw e (list_at 0 p.before y.name (p.after ++ t))

  symbol_back : (t : List ℕ) (xs : List ℤ) (y : Symbol) (zs : List ℤ) (p : NameLies w y) → symbol_at (w ++ t) (xs ++ (y.condition ++ zs)) (put_symbol (length xs) y p) ≡ y
  symbol_back t xs y zs p = rw (name_back y p t, list_at (pos 0) xs y.condition zs)

-- ---- the tables of a program P and its text w

module _ (P : Program) (w : List ℕ) (good : Good P) (short : length w ≤ 65536) (names : All (NameLies w) P.symbols) where
  abbrev atoms_in_lem : All (RuleIn 1024) P.rules
  atoms_in_lem = good.fine.atoms.rules

  abbrev counts : Counts
  counts =
      record {
        rules = length P.rules;
        used = sum rule_size P.rules;
        filled = length (laid rule_laid P.rules);
        entries = length P.entries;
        levels = length P.priorities;
        symbols = length P.symbols;
        conditions = sum condition_size P.symbols;
        names = sum name_size P.symbols;
        text = length w;
        atoms = atoms P;
      }

  abbrev witness : Stored
  witness =
      record {
        text = padded 0 65537 w;
        pool = padded (pos 0) 37889 (laid rule_laid P.rules);
        rules = table (RuleIn 1024) rule_laid row_of no_row 2049 P.rules atoms_in_lem;
        entries = padded no_entry 1536 P.entries;
        levels = padded (pos 0) 9 P.priorities;
        conditions = padded (pos 0) 3072 (laid condition_laid P.symbols);
        symbols = table (NameLies w) condition_laid (put_symbol w) no_symbol 513 P.symbols names;
        counts = counts;
      }

  witness_text : stored_text witness ≡ w
  witness_text = list_front 0 w _

  rules_is : (stored_program witness).rules ≡ P.rules
  rules_is = table_back (RuleIn 1024) rule_laid row_of no_row 2049 P.rules atoms_in_lem rule_at rule_back _

  levels_is : (stored_program witness).priorities ≡ P.priorities
  levels_is = list_front (pos 0) P.priorities _

  entries_is : (stored_program witness).entries ≡ P.entries
  entries_is = list_front no_entry P.entries _

  symbols_is : (stored_program witness).symbols ≡ P.symbols
  symbols_is = table_back (NameLies w) condition_laid (put_symbol w) no_symbol 513 P.symbols names (symbol_at witness.text) (symbol_back w _) _

  witness_program : stored_program witness ≡ P
  witness_program = rw (rules_is, levels_is, entries_is, symbols_is)

  within : Within counts
  unfolding fits
  within = limits_within counts good.fit

  conditions_used : length (laid condition_laid P.symbols) ≡ sum condition_size P.symbols
  conditions_used = laid_length condition_laid condition_size (λ y. refl) P.symbols

  sized : Sized (lists_of witness)
  sized =
      record {
        text = padded_length 0 65537 w (omega arith);
        pool = padded_length (pos 0) 37889 (laid rule_laid P.rules) (omega (arith, rules_few P.rules, within.used, within.rules));
        rules = table_length (RuleIn 1024) rule_laid row_of no_row 2049 P.rules atoms_in_lem (omega (arith, within.rules));
        entries = padded_length no_entry 1536 P.entries (omega (arith, within.entries));
        levels = padded_length (pos 0) 9 P.priorities (omega (arith, within.levels));
        conditions = padded_length (pos 0) 3072 (laid condition_laid P.symbols) (omega (arith, conditions_used, within.conditions));
        symbols = table_length (NameLies w) condition_laid (put_symbol w) no_symbol 513 P.symbols names (omega (arith, within.symbols));
      }

  row_in : (j : ℕ) → j < length P.rules → RowIn witness.pool (row_at witness.rules j)
  row_in = table_hold (RuleIn 1024) rule_laid row_of no_row 2049 P.rules atoms_in_lem RowIn row_formed _

  abbrev SymbolIn : SymbolRow → Type 0
  SymbolIn r = (r.name + r.length ≤ length w) × (r.condition + r.literals ≤ sum condition_size P.symbols)

  symbol_in : (j : ℕ) → j < length P.symbols → SymbolIn (symbol_row witness.symbols j)
  symbol_in = table_all (NameLies w) condition_laid (put_symbol w) no_symbol 513 P.symbols names SymbolIn (sum condition_size P.symbols) (λ i y p l. (name_inside w y p, l)) (omega (arith, conditions_used))

  named_in : ProgramIn (atoms P) (stored_program witness)
  named_in = subst (ProgramIn (atoms P)) (sym witness_program) (program_in P good.fine.atoms)

  witness_formed : WellFormed witness
  witness_formed =
      record {
        sized = sized;
        within = within;
        text = short;
        size = omega (arith, ap (λ (q : Program). sum rule_size q.rules) witness_program, within.used);
        atoms = ap atoms (sym witness_program);
        formed = record { few = atoms_bound P good.fine.atoms; long = omega (arith, within.rules, sized.rules); row = row_in; atoms = named_in.rules };
        named = named_in;
        weights = subst (λ (q : Program). All (λ (e : Entry). nat_abs e.weight ≤ 1000000) q.entries) (sym witness_program) good.fine.weights;
        bodies = subst (λ (q : Program). All (λ (r : Rule). BodyWeighs r.body) q.rules) (sym witness_program) good.fine.bodies;
        levels = subst (λ (q : Program). Descending q.priorities) (sym witness_program) good.fine.down;
        symbols = symbol_in;
      }

-- THE law: what a load of an accepted text has to store is there
pub accepted_stored : (s : List ℕ) (P : Program) (w : List ℕ) → text_of s ≡ accepted P w → (p : Stored) × WellFormed p × (stored_program p ≡ P) × (stored_text p ≡ w)
accepted_stored s P w e =
    let good = accepted_good s P w e in
    let short : length w ≤ 65536 = omega (arith, stored_short s P w e, accepted_short s P w e) in
    let names = names_in s P w e in
    (witness P w good short names, witness_formed P w good short names, witness_program P w good short names, witness_text P w good short names)
