-- Laws that a wrong definition of texts would break. Assumes nothing.
-- 1. A refusal found on line k does not depend on what follows that line.
-- 2. A comment line may be put in after any line but the `0` line: program and stored text stay.
use mathlib.Core.Path.{◌≡◌, refl, sym, ◌∙◌}
use mathlib.Core.Bool.{Bool, true, false}
use mathlib.Core.List.{List, [], ◌∷◌, ◌++◌}
use Prim.Native.Nat.{ℕ, ◌+◌, ◌≤◌, ◌<◌}
use native.Mathlib.Omega.{arith}
use lib.ListN.{length}
use borrow.Author.Tests.{le-ltb}
use Rattle.asp.specs.Sets.{pick}
use Rattle.asp.specs.Program.{Program, All}
use Rattle.aspif_fields.specs.Fields.{got}
use Rattle.aspif_lines.specs.Text.{comment, statement, Reading, fits, pieces, nothing, Step, stop, last, goes, stepped_line, judged_line, lines, same_bytes, header, opened_reading, headed, sum, text_of, Answer, accepted, refused}
use Rattle.aspif.proofs.Onwards.{pieces_some, nothing_more, goes_on, last_on}
use Rattle.aspif.proofs.RoundTrip.{Clean, joined, pieces_joined}

-- ---- 1

-- lines from m on are refused on line m or after it
abbrev From : ℕ → Answer → Type 0
From m (accepted p t) = Unit {0}
From m (refused c k) = m ≤ k

from_pick : (m : ℕ) (b : Bool) (x y : Answer) → From m x → From m y → From m (pick b x y)
from_pick m true x y f g = f
from_pick m false x y f g = g

from_less : (m n : ℕ) (x : Answer) → m ≤ n → From n x → From m x
from_less m n (accepted p t) h f = tt
from_less m n (refused c k) h f = omega arith

judged_from : (m : ℕ) (ls : List (List ℕ)) (st : Step) (go : Reading → Answer) → ((q : Reading) → From (m + 1) (go q)) → From m (judged_line m ls st go)
judged_from m ls (stop c) go f = omega arith
judged_from m [] (last q) go f = omega arith
judged_from m [] (goes q) go f = omega arith
judged_from m (l ∷ ls) (last q) go f = from_pick m (nothing (l ∷ ls)) (accepted q.program q.text) (refused 2 (m + 1)) tt (omega arith)
judged_from m (l ∷ ls) (goes q) go f = from_pick m (fits q.program) (go q) (refused 5 m) (from_less m (m + 1) (go q) (omega arith) (f q)) (omega arith)

lines_from : (m : ℕ) (q : Reading) (ls : List (List ℕ)) → From m (lines m q ls)
unfolding lines
lines_from m q [] = omega arith
lines_from m q (l ∷ ls) = judged_from m ls (stepped_line l q) (λ (r : Reading). lines (m + 1) r ls) (λ r. lines_from (m + 1) r ls)

absurd_accepted : {A : Type 0} {c n : ℕ} {p : Program} {t : List ℕ} → accepted p t ≡ refused c n → A
absurd_accepted e = let z : ◌≡◌ {A = ℕ} 0 1 = cc in absurd (omega arith)

some_append : (ls rs : List (List ℕ)) → (rs ≡ [] → ⊥) → ls ++ rs ≡ [] → ⊥
some_append [] rs h e = h e
some_append (l ∷ ls) rs h e = let z : ◌≡◌ {A = ℕ} 0 1 = cc in omega arith

nothing_append : (l : List ℕ) (ls rs : List (List ℕ)) → (rs ≡ [] → ⊥) → nothing (l ∷ (ls ++ rs)) ≡ false
nothing_append [] ls rs h = go (ls ++ rs) (some_append ls rs h)
  where
    go : (xs : List (List ℕ)) → (xs ≡ [] → ⊥) → nothing ([] ∷ xs) ≡ false
    go [] g = absurd (g refl)
    go (x ∷ xs) g = refl
nothing_append (b ∷ l) ls rs h = refl

module _ (rs rs' : List (List ℕ)) (some : rs ≡ [] → ⊥) (some' : rs' ≡ [] → ⊥) (c k : ℕ) where
  -- what is found on the line that ls is the rest after
  last_same : (m : ℕ) (q : Reading) (ls : List (List ℕ)) (go go' : Reading → Answer) → k < m + 1 + length ls
      → judged_line m (ls ++ rs) (last q) go ≡ refused c k → judged_line m (ls ++ rs') (last q) go' ≡ refused c k
  last_same m q [] go go' h e = ends (nothing rs) (sym (last_on m q go rs some) ∙ e)
    where
      ends : (b : Bool) → pick b (accepted q.program q.text) (refused 2 (m + 1)) ≡ refused c k → judged_line m rs' (last q) go' ≡ refused c k
      ends true x = absurd_accepted x
      ends false x = let z : m + 1 ≡ k = cc in absurd (omega arith)
  last_same m q (l ∷ ls) go go' h e = rw (nothing_append l ls rs' some') (rw (nothing_append l ls rs some) at e)

  goes_same : (m : ℕ) (q : Reading) (ls : List (List ℕ)) (go go' : Reading → Answer) → (go q ≡ refused c k → go' q ≡ refused c k)
      → judged_line m (ls ++ rs) (goes q) go ≡ refused c k → judged_line m (ls ++ rs') (goes q) go' ≡ refused c k
  goes_same m q ls go go' f e = goes_on m q go' (ls ++ rs') (some_append ls rs' some') ∙ by (fits q.program) (sym (goes_on m q go (ls ++ rs) (some_append ls rs some)) ∙ e)
    where
      by : (b : Bool) → pick b (go q) (refused 5 m) ≡ refused c k → pick b (go' q) (refused 5 m) ≡ refused c k
      by true x = f x
      by false x = x

  judged_same : (m : ℕ) (ls : List (List ℕ)) (st : Step) (go go' : Reading → Answer) → k < m + 1 + length ls → ((q : Reading) → go q ≡ refused c k → go' q ≡ refused c k)
      → judged_line m (ls ++ rs) st go ≡ refused c k → judged_line m (ls ++ rs') st go' ≡ refused c k
  judged_same m ls (stop d) go go' h f e = e
  judged_same m ls (last q) go go' h f e = last_same m q ls go go' h e
  judged_same m ls (goes q) go go' h f e = goes_same m q ls go go' (f q) e

  pub lines_same : (m : ℕ) (q : Reading) (ls : List (List ℕ)) → k < m + length ls → lines m q (ls ++ rs) ≡ refused c k → lines m q (ls ++ rs') ≡ refused c k
  unfolding lines
  lines_same m q [] h e = absurd (late (lines m q rs) (lines_from m q rs) e)
    where
      late : (x : Answer) → From m x → x ≡ refused c k → ⊥
      late (accepted p t) f y = absurd_accepted y
      late (refused d j) f y = let z : j ≡ k = cc in omega arith
  lines_same m q (l ∷ ls) h e = judged_same m ls (stepped_line l q) (λ (r : Reading). lines (m + 1) r (ls ++ rs)) (λ (r : Reading). lines (m + 1) r (ls ++ rs')) (omega arith) (λ r. lines_same (m + 1) r ls (omega arith)) e

headed_lines : (l : List ℕ) (ps : List (List ℕ)) → (ps ≡ [] → ⊥) → headed (l ∷ ps) ≡ pick (same_bytes l header) (lines 2 opened_reading ps) (refused 1 1)
headed_lines l [] h = absurd (h refl)
headed_lines l (m ∷ ms) h = refl

-- THE law: texts that agree in their first lines, all of them with their byte 10, are refused alike where the first of them is refused on one of these lines
pub same_refusal : (l : List ℕ) (ls : List (List ℕ)) (s s' : List ℕ) (c k : ℕ) → All Clean (l ∷ ls) → k < 2 + length ls
    → length (joined (l ∷ ls) ++ s) ≤ 65536 → length (joined (l ∷ ls) ++ s') ≤ 65536 → text_of (joined (l ∷ ls) ++ s) ≡ refused c k → text_of (joined (l ∷ ls) ++ s') ≡ refused c k
unfolding text_of
same_refusal l ls s s' c k w h f f' e =
    rw (le-ltb 65536 (length (joined (l ∷ ls) ++ s')) f', pieces_joined (l ∷ ls) s' w, headed_lines l (ls ++ pieces s') (some_append ls (pieces s') (pieces_some s')))
    (by (same_bytes l header) (rw (le-ltb 65536 (length (joined (l ∷ ls) ++ s)) f, pieces_joined (l ∷ ls) s w, headed_lines l (ls ++ pieces s) (some_append ls (pieces s) (pieces_some s))) at e))
  where
    by : (b : Bool) → pick b (lines 2 opened_reading (ls ++ pieces s)) (refused 1 1) ≡ refused c k → pick b (lines 2 opened_reading (ls ++ pieces s')) (refused 1 1) ≡ refused c k
    by true x = lines_same (pieces s) (pieces s') (pieces_some s) (pieces_some s') c k 2 opened_reading ls h x
    by false x = x

-- ---- 2

absurd_refused : {A : Type 0} {c n : ℕ} {p : Program} {t : List ℕ} → refused c n ≡ accepted p t → A
absurd_refused e = let z : ◌≡◌ {A = ℕ} 0 1 = cc in absurd (omega arith)

module _ (p : Program) (t : List ℕ) where
  pick_same : (b : Bool) (x x' : Answer) (c k c' k' : ℕ) → (b ≡ true → x ≡ accepted p t → x' ≡ accepted p t) → pick b x (refused c k) ≡ accepted p t → pick b x' (refused c' k') ≡ accepted p t
  pick_same true x x' c k c' k' f e = f refl e
  pick_same false x x' c k c' k' f e = absurd_refused e

  -- from which line on the lines are numbered is nothing to an accepted text
  judged_number : (m n : ℕ) (ls : List (List ℕ)) (st : Step) (go go' : Reading → Answer) → ((q : Reading) → go q ≡ accepted p t → go' q ≡ accepted p t) → judged_line n ls st go ≡ accepted p t → judged_line m ls st go' ≡ accepted p t
  judged_number m n ls (stop c) go go' f e = absurd_refused e
  judged_number m n [] (last q) go go' f e = absurd_refused e
  judged_number m n [] (goes q) go go' f e = absurd_refused e
  judged_number m n (l ∷ ls) (last q) go go' f e = pick_same (nothing (l ∷ ls)) (accepted q.program q.text) (accepted q.program q.text) 2 (n + 1) 2 (m + 1) (λ b x. x) e
  judged_number m n (l ∷ ls) (goes q) go go' f e = pick_same (fits q.program) (go q) (go' q) 5 n 5 m (λ b. f q) e

  lines_number : (m n : ℕ) (q : Reading) (ls : List (List ℕ)) → lines n q ls ≡ accepted p t → lines m q ls ≡ accepted p t
  unfolding lines
  lines_number m n q [] e = absurd_refused e
  lines_number m n q (l ∷ ls) e = judged_number m n ls (stepped_line l q) (λ (r : Reading). lines (n + 1) r ls) (λ (r : Reading). lines (m + 1) r ls) (λ r. lines_number (m + 1) (n + 1) r ls) e

  module _ (l u : List ℕ) (remark : statement l ≡ got comment u) (rs : List (List ℕ)) (some : rs ≡ [] → ⊥) (more : nothing rs ≡ false) where
    comment_first : (m n : ℕ) (q : Reading) → fits q.program ≡ true → lines n q rs ≡ accepted p t → lines m q (l ∷ rs) ≡ accepted p t
    unfolding lines stepped_line
    comment_first m n q f e = rw (remark, goes_on m q (λ (r : Reading). lines (m + 1) r rs) rs some, f) (lines_number (m + 1) n q rs e)

    not_last : (ls : List (List ℕ)) → nothing (ls ++ rs) ≡ false
    not_last [] = more
    not_last (x ∷ xs) = nothing_append x xs rs some

    judged_comment : (m n : ℕ) (ls : List (List ℕ)) (st : Step) (go go' : Reading → Answer) → ((q : Reading) → fits q.program ≡ true → go q ≡ accepted p t → go' q ≡ accepted p t)
        → judged_line n (ls ++ rs) st go ≡ accepted p t → judged_line m (ls ++ (l ∷ rs)) st go' ≡ accepted p t
    judged_comment m n ls (stop c) go go' f e = absurd_refused e
    judged_comment m n ls (last q) go go' f e = absurd_refused (rw (last_on n q go (ls ++ rs) (some_append ls rs some), not_last ls) at e)
    judged_comment m n ls (goes q) go go' f e =
        goes_on m q go' (ls ++ (l ∷ rs)) (some_append ls (l ∷ rs) (λ z. some_append (l ∷ []) rs some z))
        ∙ pick_same (fits q.program) (go q) (go' q) 5 n 5 m (f q) (sym (goes_on n q go (ls ++ rs) (some_append ls rs some)) ∙ e)

    pub comment_within : (m n : ℕ) (q : Reading) (ls : List (List ℕ)) → fits q.program ≡ true → lines n q (ls ++ rs) ≡ accepted p t → lines m q (ls ++ (l ∷ rs)) ≡ accepted p t
    unfolding lines
    comment_within m n q [] f e = comment_first m n q f e
    comment_within m n q (x ∷ xs) f e =
        judged_comment m n xs (stepped_line x q) (λ (r : Reading). lines (n + 1) r (xs ++ rs)) (λ (r : Reading). lines (m + 1) r (xs ++ (l ∷ rs))) (λ r g. comment_within (m + 1) (n + 1) r xs g) e

none_fits : fits opened_reading.program ≡ true
unfolding fits sum
none_fits = refl

pieces_more : (s : List ℕ) → (s ≡ [] → ⊥) → nothing (pieces s) ≡ false
pieces_more [] h = absurd (h refl)
pieces_more (b ∷ s) h = nothing_more b s

-- THE law: a comment line after any line, where something follows
pub comment_put : (h : List ℕ) (ls : List (List ℕ)) (l u s : List ℕ) (p : Program) (t : List ℕ) → All Clean (h ∷ ls) → Clean l → statement l ≡ got comment u → (s ≡ [] → ⊥)
    → length (joined (h ∷ ls) ++ s) ≤ 65536 → length (joined (h ∷ ls) ++ (joined (l ∷ []) ++ s)) ≤ 65536
    → text_of (joined (h ∷ ls) ++ s) ≡ accepted p t → text_of (joined (h ∷ ls) ++ (joined (l ∷ []) ++ s)) ≡ accepted p t
unfolding text_of
comment_put h ls l u s p t w v remark more f f' e =
    let some : pieces s ≡ [] → ⊥ = pieces_some s in
    let some' : l ∷ pieces s ≡ [] → ⊥ = λ z. some_append (l ∷ []) (pieces s) some z in
    rw (le-ltb 65536 (length (joined (h ∷ ls) ++ (joined (l ∷ []) ++ s))) f', pieces_joined (h ∷ ls) (joined (l ∷ []) ++ s) w, pieces_joined (l ∷ []) s (v, tt), headed_lines h (ls ++ (l ∷ pieces s)) (some_append ls (l ∷ pieces s) some'))
    (pick_same p t (same_bytes h header) (lines 2 opened_reading (ls ++ pieces s)) (lines 2 opened_reading (ls ++ (l ∷ pieces s))) 1 1 1 1
    (λ b. comment_within p t l u remark (pieces s) some (pieces_more s more) 2 2 opened_reading ls none_fits)
    (rw (le-ltb 65536 (length (joined (h ∷ ls) ++ s)) f, pieces_joined (h ∷ ls) s w, headed_lines h (ls ++ pieces s) (some_append ls (pieces s) some)) at e))
