-- Reading what was written gives the same program and the same text. Assumes nothing.
use mathlib.Core.Path.{◌≡◌, refl, sym, ap, ◌∙◌}
use mathlib.Core.Bool.{Bool, true, false}
use mathlib.Core.List.{List, [], ◌∷◌, ◌++◌, append_assoc}
use Prim.Native.Nat.{ℕ, suc, ◌+◌, ◌≤◌}
use native.Mathlib.Omega.{arith}
use lib.Dec.{eqb, ltb}
use lib.ListN.{length, length-append}
use borrow.Author.Tests.{ltb-false, le-ltb}
use Rattle.asp.specs.Sets.{pick}
use Rattle.asp.specs.Program.{Program, All}
use Rattle.aspif_fields.specs.Fields.{Read, got, bad}
use Rattle.aspif_lines.specs.Text.{Statement, rule, minimise, symbol, comment, final, statement, Reading, add, line, fits, pieces, longer, nothing, Step, last, goes, led, stepped_line, judged_line, lines, same_bytes, header, opened_reading, headed, text_of, Answer, accepted, refused}
use Rattle.aspif.proofs.Onwards.{pieces_some, goes_on}
use Rattle.aspif.proofs.Texts.{same_true, same_refl}
use Rattle.aspif_lines.proofs.Spans.{append_nil}

-- ---- lines: bytes but 10, each with a byte 10 after it

pub record Clean (l : List ℕ) : Type 0 where
  pub clean : All (λ (b : ℕ). eqb b 10 ≡ false) l

unfoldable pub joined : List (List ℕ) → List ℕ
joined [] = []
joined (l ∷ ls) = line l ++ joined ls

pieces_line : (l : List ℕ) (s : List ℕ) → All (λ (b : ℕ). eqb b 10 ≡ false) l → pieces (line l ++ s) ≡ l ∷ pieces s
unfolding pieces
pieces_line [] s c = refl
pieces_line (b ∷ l) s c = rw (c.0, pieces_line l s c.1)

-- the pieces of whole lines and what follows them
pub pieces_joined : (ls : List (List ℕ)) (s : List ℕ) → All Clean ls → pieces (joined ls ++ s) ≡ ls ++ pieces s
unfolding joined
pieces_joined [] s c = refl
pieces_joined (l ∷ ls) s c = rw (append_assoc (line l) (joined ls) s, pieces_line l (joined ls ++ s) c.0.clean, pieces_joined ls s c.1)

clean_longer : (b : ℕ) (ls : List (List ℕ)) → eqb b 10 ≡ false → All Clean ls → All Clean (longer b ls)
clean_longer b [] e c = tt
clean_longer b (l ∷ ls) e c = (record { clean = (e, c.0.clean) }, c.1)

pub pieces_clean : (s : List ℕ) → All Clean (pieces s)
unfolding pieces
pieces_clean [] = (record { clean = tt }, tt)
pieces_clean (b ∷ s) = go (eqb b 10) refl (pieces_clean s)
  where
    go : (t : Bool) → eqb b 10 ≡ t → All Clean (pieces s) → All Clean (pick t ([] ∷ pieces s) (longer b (pieces s)))
    go true e c = (record { clean = tt }, c)
    go false e c = clean_longer b (pieces s) e c

-- ---- the lines that are kept, and what they say

record Kept (q : Reading) (p : Program) (t : List ℕ) : Type 0 where
  pub kept : List (List ℕ)
  pub clean : All Clean kept
  pub text : t ≡ q.text ++ joined kept
  pub again : (m : ℕ) → lines m q (kept ++ ([] ∷ [])) ≡ accepted p t

some_last : (ls : List (List ℕ)) → ls ++ ([] ∷ []) ≡ [] → ⊥
some_last [] e = let z : ◌≡◌ {A = ℕ} 0 1 = cc in omega arith
some_last (l ∷ ls) e = let z : ◌≡◌ {A = ℕ} 0 1 = cc in omega arith

absurd_refused : {A : Type 0} {c n : ℕ} {p : Program} {t : List ℕ} → refused c n ≡ accepted p t → A
absurd_refused e = let z : ◌≡◌ {A = ℕ} 0 1 = cc in absurd (omega arith)

pick_accepted : (b : Bool) (x : Answer) (c n : ℕ) (p : Program) (t : List ℕ) → pick b x (refused c n) ≡ accepted p t → (b ≡ true) × (x ≡ accepted p t)
pick_accepted true x c n p t e = (refl, e)
pick_accepted false x c n p t e = absurd_refused e

-- a line that is kept, before those that are
keep : (l : List ℕ) (q r : Reading) (p : Program) (t : List ℕ) → All (λ (b : ℕ). eqb b 10 ≡ false) l → stepped_line l q ≡ goes r → r.text ≡ q.text ++ line l → fits r.program ≡ true → Kept r p t → Kept q p t
unfolding lines joined
keep l q r p t c e x f k =
    record {
      kept = l ∷ k.kept;
      clean = (record { clean = c }, k.clean);
      text = k.text ∙ rw (x, append_assoc q.text (line l) (joined k.kept));
      again = λ m. rw (e, goes_on m r (λ (w : Reading). lines (m + 1) w (k.kept ++ ([] ∷ []))) (k.kept ++ ([] ∷ [])) (some_last k.kept), f) (k.again (m + 1));
    }

module _ (n : ℕ) (l : List ℕ) (q : Reading) (p : Program) (t : List ℕ) (c : All (λ (b : ℕ). eqb b 10 ≡ false) l) where
  unfoldable leads : Read Statement → Step
  leads x = led l q x

  kept_goes : (r : Reading) (ls : List (List ℕ)) → stepped_line l q ≡ goes r → r.text ≡ q.text ++ line l → ((w : Reading) → lines (n + 1) w ls ≡ accepted p t → Kept w p t)
      → judged_line n ls (goes r) (λ (w : Reading). lines (n + 1) w ls) ≡ accepted p t → Kept q p t
  kept_goes r [] s x f e = absurd_refused e
  kept_goes r (m ∷ ms) s x f e = let h = pick_accepted (fits r.program) (lines (n + 1) r (m ∷ ms)) 5 n p t e in keep l q r p t c s x h.0 (f r h.1)

  kept_comment : (ls : List (List ℕ)) → ((w : Reading) → lines (n + 1) w ls ≡ accepted p t → Kept w p t) → judged_line n ls (goes q) (λ (w : Reading). lines (n + 1) w ls) ≡ accepted p t → Kept q p t
  kept_comment [] f e = absurd_refused e
  kept_comment (m ∷ ms) f e = f q (pick_accepted (fits q.program) (lines (n + 1) q (m ∷ ms)) 5 n p t e).1

  kept_final : (ls : List (List ℕ)) (go : Reading → Answer) → stepped_line l q ≡ last (add l final q) → judged_line n ls (last (add l final q)) go ≡ accepted p t → Kept q p t
  unfolding lines joined
  kept_final [] go s e = absurd_refused e
  kept_final (m ∷ ms) go s e =
      let h = (pick_accepted (nothing (m ∷ ms)) (accepted q.program (q.text ++ line l)) 2 (n + 1) p t e).1 in
      let x : q.text ++ line l ≡ t = cc in
      record { kept = l ∷ []; clean = (record { clean = c }, tt); text = rw (append_nil (line l)) (sym x); again = λ m. rw s h }

  kept_line : (x : Read Statement) → statement l ≡ x → (ls : List (List ℕ)) → ((w : Reading) → lines (n + 1) w ls ≡ accepted p t → Kept w p t)
      → judged_line n ls (led l q x) (λ (w : Reading). lines (n + 1) w ls) ≡ accepted p t → Kept q p t
  unfolding stepped_line
  kept_line (bad k) s ls f e = absurd_refused e
  kept_line (got (rule r) u) s ls f e = kept_goes (add l (rule r) q) ls (rw s) refl f e
  kept_line (got (minimise k es) u) s ls f e = kept_goes (add l (minimise k es) q) ls (rw s) refl f e
  kept_line (got (symbol y) u) s ls f e = kept_goes (add l (symbol y) q) ls (rw s) refl f e
  kept_line (got comment u) s ls f e = kept_comment ls f e
  kept_line (got final u) s ls f e = kept_final ls (λ (w : Reading). lines (n + 1) w ls) (rw s) e

kept_lines : (n : ℕ) (q : Reading) (ls : List (List ℕ)) (p : Program) (t : List ℕ) → All Clean ls → lines n q ls ≡ accepted p t → Kept q p t
unfolding lines stepped_line
kept_lines n q [] p t c e = absurd_refused e
kept_lines n q (l ∷ ls) p t c e = kept_line n l q p t c.0.clean (statement l) refl ls (λ w h. kept_lines (n + 1) w ls p t c.1 h) e

-- ---- the stored text is no longer than the text

unfoldable sizes : List (List ℕ) → ℕ
sizes [] = 0
sizes (l ∷ ls) = length l + 1 + sizes ls

sizes_longer : (b : ℕ) (ls : List (List ℕ)) → (ls ≡ [] → ⊥) → sizes (longer b ls) ≡ sizes ls + 1
unfolding sizes
sizes_longer b [] h = absurd (h refl)
sizes_longer b (l ∷ ls) h = omega arith

sizes_pieces : (s : List ℕ) → sizes (pieces s) ≡ length s + 1
unfolding pieces sizes
sizes_pieces [] = refl
sizes_pieces (b ∷ s) = go (eqb b 10) (sizes_pieces s)
  where
    go : (t : Bool) → sizes (pieces s) ≡ length s + 1 → sizes (pick t ([] ∷ pieces s) (longer b (pieces s))) ≡ suc (length s) + 1
    go true e = omega (arith, e)
    go false e = omega (arith, e, sizes_longer b (pieces s) (pieces_some s))

abbrev Bounded : ℕ → Answer → Type 0
Bounded k (accepted p t) = length t + 1 ≤ k
Bounded k (refused c m) = Unit {0}

bounded_pick : (k : ℕ) (b : Bool) (x y : Answer) → Bounded k x → Bounded k y → Bounded k (pick b x y)
bounded_pick k true x y f g = f
bounded_pick k false x y f g = g

bounded_less : (j k : ℕ) (x : Answer) → j ≤ k → Bounded j x → Bounded k x
bounded_less j k (accepted p t) h b = omega arith
bounded_less j k (refused c m) h b = tt

line_length : (t l : List ℕ) → length (t ++ line l) ≡ length t + (length l + 1)
line_length t l = omega (arith, length-append t (line l), length-append l (10 ∷ []))

module _ (n : ℕ) (l : List ℕ) (q : Reading) (go : Reading → Answer) where
  abbrev Within : List (List ℕ) → Step → Type 0
  Within ls st = ((r : Reading) → Bounded (length r.text + sizes ls) (go r)) → Bounded (length q.text + (length l + 1 + sizes ls)) (judged_line n ls st go)

  goes_bounded : (ls : List (List ℕ)) (r : Reading) → length r.text ≤ length q.text + (length l + 1) → Within ls (goes r)
  goes_bounded [] r h f = tt
  goes_bounded (m ∷ ms) r h f =
      let k : ℕ = length q.text + (length l + 1 + sizes (m ∷ ms)) in
      bounded_pick k (fits r.program) (go r) (refused 5 n) (bounded_less (length r.text + sizes (m ∷ ms)) k (go r) (omega arith) (f r)) tt

  final_bounded : (ls : List (List ℕ)) → Within ls (last (add l final q))
  unfolding sizes
  final_bounded [] f = tt
  final_bounded (m ∷ ms) f =
      bounded_pick (length q.text + (length l + 1 + sizes (m ∷ ms))) (nothing (m ∷ ms)) (accepted q.program (q.text ++ line l)) (refused 2 (n + 1)) (omega (arith, line_length q.text l)) tt

  line_bounded : (ls : List (List ℕ)) (x : Read Statement) → Within ls (led l q x)
  line_bounded ls (bad c) f = tt
  line_bounded ls (got (rule r) u) f = goes_bounded ls (add l (rule r) q) (omega (arith, line_length q.text l)) f
  line_bounded ls (got (minimise k es) u) f = goes_bounded ls (add l (minimise k es) q) (omega (arith, line_length q.text l)) f
  line_bounded ls (got (symbol y) u) f = goes_bounded ls (add l (symbol y) q) (omega (arith, line_length q.text l)) f
  line_bounded ls (got comment u) f = goes_bounded ls q (omega arith) f
  line_bounded ls (got final u) f = final_bounded ls f

lines_bounded : (n : ℕ) (q : Reading) (ls : List (List ℕ)) → Bounded (length q.text + sizes ls) (lines n q ls)
unfolding lines stepped_line sizes
lines_bounded n q [] = tt
lines_bounded n q (l ∷ ls) = line_bounded n l q (λ (r : Reading). lines (n + 1) r ls) ls (statement l) (λ r. lines_bounded (n + 1) r ls)

-- ---- texts

-- an accepted text: line 1, and lines that are accepted after it
record Opens (s : List ℕ) (p : Program) (t : List ℕ) : Type 0 where
  pub rest : List (List ℕ)
  pub fit : length s ≤ 65536
  pub split : pieces s ≡ header ∷ rest
  pub lead : lines 2 opened_reading rest ≡ accepted p t

opens : (s : List ℕ) (p : Program) (t : List ℕ) → text_of s ≡ accepted p t → Opens s p t
unfolding text_of
opens s p t e = go (ltb 65536 (length s)) refl e
  where
    parts : (ls : List (List ℕ)) → pieces s ≡ ls → length s ≤ 65536 → headed ls ≡ accepted p t → Opens s p t
    parts [] x f h = absurd_refused h
    parts (l ∷ []) x f h = absurd_refused (pick_accepted (same_bytes l header) (refused 2 1) 1 1 p t h).1
    parts (l ∷ m ∷ ms) x f h =
        let k = pick_accepted (same_bytes l header) (lines 2 opened_reading (m ∷ ms)) 1 1 p t h in
        record { rest = m ∷ ms; fit = f; split = x ∙ rw (same_true l header k.0); lead = k.1 }

    go : (b : Bool) → ltb 65536 (length s) ≡ b → pick b (refused 5 0) (headed (pieces s)) ≡ accepted p t → Opens s p t
    go true x h = absurd_refused h
    go false x h = parts (pieces s) refl (ltb-false 65536 (length s) x) h

-- the stored text is no longer than the text
pub stored_short : (s : List ℕ) (p : Program) (t : List ℕ) → text_of s ≡ accepted p t → length t ≤ length s
unfolding sizes
stored_short s p t e =
    let o = opens s p t e in
    let b = rw o.lead at (lines_bounded 2 opened_reading o.rest) in
    omega (arith, b, sizes_pieces s, ap sizes o.split)

pub accepted_short : (s : List ℕ) (p : Program) (t : List ℕ) → text_of s ≡ accepted p t → length s ≤ 65536
accepted_short s p t e = (opens s p t e).fit

header_clean : Clean header
header_clean = record { clean = (refl, (refl, (refl, (refl, (refl, (refl, (refl, (refl, (refl, tt))))))))) }

pieces_nothing : pieces [] ≡ [] ∷ []
unfolding pieces
pieces_nothing = refl

headed_again : (ls : List (List ℕ)) → (ls ≡ [] → ⊥) → headed (header ∷ ls) ≡ lines 2 opened_reading ls
headed_again [] h = absurd (h refl)
headed_again (l ∷ ls) h = rw (same_refl header)

-- THE round trip: what an accepted text is stored as is accepted with the same program, and stored as it is
pub round_trip : (s : List ℕ) (p : Program) (t : List ℕ) → text_of s ≡ accepted p t → text_of t ≡ accepted p t
unfolding text_of joined
round_trip s p t e =
    let o = opens s p t e in
    let c : All Clean (header ∷ o.rest) = rw o.split at (pieces_clean s) in
    let k = kept_lines 2 opened_reading o.rest p t c.1 o.lead in
    let x : t ≡ joined (header ∷ k.kept) = k.text in
    let y : pieces t ≡ header ∷ (k.kept ++ ([] ∷ [])) =
    ap pieces x ∙ ap pieces (sym (append_nil (joined (header ∷ k.kept)))) ∙ pieces_joined (header ∷ k.kept) [] (header_clean, k.clean) ∙ ap (λ (ps : List (List ℕ)). header ∷ (k.kept ++ ps)) pieces_nothing in
    let f : length t ≤ 65536 = omega (arith, stored_short s p t e, o.fit) in
    rw (le-ltb 65536 (length t) f, y, headed_again (k.kept ++ ([] ∷ [])) (some_last k.kept)) (k.again 2)
