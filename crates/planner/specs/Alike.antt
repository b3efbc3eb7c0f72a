-- Services that hold the same program, text and optimization, however their tables lie; and what two of them answer after a load of one text. Assumes nothing: these
-- are definitions.
use Rattle.std.specs.Prelude.{◌≡◌, List, [], ◌∷◌, ℕ, Some, None}
use Rattle.asp.specs.Program.{Program}
use Rattle.aspif_lines.specs.Text.{accepted, text_of}
use Rattle.aspif.specs.Store.{stored_program, stored_text, WellFormed}
use Rattle.planner.specs.declared.service.Loaded.{Loaded}
use Rattle.planner.specs.Held.{Holding, fresh_service}
use Rattle.planner.specs.Tally.{Call, load, Reply, Does, Tally, begin, feed, Leads}

-- ---- alike

-- what both hold, where a program is loaded
pub record SameHeld (s u : Loaded) : Type 0 where
  pub here : WellFormed s.stored
  pub there : WellFormed u.stored
  pub program : stored_program s.stored ≡ stored_program u.stored
  pub text : stored_text s.stored ≡ stored_text u.stored
  pub search : s.search ≡ u.search

-- neither holds a program, or both the same
abbrev pub Alike : Holding → Holding → Type 0
Alike None None = Unit {0}
Alike None (Some u) = ⊥
Alike (Some s) None = ⊥
Alike (Some s) (Some u) = SameHeld s u

-- one call on both answers alike and leaves them alike
abbrev pub AnswersAlike : Type 0
AnswersAlike = (c : Call) (s u : Holding) → Alike s u → (a b : Reply c) (s' u' : Holding) → Does c s a s' → Does c u b u' → (a ≡ b) × Alike s' u'

-- ---- lists of calls

-- what they answer, one by one
abbrev pub Replies : List Call → Type 0
Replies [] = Unit {0}
Replies (c ∷ cs) = Reply c × Replies cs

abbrev pub replies_of : (cs : List Call) (s : Holding) (T : Tally) (u : Holding) (U : Tally) → Leads cs s T u U → Replies cs
replies_of [] s T u U l = tt
replies_of (c ∷ cs) s T u U l = (l.0, replies_of cs l.1 (feed c l.0 T) u U l.3)

-- "accepted, the service is as a fresh one given it": two services, each left by any list of calls from a fresh one, are given one text, which is accepted; then
-- every list of calls gets the same answers from both, one by one, and the tallies beside them agree. With no call before, one of them is a fresh one.
abbrev pub LoadForgets : Type 0
LoadForgets =
    (t : List ℕ) (P : Program) (w : List ℕ) → text_of t ≡ accepted P w
    → (cs : List Call) (s : Holding) (T : Tally) → Leads cs fresh_service begin s T
    → (ds : List Call) (u : Holding) (U : Tally) → Leads ds fresh_service begin u U
    → (es : List Call) (s' : Holding) (T' : Tally) (l : Leads (load t ∷ es) s T s' T') (u' : Holding) (U' : Tally) (m : Leads (load t ∷ es) u U u' U')
    → (replies_of (load t ∷ es) s T s' T' l ≡ replies_of (load t ∷ es) u U u' U' m) × (T' ≡ U') × Alike s' u'
