-- "Question and path", of an advance of the state on tables: the question that stands, its path, and what an advance does. Assumes nothing: these are definitions.
use Rattle.std.specs.Prelude.{◌≡◌, false, List, [], ◌∷◌, ◌⊎◌, ℕ, suc, ◌≤◌, ◌<◌, ℤ, pos, nat_abs, length, get_or}
use Rattle.std.proofs.Math.Option.{Option, none, some}
use Rattle.asp.specs.Sets.{Set, In}
use Rattle.asp.specs.Program.{All, Distinct}
use Rattle.asp.specs.Cost.{cost}
use Rattle.search.specs.Trail.{Trail, decision, NotOn, trail_set, flip}
use Rattle.search.specs.Query.{Query, Wanted, Conflict, IsOpen}
use Rattle.search.specs.Machine.{Verdict, open', conflict, wanted}
use Rattle.search.specs.Places.{SoundTrail}
use Rattle.cores.specs.Sums.{Holds}
use Rattle.cores.specs.Soft.{violated}
use Rattle.cores.specs.Level.{room}
use Rattle.cores.specs.Tables.{level_of}
use Rattle.optimum.specs.Optimize.{State, incoherent, open_next, settle, with_model, no_model}
use Rattle.optimum.specs.Optimize as abstract
use Rattle.advancing.specs.declared.state.Phase.{Phase}
use Rattle.advancing.specs.declared.state.Phase.TheVariants.{First, Level, Optimum, Incoherent, Full}
use Rattle.advancing.specs.declared.state.Work.{Work}
use Rattle.advancing.specs.declared.state.Search.{Search}
use Rattle.advancing.specs.Source.{Source, level_at, penalties_in, rules_in}
use Rattle.advancing.specs.Turn.{blamed_of}
use Rattle.search.specs.Places.{fresh_places}
use Rattle.advancing.specs.State.{fresh_blame}
use Rattle.advancing.specs.Advance.{bumped, advance_of}
use Rattle.advancing.specs.Facts.{Model}
use Rattle.advancing.specs.Meaning.{work_of, path_of, meant, wishes_by, test_start, test_work, tests_of}

-- ---- the question

-- "has the settled cost on every settled level": the levels before the one in work, each at the lower bound at which it was settled
abbrev pub Settled : Source → Work → Set → Type 0
Settled S w M = (j : ℕ) → j < w.level → cost M (level_at S.levels j) ≡ get_or w.lowers j (pos 0)

-- "A question assumes the wishes with remaining weight at least the stratum": m is the place of one
abbrev pub Assumed : Work → ℕ → Type 0
Assumed w m = Holds w.stratum (level_of w.tables).rests m

-- M meets the wish at place m
abbrev pub Met : Work → Set → ℕ → Type 0
Met w M m = violated M (level_of w.tables).kinds (level_of w.tables).cores m ≡ false

-- "A question seeks a stable model that has the settled cost on every settled level and meets certain wishes. The first question has none."
abbrev pub Seeks : Source → Phase → Work → Set → Type 0
Seeks S First w M = Model S M
Seeks S Level w M = Model S M × Settled S w M × ((m : ℕ) → Assumed w m → Met w M m)
Seeks S Optimum w M = ⊥
Seeks S Incoherent w M = ⊥
Seeks S Full w M = ⊥

-- "the question's wishes for an entry": the literal that each wishes for, which is the complement of its penalty's
abbrev pub entry_wishes : Phase → Work → List ℤ
entry_wishes First w = []
entry_wishes Level w = wishes_by (level_of w.tables) w.stratum
entry_wishes Optimum w = []
entry_wishes Incoherent w = []
entry_wishes Full w = []

abbrev pub question_by : Source → Phase → Work → Query
question_by S p w = record { n = S.n; rules = rules_in S; wished = entry_wishes p w; Sought = Seeks S p w }

abbrev pub question_of : Source → Search → Query
question_of S s = question_by S s.phase s.work

-- ---- what an advance does

-- the question goes on with the path t: only the path, the count and what is blamed so far may differ
pub record GoesOn (S : Source) (s : Search) (t : Trail) : Type 0 where
  pub path : path_of (advance_of S s) ≡ t
  pub phase : (advance_of S s).phase ≡ s.phase
  pub count : (advance_of S s).advances ≡ bumped s.advances
  pub work : (advance_of S s).work ≡ s.work

-- "on an open path, add a literal of an atom from 1 to n, marked first": the newest literal is the head of the list; nothing else but the count differs
pub record Adds (S : Source) (s : Search) : Type 0 where
  pub literal : ℤ
  pub atom : In S.n (nat_abs literal)
  pub undecided : NotOn (nat_abs literal) (path_of s)
  pub goes_on : GoesOn S s (decision literal ∷ path_of s)
  pub blame : (advance_of S s).blame ≡ s.blame

-- "An ended question empties the path, and the same advance prepares the next": the state then means x, in the machine of `optimum`; c advances were made before
pub record Ends (S : Source) (s : Search) (x : ℕ → State) : Type 0 where
  pub path : (advance_of S s).trail ≡ fresh_places
  pub blame : (advance_of S s).blame ≡ fresh_blame
  pub count : (advance_of S s).advances ≡ bumped s.advances
  pub means : (c : ℕ) → meant S.levels (suc c) (advance_of S s) ≡ x (suc c)

-- "a core ..: assumed wishes, none twice, that no stable model with the settled costs meets together"
pub record IsCore (S : Source) (w : Work) (ms : List ℕ) : Type 0 where
  pub some : 1 ≤ length ms
  pub assumed : All (Assumed w) ms
  pub distinct : Distinct ms
  pub refuted : (M : Set) → Model S M → Settled S w M → All (Met w M) ms → ⊥

-- on a level: "If none, a core is recorded", or "it isn't recorded and the status is full" (`no_model`)
pub record RecordsCore (S : Source) (s : Search) : Type 0 where
  pub core : List ℕ
  pub is_core : IsCore S s.work core
  pub ends : Ends S s (λ c. no_model c (work_of S.levels s.work) core)

-- the first question: "incoherent (first question ended without one)", and there is no stable model
pub record FindsNone (S : Source) (s : Search) : Type 0 where
  pub none_is : (M : Set) → Model S M → ⊥
  pub ends : Ends S s incoherent

-- "end the question without a model"
abbrev pub EndsWithout : Source → Phase → Search → Type 0
EndsWithout S First s = FindsNone S s
EndsWithout S Level s = RecordsCore S s
EndsWithout S Optimum s = ⊥
EndsWithout S Incoherent s = ⊥
EndsWithout S Full s = ⊥

-- "on a wanted path, end it with that model": the first question's model opens the highest level (`open_next`); on a level "A model becomes the best if it is the
-- first or cheaper", the stratum falls (`with_model`), and the level is settled or not (`settle`)
abbrev pub EndsWith : Source → Phase → Search → Set → Type 0
EndsWith S First s M = Ends S s (λ c. open_next c [] [] (penalties_in S.levels) M)
EndsWith S Level s M = Ends S s (λ c. settle c (with_model (penalties_in S.levels) (work_of S.levels s.work) M))
EndsWith S Optimum s M = ⊥
EndsWith S Incoherent s M = ⊥
EndsWith S Full s M = ⊥

-- "on a failed path, cut it after its last first literal and replace that by its complement, marked second" (`flip`); "on a failed path without a first literal,
-- end the question without a model"
abbrev pub CutsTo : Source → Search → Option Trail → Type 0
CutsTo S s none = EndsWithout S s.phase s
CutsTo S s (some t) = GoesOn S s t

-- ---- THE PATH RULES, of an advance of s

pub record PathRules (S : Source) (s : Search) : Type 0 where
  -- "A fresh path has 1,024 empty places; each filled one holds a literal, marked first or second, no atom twice."
  pub places : SoundTrail S.n s.trail
  -- a path is wanted, failed or open, and only one of these
  pub one : Wanted (question_of S s) (path_of s) ⊎ (Conflict (question_of S s) (path_of s) ⊎ IsOpen (question_of S s) (path_of s))
  pub not_both : Wanted (question_of S s) (path_of s) → ¬ Conflict (question_of S s) (path_of s)
  -- "An advance does one of these"
  pub on_open : IsOpen (question_of S s) (path_of s) → Adds S s
  pub on_failed : Conflict (question_of S s) (path_of s) → CutsTo S s (flip (path_of s))
  pub on_wanted : Wanted (question_of S s) (path_of s) → EndsWith S s.phase s (trail_set (path_of s))

-- ---- THE STATE IS THAT OF THE MACHINE OF `optimum`, and its tests are exact

-- what a verdict says of a path
abbrev pub Exact : Query → Trail → Verdict → Type 0
Exact Q t (open' l) = IsOpen Q t × In Q.n (nat_abs l) × NotOn (nat_abs l) t
Exact Q t (conflict b) = Conflict Q t
Exact Q t wanted = Wanted Q t

abbrev pub ExactAt : Source → Phase → Search → Type 0
ExactAt S First s = Exact (question_of S s) (path_of s) (test_start S (path_of s))
ExactAt S Level s = Exact (question_of S s) (path_of s) (test_work S (work_of S.levels s.work) (blamed_of s.blame) (path_of s))
ExactAt S Optimum s = Unit {0}
ExactAt S Incoherent s = Unit {0}
ExactAt S Full s = Unit {0}

-- "An advance after the end does nothing and isn't counted."
abbrev pub counted_by : Phase → ℕ → ℕ
counted_by First c = suc c
counted_by Level c = suc c
counted_by Optimum c = c
counted_by Incoherent c = c
counted_by Full c = c

pub record IsMachine (S : Source) (s : Search) : Type 0 where
  pub exact : ExactAt S s.phase s
  pub advances : (c : ℕ) → meant S.levels (counted_by s.phase c) (advance_of S s) ≡ abstract.advance (penalties_in S.levels) (tests_of S) (meant S.levels c s)

-- ---- "If a core would pass either, it isn't recorded and the status is full": a core of the level in work that would pass a limit

pub record PassesLimit (S : Source) (w : Work) : Type 0 where
  pub core : List ℕ
  pub is_core : IsCore S w core
  pub passes : room (level_of w.tables) core ≡ false
