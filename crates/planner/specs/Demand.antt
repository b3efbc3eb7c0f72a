-- Demand 3: one claim about every list of calls from a fresh service, in the words of document 01, "Whole lists of calls". Assumes nothing: these are definitions.
use Rattle.std.specs.Prelude.{◌≡◌, false, List, [], ◌∷◌, ℕ, zero, suc, ◌+◌, ◌*◌, ◌^◌, ◌≤◌, ◌<◌, min, ℤ, pos, length, get_or, ◌<ℤ◌, Option, Some, None, IsSome, IsNone}
use Rattle.std.specs.Option.{ForSome}
use Rattle.std.specs.Int.Signed.{lt_z}
use Rattle.asp.specs.declared.entries.Entry.{Entry}
use Rattle.asp.specs.Sets.{Set}
use Rattle.asp.specs.Program.{Program, Symbol, All, atoms}
use Rattle.asp.specs.Stable.{Stable, shown}
use Rattle.asp.specs.Cost.{levels, weight, W, costs, starts, NoDearer}
use Rattle.aspif_lines.specs.Text.{accepted, text_of}
use Rattle.planner.specs.declared.service.Status.{Status}
use Rattle.planner.specs.declared.service.Status.TheVariants as status
use Rattle.planner.specs.Held.{Holding, fresh_service}
use Rattle.planner.specs.Sound.{Sound}
use Rattle.planner.specs.Calls.{gives, refuses, Fills, fills, filled, unfilled, count_of, nothing_seen, seen_of, write_call, model_bytes, model_call, name_call, shown_says, advance_call, run_call}
use Rattle.planner.specs.Tally.{Call, load, Reply, Does, Tally, begin, is_running_status, Leads}

-- ---- symbols by their position, from 0

unfoldable pub nth : {A : Type 0} → List A → ℕ → Option A
nth [] i = None
nth (x ∷ xs) zero = Some x
nth (x ∷ xs) (suc i) = nth xs i

-- the name at the front of the lent bytes; "9: symbol position (from 0) not below the count"
abbrev pub name_by : Holding → List ℕ → Option Symbol → Fills
name_by s b None = unfilled 9 s b
name_by s b (Some y) = filled s y.name b

-- ---- the best model: "the set that a model call with n lent bytes would then write; there is none exactly when that call gets 7"

pub record Best (P : Program) (s : Holding) (upper : List ℤ) : Type 0 where
  pub model : Set
  pub writes : (b : List ℕ) → model_call s b ≡ filled s (model_bytes model (atoms P)) b
  pub exactly : (b : List ℕ) → length b ≡ atoms P → model_call s b ≡ fills (gives (atoms P)) s (model_bytes model (atoms P))
  -- "The best model, once there is one, is stable and costs exactly the upper bound."
  pub stable : Stable P.rules model
  pub costs : costs P model ≡ upper
  -- "shown when all k literals hold"
  pub shows : (i : ℕ) (y : Symbol) → nth P.symbols i ≡ Some y → shown_says s i ≡ gives (shown model y)

-- "7: no model yet: model, and whether a symbol is shown."
pub record NoModel (P : Program) (s : Holding) : Type 0 where
  pub model : (b : List ℕ) → model_call s b ≡ unfilled 7 s b
  pub shows : (i : ℕ) (y : Symbol) → nth P.symbols i ≡ Some y → shown_says s i ≡ refuses 7

-- by the upper bound that a look gives
abbrev pub BestBy : Program → Holding → Option (List ℤ) → Type 0
BestBy P s None = NoModel P s
BestBy P s (Some u) = Best P s u

-- ---- a run and its advances: k advance calls in a row, each made while running

abbrev pub Advances : ℕ → Holding → Holding → Type 0
Advances zero s u = u ≡ s
Advances (suc k) s u = ((seen_of s).status ≡ status.Running) × Advances k (advance_call s).after u

-- "A run with count k leaves the service as k advance calls in a row would, each made while running; k is at most the budget, and below it only if the status is
-- then not running."
pub record RunIs (b : ℕ) (s : Holding) : Type 0 where
  pub made : ℕ
  pub held : Status
  pub answer : (run_call s b).answer ≡ gives (count_of made held)
  pub advances : Advances made s (run_call s b).after
  pub most : made ≤ b
  pub ends : made < b → is_running_status held ≡ false

-- ---- a program is loaded: P and w are the program and the text less comments of the text that the tally holds

pub record Claim (P : Program) (w : List ℕ) (s : Holding) (T : Tally) : Type 0 where
  pub loaded : IsSome s
  -- "Look agrees with that document's tally of the list": "the tally's status, and that count or 2^64 - 1, whichever is less"
  pub standing : (seen_of s).status ≡ T.held
  pub counted : (seen_of s).advances ≡ min T.count 18446744073709551615
  -- the program loaded is the text's
  pub priorities : (seen_of s).priorities ≡ P.priorities
  pub writes : (b : List ℕ) → write_call s b ≡ filled s w b
  pub names : (i : ℕ) (b : List ℕ) → name_call s i b ≡ name_by s b (nth P.symbols i)
  pub unnamed : (i : ℕ) → nth P.symbols i ≡ None → shown_says s i ≡ refuses 9
  -- "The lower bound is no dearer than any stable model."
  pub lower : (M : Set) → Stable P.rules M → NoDearer lt_z (seen_of s).lower (costs P M)
  pub best : BestBy P s (seen_of s).upper
  -- "At "optimum" there is one, and every other stable model costs at least as much."
  pub optimum : T.held ≡ status.Optimum → (u : List ℤ) × ((seen_of s).upper ≡ Some u) × ((M : Set) → Stable P.rules M → NoDearer lt_z u (costs P M))
  -- "Once ended, the status is "incoherent" exactly when no stable model exists."
  pub incoherent : T.held ≡ status.Incoherent → (M : Set) → Stable P.rules M → ⊥
  pub without : is_running_status T.held ≡ false → ((M : Set) → Stable P.rules M → ⊥) → T.held ≡ status.Incoherent
  -- "With n atoms and total weight W, while the status is "running", fewer than 2^(n+1) × (2W + 1) advances have been made since the load."
  pub few : T.held ≡ status.Running → T.count < 2 ^ suc (atoms P) * (2 * W P + 1)
  -- a model needs all n atoms added, one an advance
  pub patient : (u : List ℤ) → (seen_of s).upper ≡ Some u → atoms P < T.count
  -- "The status is never "full" if each level weighs 90 or less."
  pub never_full : All (λ (l : List Entry). weight l ≤ 90) (levels P) → T.held ≡ status.Full → ⊥
  pub runs : (b : ℕ) → RunIs b s
  -- one lower bound for each level
  pub as_many : length (seen_of s).lower ≡ length P.priorities
  -- "The level in work .. is settled .. when the best model's cost there equals its lower bound; it then stays settled": those before it (from 1) are, and while the
  -- status is running it is not; a level is in work once there is a model
  pub settled : (u : List ℤ) → (seen_of s).upper ≡ Some u → (j : ℕ) → suc j < (seen_of s).level → get_or (seen_of s).lower j (pos 0) ≡ get_or u j (pos 0)
  pub in_work : T.held ≡ status.Running → (u : List ℤ) → (seen_of s).upper ≡ Some u → 1 ≤ (seen_of s).level
  pub unsettled : T.held ≡ status.Running → (u : List ℤ) → (seen_of s).upper ≡ Some u → (j : ℕ) → (seen_of s).level ≡ suc j → get_or (seen_of s).lower j (pos 0) <ℤ get_or u j (pos 0)
  -- "A level's lower bound starts at the sum of its negative weights, also on levels not yet in work.": from the load on, and also at incoherent
  pub later : (T.held ≡ status.Optimum → ⊥) → (j : ℕ) → (seen_of s).level ≤ j → j < length P.priorities → get_or (seen_of s).lower j (pos 0) ≡ get_or (starts P) j (pos 0)
  -- "optimum (a model, every level settled)": no lower bound stays below the upper
  pub bounds_meet : T.held ≡ status.Optimum → (seen_of s).upper ≡ Some (seen_of s).lower

-- ---- the claim about a service and the tally beside it

-- nothing is loaded
pub record Idle (s : Holding) (T : Tally) : Type 0 where
  pub loaded : IsNone s
  pub tally : T ≡ begin
  pub look : seen_of s ≡ nothing_seen

-- "A program is loaded exactly when a text is held; n, W, levels, stable models and costs are that text's."
pub record Held (t : List ℕ) (s : Holding) (T : Tally) : Type 0 where
  pub program : Program
  pub written : List ℕ
  pub is : text_of t ≡ accepted program written
  pub claim : Claim program written s T

abbrev pub ClaimBy : Option (List ℕ) → Holding → Tally → Type 0
ClaimBy None s T = Idle s T
ClaimBy (Some t) s T = Held t s T

pub record Demand (s : Holding) (T : Tally) : Type 0 where
  -- what is loaded is sound: the ghost field of `Service`
  pub sound : ForSome s Sound
  pub claim : ClaimBy T.text s T
  -- "accepted, the service is as a fresh one given it": a load leaves what it could have left of a fresh service, whatever came before
  pub fresh : (t : List ℕ) (P : Program) (w : List ℕ) → text_of t ≡ accepted P w → (a : Reply (load t)) (u : Holding) → Does (load t) s a u → Does (load t) fresh_service a u

-- DEMAND 3
abbrev pub Demand3 : Type 0
Demand3 = (cs : List Call) (s : Holding) (T : Tally) → Leads cs fresh_service begin s T → Demand s T
