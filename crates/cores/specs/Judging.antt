-- The tables that a set is judged with: columns of numbers, lent as far as they are filled. Assumes nothing: these are definitions.
use Rattle.std.specs.Prelude.{◌≡◌, Bool, Option, Some, None, List, [], ◌∷◌, ℕ, ◌+◌, ◌-◌, ◌≤◌, ◌<◌, eqb, ℤ, pos, nat_abs, length, get_or}
use Rattle.std.proofs.Math.Seq.{slice}
use Rattle.asp.specs.Sets.{Set, pick}
use Rattle.asp.specs.Tables.{span}
use Rattle.cores.specs.Soft.{Kind, entry, derived, core_of, count_by, violated}

-- the literal, the core and the index of each soft literal; where each core ends in the members, with 0 in front; the members
pub record Judging : Type 0 where
  pub literals : List ℤ
  pub cores : List ℕ
  pub indices : List ℕ
  pub ends : List ℕ
  pub members : List ℕ

abbrev pub judging : List ℤ → List ℕ → List ℕ → List ℕ → List ℕ → Judging
judging ls js is es ms = record { literals = ls; cores = js; indices = is; ends = es; members = ms }

abbrev pub kind_from : ℤ → ℕ → ℕ → Kind
kind_from l j i = pick (eqb j 0) (entry l) (derived j i)

abbrev pub kind_in : Judging → ℕ → Kind
kind_in t p = kind_from (get_or t.literals p (pos 0)) (get_or t.cores p 0) (get_or t.indices p 0)

abbrev pub kinds_in : Judging → List Kind
kinds_in t = span (kind_in t) 0 (length t.literals)

-- the members from the end of core j on, to the next end
abbrev pub members_in : List ℕ → List ℕ → ℕ → List ℕ
members_in ends members j = slice (get_or ends j 0) (get_or ends (j + 1) 0) members

abbrev pub cores_in : Judging → List (List ℕ)
cores_in t = span (members_in t.ends t.members) 0 (length t.ends - 1)

abbrev pub violated_at : Judging → Set → ℕ → Bool
violated_at t M p = violated M (kinds_in t) (cores_in t) p

-- how many members of core j are violated
abbrev pub count_in : Judging → Set → ℕ → ℕ
count_in t M j = count_by (violated_at t M) (core_of (cores_in t) j)

-- the tables are in shape; the core number falls from a soft literal to its core's members
pub record FormedJudging (t : Judging) : Type 0 where
  pub cores_len : length t.cores ≡ length t.literals
  pub indices_len : length t.indices ≡ length t.literals
  pub some : 1 ≤ length t.ends
  pub ends_few : length t.ends ≤ 4097
  pub few : length t.members ≤ 4096
  pub small : (p : ℕ) → nat_abs (get_or t.literals p (pos 0)) ≤ 1024
  pub core_in : (p : ℕ) → get_or t.cores p 0 < length t.ends
  pub end_in : (j : ℕ) → get_or t.ends j 0 ≤ length t.members
  pub member_in : (k : ℕ) → k < length t.members → get_or t.members k 0 < length t.literals
  pub falls : (j k : ℕ) → get_or t.ends j 0 ≤ k → k < get_or t.ends (j + 1) 0 → get_or t.cores (get_or t.members k 0) 0 ≤ j

-- the counts that are kept for the set M, with a place for each core: 0 for a core that is not counted yet, else one more than its count
pub record Known (t : Judging) (M : Set) (counts : List ℕ) : Type 0 where
  pub long : length t.ends ≤ length counts
  pub kept : (j : ℕ) → (get_or counts j 0 ≡ 0 → ⊥) → get_or counts j 0 ≡ count_in t M j + 1

-- no core is counted twice: what is counted before is counted after
abbrev pub IsCounted : List ℕ → ℕ → Type 0
IsCounted counts j = get_or counts j 0 ≡ 0 → ⊥

abbrev pub Stays : List ℕ → List ℕ → Type 0
Stays before after = (j : ℕ) → IsCounted before j → IsCounted after j

-- what judging answers, with the counts kept before and after
pub record Answers {A : Type 0} (t : Judging) (M : Set) (before : List ℕ) (r e : A) (after : List ℕ) : Type 0 where
  pub is : r ≡ e
  pub known : Known t M after
  pub stays : Stays before after

-- what counting core j answers: then it is counted
pub record CountAnswers (t : Judging) (M : Set) (before : List ℕ) (n j : ℕ) (after : List ℕ) : Type 0 where
  pub is : n ≡ count_in t M j
  pub known : Known t M after
  pub stays : Stays before after
  pub counted : IsCounted after j

-- the first of the places that is violated
unfoldable pub first_violated : (ℕ → Bool) → List ℕ → Option ℕ
first_violated U [] = None
first_violated U (p ∷ ps) = pick (U p) (Some p) (first_violated U ps)
