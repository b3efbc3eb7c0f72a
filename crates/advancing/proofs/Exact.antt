-- The verdict on a trail is exact: wanted, failed (a conflict) or open in document 01's words, for any class of sets that the query's tables answer for; and the
-- move that a turn makes by it. Assumes nothing.
use mathlib.Core.Path.{◌≡◌, refl, ap, ◌∙◌, subst}
use mathlib.Core.List.{List, [], ◌∷◌}
use mathlib.Core.Logic.{inl}
use Prim.Native.Nat.{ℕ, suc, ◌<◌}
use native.Mathlib.Nat.{zero-add}
use native.Mathlib.Omega.{arith}
use lib.Dec.{T}
use lib.IntN.{ℤ, pos}
use lib.ListN.{length, get_or}
use lib.Seq.{ext_get_or}
use Rattle.asp.specs.Sets.{Set}
use Rattle.asp.specs.Program.{All}
use Rattle.asp.specs.Stable.{holds}
use Rattle.asp.specs.Tables.{literals_at}
use Rattle.asp.proofs.Spans.{length_span}
use Rattle.search.specs.Trail.{Trail, Agrees, trail_set}
use Rattle.search.specs.Query.{HoldsAll, Wanted, Conflict}
use Rattle.search.specs.Query as words
use Rattle.search.specs.Machine.{Verdict, open', conflict, wanted}
use Rattle.search.specs.declared.trail.Places.{Places}
use Rattle.search.specs.Places.{SoundTrail, push_of, back_of, trail_of}
use Rattle.search.specs.Step.{test_of}
use Rattle.search.specs.Link.{verdict_of}
use Rattle.search.specs.declared.step.Tested.{Tested}
use Rattle.search.specs.declared.step.Tested.TheVariants.{RuleBroken, Full, SoftViolated, Open}
use Rattle.search.proofs.Search as search
use Rattle.search.proofs.Agree.{set_agrees}
use Rattle.search.proofs.Steps.{TestSays, test_says, exact, wanted_fine}
use Rattle.search.proofs.Steps as steps
use Rattle.cores.proofs.Spans.{get_d_span}
use Rattle.advancing.specs.declared.state.Blame.{Blame}
use Rattle.advancing.specs.declared.state.Turn.TheVariants.{Going, Model}
use Rattle.advancing.specs.declared.state.Judgement.{Judgement}
use Rattle.advancing.specs.declared.state.Judgement.TheVariants as judgement
use Rattle.advancing.specs.Source.{Source, rules_in, rule_tables}
use Rattle.advancing.specs.Turn.{QueryTables, blamed_of, blame_entry, blame_place, judge_full, Turned, turned, backed, judged_turn, turn_by, assumed_by, turn_of}
use Rattle.advancing.specs.Ready.{ReadyQuery, GoodBlame}
use Rattle.advancing.specs.Path.{Exact}
use Rattle.advancing.proofs.Stepping.{soft_formed}
use Rattle.advancing.proofs.Verdicts.{Answers, problem_of, verdict_by, name_of, verdict, verdict_says}

-- ---- the move that a verdict asks for

abbrev pub Moved : Places → Blame → Verdict → Turned → Type 0
Moved t b (open' l) x = x ≡ turned Going (push_of l t) b
Moved t b (conflict o) x = (c : Blame) × (x ≡ backed (back_of t) c)
Moved t b wanted x = x ≡ turned Model t b

pub moved : (S : Source) (q : QueryTables) (t : Places) (b : Blame) → Moved t b (verdict S q t b) (turn_of S q t b)
unfolding turn_of
moved S q t b = go (test_of (rule_tables S) S.n (assumed_by S q b) t.value t.len)
  where
    judged : (j : Judgement) → Moved t b (verdict_by j) (judged_turn q t b j)
    judged judgement.Wanted = refl
    judged judgement.Dead = (b, refl)
    judged (judgement.Violated p) = (blame_place q.places p b, refl)

    go : (y : Tested) → Moved t b (verdict_of (name_of q) (verdict_by (judge_full S q (blamed_of b) t.value)) y) (turn_by S q t b y)
    go (RuleBroken r) = (b, refl)
    go Full = judged (judge_full S q (blamed_of b) t.value)
    go (SoftViolated i) = (blame_entry q.places i b, refl)
    go (Open l) = refl

-- ---- lists by their places

literals_whole : (ls : List ℤ) → literals_at ls 0 (length ls) ≡ ls
literals_whole ls =
    ext_get_or (pos 0) (literals_at ls 0 (length ls)) ls (length_span (λ (j : ℕ). get_or ls j (pos 0)) 0 (length ls))
    (λ i h. get_d_span (λ (j : ℕ). get_or ls j (pos 0)) 0 (length ls) (pos 0) i (rw (length_span (λ (j : ℕ). get_or ls j (pos 0)) 0 (length ls)) at h) ∙ ap (λ (j : ℕ). get_or ls j (pos 0)) (zero-add i))

all_from : (P : ℤ → Type 0) (ls : List ℤ) → ((i : ℕ) → i < length ls → P (get_or ls i (pos 0))) → All P ls
all_from P [] h = tt
all_from P (l ∷ ls) h = (h 0 (omega arith), all_from P ls (λ i k. h (suc i) (omega arith)))

-- ---- THE VERDICT IS EXACT

module _ {S : Source} {q : QueryTables} (r : ReadyQuery S q) {Class : Set → Type 0} {Assumes : ℕ → Type 0} {Meets : Set → ℕ → Type 0} (f : Answers S q Class Assumes Meets)
    (Goal : Set → Type 0) (to : (M : Set) → search.Sought (problem_of r f) M → Goal M) (from : (M : Set) → Goal M → search.Sought (problem_of r f) M) where
  abbrev asked : List ℤ → words.Query
  asked ls = record { n = S.n; rules = rules_in S; wished = ls; Sought = Goal }

  module _ (t : Places) (d : SoundTrail S.n t) where
    abbrev u : Trail
    u = trail_of t

    agrees : Agrees (trail_set u) u
    agrees = set_agrees S.n u d.formed

    -- "only one of these"
    pub not_both : Wanted (asked q.wished) u → ¬ Conflict (asked q.wished) u
    not_both =
        wanted_fine (asked q.wished) u d.formed (λ M h. f.unbroken M (from M h).0)
        (λ M h. all_from (λ (l : ℤ). T (holds M l)) q.wished (λ i k. f.wishes M i k ((from M h).1 (name_of q i) (f.entries i k))))

    module _ {b : Blame} (g : GoodBlame q b) (a : All Assumes (blamed_of b)) where
      abbrev tested : Tested
      tested = test_of (rule_tables S) S.n (assumed_by S q b) t.value t.len

      abbrev full : Judgement
      full = judge_full S q (blamed_of b) t.value

      -- a full trail is wanted just if its set is sought
      judged : (ls : List ℤ) (j : Judgement) → HoldsAll S.n u → search.Says (problem_of r f) u (verdict_by j) → Exact (asked ls) u (verdict_by j)
      judged ls judgement.Wanted h s = (h, to (trail_set u) s)
      judged ls judgement.Dead h s = inl (h, λ w. s (trail_set u) (from (trail_set u) w.1).0 agrees)
      judged ls (judgement.Violated p) h s = inl (h, λ w. let z = from (trail_set u) w.1 in s.1 (trail_set u) (z.0, z.1 p s.0) agrees)

      in_tables : Exact (asked (literals_at q.wished 0 (length q.wished))) u (verdict S q t b)
      in_tables =
          go tested (exact S.n S.pool S.rows S.rulecount r.source.rules (assumed_by S q b) (soft_formed r g) t d Goal)
          (test_says S.n S.pool S.rows S.rulecount r.source.rules (assumed_by S q b) (soft_formed r g) t d) (verdict_says r f g a t d)
        where
          go : (y : Tested) → steps.Exact S.n S.pool S.rows S.rulecount r.source.rules (assumed_by S q b) (soft_formed r g) t d Goal y
              → TestSays S.n S.pool S.rows S.rulecount r.source.rules (assumed_by S q b) (soft_formed r g) t d y
              → search.Says (problem_of r f) u (verdict_of (name_of q) (verdict_by full) y) → Exact (asked (literals_at q.wished 0 (length q.wished))) u (verdict_of (name_of q) (verdict_by full) y)
          go (RuleBroken k) e z s = e
          go Full e z s = judged (literals_at q.wished 0 (length q.wished)) full z.0 s
          go (SoftViolated i) e z s = e
          go (Open l) e z s = (e, z.3, z.4)

      pub verdict_exact : Exact (asked q.wished) u (verdict S q t b)
      verdict_exact = subst (λ (ls : List ℤ). Exact (asked ls) u (verdict S q t b)) (literals_whole q.wished) in_tables
