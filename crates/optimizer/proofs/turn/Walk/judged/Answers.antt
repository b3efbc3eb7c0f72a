use Rattle.std.proofs.Common.{arith, ◌<◌, ◌≡◌, ℕ, List, ap, ◌∙◌}
use Rattle.search.specs.declared.trail.Places.{Places}
use Rattle.search.proofs.Kept.{after_back}
use Rattle.stepping.proofs.StepLaws.{back_by, counted_back}
use Rattle.indexing.proofs.Moving.{back_is}
use Rattle.advancing.specs.declared.state.Judgement.{Judgement}
use Rattle.advancing.specs.Turn.{judge_full, blamed_of, backed}
use Rattle.advancing.specs.Ready.{softs}
use Rattle.advancing.proofs.Stepping.{blame_room}
use Rattle.optimizer.specs.Lent.{source_lent, query_lent}
use Rattle.optimizer.specs.declared.turn.Walk.{Walk}
use Rattle.optimizer.proofs.Turning.{backed_is, judged_dead, judged_violated, judged_place, judged_good}
use Rattle.optimizer.proofs.turn.Walk.judged.Goals as goal

-- what is judged, of the walk
judged_is : (w : Walk) {ms : List ℕ} → ms ≡ blamed_of w.blame.now → {j : Judgement} → j ≡ judge_full (source_lent w.query.now.ground) (query_lent w.query.now) ms w.trail.now.value
    → j ≡ judge_full (source_lent w.query.now.ground) (query_lent w.query.now) (blamed_of w.blame.now) w.trail.now.value
judged_is w e f = f ∙ ap (λ (ms : List ℕ). judge_full (source_lent w.query.now.ground) (query_lent w.query.now) ms w.trail.now.value) e

pub invariant_of-self-in-Dead : goal.invariant_of-self-in-Dead
invariant_of-self-in-Dead c =
    let w = c.args.self.now in
    let z = back_by c.weighable-rules.ensures.bodies c.weighable-rules.ensures.lists _ c.back.ensures in
    let e = back_is _ _ _ _ z in
    record { good_blame = w.good_blame; sound_trail = after_back _ _ e w.sound_trail; tracks = counted_back w.query.now.ground.listed.indexed w.sound_trail.good w.tracks z }

pub invariant_of-self-in-Violated : goal.invariant_of-self-in-Violated
invariant_of-self-in-Violated c =
    let w = c.args.self.now in
    let j = judged_is w c.blamed.ensures c.judge_full.ensures in
    let z = back_by c.weighable-rules.ensures.bodies c.weighable-rules.ensures.lists _ c.back-in-Violated.ensures in
    let e = back_is _ _ _ _ z in
    record {
      good_blame = judged_good w.query.now.ready w.trail.now w.good_blame j c.in-Violated.is c.blame_place.ensures;
      sound_trail = after_back _ _ e w.sound_trail;
      tracks = counted_back w.query.now.ground.listed.indexed w.sound_trail.good w.tracks z;
    }

pub blame_place-requires-clause-place : goal.blame_place-requires-clause-place
blame_place-requires-clause-place c =
    let w = c.args.self.now in
    let r = w.query.now.ready in
    let i : c.in-Violated.p < softs (query_lent w.query.now) = judged_place r w.trail.now w.good_blame (judged_is w c.blamed.ensures c.judge_full.ensures) c.in-Violated.is in
    (omega (arith, i, r.few), omega (arith, r.places_long, r.wished_few))

pub blame_place-requires-clause-room : goal.blame_place-requires-clause-room
blame_place-requires-clause-room c =
    let w = c.args.self.now in
    let i = judged_place w.query.now.ready w.trail.now w.good_blame (judged_is w c.blamed.ensures c.judge_full.ensures) c.in-Violated.is in
    (w.good_blame.from_in, blame_room w.query.now.ready w.good_blame c.in-Violated.p i)

pub returns-in-Dead-clause-turned : goal.returns-in-Dead-clause-turned
returns-in-Dead-clause-turned c =
    let w = c.args.self.now in
    let j = judged_is w c.blamed.ensures c.judge_full.ensures in
    let cut = backed_is c.backed.ensures ∙ ap (λ (t : Places). backed t w.blame.now) (back_is _ _ _ _ c.back.ensures) in
    judged_dead (source_lent w.query.now.ground) (query_lent w.query.now) w.trail.now w.blame.now j c.in-Dead.is cut

pub returns-in-Violated-clause-turned : goal.returns-in-Violated-clause-turned
returns-in-Violated-clause-turned c =
    let w = c.args.self.now in
    let j = judged_is w c.blamed.ensures c.judge_full.ensures in
    let cut = backed_is c.backed-in-Violated.ensures ∙ ap (λ (t : Places). backed t c.blame_place.new.b) (back_is _ _ _ _ c.back-in-Violated.ensures) in
    judged_violated (source_lent w.query.now.ground) (query_lent w.query.now) w.trail.now w.blame.now j c.in-Violated.is c.blame_place.ensures cut
