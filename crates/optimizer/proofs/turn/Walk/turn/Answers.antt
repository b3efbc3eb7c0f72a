use Rattle.std.proofs.Common.{arith, ◌<◌, ◌≡◌, length, get_or}
use Rattle.asp.specs.Sets.{set_of}
use Rattle.search.specs.declared.trail.Places.{Places}
use Rattle.search.specs.Soft.{assumed_entries}
use Rattle.search.proofs.Formed.{readable_soft}
use Rattle.search.specs.Step.{stepped, step_of}
use Rattle.search.specs.declared.step.Tested.{Tested}
use Rattle.advancing.specs.Source.{rule_tables}
use Rattle.advancing.specs.Turn.{assumed_by}
use Rattle.advancing.specs.Ready.{softs}
use Rattle.advancing.proofs.Stepping.{all_at, entry_room, soft_formed_by}
use Rattle.optimizer.specs.Lent.{source_lent, query_lent}
use Rattle.optimizer.specs.declared.turn.Walk.{Walk}
use Rattle.optimizer.proofs.Turning.{step_by, step_after, violated_place, violated_good, backed_is, turn_broken, turn_violated, turn_open, turn_full}
use Rattle.indexing.proofs.Moving.{equipped, full_leaf}
use Rattle.optimizer.proofs.turn.Walk.turn.Goals as goal

-- the step, of the walk
step_is : (w : Walk) {x : Tested} {t : Places} → stepped x t ≡ step_of (rule_tables (source_lent w.query.now.ground)) w.query.now.ground.listed.rules.atoms (assumed_entries w.query.now.wished.now w.blame.now.flags (length w.query.now.wished.now) (set_of w.query.now.ground.tried.now)) w.trail.now
    → stepped x t ≡ step_of (rule_tables (source_lent w.query.now.ground)) w.query.now.ground.listed.rules.atoms (assumed_by (source_lent w.query.now.ground) (query_lent w.query.now) w.blame.now) w.trail.now
step_is w e = step_by (source_lent w.query.now.ground) (query_lent w.query.now) w.trail.now w.blame.now w.query.now.ground.ready.table e

pub invariant_of-wishes : goal.invariant_of-wishes
invariant_of-wishes c =
    let w = c.args.self.now in
    let few = w.query.now.ready.source.rules.few in
    record { few = few; readable = readable_soft _ _ few (soft_formed_by w.query.now.ready w.good_blame w.query.now.ground.ready.table) }

pub step-requires-clause-formed : goal.step-requires-clause-formed
step-requires-clause-formed c =
    let w = c.args.self.now in
    soft_formed_by w.query.now.ready w.good_blame w.query.now.ground.ready.table

pub blame_entry-requires-clause-place : goal.blame_entry-requires-clause-place
blame_entry-requires-clause-place c =
    let w = c.args.self.now in
    let Q = query_lent w.query.now in
    let r = w.query.now.ready in
    let i = c.in-SoftViolated.i in
    let h : i < length Q.places = violated_place r w.good_blame w.sound_trail (step_is w c.step.ensures.stepped) c.in-SoftViolated.is in
    let p : get_or Q.places i 0 < softs Q = all_at (λ m. m < softs Q) Q.places r.places_in i h in
    (h, omega (arith, h, r.places_long, r.wished_few), omega (arith, p, r.few))

pub blame_entry-requires-clause-room : goal.blame_entry-requires-clause-room
blame_entry-requires-clause-room c =
    let w = c.args.self.now in
    let h = violated_place w.query.now.ready w.good_blame w.sound_trail (step_is w c.step.ensures.stepped) c.in-SoftViolated.is in
    (w.good_blame.from_in, entry_room w.query.now.ready w.good_blame c.in-SoftViolated.i h)

pub judged-requires : goal.judged-requires
judged-requires c =
    let w = c.args.self.now in
    let e = step_is w c.step.ensures.stepped in
    full_leaf (assumed_by (source_lent w.query.now.ground) (query_lent w.query.now) w.blame.now) w.trail.now e c.in-Full.is (step_after w.query.now.ready w.good_blame w.sound_trail e) (equipped w.query.now.ground.ready.lists c.step.ensures.tracks)

pub invariant_of-self : goal.invariant_of-self
invariant_of-self c =
    let w = c.args.self.now in
    record { good_blame = w.good_blame; sound_trail = step_after w.query.now.ready w.good_blame w.sound_trail (step_is w c.step.ensures.stepped); tracks = c.step.ensures.tracks }

pub invariant_of-self-in-Open : goal.invariant_of-self-in-Open
invariant_of-self-in-Open c =
    let w = c.args.self.now in
    record { good_blame = w.good_blame; sound_trail = step_after w.query.now.ready w.good_blame w.sound_trail (step_is w c.step.ensures.stepped); tracks = c.step.ensures.tracks }

pub invariant_of-self-in-SoftViolated : goal.invariant_of-self-in-SoftViolated
invariant_of-self-in-SoftViolated c =
    let w = c.args.self.now in
    let e = step_is w c.step.ensures.stepped in
    record {
      good_blame = violated_good w.query.now.ready w.good_blame w.sound_trail e c.in-SoftViolated.is c.blame_entry.ensures;
      sound_trail = step_after w.query.now.ready w.good_blame w.sound_trail e;
      tracks = c.step.ensures.tracks;
    }

pub returns-in-RuleBroken-clause-turned : goal.returns-in-RuleBroken-clause-turned
returns-in-RuleBroken-clause-turned c =
    let w = c.args.self.now in
    turn_broken (source_lent w.query.now.ground) (query_lent w.query.now) w.trail.now w.blame.now (step_is w c.step.ensures.stepped) c.in-RuleBroken.is (backed_is c.backed.ensures)

pub returns-in-SoftViolated-clause-turned : goal.returns-in-SoftViolated-clause-turned
returns-in-SoftViolated-clause-turned c =
    let w = c.args.self.now in
    turn_violated (source_lent w.query.now.ground) (query_lent w.query.now) w.trail.now w.blame.now (step_is w c.step.ensures.stepped) c.in-SoftViolated.is c.blame_entry.ensures (backed_is c.backed-in-SoftViolated.ensures)

pub returns-in-Open-clause-turned : goal.returns-in-Open-clause-turned
returns-in-Open-clause-turned c =
    let w = c.args.self.now in
    turn_open (source_lent w.query.now.ground) (query_lent w.query.now) w.trail.now w.blame.now (step_is w c.step.ensures.stepped) c.in-Open.is

pub returns-in-Full-clause-turned : goal.returns-in-Full-clause-turned
returns-in-Full-clause-turned c =
    let w = c.args.self.now in
    turn_full (source_lent w.query.now.ground) (query_lent w.query.now) w.trail.now w.blame.now (step_is w c.step.ensures.stepped) c.in-Full.is c.judged.ensures.turned
