-- THE STARRED SAMPLES OF DOCUMENT 01, AS ONE TABLE: each is proved in the crate that it is about, by computation from the definitions. Assumes nothing.
use mathlib.Core.Path.{◌≡◌, refl}
use mathlib.Core.Bool.{true}
use mathlib.Core.List.{[], ◌∷◌, ◌++◌, map}
use Prim.Native.Nat.{suc, ◌+◌}
use lib.ListN.{length, replicate}
use lib.IntN.{pos}
use lib.Signed.{lt_z}
use Rattle.asp.specs.Program.{All}
use Rattle.asp.specs.Cost.{cost, start, cheaper}
use Rattle.asp.specs.Penalty.{penalties, above}
use Rattle.asp.proofs.Samples.{table, Right, table_right, level_by_level}
use Rattle.aspif_lines.specs.Text.{text_of, accepted}
use Rattle.aspif.proofs.Samples as aspif
use Rattle.cores.specs.Identity.{problem, Core, violated_weight}
use Rattle.cores.specs.Soft.{entry, derived, violated}
use Rattle.cores.specs.Level.{Level, recorded}
use Rattle.cores.proofs.Sample.{seven_five_five, sample_before, sample_after, everything, Some, any_lower, any_rests, any_kinds, sample_before_lem, sample_core_lem, sample_cores, sample_lower, sample_rests, sample_kinds, sample_unmet, sample_cost, sample_identity, sample_parts}

pub record Starred : Type 0 where
  -- exactly these stable models, at these costs: no statement; 1 if 1; 1 if not 1; 1 if not 2, 2 if not 1; choice {1}; the loop; the constraint; atom 1 twice; `plan.aspif`
  pub models : All Right table
  -- "(0, 900) is cheaper than (1, 0)"
  pub order : cheaper lt_z (pos 0 ∷ pos 900 ∷ []) (pos 1 ∷ pos 0 ∷ []) ≡ true
  -- "Core of remaining 7, 5, 5 at stratum 5: bound up 5, then 2, 0, 0 and two new of 5": of every level with these, whatever its bound and the cores before; the two
  -- new ones are of this core, the first holds when at most 1 member is unmet, the second when at most 2 are
  pub up_5 : (l : Level) → (recorded l 5 (0 ∷ 1 ∷ 2 ∷ [])).lower ≡ l.lower + 5
  pub then : (l : Level) → l.rests ≡ 7 ∷ 5 ∷ 5 ∷ [] → (recorded l 5 (0 ∷ 1 ∷ 2 ∷ [])).rests ≡ 2 ∷ 0 ∷ 0 ∷ 5 ∷ 5 ∷ []
  pub two_new : (l : Level) → (recorded l 5 (0 ∷ 1 ∷ 2 ∷ [])).kinds ≡ l.kinds ++ (derived (suc (length l.cores)) 1 ∷ derived (suc (length l.cores)) 2 ∷ [])
  -- "with all unmet 17 = 5 + 2 + 10": of the level of three entries that weigh 7, 5, 5, in which these are a core, among the sets that have one of the atoms
  pub before : sample_before.rests ≡ 7 ∷ 5 ∷ 5 ∷ []
  pub core : Core (problem Some (penalties seven_five_five)) sample_before 5 (0 ∷ 1 ∷ 2 ∷ [])
  pub after : sample_after ≡ recorded sample_before 5 (0 ∷ 1 ∷ 2 ∷ [])
  pub bound : sample_after.lower ≡ sample_before.lower + 5
  pub rests : sample_after.rests ≡ 2 ∷ 0 ∷ 0 ∷ 5 ∷ 5 ∷ []
  pub kinds : sample_after.kinds ≡ entry (pos 1) ∷ entry (pos 2) ∷ entry (pos 3) ∷ derived 1 1 ∷ derived 1 2 ∷ []
  pub cores : sample_after.cores ≡ (0 ∷ 1 ∷ 2 ∷ []) ∷ []
  pub all_unmet : map (violated everything sample_after.kinds sample_after.cores) (0 ∷ 1 ∷ 2 ∷ 3 ∷ 4 ∷ []) ≡ replicate 5 true
  pub seventeen : cost everything seven_five_five ≡ pos 17
  pub sum : cost everything seven_five_five ≡ above (start seven_five_five) (sample_after.lower + violated_weight everything sample_after)
  pub parts : sample_after.lower + violated_weight everything sample_after ≡ 5 + 2 + 10
  -- the file `plan.aspif`, from its bytes: it reads to a program with exactly the models {1}, {2}, {1,2,3}, at the costs 2, 3, 5
  pub plan : text_of aspif.plan ≡ accepted aspif.plan_program aspif.plan
  pub plan_models : Right (record { program = aspif.plan_program; models = (1 ∷ []) ∷ (2 ∷ []) ∷ (3 ∷ 2 ∷ 1 ∷ []) ∷ []; costs = (pos 2 ∷ []) ∷ (pos 3 ∷ []) ∷ (pos 5 ∷ []) ∷ [] })

pub starred : Starred
starred = record {
  models = table_right;
  order = level_by_level;
  up_5 = any_lower;
  then = any_rests;
  two_new = any_kinds;
  before = sample_before_lem;
  core = sample_core_lem;
  after = refl;
  bound = sample_lower;
  rests = sample_rests;
  kinds = sample_kinds;
  cores = sample_cores;
  all_unmet = sample_unmet;
  seventeen = sample_cost;
  sum = sample_identity;
  parts = sample_parts;
  plan = aspif.plan_reads;
  plan_models = table_right.1.1.1.1.1.1.1.1.0;
}
