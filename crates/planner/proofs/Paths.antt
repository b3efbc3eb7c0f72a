-- The path rules, of the program that a service holds between two calls. Assumes nothing.
use mathlib.Core.Path.{◌≡◌}
use Rattle.advancing.specs.Path.{PathRules, IsMachine, PassesLimit}
use Rattle.advancing.proofs.Paths.{path_rules, is_machine, full_core}
use Rattle.planner.specs.declared.service.Loaded.{Loaded}
use Rattle.planner.specs.declared.service.Status.TheVariants as status
use Rattle.planner.specs.Held.{source_of, status_of}
use Rattle.planner.specs.Sound.{Sound}
use Rattle.planner.proofs.Counting.{status_running, status_full}
use Rattle.planner.proofs.Known.{known_reached}

-- h is what each `Service` says of its program, by its ghost field
module _ {l : Loaded} (h : ∥ Sound l ∥₁) where
  -- an advance call moves the optimization by `advance_of` (`advance_call`), which keeps the path rules
  pub service_paths : status_of l.search.phase ≡ status.Running → PathRules (source_of l.stored) l.search
  service_paths e = path_rules (known_reached h) (status_running l.search.phase e)

  pub service_machine : IsMachine (source_of l.stored) l.search
  service_machine = is_machine (known_reached h)

  pub service_full : status_of l.search.phase ≡ status.Full → PassesLimit (source_of l.stored) l.search.work
  service_full e = full_core (known_reached h) (status_full l.search.phase e)
