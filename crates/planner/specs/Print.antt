-- The answers in print. Assumes nothing: these are definitions.
use Rattle.std.specs.Prelude.{List, ℕ, ◌++◌, codes}
use Rattle.std.specs.Fmt.{decimal}
use Rattle.planner.specs.declared.advance.Count.{Count}
use Rattle.planner.specs.declared.service.Refusal.{Refusal}
use Rattle.planner.specs.declared.service.Refusal.TheVariants as refusal
use Rattle.planner.specs.declared.service.Status.{Status}
use Rattle.planner.specs.declared.service.Status.TheVariants as status

abbrev pub status_text : Status → List ℕ
status_text status.Empty = codes "empty"
status_text status.Running = codes "running"
status_text status.Optimum = codes "optimum"
status_text status.Incoherent = codes "incoherent"
status_text status.Full = codes "full"

abbrev pub count_text : Count → List ℕ
count_text c = status_text c.status ++ codes " " ++ decimal c.made

-- by document 01's numbers, as `says_refusal` of Calls
abbrev pub refusal_text : Refusal → List ℕ
refusal_text refusal.NotLoaded = codes "refused 6"
refusal_text refusal.NoModel = codes "refused 7"
refusal_text (refusal.Short n) = codes "refused 8 needs " ++ decimal n
refusal_text refusal.NoSymbol = codes "refused 9"
