-- The exit that tells of a cycle at its control point: CC of card cycles, PX of a level's program cycles, HX of the heading cycles. None tells
-- of the run-in.
use Rattle.std.specs.Prelude.{ℕ, ◌+◌, ◌-◌, ◌*◌, Bool, false, Option, Some, None}
use Rattle.hubs.specs.declared.hub.Hub.{Hub}
use Rattle.hubs.specs.declared.hub.Hub.TheVariants.{CC, PX, HX}
use Rattle.net.specs.Cycles.{level_number, ordinal_number}
use Rattle.net.specs.HubSets.{is_hub}
use Rattle.net.specs.declared.cycle.Cycle.{Cycle}
use Rattle.net.specs.declared.cycle.Cycle.TheVariants.{RunIn, Card, Prog, Head}

-- the exit that tells of a cycle
abbrev pub tells : Cycle → Hub → Bool
tells RunIn hub = false
tells Card hub = is_hub CC hub
tells (Prog level ordinal) hub = is_hub (PX (level_number level) (ordinal_number ordinal)) hub
tells (Head heading) hub = is_hub (HX (ordinal_number heading)) hub

-- the kind of a cycle, by the place of that exit among those that tell: 0 to 15; none of the run-in
abbrev pub kind_of : Cycle → Option ℕ
kind_of RunIn = None
kind_of Card = Some 0
kind_of (Prog level ordinal) = Some (3 * level_number level + ordinal_number ordinal - 3)
kind_of (Head heading) = Some (12 + ordinal_number heading)
