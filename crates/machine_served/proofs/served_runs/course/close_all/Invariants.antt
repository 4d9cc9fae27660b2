use Rattle.std.proofs.Common.{◌≡◌, ◌-◌, ◌||◌}
use Rattle.hubs.specs.declared.hub.Hub.{Hub}
use Rattle.net.specs.Cycles.{point_at}
use Rattle.net.specs.HubSets.{has_hub}
use Rattle.machine_served.specs.ServedWords.Units.{all_close}
use Rattle.machine_served.specs.ServedUnits.AnyUnit.{any_kind, unit_at}
use Rattle.machine_served.proofs.served_runs.course.close_all.Given as goal

-- the contacts of the units so far are closed
abbrev pub invariant-loop-unit : goal.invariant-loop-unit
invariant-loop-unit l =
    (hub : Hub)
    → has_hub l.contacts hub
    ≡ (has_hub l.fn.contacts hub || all_close any_kind (l.unit - 1) (unit_at l.units) l.cycle (point_at 0) hub)
