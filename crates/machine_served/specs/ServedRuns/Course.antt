-- What stands inside a cycle, as the laws of units that run ahead see it.
use Rattle.std.specs.Prelude.{ℕ, Bool, false, List, [], slice_index_or}
use Rattle.hubs.specs.declared.hub.Hub.{Hub}
use Rattle.net.specs.HubSets.{HubSet, has_hub}
use Rattle.net.specs.Nets.{IsNetOf}
use Rattle.machine_served.specs.ServedWords.Steps.{Served}
use Rattle.machine_served.specs.declared.served_runs.course.Course.{Course}
use Rattle.machine_served.specs.declared.served_runs.course.Panel.{Panel}
use Rattle.machine_served.specs.ServedUnits.AnyUnit.{AnyUnit, unit_at}
use Rattle.hubs.specs.SetupsWords.Wiring.{Wiring}
use Rattle.machine_served.specs.WaitsWords.Waits.{AreWaits}

-- a set of no words, which has no hub
abbrev pub no_set : HubSet
no_set = record { words = [] }

-- whether a hub is in the set of a point, by the place of the point
abbrev pub is_at : List HubSet → ℕ → Hub → Bool
is_at sets place hub = has_hub (slice_index_or sets place no_set) hub

-- The units by their numbers, their places, whether they have emitted there, and for each point what was emitted and is closed.
abbrev pub served_in : Course → Served AnyUnit
served_in course = record {
  units = unit_at course.units;
  places = λ unit. slice_index_or course.places unit 0;
  emitted = λ unit. slice_index_or course.emitted unit false;
  exits = is_at course.exits;
  closed = is_at course.closed;
}

-- a panel has the wires of a setup, and the units wait by them
pub record IsPanelOf (wiring : Wiring) (panel : Panel) : Type 0 where
  pub net : IsNetOf wiring panel.net
  pub waits : AreWaits wiring panel.waits
