-- A storage unit through a cycle: it senses the picture of each point in turn, and then ends the cycle.
use Rattle.std.specs.Prelude.{Bool}
use Rattle.hubs.specs.declared.hub.Hub.{Hub}
use Rattle.net.specs.WholeCycles as units
use Rattle.net.specs.declared.cycle.Cycle.{Cycle}
use Rattle.net.specs.declared.cycle.Point.{Point}
use Rattle.storage_units.specs.Storage.{StorageState, storage_sensed, storage_ended}

-- what it becomes by a whole cycle
abbrev pub after_cycle : Cycle → (Point → Hub → Bool) → StorageState → StorageState
after_cycle cycle pictures storage = units.after_cycle storage_sensed storage_ended cycle pictures storage
