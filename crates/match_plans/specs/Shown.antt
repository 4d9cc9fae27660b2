-- What the wires of a setup tell of the counter of a total. A total with one group has the one that its level's printing cycle reads out
-- and whose first place leads to the wheel of the units; a total with two has as the lower one such a group, whose carry leads to the
-- upper one.
use Rattle.std.specs.Prelude.{◌≢◌, ℕ, ◌<◌, ◌≤◌}
use Rattle.capacity.specs.Capacities.{HasGroup, standard}
use Rattle.capacity.specs.declared.group.CounterGroup.{CounterGroup}
use Rattle.hubs.specs.declared.hub.Hub.TheVariants.{CI, CO, GX, PX, RO, SO, SX, W}
use Rattle.chart_plans.specs.declared.plans.counter.TotalCounter.{TotalCounter}
use Rattle.chart_plans.specs.declared.plans.counter.TotalCounter.TheVariants as of
use Rattle.hubs.specs.SetupsWords.Wiring.{HasWire, Wiring}
use Rattle.wiring_table.specs.Parts.{panel_group}

-- a group shows the units of a total of a level on a wheel
pub record ShowsUnits (setup : Wiring) (level wheel : ℕ) (group : CounterGroup) : Type 0 where
  pub read_out : HasWire setup (PX level 3) (RO (panel_group group))
  pub units : HasWire setup (GX (panel_group group) 1) (W wheel)

-- the carry of a group leads to another one
pub record CarriesTo (setup : Wiring) (lower upper : CounterGroup) : Type 0 where
  pub apart : lower ≢ upper
  pub carry : HasWire setup (CO (panel_group lower)) (CI (panel_group upper))

-- a counter shows a total of a level that needs so many positions, by the wheel of its units
abbrev pub IsShown : Wiring → (level wheel need : ℕ) → TotalCounter → Type 0
IsShown setup level wheel need (of.Single group) = (need ≤ 8) × HasGroup standard group × ShowsUnits setup level wheel group
IsShown setup level wheel need (of.Coupled lower upper) =
    (8 < need) × HasGroup standard lower × HasGroup standard upper × ShowsUnits setup level wheel lower × CarriesTo setup lower upper

-- a storage unit shows a text of a level from a wheel on: the cycle that prints the level has it give what it holds, and its first column
-- leads to the wheel
pub record ShowsText (setup : Wiring) (level wheel unit : ℕ) : Type 0 where
  pub given : HasWire setup (PX level 3) (SO unit)
  pub first : HasWire setup (SX unit 1) (W wheel)

-- the group of the units of a counter
abbrev pub units_group : TotalCounter → CounterGroup
units_group (of.Single group) = group
units_group (of.Coupled lower upper) = lower
