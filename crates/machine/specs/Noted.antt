-- What a machine notes of its counter groups.
use Rattle.std.specs.Prelude.{◌≡◌}
use Rattle.machine.specs.Rest.{AreBusy}
use Rattle.machine.specs.Steady.{balance_latches}
use Rattle.machine.specs.declared.units.Units.TheInside.{Inside}

-- What is noted holds: the groups have no more to do than that, and the latches are theirs.
pub record IsNoted (units : Inside) : Type 0 where
  pub busy : AreBusy units.busy units.all.groups
  pub latches : units.latches ≡ balance_latches units.all.groups
