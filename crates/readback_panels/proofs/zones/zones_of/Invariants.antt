use Rattle.std.specs.Prelude.{◌+◌, All}
use Rattle.readback_panels.specs.Shown.{IsAmountZone}
use Rattle.readback_panels.specs.Zones.{CoverBelow}
use Rattle.readback_panels.proofs.zones.zones_of.Given as goal

abbrev pub invariant-loop-wheel : goal.invariant-loop-wheel
invariant-loop-wheel l = record {
  last : CoverBelow l.setup l.zones.items (l.last + 1);
  before : CoverBelow l.setup l.zones.items l.wheel;
  amounts : All (IsAmountZone l.setup) l.zones.items;
}
