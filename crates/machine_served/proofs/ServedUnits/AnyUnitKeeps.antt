-- The units of the machine, as one kind, keep to their own hubs.
use Rattle.std.proofs.Common.{◌≡◌, ap, Bool, true}
use Rattle.hubs.specs.declared.hub.Hub.{Hub}
use Rattle.net.specs.Panel.{owner_of}
use Rattle.net.specs.declared.cycle.Cycle.{Cycle}
use Rattle.net.specs.declared.cycle.Point.{Point}
use Rattle.net.specs.Units.{AgreeOnEntries, KeepsToItsOwn}
use Rattle.carriage.specs.OwnHubs.{carriage_keeps}
use Rattle.counters.specs.OwnHubs.{counters_keep}
use Rattle.print_unit.specs.OwnHubs.{emitters_keep, wheels_keep}
use Rattle.program_unit.specs.OwnHubs.{program_keeps}
use Rattle.selectors.specs.OwnHubs.{indicate_keeps, pilots_keep, splits_keep}
use Rattle.stations.specs.OwnHubs.{comparing_keeps, stations_keep}
use Rattle.storage_units.specs.OwnHubs.{storage_keeps}
use Rattle.machine_served.specs.ServedUnits.AnyUnit.{AnyUnit, any_closes, any_emits, any_ended, any_kind, any_number, any_sensed}
use Rattle.machine_served.specs.ServedUnits.AnyUnit.AnyUnit.{CarriageUnit, ComparingUnit, EmittersUnit, GroupUnit, IndicationUnit, PilotsUnit, ProgramUnit, SplitsUnit, StationsUnit, StorageUnit, WheelsUnit}

any-emits : (unit : AnyUnit) (cycle : Cycle) (point : Point) (hub : Hub) → any_emits unit cycle point hub ≡ true
    → owner_of hub ≡ any_number unit
any-emits (StationsUnit state) = stations_keep.emits_own state
any-emits (ComparingUnit state) = comparing_keeps.emits_own state
any-emits (GroupUnit state) = counters_keep.emits_own state
any-emits (StorageUnit state) = storage_keeps.emits_own state
any-emits (PilotsUnit state) = pilots_keep.emits_own state
any-emits (IndicationUnit state) = indicate_keeps.emits_own state
any-emits (SplitsUnit state) = splits_keep.emits_own state
any-emits (EmittersUnit state) = emitters_keep.emits_own state
any-emits (WheelsUnit state) = wheels_keep.emits_own state
any-emits (CarriageUnit state) = carriage_keeps.emits_own state
any-emits (ProgramUnit state) = program_keeps.emits_own state

any-closes : (unit : AnyUnit) (cycle : Cycle) (point : Point) (hub : Hub) → any_closes unit cycle point hub ≡ true
    → owner_of hub ≡ any_number unit
any-closes (StationsUnit state) = stations_keep.closes_own state
any-closes (ComparingUnit state) = comparing_keeps.closes_own state
any-closes (GroupUnit state) = counters_keep.closes_own state
any-closes (StorageUnit state) = storage_keeps.closes_own state
any-closes (PilotsUnit state) = pilots_keep.closes_own state
any-closes (IndicationUnit state) = indicate_keeps.closes_own state
any-closes (SplitsUnit state) = splits_keep.closes_own state
any-closes (EmittersUnit state) = emitters_keep.closes_own state
any-closes (WheelsUnit state) = wheels_keep.closes_own state
any-closes (CarriageUnit state) = carriage_keeps.closes_own state
any-closes (ProgramUnit state) = program_keeps.closes_own state

any-senses : (unit : AnyUnit) (cycle : Cycle) (point : Point) (one other : Hub → Bool)
    → AgreeOnEntries (any_number unit) one other → any_sensed unit cycle point one ≡ any_sensed unit cycle point other
any-senses (StationsUnit state) cycle point one other same = ap StationsUnit (stations_keep.senses_own state cycle point one other same)
any-senses (ComparingUnit state) cycle point one other same = ap ComparingUnit (comparing_keeps.senses_own state cycle point one other same)
any-senses (GroupUnit state) cycle point one other same = ap GroupUnit (counters_keep.senses_own state cycle point one other same)
any-senses (StorageUnit state) cycle point one other same = ap StorageUnit (storage_keeps.senses_own state cycle point one other same)
any-senses (PilotsUnit state) cycle point one other same = ap PilotsUnit (pilots_keep.senses_own state cycle point one other same)
any-senses (IndicationUnit state) cycle point one other same = ap IndicationUnit (indicate_keeps.senses_own state cycle point one other same)
any-senses (SplitsUnit state) cycle point one other same = ap SplitsUnit (splits_keep.senses_own state cycle point one other same)
any-senses (EmittersUnit state) cycle point one other same = ap EmittersUnit (emitters_keep.senses_own state cycle point one other same)
any-senses (WheelsUnit state) cycle point one other same = ap WheelsUnit (wheels_keep.senses_own state cycle point one other same)
any-senses (CarriageUnit state) cycle point one other same = ap CarriageUnit (carriage_keeps.senses_own state cycle point one other same)
any-senses (ProgramUnit state) cycle point one other same = ap ProgramUnit (program_keeps.senses_own state cycle point one other same)

pub any-keeps_number : (unit : AnyUnit) (cycle : Cycle) (point : Point) (picture : Hub → Bool)
    → any_number (any_sensed unit cycle point picture) ≡ any_number unit
any-keeps_number (StationsUnit state) = stations_keep.keeps_number state
any-keeps_number (ComparingUnit state) = comparing_keeps.keeps_number state
any-keeps_number (GroupUnit state) = counters_keep.keeps_number state
any-keeps_number (StorageUnit state) = storage_keeps.keeps_number state
any-keeps_number (PilotsUnit state) = pilots_keep.keeps_number state
any-keeps_number (IndicationUnit state) = indicate_keeps.keeps_number state
any-keeps_number (SplitsUnit state) = splits_keep.keeps_number state
any-keeps_number (EmittersUnit state) = emitters_keep.keeps_number state
any-keeps_number (WheelsUnit state) = wheels_keep.keeps_number state
any-keeps_number (CarriageUnit state) = carriage_keeps.keeps_number state
any-keeps_number (ProgramUnit state) = program_keeps.keeps_number state

pub any-ends_with_number : (unit : AnyUnit) (cycle : Cycle) → any_number (any_ended unit cycle) ≡ any_number unit
any-ends_with_number (StationsUnit state) = stations_keep.ends_with_number state
any-ends_with_number (ComparingUnit state) = comparing_keeps.ends_with_number state
any-ends_with_number (GroupUnit state) = counters_keep.ends_with_number state
any-ends_with_number (StorageUnit state) = storage_keeps.ends_with_number state
any-ends_with_number (PilotsUnit state) = pilots_keep.ends_with_number state
any-ends_with_number (IndicationUnit state) = indicate_keeps.ends_with_number state
any-ends_with_number (SplitsUnit state) = splits_keep.ends_with_number state
any-ends_with_number (EmittersUnit state) = emitters_keep.ends_with_number state
any-ends_with_number (WheelsUnit state) = wheels_keep.ends_with_number state
any-ends_with_number (CarriageUnit state) = carriage_keeps.ends_with_number state
any-ends_with_number (ProgramUnit state) = program_keeps.ends_with_number state

pub any_unit_keeps : KeepsToItsOwn any_kind
any_unit_keeps = record {
  emits_own = any-emits;
  closes_own = any-closes;
  senses_own = any-senses;
  keeps_number = any-keeps_number;
  ends_with_number = any-ends_with_number;
}
