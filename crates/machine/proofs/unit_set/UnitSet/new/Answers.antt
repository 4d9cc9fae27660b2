use Rattle.std.proofs.Common.{ap, map, List}
use Rattle.counters.specs.Counters.{Counter, counter_number}
use Rattle.storage_units.specs.Storage.{StorageState, storage_number}
use Rattle.machine.proofs.unit_set.UnitSet.new.Goals as goal

pub invariant_of-result : goal.invariant_of-result
invariant_of-result c = record {
  groups = ap (λ (groups : List Counter). map counter_number groups) c.groups_at_start.ensures;
  storage = ap (λ (storage : List StorageState). map storage_number storage) c.storage_at_start.ensures;
}
