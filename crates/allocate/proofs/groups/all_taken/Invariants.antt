use Rattle.std.proofs.Common.{◌≡◌, map, Some, take}
use Rattle.allocate.proofs.groups.all_taken.Given as goal

abbrev pub invariant-loop-slot : goal.invariant-loop-slot
invariant-loop-slot l = map Some l.counters.items ≡ take l.slot-index l.taken
