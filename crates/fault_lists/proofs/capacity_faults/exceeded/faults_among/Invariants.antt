use Rattle.std.proofs.Common.{drop}
use Rattle.fault_lists.specs.CapacityFaults.AllOver.{GoesOn}
use Rattle.fault_lists.proofs.capacity_faults.exceeded.faults_among.Given as goal

abbrev pub invariant-loop-capacity : goal.invariant-loop-capacity
invariant-loop-capacity l = GoesOn l.wanted l.profile (drop l.capacity-index l.capacities) l.capacities l.list.items
