use Rattle.fault_wiring_slips.proofs.Steps.{ListsSoFar}
use Rattle.fault_wiring_slips.proofs.faulty.wiring_faults.Given as goal

abbrev pub invariant-loop : goal.invariant-loop
invariant-loop l = ListsSoFar l.text l.good.items l.faults.items l.counter
