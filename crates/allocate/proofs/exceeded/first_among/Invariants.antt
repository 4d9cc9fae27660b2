use Rattle.allocate.specs.Exceeded.{NoneIsOver}
use Rattle.allocate.proofs.exceeded.first_among.Given as goal

abbrev pub invariant-loop-capacity : goal.invariant-loop-capacity
invariant-loop-capacity l = NoneIsOver l.capacities l.capacity-index l.wanted l.profile
