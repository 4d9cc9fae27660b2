use Rattle.fault_lists.proofs.CapacityFaults.Going.{all_told, begins, one_at}
use Rattle.fault_lists.proofs.capacity_faults.exceeded.faults_among.Goals as goal

pub loop-capacity-init : goal.loop-capacity-init
loop-capacity-init c = begins c.args.wanted.now c.args.profile.now c.args.capacities.now c.new-list.result.items c.new-list.ensures.items

pub loop-capacity-preserved : goal.loop-capacity-preserved
loop-capacity-preserved c =
    one_at c.args.wanted.now c.args.profile.now c.args.capacities.now c.loop-capacity.capacity-index _ c.loop-capacity.list.items
    c.add_fault.new.list.items c.loop-capacity-test.true c.loop-capacity.invariant c.in_ok-add_fault.ensures

pub returns : goal.returns
returns c =
    all_told c.args.wanted.now c.args.profile.now c.args.capacities.now c.loop-capacity.capacity-index c.loop-capacity.list.items
    c.loop-capacity-test.false c.loop-capacity.invariant
