use Rattle.std.proofs.Common.{◌≤◌, ◌+◌, ◌*◌, length}
use Rattle.machine.proofs.FewCycles.{IsSupplied, ahead}
use Rattle.machine_served.specs.ServedRuns.Runs.{most_rounds, most_seen}
use Rattle.machine_served.proofs.ServedRuns.Running.{RunSoFar}
use Rattle.machine_served.specs.ServedUnits.AnyUnit.{AreInOrder}
use Rattle.machine_served.proofs.served_runs.run.simulate_served.Given as goal

-- the cycles so far have run, their lines stand, and what was counted leaves room for the others
abbrev pub invariant-loop-cycle : goal.invariant-loop-cycle
invariant-loop-cycle l = record {
  goes : RunSoFar l.setup l.service l.cards (record { machine = l.units; hopper = l.hopper }) l.counts l.lines.items;
  supplied : IsSupplied l.units;
  ordered : AreInOrder l.units;
  rounds : l.counts.rounds + most_rounds * ahead (record { machine = l.units; hopper = l.hopper }) ≤ most_rounds * (28 * length l.cards + 1);
  seen : l.counts.seen + most_seen * ahead (record { machine = l.units; hopper = l.hopper }) ≤ most_seen * (28 * length l.cards + 1);
}

abbrev pub decreases-loop-cycle : goal.decreases-loop-cycle
decreases-loop-cycle l = ahead (record { machine = l.units; hopper = l.hopper })
