use Rattle.std.proofs.Common.{◌≤◌, ◌+◌, ◌*◌, ◌-◌}
use Rattle.hubs.specs.SetupsWords.Wiring.{Wiring}
use Rattle.machine_served.specs.ServedWords.Orders.{unit_count}
use Rattle.machine_served.specs.ServedUnits.AnyUnit.{unit_at}
use Rattle.machine_served.specs.ServedRuns.Course.{IsPanelOf, served_in}
use Rattle.machine_served.specs.ServedRuns.Runs.{most_rounds}
use Rattle.machine_served.specs.ServedRuns.Seen.{hub_count}
use Rattle.machine_served.proofs.ServedRuns.Serving.{IsServing}
use Rattle.machine_served.proofs.served_runs.rounds.serve_cycle.Given as goal

-- the rounds so far, and what was counted in them
abbrev pub invariant-loop-course : goal.invariant-loop-course
invariant-loop-course l = record {
  goes : (wiring : Wiring) → IsPanelOf wiring l.panel
      → IsServing wiring l.cycle l.service l.fn.before (unit_at l.fn.units) (served_in l.course) l.counts;
  from : l.fn.before.rounds ≤ l.counts.rounds;
  few_rounds : l.counts.rounds ≤ l.fn.before.rounds + most_rounds;
  few_seen : l.counts.seen ≤ l.fn.before.seen + (l.counts.rounds - l.fn.before.rounds) * (14 * hub_count * unit_count);
}

abbrev pub decreases-loop-course : goal.decreases-loop-course
decreases-loop-course l = l.fn.before.rounds + most_rounds - l.counts.rounds
