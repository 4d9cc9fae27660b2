use Rattle.std.proofs.Common.{◌≤◌, ◌+◌, ◌*◌, ◌-◌}
use Rattle.hubs.specs.SetupsWords.Wiring.{Wiring}
use Rattle.machine_served.specs.ServedRuns.Course.{IsPanelOf, served_in}
use Rattle.machine_served.specs.ServedRuns.Seen.{hub_count}
use Rattle.machine_served.proofs.ServedRuns.Taken.{TakenSoFar}
use Rattle.machine_served.proofs.served_runs.course.Course.take_turn.Given as goal

-- the steps so far, and how much was seen in them
abbrev pub invariant-loop-self : goal.invariant-loop-self
invariant-loop-self l = record {
  goes : (wiring : Wiring) → IsPanelOf wiring l.panel → TakenSoFar wiring l.cycle l.unit (served_in l.fn.self) (served_in l.self) l.seen;
  few : l.seen + hub_count * (14 - (served_in l.self).places l.unit) ≤ 14 * hub_count;
}

abbrev pub decreases-loop-self : goal.decreases-loop-self
decreases-loop-self l = 14 - (served_in l.self).places l.unit
