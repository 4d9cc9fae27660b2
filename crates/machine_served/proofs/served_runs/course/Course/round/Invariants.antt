use Rattle.std.proofs.Common.{◌≤◌, ◌*◌, drop}
use Rattle.hubs.specs.SetupsWords.Wiring.{Wiring}
use Rattle.machine_served.specs.ServedRuns.Course.{IsPanelOf, served_in}
use Rattle.machine_served.specs.ServedRuns.Seen.{hub_count}
use Rattle.machine_served.proofs.ServedRuns.Taken.{RoundSoFar}
use Rattle.machine_served.proofs.served_runs.course.Course.round.Given as goal

-- the turns so far, and how much was seen in them
abbrev pub invariant-loop-unit : goal.invariant-loop-unit
invariant-loop-unit l = record {
  goes : (wiring : Wiring) → IsPanelOf wiring l.panel
      → RoundSoFar wiring l.cycle l.order (drop l.unit-index l.order) (served_in l.fn.self) (served_in l.self) l.seen;
  few : l.seen ≤ 14 * hub_count * l.unit-index;
}
