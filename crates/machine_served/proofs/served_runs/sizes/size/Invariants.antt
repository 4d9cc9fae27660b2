use Rattle.std.proofs.Common.{◌≤◌, ◌-◌}
use Rattle.net.specs.HubSets.{has_hub}
use Rattle.machine_served.specs.ServedRuns.Seen.{HasUpTo}
use Rattle.machine_served.proofs.served_runs.sizes.size.Given as goal

-- the hubs so far are counted
abbrev pub invariant-loop-number : goal.invariant-loop-number
invariant-loop-number l = record {
  counted : HasUpTo (has_hub l.picture) (l.number - 1) l.count;
  few : l.count ≤ l.number - 1;
}
