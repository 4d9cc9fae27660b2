use Rattle.std.proofs.Common.{◌≡◌, ◌<◌, ◌≤◌, ◌-◌, ℕ, true}
use Rattle.net.specs.HubSets.{is_bit}
use Rattle.machine_served.specs.ServedWords.Steps.{HasEmitted}
use Rattle.machine_served.specs.ServedRuns.Course.{served_in}
use Rattle.machine_served.proofs.served_runs.course.Course.have_emitted.Given as goal

-- the units of the word so far have emitted
abbrev pub invariant-loop-unit : goal.invariant-loop-unit
invariant-loop-unit l =
    (other : ℕ) → 1 ≤ other → other < l.unit → is_bit l.word (other - 1) ≡ true → HasEmitted (served_in l.self) other l.place
