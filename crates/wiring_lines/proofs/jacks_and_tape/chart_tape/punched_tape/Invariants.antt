use Rattle.std.proofs.Common.{◌≤◌}
use Rattle.wiring_lines.specs.JacksAndTape.HelperJacks.{Punches, StopsBefore}
use Rattle.wiring_lines.proofs.jacks_and_tape.chart_tape.punched_tape.Given as goal

abbrev pub invariant-loop-channel : goal.invariant-loop-channel
invariant-loop-channel l =
    (2 ≤ l.channel) × (l.channel ≤ 12) × Punches (StopsBefore l.lines l.channel) l.initial.tape l.tape
