use Rattle.wiring_lines.proofs.JacksAndTape.TapeStops.{Among}
use Rattle.wiring_lines.specs.JacksAndTape.HelperJacks.{Punches}
use Rattle.wiring_lines.proofs.jacks_and_tape.chart_tape.punch_channel.Given as goal

abbrev pub invariant-loop-line : goal.invariant-loop-line
invariant-loop-line l = Punches (Among l.channel l.stops l.line-index) l.initial.tape l.tape
