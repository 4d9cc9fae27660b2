use Rattle.wiring_lines.proofs.JacksAndTape.OfLines.{jack-back, jack-there}
use Rattle.wiring_lines.proofs.JacksAndTape.TapeLines.{stop-back, stop-there}
use Rattle.wiring_lines.proofs.jacks_and_tape.of_line.jacks_and_stops_are_of_lines.Goals as goal

pub returns-clause-jacks : goal.returns-clause-jacks
returns-clause-jacks c = λ chart each. (jack-there chart.lines each, jack-back chart.lines each)

pub returns-clause-stops : goal.returns-clause-stops
returns-clause-stops c = λ chart channel stop lawful. (stop-there chart.lines channel stop, stop-back chart channel stop lawful)
