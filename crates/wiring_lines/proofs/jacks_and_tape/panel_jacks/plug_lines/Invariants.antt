use Rattle.wiring_lines.specs.JacksAndTape.HelperJacks.{JacksBefore, Plugs}
use Rattle.wiring_lines.proofs.jacks_and_tape.panel_jacks.plug_lines.Given as goal

abbrev pub invariant-loop-line : goal.invariant-loop-line
invariant-loop-line l = Plugs (JacksBefore l.chart.lines l.line-index) l.initial.setup l.setup
