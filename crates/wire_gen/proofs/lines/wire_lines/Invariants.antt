use Rattle.wiring_lines.specs.LineWires.HelperAdds.{Adds}
use Rattle.wire_gen.specs.HelperLines.{WiresBefore}
use Rattle.wire_gen.proofs.lines.wire_lines.Given as goal

abbrev pub invariant-loop-line : goal.invariant-loop-line
invariant-loop-line l = Adds (WiresBefore l.chart.lines l.plan l.line-index) l.initial.setup l.setup
