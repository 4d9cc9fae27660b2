-- A setup that is wired for a chart has what the chart's lines ask for.
use Rattle.std.proofs.Common.{List}
use Rattle.chart_lines.specs.declared.charts.chart.Line.{Line}
use Rattle.hubs.specs.declared.hub.Hub.{Hub}
use Rattle.wiring_lines.proofs.JacksAndTape.OfLines.{jack-back, jack-there}
use Rattle.wiring_lines.proofs.JacksAndTape.TapeLines.{stop-back, stop-there}
use Rattle.chart_plans.specs.PlansWords.Plans.{Lists}
use Rattle.wiring_table.specs.Wires.{ChartWire}
use Rattle.wiring_legend.specs.Laws.{HasLineWire, LinesMakeTheSetup}

there : (lines : List Line) (plan : Lists) (exit entry : Hub) → ChartWire lines plan exit entry → HasLineWire lines plan exit entry
there lines plan exit entry wire = record { line = wire.line; listed = wire.listed; asks = wire.wire }

back : (lines : List Line) (plan : Lists) (exit entry : Hub) → HasLineWire lines plan exit entry → ChartWire lines plan exit entry
back lines plan exit entry has = record { line = has.line; listed = has.listed; wire = has.asks }

pub of-lines : LinesMakeTheSetup
of-lines chart plan setup lawful wired = record {
  wires = λ exit entry. (
    λ has. there chart.lines plan exit entry ((wired.wires exit entry).0 has),
    λ asks. (wired.wires exit entry).1 (back chart.lines plan exit entry asks),
  );
  jacks = λ each. (
    λ has. jack-there chart.lines each ((wired.jacks each).0 has),
    λ asks. (wired.jacks each).1 (jack-back chart.lines each asks),
  );
  stops = λ channel stop. (
    λ has. stop-there chart.lines channel stop ((wired.tape.stops channel stop).0 has),
    λ asks. (wired.tape.stops channel stop).1 (stop-back chart channel stop lawful asks),
  );
}
