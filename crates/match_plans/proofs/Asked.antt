-- On a panel that is wired for a chart each wire that a line of the chart asks for is there.
use Rattle.std.proofs.Common.{◌≡◌, sym, subst, List, Contains}
use Rattle.chart_lines.specs.declared.charts.chart.Line.{Line}
use Rattle.chart_lines.specs.declared.charts.statement.Statement.{Statement}
use Rattle.hubs.specs.declared.hub.Hub.{Hub}
use Rattle.chart_plans.specs.PlansWords.Plans.{Lists}
use Rattle.hubs.specs.SetupsWords.Wiring.{HasWire, Wiring}
use Rattle.wiring_table.specs.WiredFor.{WiredFor}
use Rattle.wiring_table.specs.Wires.{LineWire}

pub asks : {lines : List Line} {plan : Lists} {setup : Wiring} → WiredFor lines plan setup → (line : Line) → Contains lines line
    → {statement : Statement} → line.statement ≡ statement → {exit entry : Hub}
    → LineWire lines plan line.number statement exit entry → HasWire setup exit entry
asks {lines} {plan} wired line listed says_it {exit} {entry} wire =
    (wired.wires exit entry).1 (record {
      line = line;
      listed = listed;
      wire = subst (λ s. LineWire lines plan line.number s exit entry) (sym says_it) wire;
    })
