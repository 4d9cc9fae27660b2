-- A setup with the tape, the jacks and the wires of one line of a chart is that of the line.
use Rattle.std.proofs.Common.{◌≡◌, false, List, sym, ◌∙◌, subst}
use Rattle.chart_plans.specs.PlansWords.Plans.{Lists}
use Rattle.chart_lines.specs.declared.charts.chart.Line.{Line}
use Rattle.hubs.specs.SetupsWords.Tapes.{CarriageTape}
use Rattle.hubs.specs.SetupsWords.Wiring.{Wiring, HasWire, is_plugged}
use Rattle.hubs.specs.declared.hub.Hub.{Hub}
use Rattle.hubs.specs.declared.jack.Jack.{Jack}
use Rattle.wiring_lines.specs.LineWires.HelperAdds.{Adds}
use Rattle.wiring_lines.specs.JacksAndTape.HelperJacks.{Plugs}
use Rattle.wiring_lines.specs.JacksAndTape.OfLine.{IsTapeOfLine, LineJack}
use Rattle.wiring_lines.specs.Below.wiring_table.Wires.{LineWire}
use Rattle.wire_gen.proofs.Whole.{all-there}
use Rattle.wire_gen.specs.OfLine.{IsSetupOfLine}

pub whole-line : (lines : List Line) (plan : Lists) (line : Line) (tape : CarriageTape) (bare plugged wired : Wiring)
    → IsTapeOfLine lines line.statement tape → ((exit entry : Hub) → ¬ HasWire bare exit entry)
    → ((jack : Jack) → is_plugged bare jack ≡ false) → bare.tape ≡ tape → Plugs (LineJack lines line.statement) bare plugged
    → Adds (LineWire lines plan line.number line.statement) plugged wired → IsSetupOfLine lines plan line wired
whole-line lines plan line tape bare plugged wired is_tape no_wires no_jacks same plugs adds =
    let there = all-there no_wires no_jacks plugs adds in
    record {
      wires = there.0;
      jacks = there.1;
      tape = subst (IsTapeOfLine lines line.statement) (sym (adds.tape ∙ plugs.tape ∙ same)) is_tape;
    }
