use Rattle.std.proofs.Common.{OnOk}
use Rattle.wiring_lines.proofs.LineWires.Steps.{by-said}
use Rattle.wiring_lines.specs.LineWires.HelperAdds.{Adds}
use Rattle.wire_gen.specs.HelperLines.{StatementWires}
use Rattle.wire_gen.proofs.lines.wire_statement.Goals as goal

pub returns-in-Control : goal.returns-in-Control
returns-in-Control c =
    by-said (λ s. OnOk c.wire_control_line.result (Adds (StatementWires c.args.chart.now.lines c.args.plan.now c.args.line s) c.args.setup.now c.wire_control_line.new.setup))
    c.in-Control.is c.wire_control_line.ensures

pub returns-in-DetailField : goal.returns-in-DetailField
returns-in-DetailField c =
    by-said (λ s. OnOk c.wire_detail_line.result (Adds (StatementWires c.args.chart.now.lines c.args.plan.now c.args.line s) c.args.setup.now c.wire_detail_line.new.setup))
    c.in-DetailField.is c.wire_detail_line.ensures

pub returns-in-TotalText : goal.returns-in-TotalText
returns-in-TotalText c =
    by-said (λ s. OnOk c.wire_text_line.result (Adds (StatementWires c.args.chart.now.lines c.args.plan.now c.args.line s) c.args.setup.now c.wire_text_line.new.setup))
    c.in-TotalText.is c.wire_text_line.ensures

pub returns-in-TotalAmount : goal.returns-in-TotalAmount
returns-in-TotalAmount c =
    by-said (λ s. OnOk c.wire_total_line.result (Adds (StatementWires c.args.chart.now.lines c.args.plan.now c.args.line s) c.args.setup.now c.wire_total_line.new.setup))
    c.in-TotalAmount.is c.wire_total_line.ensures
