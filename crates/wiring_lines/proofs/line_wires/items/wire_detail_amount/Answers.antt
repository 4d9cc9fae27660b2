use Rattle.chart_lines.specs.ChartsWords.Field.{columns_of}
use Rattle.std.proofs.Common.{ℕ}
use Rattle.std.proofs.lemmas.Result.{on_ok_weaker}
use Rattle.wiring_lines.proofs.LineWires.Steps.{adds-both, adds-by}
use Rattle.wiring_table.specs.Figures.{mark_wheel, rule_of}
use Rattle.wiring_lines.specs.LineWires.HelperItems.{DetailMarks}
use Rattle.wiring_lines.specs.LineWires.HelperRows.{PointWires}
use Rattle.wiring_lines.proofs.line_wires.items.wire_detail_amount.Goals as goal

pub returns : goal.returns
returns c =
    let d = c.decimals-decimals.ensures in
    let columns : ℕ = columns_of c.args.field in
    on_ok_weaker c.wire_detail_marks.result
    (λ last. adds-both c.in_ok-wire_digits.ensures
    (adds-both (adds-by (PointWires 4 c.args.wheel columns) c.in_ok-wire_point.ensures d)
    (adds-by (λ n. DetailMarks c.args.plan.now c.args.name (mark_wheel c.args.wheel columns n) (rule_of c.args.field.kind) c.args.mark)
    (adds-by (λ r. DetailMarks c.args.plan.now c.args.name (mark_wheel c.args.wheel columns c.decimals-decimals.result) r c.args.mark)
    (adds-by (λ w. DetailMarks c.args.plan.now c.args.name w c.rule_of-rule.result c.args.mark)
    last c.mark_wheel-after.ensures) c.rule_of-rule.ensures) d)))
    c.wire_detail_marks.ensures
