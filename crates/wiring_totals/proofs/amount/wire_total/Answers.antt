use Rattle.chart_lines.specs.ChartsWords.Field.{decimals_of}
use Rattle.chart_lines.specs.ChartsWords.Levels.{level_number}
use Rattle.std.proofs.Common.{sym, ◌+◌}
use Rattle.std.proofs.lemmas.Result.{on_ok_weaker}
use Rattle.wiring_lines.proofs.LineWires.Steps.{adds-both, adds-by, adds-some}
use Rattle.wiring_lines.specs.LineWires.HelperAdds.{OfSome}
use Rattle.wiring_totals.specs.HelperLevels.{NextWires}
use Rattle.wiring_lines.specs.LineWires.HelperRows.{PointWires}
use Rattle.wiring_totals.specs.HelperTotalRows.{ReadOutWires, SignedTotal}
use Rattle.wiring_totals.proofs.amount.wire_total.Goals as goal

pub returns : goal.returns
returns c =
    let d = c.decimals-decimals.ensures in
    let r = c.rule_of-rule.ensures in
    let counter = c.in-Some.counter in
    on_ok_weaker c.wire_carry_up.result (λ carried. adds-some (sym c.in-Some.ensures)
    (adds-both c.in_ok-wire_lowest.ensures
    (adds-both (adds-by (λ n. ReadOutWires c.args.total.now n counter) c.in_ok-wire_read_out.ensures d)
    (adds-both
    (adds-by (λ n. PointWires (4 + level_number c.args.total.now.level) c.args.total.now.wheel c.args.total.now.digits n)
    (adds-by (λ l. PointWires (4 + l) c.args.total.now.wheel c.args.total.now.digits c.decimals-decimals.result) c.in_ok-wire_point.ensures c.number-emitter.ensures) d)
    (adds-both
    (adds-by (λ s. OfSome s (λ its_rule. SignedTotal c.args.total.now (decimals_of c.args.field.kind) counter))
    (adds-by (λ n. OfSome c.rule_of-rule.result (λ its_rule. SignedTotal c.args.total.now n counter)) c.in_ok-wire_sign.ensures d) r)
    (adds-both
    (adds-by (NextWires c.args.chart.now.lines c.args.plan.now c.args.total.now counter)
    c.in_ok-wire_transfer.ensures r) carried))))))
    c.wire_carry_up.ensures
