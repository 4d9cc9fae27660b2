use Rattle.chart_lines.specs.ChartsWords.Field.{columns_of, sign_column}
use Rattle.std.proofs.Common.{arith, ◌+◌, ◌-◌}
use Rattle.wiring_lines.proofs.LineWires.Steps.{adds-by, upto-all, upto-more, upto-none}
use Rattle.wiring_lines.specs.LineWires.HelperRows.{AmountDigits, DigitWires}
use Rattle.wiring_lines.proofs.line_wires.detail.wire_digits.Goals as goal

pub loop-place-init : goal.loop-place-init
loop-place-init c = upto-none

pub loop-place-preserved : goal.loop-place-preserved
loop-place-preserved c =
    upto-more c.loop-place.invariant
    (adds-by (DigitWires c.args.plan.now c.args.line c.sign_column-sign.result (c.args.field.last + 1 - (c.loop-place.place + 1)))
    c.in_ok-wire_digit.ensures c.digit_wheel-entry.ensures.value)

pub returns : goal.returns
returns c =
    let wires = AmountDigits c.args.plan.now c.args.line c.args.wheel (c.args.field.last + 1) in
    adds-by (λ d. wires (sign_column c.args.field.kind) (columns_of c.args.field) d)
    (adds-by (λ n. wires (sign_column c.args.field.kind) n c.decimals-decimals.result)
    (adds-by (λ s. wires s c.columns-digits.result c.decimals-decimals.result)
    (upto-all c.loop-place.invariant (omega arith))
    c.sign_column-sign.ensures) c.columns-digits.ensures) c.decimals-decimals.ensures
