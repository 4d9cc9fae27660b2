use Rattle.std.proofs.Common.{◌-◌, arith}
use Rattle.chart_rules.specs.ValidCard.{column_of}
use Rattle.report_definition.specs.Amounts.{digit_in}
use Rattle.report_misfits.proofs.Numbers.{kept, below_power}
use Rattle.report_misfits.proofs.values.number_on.Goals as goal

pub overflow_mul-number : goal.overflow_mul-number
overflow_mul-number c =
    let few = c.requires.few in
    let within = c.loop-column-test.true in
    let from = c.loop-column.invariant.from in
    let small = below_power c.loop-column.number (c.loop-column.column - c.args.field.now.first) 7 c.loop-column.invariant.small
    (omega (arith, few, within, from)) in
    omega (arith, small)

pub overflow_add-number : goal.overflow_add-number
overflow_add-number c =
    let few = c.requires.few in
    let within = c.loop-column-test.true in
    let from = c.loop-column.invariant.from in
    let digit = c.digit_at.ensures.small in
    let small = below_power c.loop-column.number (c.loop-column.column - c.args.field.now.first) 7 c.loop-column.invariant.small
    (omega (arith, few, within, from)) in
    omega (arith, small, digit)

pub loop-column-preserved : goal.loop-column-preserved
loop-column-preserved c =
    kept (λ column. digit_in (column_of c.args.card.now column)) c.args.field.now.first c.loop-column.column c.loop-column.number _
    c.loop-column.invariant
    c.digit_at.ensures.value
    c.digit_at.ensures.small

pub returns-clause-small : goal.returns-clause-small
returns-clause-small c =
    let few = c.requires.few in
    let order = c.requires.on_card.order in
    let last = c.loop-column.auto.column-end (omega (arith, order)) in
    below_power c.loop-column.number (c.loop-column.column - c.args.field.now.first) 8 c.loop-column.invariant.small
    (omega (arith, few, last))
