use Rattle.std.proofs.Common.{◌∙◌, sym}
use Rattle.chart_rules.proofs.AmountMarks.{amounts-more, amounts-past}
use Rattle.chart_rules.proofs.amounts.AmountColumns.of.Goals as goal
use Rattle.chart_rules.proofs.amounts.AmountColumns.of.Goals.{then-is_amount, else-is_amount}

pub loop-field-preserved : goal.loop-field-preserved
loop-field-preserved c =
    elim c.if-is_amount.branch [
      | then-is_amount w ↦ rw w.columns-is
          (amounts-more c.args.fields.now c.loop-field.field-index c.field-item.result c.loop-field.columns w.add.new.self
          c.loop-field-test.true c.field-item.is c.loop-field.invariant w.add.ensures.kept w.add.ensures.marked)
      | else-is_amount w ↦ rw w.columns-is
          (amounts-past c.args.fields.now c.loop-field.field-index c.field-item.result c.loop-field.columns
          c.loop-field-test.true c.field-item.is c.loop-field.invariant (sym c.is_amount.ensures ∙ w.if-is_amount.false))
    ]
