use Rattle.std.proofs.Common.{refl}
use Rattle.chart_rules.specs.ValidCard.{IsValidCard}
use Rattle.chart_rules.proofs.Laws.{AreOnCard-lawful, AreSized-lawful}
use Rattle.chart_rules.proofs.AmountMarks.{plain-amounts}
use Rattle.chart_rules.proofs.TextMarks.{all-valid}
use Rattle.chart_rules.proofs.ValidCards.{IsOk-valid}
use Rattle.chart_line_rules.specs.FieldRules.Fields.{fields_of}
use Rattle.chart_rules.proofs.card.valid_read_card.Goals as goal

pub valid_fields-requires : goal.valid_fields-requires
valid_fields-requires c = rw c.fields.ensures.value (AreOnCard-lawful c.args.chart.now c.fields.ensures.lawful)

pub returns-then-are_plain-clause-valid : goal.returns-then-are_plain-clause-valid
unfolding IsValidCard
returns-then-are_plain-clause-valid c =
    let fields = fields_of c.args.chart.now.lines in
    let on = AreOnCard-lawful c.args.chart.now c.amounts.ensures.lawful in
    let sized = AreSized-lawful c.args.chart.now c.amounts.ensures.lawful in
    let amounts = plain-amounts fields c.amounts.result.now c.args.card.now on sized c.amounts.ensures.marked (c.are_plain.ensures c.if-are_plain.true) in (
      λ fine. all-valid fields c.args.card.now c.texts.result.now.masks c.texts.result.now.end on c.texts.ensures
          (c.are_printed.ensures c.if-are_printed.true) amounts,
      λ valid. refl,
    )

pub returns-clause-valid : goal.returns-clause-valid
unfolding IsValidCard
returns-clause-valid c = (
  rw c.fields.ensures.value at c.valid_fields.ensures.valid,
  λ valid. IsOk-valid (fields_of c.args.chart.now.lines) c.args.card.now c.valid_fields.result valid (rw c.fields.ensures.value at c.valid_fields.ensures.first),
)
