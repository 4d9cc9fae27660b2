use Rattle.chart_rules.specs.ValidCard.{IsValidCard}
use Rattle.chart_rules.proofs.Laws.{AreOnCard-lawful}
use Rattle.chart_rules.proofs.ValidCards.{IsOk-valid}
use Rattle.chart_line_rules.specs.FieldRules.Fields.{fields_of}
use Rattle.chart_rules.proofs.card.valid_card.Goals as goal

pub valid_fields-requires : goal.valid_fields-requires
valid_fields-requires c = rw c.fields.ensures.value (AreOnCard-lawful c.args.chart.now c.fields.ensures.lawful)

pub returns-clause-valid : goal.returns-clause-valid
unfolding IsValidCard
returns-clause-valid c = (
  rw c.fields.ensures.value at c.valid_fields.ensures.valid,
  λ valid. IsOk-valid (fields_of c.args.chart.now.lines) c.args.card.now c.valid_fields.result valid (rw c.fields.ensures.value at c.valid_fields.ensures.first),
)
