use Rattle.chart_rules.specs.ValidCard.{AreValid}
use Rattle.chart_rules.proofs.card.valid_fields.Given as goal

abbrev pub invariant-loop-field : goal.invariant-loop-field
invariant-loop-field l = AreValid l.fields l.field-index l.card
