use Rattle.std.proofs.Common.{◌∙◌}
use Rattle.chart_line_rules.proofs.FieldRules.Places.{first_named-at, first_named-missing}
use Rattle.chart_line_rules.proofs.field_rules.fields.Fields.get.Goals as goal

pub returns-in_err-place : goal.returns-in_err-place
returns-in_err-place c = c.from_residual.ensures ∙ first_named-missing c.args.self.now c.args.name c.in_err-place.ensures

pub returns : goal.returns
returns c =
    first_named-at c.args.self.now c.args.name c.in_ok-place.place c.index.result.now c.in_ok-place.ensures (rw c.self.view_is at c.index.ensures)
