use Rattle.std.proofs.Common.{◌≡◌, take}
use Rattle.chart_line_rules.specs.FieldRules.Fields.{fields_of}
use Rattle.chart_line_rules.specs.FieldRules.HelperIndex.{IsIndexOf}
use Rattle.chart_line_rules.proofs.field_rules.fields.Fields.of.Given as goal

abbrev pub invariant-loop-line : goal.invariant-loop-line
invariant-loop-line l =
    record { items : l.in_order.items ≡ fields_of (take l.line-index l.lines); index : IsIndexOf l.in_order.items l.first }
