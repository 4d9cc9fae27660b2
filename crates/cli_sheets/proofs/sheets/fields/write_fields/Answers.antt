use Rattle.std.proofs.Common.{List, subst, sym}
use Rattle.std.specs.Prelude.{Contains}
use Rattle.chart_lines.specs.declared.charts.statement.Field.{Field}
use Rattle.cli_sheets.proofs.SheetsWords.Readable.{readable}
use Rattle.cli_sheets.proofs.sheets.fields.write_fields.Goals as goal

pub write_field-requires : goal.write_field-requires
write_field-requires c =
    readable c.args.chart.now c.fields-field-items.ensures.lawful c.field-item.result
    (subst (λ (l : List Field). Contains l c.field-item.result) c.fields-field-items.ensures.value
    (c.loop-field.field-index, c.loop-field-test.true, sym c.field-item.is))
