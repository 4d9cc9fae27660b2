use Rattle.std.proofs.Common.{◌-◌, map}
use Rattle.std.specs.List.{range_with_len}
use Rattle.chart_rules.specs.ValidCard.{column_of}
use Rattle.report_definition.specs.Amounts.{digit_in, number_in}
use Rattle.report_misfits.proofs.Numbers.{Kept}
use Rattle.report_misfits.proofs.values.number_on.Given as goal

abbrev pub invariant-loop-column : goal.invariant-loop-column
invariant-loop-column l =
    Kept l.field.first l.column l.number
    (number_in (map (λ column. digit_in (column_of l.card column)) (range_with_len l.field.first (l.column - l.field.first))))
