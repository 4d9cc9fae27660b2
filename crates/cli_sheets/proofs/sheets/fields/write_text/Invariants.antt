use Rattle.std.proofs.Common.{◌≡◌, ◌-◌, ◌++◌, map}
use Rattle.std.specs.List.{range_with_len}
use Rattle.card_code.specs.CardCode.{print_character}
use Rattle.chart_rules.specs.ValidCard.{column_of}
use Rattle.cli_sheets.proofs.sheets.fields.write_text.Given as goal

-- the columns before this one are written
abbrev pub invariant-loop-column : goal.invariant-loop-column
invariant-loop-column l =
    l.text.items
    ≡ l.initial.text.items
    ++ map (λ column. print_character (column_of l.card column)) (range_with_len l.fn.field.first (l.column - l.fn.field.first))
