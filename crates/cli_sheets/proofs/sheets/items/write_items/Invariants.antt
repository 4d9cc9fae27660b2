use Rattle.std.proofs.Common.{◌≡◌, ◌++◌, take}
use Rattle.std.specs.List.{flat_map}
use Rattle.std.specs.Prelude.{option_to_list}
use Rattle.cli_sheets.specs.SheetsWords.Layout.{item_on, item_told}
use Rattle.cli_sheets.proofs.sheets.items.write_items.Given as goal

-- the items of so many lines are told
abbrev pub invariant-loop-line : goal.invariant-loop-line
invariant-loop-line l =
    l.text.items
    ≡ l.initial.text.items
    ++ flat_map (λ line. flat_map (item_told line) (option_to_list (item_on l.chart.lines l.printed line.statement))) (take l.line-index l.chart.lines)
