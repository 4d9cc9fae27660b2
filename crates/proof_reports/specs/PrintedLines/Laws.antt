-- The laws of printed lines: what the items of a lawful chart send to their wheels prints as the lines of its reports.
use Rattle.std.specs.Prelude.{◌≡◌, ℕ, ◌+◌, ◌-◌, ◌<◌, ◌≤◌, Bool, true, false, List, Contains, Option, Some, None, length, slice_index_or}
use Rattle.std.specs.Int.{is_negative}
use Rattle.wiring_table.specs.Below.chart_lines.ChartsWords.Chart.{Chart}
use Rattle.wiring_table.specs.Below.chart_lines.ChartsWords.Literals.{HaveLiteralTexts}
use Rattle.wiring_table.specs.Below.chart_lines.declared.charts.chart.Line.{Line}
use Rattle.wiring_table.specs.Below.chart_lines.declared.charts.level.Level.{Level}
use Rattle.wiring_table.specs.Below.chart_lines.declared.charts.statement.Field.{Field}
use Rattle.wiring_table.specs.Below.chart_lines.declared.charts.statement.Statement.{Statement}
use Rattle.wiring_table.specs.Below.chart_lines.declared.charts.statement.Statement.TheVariants as says
use Rattle.wiring_table.specs.Below.chart_line_rules.FieldRules.Fields.{field_named}
use Rattle.wiring_table.specs.Below.chart_rules.Rules.{IsLawful}
use Rattle.wiring_table.specs.Below.chart_rules.ValidCard.{IsText, IsValidCard}
use Rattle.print_unit.specs.ZeroControl.{printed_line}
use Rattle.report_definition.specs.BodyLines.{card_line, total_line, heading_line}
use Rattle.report_definition.specs.Totals.{total_of}
use Rattle.wiring_table.specs.Figures.{rule_of}
use Rattle.proof_reports.specs.PrintedLines.Held.{HoldsLine}
use Rattle.proof_reports.specs.PrintedLines.Shown.{Shown, Printed, HasJacksOf, wheel_of_shown, sets_of, set_on, sent_to_card, sent_to_total, sent_to_heading, card_sends, total_sends, heading_sends, wheels_with}

-- a wheel is one of those that an item sends to
abbrev pub HasWheelOf : Shown → ℕ → Type 0
HasWheelOf shown v = (wheel_of_shown shown ≤ v) × (v < wheel_of_shown shown + length (sets_of shown))

-- The sets on the wheels of a printed line: each wheel of an item has the item's set, and a wheel of no item has no rows.
pub record HasItemSets (lines : List Line) (sends : Statement → Option Shown) (set : ℕ → ℕ) : Type 0 where
  pub own :
      (line : Line) (shown : Shown) (v : ℕ) → Contains lines line → sends line.statement ≡ Some shown → HasWheelOf shown v
      → set v ≡ slice_index_or (sets_of shown) (v - wheel_of_shown shown) 0
  pub none :
      (v : ℕ)
      → ((line : Line) (shown : Shown) → Contains lines line → sends line.statement ≡ Some shown → HasWheelOf shown v → ⊥)
      → set v ≡ 0

-- On the printed lines of a lawful chart the items keep apart.
pub record ItemsKeepApart (chart : Chart) : Type 0 where
  pub on_card :
      (opens : ℕ) (card : List ℕ)
      → HasItemSets chart.lines (card_sends chart.lines opens card) (set_on (sent_to_card chart.lines opens card))
  pub on_total :
      (level : ℕ) (held : List ℕ → Printed) (card : List ℕ)
      → HasItemSets chart.lines (total_sends chart.lines level held card) (set_on (sent_to_total chart.lines level held card))
  pub on_heading : (number : ℕ) → HasItemSets chart.lines (heading_sends number) (set_on (sent_to_heading chart.lines number))

abbrev pub LawfulItemsKeepApart : Type 0
LawfulItemsKeepApart = (chart : Chart) → IsLawful chart → ItemsKeepApart chart

-- The line of a valid card prints as the report has it, whatever groups the card opens.
abbrev pub CardLinesPrint : Type 0
CardLinesPrint =
    (chart : Chart) (link suppress symbol : ℕ → Bool) (opens : ℕ) (card : List ℕ) → IsLawful chart
    → HaveLiteralTexts chart.lines → HasJacksOf chart.lines link suppress symbol → IsValidCard chart card
    → printed_line true (wheels_with link suppress symbol (set_on (sent_to_card chart.lines opens card)))
    ≡ card_line chart.lines opens card

-- The total line of a group prints as the report has it, where the machine holds the group's totals and texts.
abbrev pub TotalLinesPrint : Type 0
TotalLinesPrint =
    (chart : Chart) (link suppress symbol : ℕ → Bool) (level : ℕ) (group : List (List ℕ)) (held : List ℕ → Printed) (card : List ℕ)
    → IsLawful chart → HaveLiteralTexts chart.lines → HasJacksOf chart.lines link suppress symbol
    → HoldsLine chart.lines level group held card
    → printed_line true (wheels_with link suppress symbol (set_on (sent_to_total chart.lines level held card)))
    ≡ total_line chart.lines level group

-- A heading line prints as the report has it, with any jacks: zero control is off. The chart may break rules: where literals meet on a
-- wheel, `set_on` has the first, as the report does; on a panel the wheel would receive both.
abbrev pub HeadingLinesPrint : Type 0
HeadingLinesPrint =
    (chart : Chart) (link suppress symbol : ℕ → Bool) (number : ℕ) → HaveLiteralTexts chart.lines
    → printed_line false (wheels_with link suppress symbol (set_on (sent_to_heading chart.lines number)))
    ≡ heading_line chart.lines number

-- The total of an amount without a sign rule is never below 0.
abbrev pub UnsignedTotalsHaveNoSign : Type 0
UnsignedTotalsHaveNoSign =
    (field : Field) (group : List (List ℕ)) → rule_of field.kind ≡ None → is_negative (total_of field group) ≡ false

-- A text on a total line of a lawful chart is a text on every valid card.
abbrev pub TotalTextsAreTexts : Type 0
TotalTextsAreTexts =
    (chart : Chart) (card : List ℕ) (line : Line) (level : Level) (wheel : ℕ) (name : List ℕ) (field : Field) → IsLawful chart
    → IsValidCard chart card → Contains chart.lines line → line.statement ≡ says.TotalText level wheel name
    → field_named chart.lines name ≡ Some field → IsText field.first field.last card
