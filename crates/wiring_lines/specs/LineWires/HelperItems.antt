-- A helper of the code: the wires of the items of the line of a card, and their ranges.
use Rattle.std.specs.Prelude.{ℕ, ◌+◌, ◌≤◌, List, Option}
use Rattle.chart_plans.specs.PlansWords.Plans.{Lists}
use Rattle.chart_rules.specs.HelperOnCard.{IsOnCard}
use Rattle.chart_line_rules.specs.PrintRules.Items.{mark_shown, mark_width}
use Rattle.chart_lines.specs.ChartsWords.Field.{columns_of, decimals_of}
use Rattle.chart_lines.specs.declared.charts.statement.DetailOption.{DetailOption}
use Rattle.chart_lines.specs.declared.charts.statement.DetailOption.TheVariants as shown
use Rattle.chart_lines.specs.declared.charts.statement.Field.{Field}
use Rattle.chart_lines.specs.declared.charts.statement.FieldKind.{FieldKind}
use Rattle.chart_lines.specs.declared.charts.statement.FieldKind.TheVariants as holds
use Rattle.chart_lines.specs.declared.charts.statement.Mark.{Mark}
use Rattle.chart_lines.specs.declared.charts.statement.SignRule.{SignRule}
use Rattle.wiring_table.specs.Figures.{detail_emitter, mark_wheel, rule_of}
use Rattle.wiring_lines.specs.LineWires.HelperAdds.{Both, OfSome}
use Rattle.wiring_lines.specs.LineWires.HelperRows.{Wires, TextWires, IndicatedWires, DetailDigits, PointWires, DetailMark}
use Rattle.wiring_table.specs.Parts.{pilot_for}

-- no wires
abbrev pub NoWires : Wires
NoWires exit entry = ⊥

-- the wires of a text on the line of a card
abbrev pub DetailText : Lists → (number wheel : ℕ) → Field → DetailOption → Wires
DetailText plan number wheel field shown.Plain = TextWires wheel field
DetailText plan number wheel field (shown.Indicated level) = IndicatedWires plan level number wheel field
DetailText plan number wheel field (shown.Marked mark) = NoWires

-- the wires of the mark of an amount on the line of a card, if it has one
abbrev pub DetailMarks : Lists → (name : List ℕ) → (wheel : ℕ) → Option SignRule → Option Mark → Wires
DetailMarks plan name wheel rule mark =
    OfSome mark (λ its_mark. OfSome rule (λ its_rule. OfSome (pilot_for plan name) (λ pilot.
    DetailMark its_rule pilot wheel its_mark)))

-- the wires of an amount on the line of a card
abbrev pub DetailAmount : Lists → (number wheel : ℕ) → (name : List ℕ) → Field → Option Mark → Wires
DetailAmount plan number wheel name field mark =
    Both (DetailDigits plan number wheel field)
    (Both (PointWires detail_emitter wheel (columns_of field) (decimals_of field.kind))
    (DetailMarks plan name (mark_wheel wheel (columns_of field) (decimals_of field.kind)) (rule_of field.kind) mark))

-- the wires of a field on the line of a card, by what it holds
abbrev pub DetailWires : Lists → (number wheel : ℕ) → (name : List ℕ) → Field → DetailOption → FieldKind → Wires
DetailWires plan number wheel name field shown holds.Text = DetailText plan number wheel field shown
DetailWires plan number wheel name field shown (holds.Amount decimals rule) =
    DetailAmount plan number wheel name field (mark_shown shown)

-- so many characters stand on wheels of the machine from a wheel on
pub record HasWheels (wheel characters : ℕ) : Type 0 where
  pub first : 1 ≤ wheel
  pub last : wheel + characters ≤ 121

-- so many digits with decimals and a mark stand on wheels of the machine from a wheel on
pub record HasFigureWheels (wheel digits decimals : ℕ) (mark : Option Mark) : Type 0 where
  pub first : 1 ≤ wheel
  pub last : mark_wheel wheel digits decimals + mark_width mark ≤ 121
  pub whole : decimals ≤ digits

-- the ranges of a field on the line of a card, by what it holds
abbrev pub DetailRanges : (wheel : ℕ) → Field → DetailOption → FieldKind → Type 0
DetailRanges wheel field shown holds.Text = HasWheels wheel (columns_of field)
DetailRanges wheel field shown (holds.Amount decimals rule) =
    HasFigureWheels wheel (columns_of field) (decimals_of field.kind) (mark_shown shown)

-- the ranges of a field on the line of a card
pub record IsGoodDetail (wheel : ℕ) (shown : DetailOption) (field : Field) : Type 0 where
  pub card : IsOnCard field
  pub wheels : DetailRanges wheel field shown field.kind
