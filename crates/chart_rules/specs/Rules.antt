-- The rules of a chart: which lines break which rule, and which charts are lawful.
use Rattle.std.specs.Prelude.{◌≡◌, ℕ, ◌<◌, ◌≤◌, Bool, true, false, List, [], ◌∷◌, ◌++◌}
use Rattle.chart_lines.specs.ChartsWords.Chart.{Chart}
use Rattle.chart_lines.specs.declared.charts.chart.Line.{Line}
use Rattle.chart_lines.specs.declared.charts.chart.Version.TheVariants.{First}
use Rattle.chart_lines.specs.declared.charts.statement.Statement.{Statement}
use Rattle.chart_rules.specs.declared.rule.Rule.{Rule}
use Rattle.chart_rules.specs.declared.rule.Rule.TheVariants as rule
use Rattle.chart_line_rules.specs.FieldRules.Fields.{fields_of}
use Rattle.chart_line_rules.specs.FieldRules.Names.{breaks_name_twice, breaks_unknown_name, breaks_wrong_kind}
use Rattle.chart_line_rules.specs.FieldRules.Columns.{breaks_columns, breaks_amount_size}
use Rattle.chart_line_rules.specs.FieldRules.Repeats.{breaks_line_twice}
use Rattle.chart_line_rules.specs.FieldRules.Control.{breaks_no_control, breaks_total_text_not_control}
use Rattle.chart_line_rules.specs.FieldRules.Digits.{breaks_digits_range}
use Rattle.chart_line_rules.specs.FieldRules.Coupled.{breaks_coupled_mark}
use Rattle.chart_line_rules.specs.FieldRules.Shrink.{breaks_digits_shrink}
use Rattle.chart_line_rules.specs.PrintRules.Marks.{breaks_mark_mismatch}
use Rattle.chart_line_rules.specs.PrintRules.Wheels.{breaks_wheel_range, breaks_wheel_overlap, breaks_wheel_clash}
use Rattle.chart_line_rules.specs.PrintRules.Printing.{breaks_print_kind, lacks_print}
use Rattle.chart_line_rules.specs.PrintRules.Forms.{breaks_form, lacks_form}
use Rattle.chart_line_rules.specs.PrintRules.Tapes.{breaks_tape}

-- The number of a rule, and whether a line of a chart breaks it, by the chart, the lines before this one, and the line.
abbrev pub row_of : Rule → ℕ × (Chart → List Line → Line → Bool)
row_of rule.NameTwice = (21, λ chart earlier line. breaks_name_twice (fields_of earlier) line.statement)
row_of rule.Columns = (22, λ chart earlier line. breaks_columns line.statement)
row_of rule.AmountSize = (23, λ chart earlier line. breaks_amount_size line.statement)
row_of rule.UnknownName = (24, λ chart earlier line. breaks_unknown_name (fields_of chart.lines) line.statement)
row_of rule.WrongKind = (25, λ chart earlier line. breaks_wrong_kind (fields_of chart.lines) line.statement)
row_of rule.LineTwice = (26, λ chart earlier line. breaks_line_twice earlier line.statement)
row_of rule.NoControl = (27, λ chart earlier line. breaks_no_control chart.lines line.statement)
row_of rule.TotalTextNotControl = (28, λ chart earlier line. breaks_total_text_not_control chart.lines line.statement)
row_of rule.DigitsRange = (29, λ chart earlier line. breaks_digits_range (fields_of chart.lines) line.statement)
row_of rule.DigitsShrink = (30, λ chart earlier line. breaks_digits_shrink chart.lines line.statement)
row_of rule.MarkMismatch = (31, λ chart earlier line. breaks_mark_mismatch (fields_of chart.lines) line.statement)
row_of rule.WheelRange = (32, λ chart earlier line. breaks_wheel_range (fields_of chart.lines) line.statement)
row_of rule.WheelOverlap = (33, λ chart earlier line. breaks_wheel_overlap (fields_of chart.lines) earlier line.statement)
row_of rule.WheelClash = (34, λ chart earlier line. breaks_wheel_clash (fields_of chart.lines) earlier line.statement)
row_of rule.PrintKind = (35, λ chart earlier line. breaks_print_kind chart.lines line.statement)
row_of rule.Form = (36, λ chart earlier line. breaks_form chart.lines line.statement)
row_of rule.Tape = (37, λ chart earlier line. breaks_tape chart.lines line.statement)
row_of rule.CoupledMark = (38, λ chart earlier line. breaks_coupled_mark (fields_of chart.lines) chart.version chart.coupled line)

abbrev pub rule_number : Rule → ℕ
rule_number rule = (row_of rule).0

abbrev pub breaks_at : Rule → Chart → List Line → Line → Bool
breaks_at rule = (row_of rule).1

-- the same of what a line says alone, of which all rules are asked but CoupledMark: as it is in a chart of version 1
abbrev pub breaks : Rule → List Line → List Line → Statement → Bool
breaks rule lines earlier statement =
    breaks_at rule (record { version = First; lines = lines; coupled = []; end = 0 }) earlier (record { number = 0; statement = statement })

-- whether a chart lacks a line that a rule demands: PRINT or FORM
abbrev pub lacks : Rule → List Line → Bool
lacks rule.PrintKind lines = lacks_print lines
lacks rule.Form lines = lacks_form lines
lacks other lines = false

-- The line with a number breaks a rule: a line of the chart by what it says, or the line END where a line is missing.
pub data Broken (broken : Rule) (chart : Chart) : ℕ → Type 0 where
  by_line : (earlier : List Line) (line : Line) (later : List Line) → chart.lines ≡ earlier ++ line ∷ later → breaks_at broken chart earlier line ≡ true → Broken broken chart line.number
  by_end : lacks broken chart.lines ≡ true → Broken broken chart chart.end

-- no line breaks a rule
unfoldable pub IsKept : Rule → Chart → Type 0
IsKept kept chart = (number : ℕ) → ¬ Broken kept chart number

-- a chart is lawful where no line breaks any rule
unfoldable pub IsLawful : Chart → Type 0
IsLawful chart = (each : Rule) → IsKept each chart

-- a rule is the lowest that a chart breaks, and a line is the lowest that breaks it
pub record IsFirstBroken (chart : Chart) (first : Rule) (line : ℕ) : Type 0 where
  pub broken : Broken first chart line
  pub lowest_rule : (lower : Rule) → rule_number lower < rule_number first → IsKept lower chart
  pub lowest_line : (other : ℕ) → Broken first chart other → line ≤ other
