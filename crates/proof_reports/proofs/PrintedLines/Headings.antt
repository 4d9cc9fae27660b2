-- A heading line: its items are literals, and print without zero control.
use Rattle.std.proofs.Common.{◌≡◌, refl, ap, subst, ℕ, ◌==◌, if◌then◌else◌, Bool, true, false, List, map, Contains, Some, None, arith}
use Rattle.std.proofs.lemmas.Bool.Decides.{nat_tests}
use Rattle.wiring_table.specs.Below.chart_lines.ChartsWords.Chart.{Chart}
use Rattle.wiring_table.specs.Below.chart_lines.ChartsWords.Headings.{heading_number}
use Rattle.wiring_table.specs.Below.chart_lines.ChartsWords.Literals.{HaveLiteralTexts, literal_in}
use Rattle.wiring_table.specs.Below.chart_lines.declared.charts.chart.Line.{Line}
use Rattle.wiring_table.specs.Below.chart_lines.declared.charts.statement.Statement.{Statement}
use Rattle.wiring_table.specs.Below.chart_lines.declared.charts.statement.Statement.TheVariants as says
use Rattle.wiring_table.specs.Below.chart_line_rules.declared.print_rules.items.PrintedLine.{PrintedLine}
use Rattle.wiring_table.specs.Below.chart_line_rules.declared.print_rules.items.PrintedLine.TheVariants.{Heading, Body}
use Rattle.wiring_table.specs.Below.chart_line_rules.PrintRules.Items.{is_same_line}
use Rattle.report_definition.specs.BodyLines.{piece_at, heading_piece}
use Rattle.proof_reports.specs.PrintedLines.Laws.{HeadingLinesPrint}
use Rattle.proof_reports.specs.PrintedLines.Shown.{Shown, Characters, heading_sends, set_of_character}
use Rattle.proof_reports.proofs.PrintedLines.Lines.{SpellsText, text-line}
use Rattle.proof_reports.proofs.PrintedLines.Sending.{IsItems, IsSending}
use Rattle.proof_reports.proofs.PrintedLines.Spelled.{literal-spelled, literal-item}

-- the items of a heading line stand on it
abbrev pub on_heading_line : ℕ → PrintedLine → Bool
on_heading_line number (Heading heading) = heading_number heading == number
on_heading_line number other = false

heading-line : (number : ℕ) (first second : PrintedLine) → on_heading_line number first ≡ true
    → on_heading_line number second ≡ true → is_same_line first second ≡ true
heading-line number (Heading one) (Heading other) on also = grind (arith, nat_tests, on, also)
heading-line number (Body kind) second on also = cc
heading-line number (Heading one) (Body kind) on also = cc

-- what is sent to a heading line comes from its items
heading-items : (lines : List Line) (number : ℕ) (statement : Statement) (shown : Shown)
    → heading_sends number statement ≡ Some shown → IsItems lines (on_heading_line number) statement shown
heading-items lines number (says.Head heading wheel literal) shown sent = by (heading_number heading == number) refl sent
  where
    by : (b : Bool) → (heading_number heading == number) ≡ b
        → (if b then Some (Characters wheel (map set_of_character literal)) else None) ≡ Some shown
        → IsItems lines (on_heading_line number) (says.Head heading wheel literal) shown
    by false on sent = cc
    by true on sent =
        let is : Characters wheel (map set_of_character literal) ≡ shown = cc in
        subst (IsItems lines (on_heading_line number) (says.Head heading wheel literal)) is
        (record { amount = tt; line = Heading heading; is_on = on; is_item = literal-item (Heading heading) wheel literal })
heading-items lines number other shown sent = cc

pub heading-sending : (lines : List Line) (number : ℕ) → IsSending lines (on_heading_line number) (heading_sends number)
heading-sending lines number =
    record { one = heading-line number; items = λ line shown there sent. heading-items lines number line.statement shown sent }

-- each line of the chart spells what the report puts on the heading line
heading-spells : (chart : Chart) (number : ℕ) → HaveLiteralTexts chart.lines → (line : Line) → Contains chart.lines line
    → SpellsText (heading_sends number line.statement) (heading_piece number line.statement)
heading-spells chart number texts line there = by line.statement refl
  where
    literal_on : (wheel : ℕ) (literal : List ℕ) → literal_in line.statement ≡ Some literal → (b : Bool)
        → SpellsText (if b then Some (Characters wheel (map set_of_character literal)) else None)
        (if b then Some (piece_at wheel literal) else None)
    literal_on wheel literal is true = (refl, literal-spelled literal (texts line literal there is).printable)
    literal_on wheel literal is false = tt

    by : (statement : Statement) → line.statement ≡ statement
        → SpellsText (heading_sends number statement) (heading_piece number statement)
    by (says.Head heading wheel literal) is = literal_on wheel literal (ap literal_in is) (heading_number heading == number)
    by other is = tt

-- a heading line prints as the report has it
pub heading_lines : HeadingLinesPrint
heading_lines chart link suppress symbol number texts =
    text-line chart link suppress symbol (heading_sends number) (heading_piece number) (heading-spells chart number texts)
