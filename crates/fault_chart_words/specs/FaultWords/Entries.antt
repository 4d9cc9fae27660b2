-- The entry of a fault of a chart: a line with the number of the chart's line, the number of the fault and its name; the chart's line as
-- it stands; a mark under a word of it; what is wrong; and what helps. All but the first line are indented.
use Rattle.std.specs.Prelude.{ℕ, ◌==◌, List, [], ◌∷◌, ◌++◌, codes, if◌then◌else◌}
use Rattle.std.specs.List.{flat_map}
use Rattle.fault_slips.specs.Below.card_code.Deck.{line_at}
use Rattle.chart_lines.specs.ChartsWords.Chart.{Chart}
use Rattle.chart_lines.specs.declared.charts.chart.Line.{Line}
use Rattle.chart_lines.specs.declared.charts.statement.Field.{Field}
use Rattle.chart_line_rules.specs.FieldRules.Fields.{fields_of}
use Rattle.chart_rules.specs.Rules.{rule_number}
use Rattle.chart_rules.specs.declared.rule.Rule.{Rule}
use Rattle.chart_rules.specs.declared.rule.Rule.TheVariants as rule
use Rattle.fault_chart_words.specs.declared.listing.BrokenRule.{BrokenRule}
use Rattle.fault_slips.specs.LineMarks.Entries.{below, head_line, shown}
use Rattle.fault_slips.specs.LineMarks.Spans.{span_of}
use Rattle.fault_chart_words.specs.FaultWords.Words.{cure, end_cure, end_words, place_on, words}

-- the name of a rule's fault
abbrev pub rule_name : Rule → List ℕ
rule_name rule.NameTwice = codes "NameTwice"
rule_name rule.Columns = codes "Columns"
rule_name rule.AmountSize = codes "AmountSize"
rule_name rule.UnknownName = codes "UnknownName"
rule_name rule.WrongKind = codes "WrongKind"
rule_name rule.LineTwice = codes "LineTwice"
rule_name rule.NoControl = codes "NoControl"
rule_name rule.TotalTextNotControl = codes "TotalTextNotControl"
rule_name rule.DigitsRange = codes "DigitsRange"
rule_name rule.DigitsShrink = codes "DigitsShrink"
rule_name rule.MarkMismatch = codes "MarkMismatch"
rule_name rule.WheelRange = codes "WheelRange"
rule_name rule.WheelOverlap = codes "WheelOverlap"
rule_name rule.WheelClash = codes "WheelClash"
rule_name rule.PrintKind = codes "PrintKind"
rule_name rule.Form = codes "Form"
rule_name rule.Tape = codes "Tape"
rule_name rule.CoupledMark = codes "CoupledMark"

-- what is told of a line that breaks a rule: its text with a mark, what is wrong, and what helps
unfoldable pub line_told : Rule → List ℕ → List Field → List Line → List Line → Line → List ℕ
line_told broken text fields chart earlier line =
    shown text (span_of (place_on broken fields chart line.statement) text) ++ below (words broken fields chart earlier line.statement)
    ++ below (cure broken line.statement)

-- what is told of END, where a line is missing
unfoldable pub end_told : Rule → List ℕ → List ℕ
end_told broken text = shown text (span_of 0 text) ++ below (end_words broken) ++ below (end_cure broken)

-- what is told of the line of a number, where the line of a number is among these or is END
unfoldable pub told_among : Rule → Chart → List ℕ → ℕ → List Line → List Line → List ℕ
told_among broken chart text number earlier [] = end_told broken text
told_among broken chart text number earlier (line ∷ lines) =
    if line.number == number
    then line_told broken text (fields_of chart.lines) chart.lines earlier line
    else told_among broken chart text number (earlier ++ line ∷ []) lines

-- the entry of a fault
unfoldable pub entry_text : List ℕ → Chart → BrokenRule → List ℕ
entry_text source chart fault =
    head_line fault.line (rule_number fault.rule) (rule_name fault.rule)
    ++ told_among fault.rule chart (line_at source fault.line) fault.line [] chart.lines

-- the entries of faults, one after another
abbrev pub entries_text : List ℕ → Chart → List BrokenRule → List ℕ
entries_text source chart faults = flat_map (entry_text source chart) faults
