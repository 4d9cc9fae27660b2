-- Charts of both versions that say the same.
use Rattle.std.specs.Prelude.{◌≡◌, ◌↔◌, ℕ, List, []}
use Rattle.std.specs.List.{Contains}
use Rattle.chart_lines.specs.ChartsWords.Chart.{Chart}
use Rattle.chart_lines.specs.declared.charts.chart.Line.{Line}
use Rattle.chart_lines.specs.declared.charts.chart.Version.TheVariants.{First, Second}
use Rattle.chart_line_rules.specs.FieldRules.Coupled.{is_coupled, takes_two}
use Rattle.chart_line_rules.specs.FieldRules.Fields.{fields_of}
use Rattle.chart_rules.specs.Rules.{IsLawful}

-- the chart of version 1 of some lines and the number of END
abbrev pub in_first : List Line → ℕ → Chart
in_first lines end = record { version = First; lines = lines; coupled = []; end = end }

-- the chart of version 2 of these, where the word COUPLED stands on the lines with some numbers
abbrev pub in_second : List Line → List ℕ → ℕ → Chart
in_second lines coupled end = record { version = Second; lines = lines; coupled = coupled; end = end }

-- the word stands exactly where a total needs more than 8 positions, and so takes two counter groups
abbrev pub AreCoupled : List Line → List ℕ → Type 0
AreCoupled lines coupled =
    (line : Line) → Contains lines line → is_coupled coupled line.number ≡ takes_two (fields_of lines) line.statement

-- Then the charts are lawful alike: where one breaks no rule, the other breaks none.
abbrev pub VersionsAreLawfulAlike : Type 0
VersionsAreLawfulAlike =
    (lines : List Line) (coupled : List ℕ) (end : ℕ) → AreCoupled lines coupled → IsLawful (in_first lines end) ↔ IsLawful (in_second lines coupled end)
