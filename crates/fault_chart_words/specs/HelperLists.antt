-- A helper of the code: the list, line by line.
use Rattle.std.specs.Prelude.{ℕ, Bool, List, [], ◌∷◌, ◌++◌, map, filter}
use Rattle.chart_lines.specs.ChartsWords.Chart.{Chart}
use Rattle.chart_lines.specs.declared.charts.chart.Line.{Line}
use Rattle.chart_rules.specs.declared.rule.Rule.{Rule}
use Rattle.chart_rules.specs.Rules.{lacks}
use Rattle.chart_rules.specs.HelperOrder.{in_order}
use Rattle.fault_chart_words.specs.Listed.{is_at_fault}
use Rattle.fault_chart_words.specs.declared.listing.BrokenRule.{BrokenRule}

-- the rules of a list that pass a test, at a line
abbrev pub at_line : ℕ → (Rule → Bool) → List Rule → List BrokenRule
at_line number test rules = map (λ each. record { line = number; rule = each }) (filter test rules)

-- the faults of a line
unfoldable pub faults_at : Chart → List Line → Line → List BrokenRule
faults_at chart earlier line = at_line line.number (λ each. is_at_fault each chart earlier line) in_order

-- the faults of END
unfoldable pub faults_at_end : Chart → List BrokenRule
faults_at_end chart = at_line chart.end (λ each. lacks each chart.lines) in_order

-- the faults of the lines after some
unfoldable pub faults_from : Chart → List Line → List Line → List BrokenRule
faults_from chart earlier [] = []
faults_from chart earlier (line ∷ lines) = faults_at chart earlier line ++ faults_from chart (earlier ++ line ∷ []) lines

-- the faults of a chart
unfoldable pub faults_of : Chart → List BrokenRule
faults_of chart = faults_from chart [] chart.lines ++ faults_at_end chart
