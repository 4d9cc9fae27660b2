-- A chart that breaks no rule, from its bytes, and why there is none. Whether the machine has enough parts for it is not asked.
use Rattle.std.specs.Prelude.{◌≡◌, ℕ, List}
use Rattle.chart_rules.specs.RuleFaults.{IsTold}
use Rattle.chart_rules.specs.Rules.{IsLawful}
use Rattle.chart_rules.specs.declared.fault.RuleFault.{RuleFault}
use Rattle.chart_text.specs.ChartText.{Reads}
use Rattle.chart_text.specs.TextFaults.{HasTextFault}
use Rattle.chart_text.specs.declared.fault.TextFault.{TextFault}
use Rattle.chart_lines.specs.ChartsWords.Chart.{Chart}
use Rattle.fault_lines.specs.FaultsWords.ChartCauses.{of_rule, of_text}
use Rattle.fault_lines.specs.FaultsWords.ToldFaults.{chart_told}
use Rattle.fault_lines.specs.declared.faults.fault.Fault.{Fault}

-- the text reads as this chart, which breaks no rule
pub record ReadsLawful (text : List ℕ) (chart : Chart) : Type 0 where
  pub reads : Reads text chart
  pub lawful : IsLawful chart

-- the text is a chart that breaks no rule
abbrev pub HasLawful : List ℕ → Type 0
HasLawful text = (chart : Chart) × ReadsLawful text chart

-- the first rule that a chart breaks is told
pub record BreaksRules (chart : Chart) (told : Fault) : Type 0 where
  pub cause : RuleFault
  pub at_fault : IsTold chart cause
  pub named : told ≡ chart_told (of_rule cause)

-- The text is no chart, or one that breaks a rule, and this is told.
pub data RefusesLines (text : List ℕ) (told : Fault) : Type 0 where
  no_chart : (cause : TextFault) → HasTextFault text cause → told ≡ chart_told (of_text cause) → RefusesLines text told
  unlawful : (chart : Chart) → Reads text chart → BreaksRules chart told → RefusesLines text told
