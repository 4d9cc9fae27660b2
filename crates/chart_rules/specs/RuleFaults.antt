-- What a fault says of a chart, and its number.
use Rattle.std.specs.Prelude.{ℕ, Option, Some, None}
use Rattle.chart_lines.specs.ChartsWords.Chart.{Chart}
use Rattle.chart_rules.specs.declared.fault.RuleFault.{RuleFault}
use Rattle.chart_rules.specs.declared.fault.RuleFault.TheVariants as fault
use Rattle.chart_rules.specs.Rules.{IsFirstBroken, rule_number}

-- the number of a fault in the catalogue of faults: that of the rule; want of memory has none
abbrev pub fault_number : RuleFault → Option ℕ
fault_number (fault.Rule first line) = Some (rule_number first)
fault_number fault.Memory = None

-- A fault names the lowest rule that the chart breaks and the lowest line that breaks it; no chart makes memory run out.
abbrev pub IsTold : Chart → RuleFault → Type 0
IsTold chart (fault.Rule first line) = IsFirstBroken chart first line
IsTold chart fault.Memory = ⊥
