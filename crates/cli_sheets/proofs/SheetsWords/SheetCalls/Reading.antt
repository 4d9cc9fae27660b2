-- Charts that are read and checked, and why they are refused.
use Rattle.std.proofs.Common.{◌≡◌, ◌≢◌, ◌⊎◌, inl, inr, subst, sym, ℕ, List, Result, Ok, Err, IfOk}
use Rattle.std.specs.Prelude.{IfErr, OnOk}
use Rattle.chart_rules.specs.RuleFaults.{IsTold}
use Rattle.chart_rules.specs.Rules.{IsLawful}
use Rattle.chart_rules.specs.declared.fault.RuleFault.{RuleFault}
use Rattle.chart_rules.specs.declared.fault.RuleFault.TheVariants as rule
use Rattle.chart_text.specs.ChartText.{Reads}
use Rattle.chart_text.specs.TextFaults.{HasTextFault}
use Rattle.chart_text.specs.declared.fault.TextFault.{TextFault}
use Rattle.chart_text.specs.declared.fault.TextFault.TheVariants as text
use Rattle.chart_lines.specs.ChartsWords.Chart.{Chart}
use Rattle.fault_lines.specs.FaultsWords.ChartCauses.{of_rule, of_text}
use Rattle.fault_lines.specs.FaultsWords.ToldFaults.{chart_told}
use Rattle.fault_lines.specs.declared.faults.fault.Fault.{Fault}
use Rattle.fault_lines.specs.declared.faults.fault.Fault.TheVariants as fault
use Rattle.cli_sheets.specs.SheetsWords.SheetCalls.Charts.{BreaksRules, ReadsLawful, RefusesLines, no_chart, unlawful}

pub rule_refuses : (chart : Chart) (cause : RuleFault) (told : Fault) → (cause ≢ rule.Memory → IsTold chart cause)
    → told ≡ chart_told (of_rule cause) → (told ≡ fault.Memory) ⊎ BreaksRules chart told
rule_refuses chart (rule.Rule broken line) told has named =
    inr (record { cause = rule.Rule broken line; at_fault = has (λ is. cc); named = named })
rule_refuses chart rule.Memory told has named = inl named

pub text_refuses : (bytes : List ℕ) (cause : TextFault) (told : Fault) → (cause ≢ text.Memory → HasTextFault bytes cause)
    → told ≡ chart_told (of_text cause) → (told ≡ fault.Memory) ⊎ RefusesLines bytes told
text_refuses bytes text.TooLarge told has named = inr (no_chart text.TooLarge (has (λ is. cc)) named)
text_refuses bytes text.NoFirstLine told has named = inr (no_chart text.NoFirstLine (has (λ is. cc)) named)
text_refuses bytes (text.NotALine line) told has named = inr (no_chart (text.NotALine line) (has (λ is. cc)) named)
text_refuses bytes text.NoEnd told has named = inr (no_chart text.NoEnd (has (λ is. cc)) named)
text_refuses bytes text.Memory told has named = inl named

module _ (result : Result Chart Fault) (bytes : List ℕ) (raw : Chart) (reads : Reads bytes raw) where
  pub reads_lawful : IfOk result (λ chart. chart ≡ raw) → OnOk result (IsLawful raw) → IfOk result (ReadsLawful bytes)
  reads_lawful = by result
    where
      by : (r : Result Chart Fault) → IfOk r (λ chart. chart ≡ raw) → OnOk r (IsLawful raw) → IfOk r (ReadsLawful bytes)
      by (Ok chart) same lawful =
          record { reads = subst (Reads bytes) (sym same) reads; lawful = subst IsLawful (sym same) lawful }
      by (Err told) same lawful = tt

  pub lines_refused : IfErr result (λ told. (told ≡ fault.Memory) ⊎ BreaksRules raw told)
      → IfErr result (λ told. (told ≡ fault.Memory) ⊎ RefusesLines bytes told)
  lines_refused = by result
    where
      by : (r : Result Chart Fault) → IfErr r (λ told. (told ≡ fault.Memory) ⊎ BreaksRules raw told)
          → IfErr r (λ told. (told ≡ fault.Memory) ⊎ RefusesLines bytes told)
      by (Ok chart) refuses = tt
      by (Err told) (inl is) = inl is
      by (Err told) (inr breaks) = inr (unlawful raw reads breaks)
