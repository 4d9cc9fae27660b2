-- What is promised of the chart and the setup of a compilation.
use Rattle.std.proofs.Common.{◌≡◌, ◌∙◌, ap, sym, subst}
use Rattle.chart_text.specs.Below.chart_lines.ChartsWords.Chart.{Chart}
use Rattle.compile407.proofs.Headline.{wired_setups_begin_reports, wired_setups_print_reports}
use Rattle.compile407.specs.Compilation.{Compilation, IsCompiled}
use Rattle.report_misfits.specs.Below.report_definition.ChartForm.{form_of}
use Rattle.hubs.specs.SetupsWords.Wiring.{Wiring}
use Rattle.report_runs.specs.PrintPromises.Promises.{BeginsReport, PrintsReport}

module _ (chart : Chart) (setup : Wiring) (compiled : Compilation) (same_chart : chart ≡ compiled.chart) (same_setup : setup ≡ compiled.setup)
    (is : IsCompiled compiled) where
  -- the setup prints the reports of the chart
  pub prints : PrintsReport chart setup
  prints =
      subst (λ (of : Chart). PrintsReport of setup) (sym same_chart)
      (subst (λ (of : Wiring). PrintsReport compiled.chart of) (sym same_setup)
      (wired_setups_print_reports compiled.chart compiled.plan compiled.setup is.sound is.serves is.wired))

  -- it begins them where not all totals fit
  pub begins : BeginsReport chart setup
  begins =
      subst (λ (of : Chart). BeginsReport of setup) (sym same_chart)
      (subst (λ (of : Wiring). BeginsReport compiled.chart of) (sym same_setup)
      (wired_setups_begin_reports compiled.chart compiled.plan compiled.setup is.sound is.serves is.wired))

  -- its tape has the lines of the chart's form
  pub form_lines : setup.tape.lines ≡ (form_of chart.lines).lines
  form_lines =
      ap (λ (of : Wiring). of.tape.lines) same_setup
      ∙ is.wired.tape.form_lines
      ∙ ap (λ (of : Chart). (form_of of.lines).lines) (sym same_chart)
