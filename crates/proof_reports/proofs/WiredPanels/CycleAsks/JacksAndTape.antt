-- The jacks and the tape of a panel that is wired for a chart.
use Rattle.std.proofs.Common.{◌≡◌, ℕ, ◌≤◌, nat_le, Bool, true, List, arith}
use Rattle.std.proofs.lemmas.Bool.Decides.{nat_tests}
use Rattle.proof_reports.specs.Below.chart_plans.PlansWords.Plans.{Lists}
use Rattle.proof_reports.specs.Below.chart_lines.ChartsWords.Chart.{Chart}
use Rattle.proof_reports.specs.Below.chart_lines.declared.charts.chart.Line.{Line}
use Rattle.proof_reports.specs.Below.hubs.SetupsWords.Wiring.{Wiring, is_plugged}
use Rattle.proof_reports.specs.Below.hubs.declared.jack.Jack.{Jack}
use Rattle.proof_reports.specs.Below.hubs.declared.jack.Jack.TheVariants as jack
use Rattle.proof_cycles.specs.Below.net.Printing.{printing_of}
use Rattle.proof_reports.specs.WiredPanels.CycleAsks.LinePlaces.Placing.{IsFormOf, printing_of_chart}
use Rattle.proof_reports.specs.PrintedLines.Shown.{HasJacksOf}
use Rattle.report_definition.specs.ChartForm.{heading_count, prints_details, prints_totals}
use Rattle.wiring_table.specs.Jacks.{ChartJack}
use Rattle.wiring_table.specs.Jacks.ChartJack.{list, total, head}
use Rattle.proof_reports.proofs.WiredPanels.Ways.{same_tests}
use Rattle.proof_reports.specs.WiredPanels.Panel.{IsPanel}

-- what the jacks of a chart say of the cycles that print
listing : (lines : List Line) → ChartJack lines jack.List → prints_details lines ≡ true
listing lines (list is) = is

totalling : (lines : List Line) {level : ℕ} → ChartJack lines (jack.Total level) → prints_totals lines level ≡ true
totalling lines (total level is) = is

heading : (lines : List Line) {n : ℕ} → ChartJack lines (jack.Head n) → nat_le n (heading_count lines) ≡ true
heading lines (head n low high) = grind (arith, nat_tests, high)

module _ (chart : Chart) (plan : Lists) (wiring : Wiring) (panel : IsPanel chart plan wiring) where
  plugged : (its : Jack) (printed : Bool) → (ChartJack chart.lines its → printed ≡ true) → (printed ≡ true → ChartJack chart.lines its)
      → is_plugged wiring its ≡ printed
  plugged its printed to from =
      let jacks = panel.wired.jacks its in
      same_tests (is_plugged wiring its) printed (λ on. to (jacks.0 on)) (λ on. jacks.1 (from on))

  totals : (level : ℕ) → is_plugged wiring (jack.Total level) ≡ prints_totals chart.lines level
  totals level = plugged (jack.Total level) (prints_totals chart.lines level) (totalling chart.lines) (total level)

  heads : (n : ℕ) → 1 ≤ n → is_plugged wiring (jack.Head n) ≡ nat_le n (heading_count chart.lines)
  heads n low =
      plugged (jack.Head n) (nat_le n (heading_count chart.lines)) (heading chart.lines)
      (λ on. head n low (let high = on in grind (arith, nat_tests, high)))

  -- The cycles that print are those of the chart.
  pub printing-is : printing_of wiring ≡ printing_of_chart chart.lines
  printing-is =
      let cards = plugged jack.List (prints_details chart.lines) (listing chart.lines) list in
      let minor = totals 1 in
      let intermediate = totals 2 in
      let major = totals 3 in
      let final = totals 4 in
      let first = heads 1 (omega arith) in
      let second = heads 2 (omega arith) in
      let third = heads 3 (omega arith) in
      λ i. record {
        cards = cards i;
        minor_totals = minor i;
        intermediate_totals = intermediate i;
        major_totals = major i;
        final_totals = final i;
        first_heading = first i;
        second_heading = second i;
        third_heading = third i;
      }

  -- The tape is that of the chart.
  pub tape-is : IsFormOf chart.lines wiring.tape
  tape-is = record {
    length = panel.wired.tape.form_lines;
    first = panel.wired.tape.first;
    overflow = panel.wired.tape.overflow;
    stops = λ channel line low high. panel.wired.tape.stops channel line;
  }

  -- The jacks of the wheels are those of the chart.
  pub wheel_jacks-are :
      HasJacksOf chart.lines (λ v. is_plugged wiring (jack.Link v)) (λ v. is_plugged wiring (jack.Suppress v))
      (λ v. is_plugged wiring (jack.Symbol v))
  wheel_jacks-are = record {
    links = λ v low high. panel.wired.jacks (jack.Link v);
    suppresses = λ v low high. panel.wired.jacks (jack.Suppress v);
    symbols = λ v low high. panel.wired.jacks (jack.Symbol v);
  }
