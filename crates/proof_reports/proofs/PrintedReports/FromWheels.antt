-- What the cycles of a panel wired for a chart print.
use Rattle.std.proofs.Common.{◌≡◌, ◌∙◌, refl, ℕ, List}
use Rattle.proof_reports.specs.Below.chart_plans.PlansWords.Plans.{Lists}
use Rattle.report_definition.specs.Below.card_code.declared.row.Row.{Row as CardRow}
use Rattle.report_definition.specs.Below.chart_lines.ChartsWords.Chart.{Chart, NumbersRise}
use Rattle.report_definition.specs.Below.chart_lines.ChartsWords.Literals.{HaveLiteralTexts}
use Rattle.proof_reports.specs.Below.hubs.SetupsWords.Wiring.{Wiring}
use Rattle.proof_reports.proofs.WiredPanels.CycleAsks.JacksAndTape.{wheel_jacks-are}
use Rattle.proof_reports.proofs.WiredPanels.AfterCycles.{cycle-of}
use Rattle.proof_reports.proofs.WiredPanels.CycleAsks.WheelRowsLaws.{wheels-cards, wheels-headings}
use Rattle.proof_reports.specs.WiredPanels.PanelCycles.{IsCardRead}
use Rattle.proof_reports.specs.WiredPanels.Panel.{IsPanel}
use Rattle.proof_reports.specs.WiredPanels.PanelCycles.{AreSetTo, IsPanelCycle}
use Rattle.proof_reports.specs.WiredPanels.CycleRows.{CycleRow}
use Rattle.proof_reports.specs.Below.machine.Cycles.{CycleRun}
use Rattle.proof_reports.specs.Below.machine.Machine.{MachineState}
use Rattle.proof_reports.specs.Below.net.Cycles.{ordinal_number}
use Rattle.proof_reports.specs.Below.net.declared.cycle.Cycle.{Cycle}
use Rattle.proof_reports.specs.Below.net.declared.cycle.Cycle.TheVariants.{Card, Head}
use Rattle.proof_reports.specs.Below.net.declared.cycle.Ordinal.{Ordinal}
use Rattle.proof_reports.proofs.PrintedLines.Cards.{card_lines}
use Rattle.proof_reports.proofs.PrintedLines.Headings.{heading_lines}
use Rattle.proof_reports.specs.PrintedLines.Shown.{sent_to_card, sent_to_heading, set_on}
use Rattle.report_definition.specs.BodyLines.{card_line, heading_line}
use Rattle.proof_cycles.specs.WholeCycles.Between.{IsReady}
use Rattle.proof_cycles.specs.WholeCycles.WholeCycles.{WholeCycle}
use Rattle.proof_reports.proofs.PrintedReports.FromCycles.{whole}
use Rattle.proof_reports.proofs.PrintedReports.Lines.{has_link, has_suppress, has_symbol, line_of_cycle}

module _ (chart : Chart) (plan : Lists) (wiring : Wiring) (panel : IsPanel chart plan wiring) (rise : NumbersRise chart.lines chart.end)
    (literals : HaveLiteralTexts chart.lines) where
  -- a row of a cycle
  abbrev pub row_of : (cycle : Cycle) (old new : MachineState) (all : WholeCycle wiring cycle old new) → CardRow → CycleRow
  row_of cycle old new all row =
      record { chart = chart; plan = plan; old = old; pictures = all.pictures; cycle = cycle; row = row }

  pub on_panel : (cycle : Cycle) (old new : MachineState) → IsReady wiring old → (all : WholeCycle wiring cycle old new)
      → IsPanelCycle chart plan wiring old cycle all.pictures
  on_panel cycle old new is all = cycle-of chart plan wiring cycle old new panel is.between all

  pub card_prints :
      (old new : MachineState) (card : List ℕ) (opens : ℕ) → IsReady wiring old → CycleRun wiring Card old new
      → IsCardRead chart plan old card → AreSetTo old.indicate opens → new.wheels.line ≡ card_line chart.lines opens card
  card_prints old new card opens is run read set =
      let all = whole wiring Card old new is run in
      let set_of = set_on (sent_to_card chart.lines opens card) in
      line_of_cycle wiring Card old new set_of is all
      (λ row v low high. wheels-cards wiring card opens (row_of Card old new all row) v
      (record { on_panel = on_panel Card old new is all; rises = rise; cycle = refl; read = read; latches = set }))
      ∙ card_lines chart (has_link wiring) (has_suppress wiring) (has_symbol wiring) opens card panel.lawful literals
      (wheel_jacks-are chart plan wiring panel) read.valid

  pub heading_prints :
      (old new : MachineState) (heading : Ordinal) → IsReady wiring old → CycleRun wiring (Head heading) old new
      → new.wheels.line ≡ heading_line chart.lines (ordinal_number heading)
  heading_prints old new heading is run =
      let all = whole wiring (Head heading) old new is run in
      let set_of = set_on (sent_to_heading chart.lines (ordinal_number heading)) in
      line_of_cycle wiring (Head heading) old new set_of is all
      (λ row v low high. wheels-headings wiring heading (row_of (Head heading) old new all row) v
      (record { on_panel = on_panel (Head heading) old new is all; rises = rise; cycle = refl }))
      ∙ heading_lines chart (has_link wiring) (has_suppress wiring) (has_symbol wiring) (ordinal_number heading) literals
