-- What arrives at the entries of a panel at the points of a cycle. At a plain entry an impulse arrives straight from an exit that emits.
use Rattle.std.proofs.Common.{◌≡◌, refl, Bool, true, false, List, None, ◌↔◌}
use Rattle.wiring_table.specs.Below.chart_plans.PlansWords.Plans.{Lists}
use Rattle.proof_cycles.specs.Below.card_code.declared.row.Row.{Row as CardRow}
use Rattle.wiring_table.specs.Below.chart_lines.ChartsWords.Chart.{Chart}
use Rattle.wiring_table.specs.Below.chart_lines.declared.charts.chart.Line.{Line}
use Rattle.wiring_table.specs.Below.hubs.SetupsWords.Wiring.{Wiring}
use Rattle.proof_cycles.specs.Below.hubs.declared.hub.Hub.{Hub}
use Rattle.proof_cycles.specs.Below.machine.Machine.{MachineState, closes}
use Rattle.proof_cycles.specs.Below.net.Panel.{contact_of}
use Rattle.proof_cycles.specs.Below.net.declared.cycle.Cycle.{Cycle}
use Rattle.proof_cycles.specs.Below.net.declared.cycle.Point.{Point}
use Rattle.proof_cycles.specs.Below.net.declared.cycle.Point.TheVariants.{C, Row, K}
use Rattle.proof_cycles.proofs.WholeCycles.Sources.{emit_at_sources}
use Rattle.proof_cycles.proofs.WholeCycles.Carries.{carries-apart, carries-wait}
use Rattle.proof_cycles.specs.WholeCycles.Carries.{but_carries, is_carry}
use Rattle.proof_cycles.specs.WholeCycles.OneContactDeep.{is_source}
use Rattle.proof_cycles.specs.WholeCycles.WholeCycles.{IsClosingPicture, control_emits, row_emits, closing_emits}
use Rattle.wiring_table.specs.Wires.{ChartWire}
use Rattle.proof_reports.proofs.WiredPanels.Chains.{is_plain, wire_orderly}
use Rattle.proof_reports.proofs.WiredPanels.Sending.{telling, sending}
use Rattle.proof_reports.proofs.WiredPanels.Sources.{told, sent}
use Rattle.proof_reports.proofs.WiredPanels.Ways.{arrives, carries-lead}
use Rattle.proof_reports.specs.WiredPanels.Panel.{Arrives}
use Rattle.proof_reports.specs.WiredPanels.Panel.Arrives.{straight, through}
use Rattle.proof_reports.specs.WiredPanels.PanelCycles.{IsPanelCycle, ArrivesAtControl, ArrivesAtRow, ArrivesAtClosing}
use Rattle.proof_reports.specs.WiredPanels.Sources.{EmitsAtControl, EmitsAtRow}

-- the way to a plain entry
wired : (lines : List Line) (plan : Lists) (exits closed : Hub → Bool) {entry : Hub} → is_plain entry ≡ true
    → Arrives lines plan exits closed entry → (exit : Hub) × (exits exit ≡ true) × ChartWire lines plan exit entry
wired lines plan exits closed plain (straight exit entry on wire) = (exit, on, wire)
wired lines plan exits closed plain (through exit common contact entry on wire leads shut last) =
    let no = (wire_orderly lines plan last.line.number last.wire).plain plain in cc

module _ (chart : Chart) (plan : Lists) (wiring : Wiring) (old : MachineState) (cycle : Cycle) (pictures : Point → Hub → Bool)
    (it : IsPanelCycle chart plan wiring old cycle pictures) where
  pub control_arrives : (entry : Hub) → contact_of entry ≡ None → is_source entry ≡ false
      → (pictures C entry ≡ true) ↔ Arrives chart.lines plan (control_emits cycle) (closes old cycle C) entry
  control_arrives entry no_contact no_source =
      arrives chart plan wiring (control_emits cycle) (closes old cycle C) (pictures C) entry it.panel (emit_at_sources.control cycle)
      (carries-wait old cycle C refl) (it.control entry) no_contact no_source

  pub row_arrives : (row : CardRow) (entry : Hub) → contact_of entry ≡ None → is_source entry ≡ false
      → (pictures (Row row) entry ≡ true) ↔ Arrives chart.lines plan (row_emits old pictures cycle row) (closes old cycle (Row row)) entry
  row_arrives row entry no_contact no_source =
      arrives chart plan wiring (row_emits old pictures cycle row) (closes old cycle (Row row)) (pictures (Row row)) entry it.panel
      (emit_at_sources.rows old pictures cycle row) (carries-wait old cycle (Row row) refl) (it.rows row entry) no_contact no_source

  -- an exit of a wire that emits by what units do emits on the panel
  pub emits_at_control : {exit entry : Hub} → ChartWire chart.lines plan exit entry → EmitsAtControl cycle exit
      → control_emits cycle exit ≡ true
  emits_at_control {exit} {entry} wire emits =
      let there = (it.panel.wired.wires exit entry).1 wire in telling there.number emits there.numbered

  pub emits_at_row : (row : CardRow) {exit entry : Hub} → ChartWire chart.lines plan exit entry → EmitsAtRow old pictures cycle row exit
      → row_emits old pictures cycle row exit ≡ true
  emits_at_row row {exit} {entry} wire emits =
      let there = (it.panel.wired.wires exit entry).1 wire in sending old pictures cycle row there.number emits there.numbered

  -- plain entries
  pub at_control : (entry : Hub) → contact_of entry ≡ None → is_source entry ≡ false → is_plain entry ≡ true
      → (pictures C entry ≡ true) ↔ ArrivesAtControl chart.lines plan cycle entry
  at_control entry no_contact no_source plain =
      let ways = control_arrives entry no_contact no_source in (
        λ on. let (exit, emits, wire) = wired chart.lines plan (control_emits cycle) (closes old cycle C) plain (ways.0 on) in
            record { exit = exit; emits = told cycle exit emits; wire = wire },
        λ come. ways.1 (straight come.exit entry (emits_at_control come.wire come.emits) come.wire),
      )

  pub at_row : (row : CardRow) (entry : Hub) → contact_of entry ≡ None → is_source entry ≡ false → is_plain entry ≡ true
      → (pictures (Row row) entry ≡ true) ↔ ArrivesAtRow chart.lines plan old pictures cycle row entry
  at_row row entry no_contact no_source plain =
      let ways = row_arrives row entry no_contact no_source in (
        λ on. let (exit, emits, wire) = wired chart.lines plan (row_emits old pictures cycle row) (closes old cycle (Row row)) plain (ways.0 on) in
            record { exit = exit; emits = sent old pictures cycle row exit emits; wire = wire },
        λ come. ways.1 (straight come.exit entry (emits_at_row row come.wire come.emits) come.wire),
      )

  pub at_closing : IsClosingPicture wiring old pictures cycle
      → (entry : Hub) → contact_of entry ≡ None → is_source entry ≡ false → is_carry entry ≡ false → is_plain entry ≡ true
      → (pictures K entry ≡ true) ↔ ArrivesAtClosing chart.lines plan pictures cycle entry
  at_closing closing entry no_contact no_source no_carry plain =
      let ways = arrives chart plan wiring (closing_emits pictures cycle) (but_carries (closes old cycle K)) (pictures K) entry it.panel
      (emit_at_sources.closing pictures cycle) (λ group. refl)
      (carries-apart wiring old pictures cycle (carries-lead chart plan wiring it.panel) closing entry no_carry) no_contact no_source in (
        λ on. let (exit, emits, wire) = wired chart.lines plan (closing_emits pictures cycle) (but_carries (closes old cycle K)) plain (ways.0 on) in
            record { exit = exit; emits = emits; wire = wire },
        λ come. ways.1 (straight come.exit entry come.emits come.wire),
      )
