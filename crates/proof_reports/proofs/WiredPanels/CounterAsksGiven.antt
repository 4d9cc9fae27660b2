-- What adds, subtracts, reads out and tests impulses the control hubs of a counter group of a total.
use Rattle.std.proofs.Common.{◌≡◌, refl, sym, subst, ℕ, Bool, true, List, Some}
use Rattle.wiring_table.specs.Below.chart_plans.PlansWords.Plans.{Lists}
use Rattle.wiring_table.specs.Below.chart_lines.ChartsWords.Chart.{Chart, NumbersRise}
use Rattle.wiring_table.specs.Below.chart_lines.ChartsWords.Levels.{level_number as chart_level}
use Rattle.wiring_table.specs.Below.chart_lines.declared.charts.level.Level.{Level as ChartLevel}
use Rattle.wiring_table.specs.Below.chart_lines.declared.charts.statement.SignRule.{SignRule}
use Rattle.wiring_table.specs.Below.chart_lines.declared.charts.statement.Statement.TheVariants as says
use Rattle.wiring_table.specs.Below.hubs.SetupsWords.Wiring.{Wiring}
use Rattle.proof_cycles.specs.Below.hubs.declared.hub.Group.{Group}
use Rattle.proof_cycles.specs.Below.hubs.declared.hub.Hub.{Hub}
use Rattle.proof_cycles.specs.Below.hubs.declared.hub.Hub.TheVariants.{BAN, BAT, CC, PX, PL, MI, RO, BT, BAC, PIC}
use Rattle.proof_cycles.specs.Below.machine.Machine.{MachineState}
use Rattle.proof_cycles.specs.Below.net.declared.cycle.Cycle.{Cycle}
use Rattle.proof_cycles.specs.Below.net.declared.cycle.Point.{Point}
use Rattle.proof_cycles.specs.Below.net.declared.cycle.Point.TheVariants.{C}
use Rattle.proof_cycles.specs.WholeCycles.WholeCycles.{control_emits}
use Rattle.wiring_table.specs.Figures.{IsSigned}
use Rattle.wiring_table.specs.Parts.{HasTotal, IsLowest, IsNextHigher, pilot_for, negative_side, positive_side, top_for}
use Rattle.wiring_table.specs.Wires.{LineWire, ChartWire}
use Rattle.wiring_table.specs.Wires.LineWire.{entry_adds, entry_sign, entry_plus, entry_minus, read_out, balance_test, conversion, conversion_read_out, conversion_minus, transfer_adds, transfer_sign, transfer_plus, transfer_minus}
use Rattle.proof_reports.proofs.WiredPanels.CounterAsksControls.{shut, Pluses, Minuses, ReadsOut, Tests, numbered, positive_common, negative_common}
use Rattle.proof_reports.proofs.WiredPanels.CounterAsksControls.Pluses.{card, by_sign, up, by_latch}
use Rattle.proof_reports.proofs.WiredPanels.CounterAsksControls.Minuses.{less_by_sign, less_turned, less_by_latch}
use Rattle.proof_reports.proofs.WiredPanels.CounterAsksControls.ReadsOut.{shows_it, turns_it}
use Rattle.proof_reports.proofs.WiredPanels.CounterAsksControls.Tests.{tests_it}
use Rattle.proof_reports.proofs.WiredPanels.CounterAsksTold.{IsStep, card_emits, step_emits, IsUnder, next_higher, named_so, wire_of}
use Rattle.proof_reports.specs.WiredPanels.Groups.{IsGroupOf, IsTopOf}
use Rattle.proof_reports.proofs.WiredPanels.Straight.{control_arrives}
use Rattle.proof_reports.specs.WiredPanels.PanelCycles.{IsPanelCycle}
use Rattle.proof_reports.specs.WiredPanels.Panel.{Arrives}
use Rattle.proof_reports.specs.WiredPanels.Panel.Arrives.{straight, through}

module _ (chart : Chart) (plan : Lists) (wiring : Wiring) (old : MachineState) (cycle : Cycle) (pictures : Point → Hub → Bool)
    (at : IsPanelCycle chart plan wiring old cycle pictures) (rise : NumbersRise chart.lines chart.end) where
  -- a program cycle that is wired tells of itself
  telling_step : (level step : ℕ) (entry : Hub) → IsStep cycle level step → ChartWire chart.lines plan (PX level step) entry
      → control_emits cycle (PX level step) ≡ true
  telling_step level step entry is given =
      let wire = numbered chart plan wiring old cycle pictures at rise (PX level step) entry given in
      step_emits cycle level step wire.number is wire.numbered

  -- a wire from the program cycles of a level
  from_step :
      (name : List ℕ) (level number step : ℕ) (entry : Hub) (total : HasTotal chart.lines name level number)
      → LineWire chart.lines plan number (says.TotalAmount (named_so total)) (PX (chart_level total.asked.level) step) entry
      → ChartWire chart.lines plan (PX level step) entry
  from_step name level number step entry total wire =
      wire_of chart.lines plan name level number (PX level step) entry total
      (subst (λ l. LineWire chart.lines plan number (says.TotalAmount (named_so total)) (PX l step) entry) total.same_level wire)

  module _ (name : List ℕ) (level : ℕ) (group : Group) (own : IsGroupOf chart.lines plan name level group) (top : Group)
      (balance : top_for chart.lines plan own.number ≡ Some top) where
    -- the lowest total, by its line
    lowest : (its : ChartLevel) → chart_level its ≡ level → IsLowest chart.lines name level → IsLowest chart.lines name (chart_level its)
    lowest its same low = subst (λ l. IsLowest chart.lines name l) (sym same) low

    -- the next higher total, by the line of the lower
    higher : (low : ℕ) (its : ChartLevel) → chart_level its ≡ low → IsUnder chart.lines name low level
        → IsNextHigher chart.lines name (chart_level its) own.number
    higher low its same under =
        subst (λ l. IsNextHigher chart.lines name l own.number) (sym same) (next_higher chart.lines plan name low level group own under)

    -- the wire of a card to the pilot of the amount
    pub to_sign : (rule : SignRule) (pilot : ℕ) → IsLowest chart.lines name level → IsSigned chart.lines name rule
        → pilot_for plan name ≡ Some pilot → ChartWire chart.lines plan CC (PIC pilot 1)
    to_sign rule pilot low signed served =
        wire_of chart.lines plan name level own.number CC (PIC pilot 1) own.total
        (entry_sign (named_so own.total) rule pilot (lowest own.total.asked.level own.total.same_level low) signed served)

    -- the wire of the third program cycle to the balance position of the lower total
    to_latch : (low : ℕ) (rule : SignRule) (lower : Group) → IsUnder chart.lines name low level → IsSigned chart.lines name rule
        → IsTopOf chart.lines plan name low lower → ChartWire chart.lines plan (PX low 3) (BAC lower 2)
    to_latch low rule lower under signed given =
        from_step name low given.number 3 (BAC lower 2) given.total
        (transfer_sign (named_so given.total) rule lower own.number given.served signed (higher low given.total.asked.level given.total.same_level under))

    pub gives_plus : Pluses chart.lines plan (shut old cycle) cycle name level → pictures C (PL group) ≡ true
    gives_plus adds = (control_arrives chart plan wiring old cycle pictures at (PL group) refl refl).1 (by adds)
      where
        by : Pluses chart.lines plan (shut old cycle) cycle name level
            → Arrives chart.lines plan (control_emits cycle) (shut old cycle) (PL group)
        by (card is low unsigned) =
            straight CC (PL group) (card_emits cycle is)
            (wire_of chart.lines plan name level own.number CC (PL group) own.total
            (entry_adds (named_so own.total) group (lowest own.total.asked.level own.total.same_level low) own.served unsigned))
        by (by_sign rule pilot is low signed served closed) =
            through CC (PIC pilot 1) (positive_side rule pilot 1) (PL group) (card_emits cycle is) (to_sign rule pilot low signed served)
            (positive_common chart plan wiring old cycle pictures at rise rule pilot) closed
            (wire_of chart.lines plan name level own.number (positive_side rule pilot 1) (PL group) own.total
            (entry_plus (named_so own.total) rule pilot group (lowest own.total.asked.level own.total.same_level low) own.served signed served))
        by (up low is under unsigned) =
            let given = from_step name low under.number 3 (PL group) under.total
            (transfer_adds (named_so under.total) group own.number unsigned (higher low under.total.asked.level under.total.same_level under) own.served) in
            straight (PX low 3) (PL group) (telling_step low 3 (PL group) is given) given
        by (by_latch low rule lower is under signed given closed) =
            let first = to_latch low rule lower under signed given in
            through (PX low 3) (BAC lower 2) (BAN lower 2) (PL group) (telling_step low 3 (BAC lower 2) is first) first refl closed
            (wire_of chart.lines plan name low given.number (BAN lower 2) (PL group) given.total
            (transfer_plus (named_so given.total) rule lower group own.number given.served signed
            (higher low given.total.asked.level given.total.same_level under) own.served))

    -- the wire of the second program cycle to the balance position of the total
    to_turn : (rule : SignRule) → IsSigned chart.lines name rule → ChartWire chart.lines plan (PX level 2) (BAC top 1)
    to_turn rule signed =
        from_step name level own.number 2 (BAC top 1) own.total
        (conversion (named_so own.total) rule top balance signed)

    pub gives_minus : Minuses chart.lines plan (shut old cycle) cycle name level top → pictures C (MI group) ≡ true
    gives_minus subtracts = (control_arrives chart plan wiring old cycle pictures at (MI group) refl refl).1 (by subtracts)
      where
        by : Minuses chart.lines plan (shut old cycle) cycle name level top
            → Arrives chart.lines plan (control_emits cycle) (shut old cycle) (MI group)
        by (less_by_sign rule pilot is low signed served closed) =
            through CC (PIC pilot 1) (negative_side rule pilot 1) (MI group) (card_emits cycle is) (to_sign rule pilot low signed served)
            (negative_common chart plan wiring old cycle pictures at rise rule pilot) closed
            (wire_of chart.lines plan name level own.number (negative_side rule pilot 1) (MI group) own.total
            (entry_minus (named_so own.total) rule pilot group (lowest own.total.asked.level own.total.same_level low) own.served signed served))
        by (less_turned rule is signed closed) =
            let first = to_turn rule signed in
            through (PX level 2) (BAC top 1) (BAT top 1) (MI group) (telling_step level 2 (BAC top 1) is first) first refl closed
            (wire_of chart.lines plan name level own.number (BAT top 1) (MI group) own.total
            (conversion_minus (named_so own.total) rule top group balance own.served signed))
        by (less_by_latch low rule lower is under signed given closed) =
            let first = to_latch low rule lower under signed given in
            through (PX low 3) (BAC lower 2) (BAT lower 2) (MI group) (telling_step low 3 (BAC lower 2) is first) first refl closed
            (wire_of chart.lines plan name low given.number (BAT lower 2) (MI group) given.total
            (transfer_minus (named_so given.total) rule lower group own.number given.served signed
            (higher low given.total.asked.level given.total.same_level under) own.served))

    pub gives_read : ReadsOut chart.lines (shut old cycle) cycle name level top → pictures C (RO group) ≡ true
    gives_read reads = (control_arrives chart plan wiring old cycle pictures at (RO group) refl refl).1 (by reads)
      where
        by : ReadsOut chart.lines (shut old cycle) cycle name level top
            → Arrives chart.lines plan (control_emits cycle) (shut old cycle) (RO group)
        by (shows_it is) =
            let given = from_step name level own.number 3 (RO group) own.total
            (read_out (named_so own.total) group own.served) in
            straight (PX level 3) (RO group) (telling_step level 3 (RO group) is given) given
        by (turns_it rule is signed closed) =
            let first = to_turn rule signed in
            through (PX level 2) (BAC top 1) (BAT top 1) (RO group) (telling_step level 2 (BAC top 1) is first) first refl closed
            (wire_of chart.lines plan name level own.number (BAT top 1) (RO group) own.total
            (conversion_read_out (named_so own.total) rule top group balance own.served signed))

    pub gives_test : Tests chart.lines cycle name level → pictures C (BT top) ≡ true
    gives_test tests = (control_arrives chart plan wiring old cycle pictures at (BT top) refl refl).1 (by tests)
      where
        by : Tests chart.lines cycle name level → Arrives chart.lines plan (control_emits cycle) (shut old cycle) (BT top)
        by (tests_it rule is signed) =
            let given = from_step name level own.number 1 (BT top) own.total
            (balance_test (named_so own.total) rule top balance signed) in
            straight (PX level 1) (BT top) (telling_step level 1 (BT top) is given) given
