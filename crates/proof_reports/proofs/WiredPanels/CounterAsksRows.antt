-- What enters the places of the counter groups of a total at the rows.
use Rattle.std.proofs.Common.{◌≡◌, ◌∙◌, refl, sym, ap, subst, ℕ, ◌+◌, ◌-◌, ◌≤◌, Bool, true, List, Contains, Some, length, arith}
use Rattle.wiring_table.specs.Below.chart_plans.PlansWords.Plans.{Lists}
use Rattle.proof_cycles.specs.Below.card_code.Rows.{row_number}
use Rattle.proof_cycles.specs.Below.card_code.declared.row.Row.{Row as CardRow}
use Rattle.wiring_table.specs.Below.chart_lines.ChartsWords.Chart.{Chart, NumbersRise}
use Rattle.wiring_table.specs.Below.chart_lines.ChartsWords.Field.{columns_of}
use Rattle.wiring_table.specs.Below.chart_lines.declared.charts.chart.Line.{Line}
use Rattle.wiring_table.specs.Below.chart_lines.declared.charts.statement.Field.{Field}
use Rattle.wiring_table.specs.Below.chart_lines.declared.charts.statement.SignRule.{SignRule}
use Rattle.proof_cycles.specs.Below.counters.Counters.{Counter}
use Rattle.wiring_table.specs.Below.hubs.SetupsWords.Wiring.{Wiring}
use Rattle.proof_cycles.specs.Below.hubs.declared.hub.Group.{Group}
use Rattle.proof_cycles.specs.Below.hubs.declared.hub.Hub.{Hub}
use Rattle.proof_cycles.specs.Below.hubs.declared.hub.Hub.TheVariants.{SR, GX, GE, RO}
use Rattle.proof_cycles.specs.Below.machine.Machine.{MachineState, closes}
use Rattle.proof_cycles.specs.Below.net.Panel.{contact_of}
use Rattle.proof_cycles.specs.Below.net.declared.cycle.Cycle.{Cycle}
use Rattle.proof_cycles.specs.Below.net.declared.cycle.Cycle.TheVariants.{Card}
use Rattle.proof_cycles.specs.Below.net.declared.cycle.Point.{Point}
use Rattle.proof_cycles.specs.Below.net.declared.cycle.Point.TheVariants.{C, Row}
use Rattle.proof_cycles.specs.Below.stations.Punches.{is_punched_at}
use Rattle.proof_cycles.specs.WholeCycles.WholeCycles.{row_emits}
use Rattle.wiring_table.specs.Figures.{IsAmount, IsSigned}
use Rattle.wiring_table.specs.Parts.{IsLowest, IsNextHigher, ServesPosition}
use Rattle.wiring_table.specs.Wires.{ChartWire}
use Rattle.wiring_table.specs.Wires.LineWire.{entry, feedback, transfer}
use Rattle.proof_reports.proofs.WiredPanels.CounterAsksControls.{numbered}
use Rattle.proof_reports.proofs.WiredPanels.CounterAsksTold.{moved, IsUnder, goes_under, named_so, wire_of}
use Rattle.proof_reports.proofs.WiredPanels.PlanOwners.{of_place, one_owner}
use Rattle.wiring_table.proofs.Totals.{one-total}
use Rattle.proof_reports.proofs.WiredPanels.Sending.{sending}
use Rattle.proof_reports.proofs.WiredPanels.Sources.{sent}
use Rattle.proof_reports.proofs.WiredPanels.ToCounters.{itself, ToEntry, to_entry}
use Rattle.proof_reports.proofs.WiredPanels.ToCounters.ToEntry.{card as entry_card, from_itself as entry_itself, lower as entry_lower}
use Rattle.proof_reports.proofs.WiredPanels.Straight.{row_arrives}
use Rattle.proof_reports.specs.WiredPanels.Groups.{IsGroupOf, IsPlaceFor}
use Rattle.proof_reports.specs.WiredPanels.PanelCycles.{IsPanelCycle}
use Rattle.proof_reports.specs.WiredPanels.Panel.{Arrives}
use Rattle.proof_reports.specs.WiredPanels.Panel.Arrives.{straight, through}
use Rattle.proof_reports.specs.WiredPanels.Sources.{EmitsAtRow, digit_from_units}
use Rattle.proof_reports.specs.WiredPanels.Sources.EmitsAtRow.{first, second, digit, column, emitter}

-- A group of the machine reads out a digit at a row.
pub record ReadsDigit (old : MachineState) (pictures : Point → Hub → Bool) (row : CardRow) (group : Group) (position : ℕ) : Type 0 where
  pub counter : Counter
  pub listed : Contains old.groups counter
  pub named : counter.name ≡ group
  pub reads : pictures C (RO group) ≡ true
  pub from : 1 ≤ position
  pub to : position ≤ length counter.digits
  pub is : digit_from_units counter.digits position ≡ row_number row

-- what sends at an exit of a group
pub digit_sent : (old : MachineState) (pictures : Point → Hub → Bool) (cycle : Cycle) (row : CardRow) (group : Group) (position : ℕ)
    {hub : Hub} → EmitsAtRow old pictures cycle row hub → hub ≡ GX group position → ReadsDigit old pictures row group position
digit_sent old pictures cycle row group position (first c reads punched) same = cc
digit_sent old pictures cycle row group position (second c is punched) same = cc
digit_sent old pictures cycle row group position (digit counter p listed out low high is) same =
    let named : counter.name ≡ group = cc in
    let place : p ≡ position = cc in
    record {
      counter = counter;
      listed = listed;
      named = named;
      reads = ap (λ g. pictures C (RO g)) (sym named) ∙ out;
      from = omega (arith, low, place);
      to = omega (arith, high, place);
      is = ap (digit_from_units counter.digits) (sym place) ∙ is;
    }
digit_sent old pictures cycle row group position (column storage c listed out held) same = cc
digit_sent old pictures cycle row group position (emitter e is) same = cc

-- what sends at a column of second reading
pub column_sent : (old : MachineState) (pictures : Point → Hub → Bool) (cycle : Cycle) (row : CardRow) (at : ℕ)
    {hub : Hub} → EmitsAtRow old pictures cycle row hub → hub ≡ SR at
    → (cycle ≡ Card) × (is_punched_at old.stations.second row at ≡ true)
column_sent old pictures cycle row at (first c reads punched) same = cc
column_sent old pictures cycle row at (second c is punched) same =
    let place : c ≡ at = cc in
    (is, ap (is_punched_at old.stations.second row) (sym place) ∙ punched)
column_sent old pictures cycle row at (digit counter p listed out low high is) same = cc
column_sent old pictures cycle row at (column storage c listed out held) same = cc
column_sent old pictures cycle row at (emitter e is) same = cc

-- What enters a place: the column of a card, the group's own digit, or the digit of the next lower total at the same position.
pub data Enters (lines : List Line) (plan : Lists) (old : MachineState) (pictures : Point → Hub → Bool) (cycle : Cycle) (row : CardRow)
    (name : List ℕ) (level : ℕ) (group : Group) (place : ℕ) : Type 0 where
  card : (field : Field) (position : ℕ) → IsPlaceFor lines plan name level position group place → cycle ≡ Card → IsLowest lines name level
      → IsAmount lines name field → 1 ≤ position → position ≤ columns_of field
      → is_punched_at old.stations.second row (field.last + 1 - position) ≡ true
      → Enters lines plan old pictures cycle row name level group place
  own_digit : (rule : SignRule) → IsSigned lines name rule → 1 ≤ place → place ≤ group.width
      → ReadsDigit old pictures row group place → Enters lines plan old pictures cycle row name level group place
  lower_digit : (low position : ℕ) (lower : Group) (lower_place : ℕ) → (under : IsUnder lines name low level)
      → IsPlaceFor lines plan name level position group place → IsPlaceFor lines plan name low position lower lower_place
      → position ≤ under.total.asked.digits → 1 ≤ position → ReadsDigit old pictures row lower lower_place
      → Enters lines plan old pictures cycle row name level group place

module _ (chart : Chart) (plan : Lists) (wiring : Wiring) (old : MachineState) (cycle : Cycle) (pictures : Point → Hub → Bool)
    (at : IsPanelCycle chart plan wiring old cycle pictures) (rise : NumbersRise chart.lines chart.end) (name : List ℕ) (level : ℕ) (group : Group)
    (own : IsGroupOf chart.lines plan name level group) (row : CardRow) (place : ℕ) where
  -- straight to the entry
  entered : {exit : Hub} → ToEntry chart.lines plan group place exit → EmitsAtRow old pictures cycle row exit
      → Enters chart.lines plan old pictures cycle row name level group place
  entered (entry_card its its_level field position given low amount from to) sends =
      let same = one_owner chart plan its name its_level level group rise at.panel.planned (of_place chart.lines plan given) own in
      let (is, punched) = column_sent old pictures cycle row (field.last + 1 - position) sends refl in
      card field position (moved (λ n l. IsPlaceFor chart.lines plan n l position group place) same given) is
      (moved (λ n l. IsLowest chart.lines n l) same low) (moved (λ n l. IsAmount chart.lines n field) same amount) from to punched
  entered (entry_itself its its_level rule given signed from to) sends =
      let same = one_owner chart plan its name its_level level group rise at.panel.planned given own in
      own_digit rule (moved (λ n l. IsSigned chart.lines n rule) same signed) from to
      (digit_sent old pictures cycle row group place sends refl)
  entered (entry_lower its low position lower lower_place goes serves lower_serves from to) sends =
      let (same, under, digits) = goes_under chart plan name its low level group rise at.panel.planned own goes in
      let given : IsPlaceFor chart.lines plan its goes.next.higher position group place =
      record { number = goes.number; total = goes.next.total; served = serves } in
      let lower_given : IsPlaceFor chart.lines plan its low position lower lower_place =
      record { number = goes.lower_number; total = goes.lower_total; served = lower_serves } in
      lower_digit low position lower lower_place under (moved (λ n l. IsPlaceFor chart.lines plan n l position group place) same given)
      (subst (λ n. IsPlaceFor chart.lines plan n low position lower lower_place) same.name lower_given)
      (omega (arith, to, digits)) from (digit_sent old pictures cycle row lower lower_place sends refl)

  no_contact : (common : Hub) {contact : Hub} → ToEntry chart.lines plan group place contact → contact_of contact ≡ Some common → ⊥
  no_contact common (entry_card its its_level field position given low amount from to) leads = cc
  no_contact common (entry_itself its its_level rule given signed from to) leads = cc
  no_contact common (entry_lower its low position lower lower_place goes serves lower_serves from to) leads = cc

  entered_from : {hub : Hub} → Arrives chart.lines plan (row_emits old pictures cycle row) (closes old cycle (Row row)) hub
      → hub ≡ GE group place → Enters chart.lines plan old pictures cycle row name level group place
  entered_from (straight exit entry_hub on given) is =
      let w : ChartWire chart.lines plan exit (GE group place) = subst (λ h. ChartWire chart.lines plan exit h) is given in
      entered (to_entry chart.lines plan w.line.number (itself chart.lines w.line w.listed) w.wire) (sent old pictures cycle row exit on)
  entered_from (through exit common contact entry_hub on given leads closed last) is =
      let w : ChartWire chart.lines plan contact (GE group place) = subst (λ h. ChartWire chart.lines plan contact h) is last in
      absurd (no_contact common (to_entry chart.lines plan w.line.number (itself chart.lines w.line w.listed) w.wire) leads)

  pub enters_is : pictures (Row row) (GE group place) ≡ true → Enters chart.lines plan old pictures cycle row name level group place
  enters_is on = entered_from ((row_arrives chart plan wiring old cycle pictures at row (GE group place) refl refl).0 on) refl

  -- a digit that is read out goes along a wire
  along : (from : Group) (from_place : ℕ) → ReadsDigit old pictures row from from_place
      → ChartWire chart.lines plan (GX from from_place) (GE group place)
      → Arrives chart.lines plan (row_emits old pictures cycle row) (closes old cycle (Row row)) (GE group place)
  along from from_place reads given =
      let wire = numbered chart plan wiring old cycle pictures at rise (GX from from_place) (GE group place) given in
      let out : pictures C (RO reads.counter.name) ≡ true = ap (λ g. pictures C (RO g)) reads.named ∙ reads.reads in
      let sends : EmitsAtRow old pictures cycle row (GX from from_place) =
      subst (λ g. EmitsAtRow old pictures cycle row (GX g from_place)) reads.named
      (digit reads.counter from_place reads.listed out reads.from reads.to reads.is) in
      straight (GX from from_place) (GE group place) (sending old pictures cycle row wire.number sends wire.numbered) given

  pub gives_entry : Enters chart.lines plan old pictures cycle row name level group place → pictures (Row row) (GE group place) ≡ true
  gives_entry enters = (row_arrives chart plan wiring old cycle pictures at row (GE group place) refl refl).1 (by enters)
    where
      by : Enters chart.lines plan old pictures cycle row name level group place
          → Arrives chart.lines plan (row_emits old pictures cycle row) (closes old cycle (Row row)) (GE group place)
      by (card field position at_place is low amount from to punched) =
          let given : ChartWire chart.lines plan (SR (field.last + 1 - position)) (GE group place) =
          wire_of chart.lines plan name level at_place.number (SR (field.last + 1 - position)) (GE group place) at_place.total
          (entry (named_so at_place.total) field group position place
          (subst (λ l. IsLowest chart.lines name l) (sym at_place.total.same_level) low) at_place.served amount from to) in
          let wire = numbered chart plan wiring old cycle pictures at rise (SR (field.last + 1 - position)) (GE group place) given in
          straight (SR (field.last + 1 - position)) (GE group place)
          (sending old pictures cycle row wire.number (second (field.last + 1 - position) is punched) wire.numbered) given
      by (own_digit rule signed from to reads) =
          along group place reads
          (wire_of chart.lines plan name level own.number (GX group place) (GE group place) own.total
          (feedback (named_so own.total) rule group place own.served signed from to))
      by (lower_digit low position lower lower_place under at_place lower_at to from reads) =
          let next : IsNextHigher chart.lines name low at_place.number =
          record { higher = level; total = at_place.total; above = under.below; next = under.between } in
          along lower lower_place reads
          (wire_of chart.lines plan name low under.number (GX lower lower_place) (GE group place) under.total
          (transfer (named_so under.total) lower group at_place.number position lower_place place
          (lower_served low position lower lower_place under lower_at)
          (subst (λ l. IsNextHigher chart.lines name l at_place.number) (sym under.total.same_level) next) at_place.served from to))
        where
          lower_served : (low position : ℕ) (lower : Group) (lower_place : ℕ) (under : IsUnder chart.lines name low level)
              → IsPlaceFor chart.lines plan name low position lower lower_place
              → ServesPosition chart.lines plan under.number position lower lower_place
          lower_served low position lower lower_place under given =
              subst (λ n. ServesPosition chart.lines plan n position lower lower_place)
              (one-total chart name at.panel.lawful low given.number under.number given.total under.total) given.served
