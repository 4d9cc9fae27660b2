-- What impulses the control hubs of a counter group of a total.
use Rattle.std.proofs.Common.{◌≡◌, ◌∙◌, refl, sym, subst, ℕ, Bool, true, List, Some, ◌⊎◌, inl, inr, arith}
use Rattle.wiring_table.specs.Below.chart_plans.PlansWords.Plans.{Lists}
use Rattle.wiring_table.specs.Below.chart_lines.ChartsWords.Chart.{Chart, NumbersRise}
use Rattle.wiring_table.specs.Below.chart_lines.declared.charts.chart.Line.{Line}
use Rattle.wiring_table.specs.Below.chart_lines.declared.charts.statement.SignRule.{SignRule}
use Rattle.wiring_table.specs.Below.chart_lines.declared.charts.statement.SignRule.TheVariants as sign
use Rattle.wiring_table.specs.Below.hubs.SetupsWords.Wiring.{Wiring, HasWire}
use Rattle.proof_cycles.specs.Below.hubs.declared.hub.Group.{Group}
use Rattle.proof_cycles.specs.Below.hubs.declared.hub.Hub.{Hub}
use Rattle.proof_cycles.specs.Below.hubs.declared.hub.Hub.TheVariants.{BAN, BAT, PL, MI, RO, BT, BAC, PIC}
use Rattle.proof_cycles.specs.Below.machine.Machine.{MachineState, closes}
use Rattle.proof_cycles.specs.Below.net.Panel.{contact_of}
use Rattle.proof_cycles.specs.Below.net.declared.cycle.Cycle.{Cycle}
use Rattle.proof_cycles.specs.Below.net.declared.cycle.Point.{Point}
use Rattle.proof_cycles.specs.Below.net.declared.cycle.Point.TheVariants.{C}
use Rattle.proof_cycles.specs.WholeCycles.WholeCycles.{control_emits}
use Rattle.wiring_table.specs.Figures.{IsSigned, IsUnsigned}
use Rattle.wiring_table.specs.Parts.{IsLowest, pilot_for, negative_side, positive_side, top_for}
use Rattle.wiring_table.specs.Wires.{ChartWire}
use Rattle.proof_reports.proofs.WiredPanels.CounterAsksTold.{IsCardCycle, IsStep, told_card, told_step, untold, moved, IsUnder, goes_under}
use Rattle.proof_reports.proofs.WiredPanels.PlanOwners.{IsSameTotal, of_top, one_owner, one_top}
use Rattle.proof_reports.proofs.WiredPanels.Sources.{told}
use Rattle.proof_reports.proofs.WiredPanels.ToCounters.{itself, ToPlus, ToMinus, ToReadOut, ToTest, ToBalance, ToPilot, to_plus, to_minus, to_read_out, to_test, to_balance, to_pilot}
use Rattle.proof_reports.proofs.WiredPanels.ToCounters.ToPlus.{from_card as plus_from_card, up_by_latch as plus_up_by_latch, by_sign as plus_by_sign, up as plus_up}
use Rattle.proof_reports.proofs.WiredPanels.ToCounters.ToMinus.{by_sign as minus_by_sign, turned as minus_turned, up_by_latch as minus_up_by_latch}
use Rattle.proof_reports.proofs.WiredPanels.ToCounters.ToReadOut.{shown as read_shown, turned as read_turned}
use Rattle.proof_reports.proofs.WiredPanels.ToCounters.ToTest.{tested as test_tested}
use Rattle.proof_reports.proofs.WiredPanels.ToCounters.ToBalance.{turned as balance_turned, up as balance_up, marks as balance_marks}
use Rattle.proof_reports.proofs.WiredPanels.ToCounters.ToPilot.{signs as pilots_signs, marks as pilots_marks}
use Rattle.proof_reports.proofs.WiredPanels.Straight.{control_arrives}
use Rattle.proof_reports.specs.WiredPanels.Groups.{IsGroupOf, IsTopOf}
use Rattle.proof_reports.specs.WiredPanels.PanelCycles.{IsPanelCycle}
use Rattle.proof_reports.specs.WiredPanels.Panel.{Arrives}
use Rattle.proof_reports.specs.WiredPanels.Panel.Arrives.{straight, through}
use Rattle.proof_reports.specs.WiredPanels.Sources.{EmitsAtControl}

-- what is closed at the control point
abbrev pub shut : MachineState → Cycle → Hub → Bool
shut old cycle contact = closes old cycle C contact

-- the balance position 1 serves the second program cycle, and position 2 the third
abbrev pub IsPositionOf : ℕ → ℕ → Type 0
IsPositionOf position step = ((position ≡ 1) × (step ≡ 2)) ⊎ ((position ≡ 2) × (step ≡ 3))

-- What adds: a card enters the lowest total, straight or by the sign; or the next lower total goes up, straight or by its latch.
pub data Pluses (lines : List Line) (plan : Lists) (closed : Hub → Bool) (cycle : Cycle) (name : List ℕ) (level : ℕ) : Type 0 where
  card : IsCardCycle cycle → IsLowest lines name level → IsUnsigned lines name → Pluses lines plan closed cycle name level
  by_sign : (rule : SignRule) (pilot : ℕ) → IsCardCycle cycle → IsLowest lines name level → IsSigned lines name rule
      → pilot_for plan name ≡ Some pilot → closed (positive_side rule pilot 1) ≡ true → Pluses lines plan closed cycle name level
  up : (low : ℕ) → IsStep cycle low 3 → IsUnder lines name low level → IsUnsigned lines name
      → Pluses lines plan closed cycle name level
  by_latch : (low : ℕ) (rule : SignRule) (lower : Group) → IsStep cycle low 3 → IsUnder lines name low level → IsSigned lines name rule
      → IsTopOf lines plan name low lower → closed (BAN lower 2) ≡ true → Pluses lines plan closed cycle name level

-- What subtracts: a card by its sign, the turn of a negative balance, or the next lower total by its latch.
pub data Minuses (lines : List Line) (plan : Lists) (closed : Hub → Bool) (cycle : Cycle) (name : List ℕ) (level : ℕ) (top : Group)
    : Type 0 where
  less_by_sign : (rule : SignRule) (pilot : ℕ) → IsCardCycle cycle → IsLowest lines name level → IsSigned lines name rule
      → pilot_for plan name ≡ Some pilot → closed (negative_side rule pilot 1) ≡ true → Minuses lines plan closed cycle name level top
  less_turned : (rule : SignRule) → IsStep cycle level 2 → IsSigned lines name rule → closed (BAT top 1) ≡ true
      → Minuses lines plan closed cycle name level top
  less_by_latch : (low : ℕ) (rule : SignRule) (lower : Group) → IsStep cycle low 3 → IsUnder lines name low level → IsSigned lines name rule
      → IsTopOf lines plan name low lower → closed (BAT lower 2) ≡ true → Minuses lines plan closed cycle name level top

-- What reads out: the total is shown, or a negative balance is turned.
pub data ReadsOut (lines : List Line) (closed : Hub → Bool) (cycle : Cycle) (name : List ℕ) (level : ℕ) (top : Group) : Type 0 where
  shows_it : IsStep cycle level 3 → ReadsOut lines closed cycle name level top
  turns_it : (rule : SignRule) → IsStep cycle level 2 → IsSigned lines name rule → closed (BAT top 1) ≡ true
      → ReadsOut lines closed cycle name level top

-- What tests the balance.
pub data Tests (lines : List Line) (cycle : Cycle) (name : List ℕ) (level : ℕ) : Type 0 where
  tests_it : (rule : SignRule) → IsStep cycle level 1 → IsSigned lines name rule → Tests lines cycle name level

module _ (chart : Chart) (plan : Lists) (wiring : Wiring) (old : MachineState) (cycle : Cycle) (pictures : Point → Hub → Bool)
    (at : IsPanelCycle chart plan wiring old cycle pictures) (rise : NumbersRise chart.lines chart.end) where
  -- a wire's numbers
  pub numbered : (exit entry : Hub) → ChartWire chart.lines plan exit entry → HasWire wiring exit entry
  numbered exit entry given = (at.panel.wired.wires exit entry).1 given

  -- the positions of a balance, where they are not the mark's
  in_balance :
      {exit : Hub} {position : ℕ} (name : List ℕ) (level step : ℕ) (group : Group) → IsTopOf chart.lines plan name level group
      → IsPositionOf position step
      → ToBalance chart.lines plan group position exit → EmitsAtControl cycle exit → IsStep cycle level step
  in_balance name level step group own which (balance_turned its its_level rule its_own signed) tells =
      let same = one_owner chart plan its name its_level level group rise at.panel.planned
      (of_top chart.lines plan its its_level group its_own) (of_top chart.lines plan name level group own) in
      by which (subst (λ l. IsStep cycle l 2) same.level (told_step tells))
    where
      by : IsPositionOf 1 step → IsStep cycle level 2 → IsStep cycle level step
      by (inl (a, b)) stepped = subst (λ k. IsStep cycle level k) (sym b) stepped
      by (inr (a, b)) stepped = absurd (omega (arith, a))
  in_balance name level step group own which (balance_up its its_level rule its_own signed) tells =
      let same = one_owner chart plan its name its_level level group rise at.panel.planned
      (of_top chart.lines plan its its_level group its_own) (of_top chart.lines plan name level group own) in
      by which (subst (λ l. IsStep cycle l 3) same.level (told_step tells))
    where
      by : IsPositionOf 2 step → IsStep cycle level 3 → IsStep cycle level step
      by (inl (a, b)) stepped = absurd (omega (arith, a))
      by (inr (a, b)) stepped = subst (λ k. IsStep cycle level k) (sym b) stepped
  in_balance name level step group own which (balance_marks emitter row position) tells = untold tells refl

  -- after a contact of a balance
  after_balance :
      (exit common : Hub) (name : List ℕ) (level position step : ℕ) (group : Group) → IsTopOf chart.lines plan name level group
      → IsPositionOf position step → Some (BAC group position) ≡ Some common
      → control_emits cycle exit ≡ true → ChartWire chart.lines plan exit common → IsStep cycle level step
  after_balance exit common name level position step group own which leads on given =
      let same : common ≡ BAC group position = cc in
      let moved_wire : ChartWire chart.lines plan exit (BAC group position) = subst (λ h. ChartWire chart.lines plan exit h) same given in
      in_balance name level step group own which
      (to_balance chart.lines plan moved_wire.line.number (itself chart.lines moved_wire.line moved_wire.listed) moved_wire.wire)
      (told cycle exit on)

  -- after a contact of a pilot
  in_pilot : {exit : Hub} {pilot position : ℕ} → ToPilot chart.lines plan pilot position exit → EmitsAtControl cycle exit → IsCardCycle cycle
  in_pilot (pilots_signs pilot) tells = told_card tells
  in_pilot (pilots_marks emitter row pilot position) tells = untold tells refl

  after_pilot :
      (exit common : Hub) (pilot : ℕ) → Some (PIC pilot 1) ≡ Some common
      → control_emits cycle exit ≡ true → ChartWire chart.lines plan exit common → IsCardCycle cycle
  after_pilot exit common pilot leads on given =
      let same : common ≡ PIC pilot 1 = cc in
      let moved_wire : ChartWire chart.lines plan exit (PIC pilot 1) = subst (λ h. ChartWire chart.lines plan exit h) same given in
      in_pilot
      (to_pilot chart.lines plan moved_wire.line.number (itself chart.lines moved_wire.line moved_wire.listed) moved_wire.wire)
      (told cycle exit on)

  -- the common hub of either side of a pilot
  pub positive_common : (rule : SignRule) (pilot : ℕ) → contact_of (positive_side rule pilot 1) ≡ Some (PIC pilot 1)
  positive_common (sign.X column) pilot = refl
  positive_common (sign.NX column) pilot = refl

  pub negative_common : (rule : SignRule) (pilot : ℕ) → contact_of (negative_side rule pilot 1) ≡ Some (PIC pilot 1)
  negative_common (sign.X column) pilot = refl
  negative_common (sign.NX column) pilot = refl

  positive_untold : {A : Type 0} (rule : SignRule) (pilot : ℕ) → EmitsAtControl cycle (positive_side rule pilot 1) → A
  positive_untold (sign.X column) pilot tells = untold tells refl
  positive_untold (sign.NX column) pilot tells = untold tells refl

  negative_untold : {A : Type 0} (rule : SignRule) (pilot : ℕ) → EmitsAtControl cycle (negative_side rule pilot 1) → A
  negative_untold (sign.X column) pilot tells = untold tells refl
  negative_untold (sign.NX column) pilot tells = untold tells refl

  module _ (name : List ℕ) (level : ℕ) (group : Group) (own : IsGroupOf chart.lines plan name level group) (top : Group)
      (balance : top_for chart.lines plan own.number ≡ Some top) where
    -- the group with the balance, as one of the total
    its_top : IsTopOf chart.lines plan name level top
    its_top = record { number = own.number; total = own.total; served = balance }

    same_as : (its : List ℕ) (its_level : ℕ) → IsGroupOf chart.lines plan its its_level group → IsSameTotal its name its_level level
    same_as its its_level given = one_owner chart plan its name its_level level group rise at.panel.planned given own

    -- straight to the plus hub
    plus_straight : {exit : Hub} → ToPlus chart.lines plan group exit → EmitsAtControl cycle exit
        → Pluses chart.lines plan (shut old cycle) cycle name level
    plus_straight (plus_from_card its its_level given low unsigned) tells =
        let same = same_as its its_level given in
        card (told_card tells) (moved (λ n l. IsLowest chart.lines n l) same low) (moved (λ n l. IsUnsigned chart.lines n) same unsigned)
    plus_straight (plus_by_sign its its_level rule pilot given low signed served) tells = positive_untold rule pilot tells
    plus_straight (plus_up its low goes unsigned) tells =
        let (same, under, digits) = goes_under chart plan name its low level group rise at.panel.planned own goes in
        up low (told_step tells) under (moved (λ n l. IsUnsigned chart.lines n) same unsigned)
    plus_straight (plus_up_by_latch its low rule lower goes signed given) tells = untold tells refl

    -- through a contact to the plus hub
    plus_through : (exit common : Hub) {contact : Hub} → ToPlus chart.lines plan group contact → contact_of contact ≡ Some common
        → shut old cycle contact ≡ true → control_emits cycle exit ≡ true → ChartWire chart.lines plan exit common
        → Pluses chart.lines plan (shut old cycle) cycle name level
    plus_through exit common (plus_from_card its its_level given low unsigned) leads closed on given_wire = cc
    plus_through exit common (plus_by_sign its its_level rule pilot given low signed served) leads closed on given_wire =
        let same = same_as its its_level given in
        by_sign rule pilot (after_pilot exit common pilot (sym (positive_common rule pilot) ∙ leads) on given_wire)
        (moved (λ n l. IsLowest chart.lines n l) same low) (moved (λ n l. IsSigned chart.lines n rule) same signed)
        (moved (λ n l. pilot_for plan n ≡ Some pilot) same served) closed
    plus_through exit common (plus_up its low goes unsigned) leads closed on given_wire = cc
    plus_through exit common (plus_up_by_latch its low rule lower goes signed given) leads closed on given_wire =
        let (same, under, digits) = goes_under chart plan name its low level group rise at.panel.planned own goes in
        by_latch low rule lower
        (after_balance exit common its low 2 3 lower given (inr (refl, refl)) leads on given_wire) under
        (moved (λ n l. IsSigned chart.lines n rule) same signed) (subst (λ n. IsTopOf chart.lines plan n low lower) same.name given) closed

    plus_from : {hub : Hub} → Arrives chart.lines plan (control_emits cycle) (shut old cycle) hub → hub ≡ PL group
        → Pluses chart.lines plan (shut old cycle) cycle name level
    plus_from (straight exit entry on given) is =
        let w : ChartWire chart.lines plan exit (PL group) = subst (λ h. ChartWire chart.lines plan exit h) is given in
        plus_straight (to_plus chart.lines plan w.line.number (itself chart.lines w.line w.listed) w.wire) (told cycle exit on)
    plus_from (through exit common contact entry on given leads closed last) is =
        let w : ChartWire chart.lines plan contact (PL group) = subst (λ h. ChartWire chart.lines plan contact h) is last in
        plus_through exit common (to_plus chart.lines plan w.line.number (itself chart.lines w.line w.listed) w.wire) leads closed on given

    -- what is closed at a group with the balance is closed at this one
    at_top : (other : Group) → IsTopOf chart.lines plan name level other → shut old cycle (BAT other 1) ≡ true
        → shut old cycle (BAT top 1) ≡ true
    at_top other is closed =
        subst (λ g. shut old cycle (BAT g 1) ≡ true) (one_top chart plan name level other top at.panel.lawful is its_top) closed

    -- straight to the minus hub comes nothing
    minus_straight : {exit : Hub} → ToMinus chart.lines plan group exit → EmitsAtControl cycle exit
        → Minuses chart.lines plan (shut old cycle) cycle name level top
    minus_straight (minus_by_sign its its_level rule pilot given low signed served) tells = negative_untold rule pilot tells
    minus_straight (minus_turned its its_level rule turning given given_top signed) tells = untold tells refl
    minus_straight (minus_up_by_latch its low rule lower goes signed given) tells = untold tells refl

    -- through a contact to the minus hub
    minus_through : (exit common : Hub) {contact : Hub} → ToMinus chart.lines plan group contact → contact_of contact ≡ Some common
        → shut old cycle contact ≡ true → control_emits cycle exit ≡ true → ChartWire chart.lines plan exit common
        → Minuses chart.lines plan (shut old cycle) cycle name level top
    minus_through exit common (minus_by_sign its its_level rule pilot given low signed served) leads closed on given_wire =
        let same = same_as its its_level given in
        less_by_sign rule pilot (after_pilot exit common pilot (sym (negative_common rule pilot) ∙ leads) on given_wire)
        (moved (λ n l. IsLowest chart.lines n l) same low) (moved (λ n l. IsSigned chart.lines n rule) same signed)
        (moved (λ n l. pilot_for plan n ≡ Some pilot) same served) closed
    minus_through exit common (minus_turned its its_level rule turning given given_top signed) leads closed on given_wire =
        let same = same_as its its_level given in
        let turns = moved (λ n l. IsTopOf chart.lines plan n l turning) same given_top in
        less_turned rule (after_balance exit common name level 1 2 turning turns (inl (refl, refl)) leads on given_wire)
        (moved (λ n l. IsSigned chart.lines n rule) same signed) (at_top turning turns closed)
    minus_through exit common (minus_up_by_latch its low rule lower goes signed given) leads closed on given_wire =
        let (same, under, digits) = goes_under chart plan name its low level group rise at.panel.planned own goes in
        less_by_latch low rule lower
        (after_balance exit common its low 2 3 lower given (inr (refl, refl)) leads on given_wire) under
        (moved (λ n l. IsSigned chart.lines n rule) same signed) (subst (λ n. IsTopOf chart.lines plan n low lower) same.name given) closed

    minus_from : {hub : Hub} → Arrives chart.lines plan (control_emits cycle) (shut old cycle) hub → hub ≡ MI group
        → Minuses chart.lines plan (shut old cycle) cycle name level top
    minus_from (straight exit entry on given) is =
        let w : ChartWire chart.lines plan exit (MI group) = subst (λ h. ChartWire chart.lines plan exit h) is given in
        minus_straight (to_minus chart.lines plan w.line.number (itself chart.lines w.line w.listed) w.wire) (told cycle exit on)
    minus_from (through exit common contact entry on given leads closed last) is =
        let w : ChartWire chart.lines plan contact (MI group) = subst (λ h. ChartWire chart.lines plan contact h) is last in
        minus_through exit common (to_minus chart.lines plan w.line.number (itself chart.lines w.line w.listed) w.wire) leads closed on given

    -- to the read-out hub
    read_straight : {exit : Hub} → ToReadOut chart.lines plan group exit → EmitsAtControl cycle exit
        → ReadsOut chart.lines (shut old cycle) cycle name level top
    read_straight (read_shown its its_level given) tells =
        shows_it (subst (λ l. IsStep cycle l 3) (same_as its its_level given).level (told_step tells))
    read_straight (read_turned its its_level rule turning given given_top signed) tells = untold tells refl

    read_through : (exit common : Hub) {contact : Hub} → ToReadOut chart.lines plan group contact → contact_of contact ≡ Some common
        → shut old cycle contact ≡ true → control_emits cycle exit ≡ true → ChartWire chart.lines plan exit common
        → ReadsOut chart.lines (shut old cycle) cycle name level top
    read_through exit common (read_shown its its_level given) leads closed on given_wire = cc
    read_through exit common (read_turned its its_level rule turning given given_top signed) leads closed on given_wire =
        let same = same_as its its_level given in
        let turns = moved (λ n l. IsTopOf chart.lines plan n l turning) same given_top in
        turns_it rule (after_balance exit common name level 1 2 turning turns (inl (refl, refl)) leads on given_wire)
        (moved (λ n l. IsSigned chart.lines n rule) same signed) (at_top turning turns closed)

    read_from : {hub : Hub} → Arrives chart.lines plan (control_emits cycle) (shut old cycle) hub → hub ≡ RO group
        → ReadsOut chart.lines (shut old cycle) cycle name level top
    read_from (straight exit entry on given) is =
        let w : ChartWire chart.lines plan exit (RO group) = subst (λ h. ChartWire chart.lines plan exit h) is given in
        read_straight (to_read_out chart.lines plan w.line.number (itself chart.lines w.line w.listed) w.wire) (told cycle exit on)
    read_from (through exit common contact entry on given leads closed last) is =
        let w : ChartWire chart.lines plan contact (RO group) = subst (λ h. ChartWire chart.lines plan contact h) is last in
        read_through exit common (to_read_out chart.lines plan w.line.number (itself chart.lines w.line w.listed) w.wire) leads closed on given

    -- to the balance test
    test_straight : {exit : Hub} → ToTest chart.lines plan top exit → EmitsAtControl cycle exit → Tests chart.lines cycle name level
    test_straight (test_tested its its_level rule given signed) tells =
        let same = one_owner chart plan its name its_level level top rise at.panel.planned (of_top chart.lines plan its its_level top given)
        (of_top chart.lines plan name level top its_top) in
        tests_it rule (subst (λ l. IsStep cycle l 1) same.level (told_step tells))
        (moved (λ n l. IsSigned chart.lines n rule) same signed)

    test_through : (common : Hub) {contact : Hub} → ToTest chart.lines plan top contact → contact_of contact ≡ Some common
        → Tests chart.lines cycle name level
    test_through common (test_tested its its_level rule given signed) leads = cc

    test_from : {hub : Hub} → Arrives chart.lines plan (control_emits cycle) (shut old cycle) hub → hub ≡ BT top
        → Tests chart.lines cycle name level
    test_from (straight exit entry on given) is =
        let w : ChartWire chart.lines plan exit (BT top) = subst (λ h. ChartWire chart.lines plan exit h) is given in
        test_straight (to_test chart.lines plan w.line.number (itself chart.lines w.line w.listed) w.wire) (told cycle exit on)
    test_from (through exit common contact entry on given leads closed last) is =
        let w : ChartWire chart.lines plan contact (BT top) = subst (λ h. ChartWire chart.lines plan contact h) is last in
        test_through common (to_test chart.lines plan w.line.number (itself chart.lines w.line w.listed) w.wire) leads

    -- what impulses the control hubs
    pub plus_is : pictures C (PL group) ≡ true → Pluses chart.lines plan (shut old cycle) cycle name level
    plus_is on = plus_from ((control_arrives chart plan wiring old cycle pictures at (PL group) refl refl).0 on) refl

    pub minus_is : pictures C (MI group) ≡ true → Minuses chart.lines plan (shut old cycle) cycle name level top
    minus_is on = minus_from ((control_arrives chart plan wiring old cycle pictures at (MI group) refl refl).0 on) refl

    pub read_is : pictures C (RO group) ≡ true → ReadsOut chart.lines (shut old cycle) cycle name level top
    read_is on = read_from ((control_arrives chart plan wiring old cycle pictures at (RO group) refl refl).0 on) refl

    pub test_is : pictures C (BT top) ≡ true → Tests chart.lines cycle name level
    test_is on = test_from ((control_arrives chart plan wiring old cycle pictures at (BT top) refl refl).0 on) refl
