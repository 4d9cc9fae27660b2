-- Which counter groups read out in a cycle.
use Rattle.std.proofs.Common.{◌≡◌, ◌∙◌, refl, sym, ap, subst, ℕ, Bool, true, List, Some, option_map, ◌↔◌, arith}
use Rattle.wiring_table.specs.Below.chart_plans.PlansWords.Plans.{Lists}
use Rattle.wiring_table.specs.Below.chart_lines.ChartsWords.Chart.{Chart, NumbersRise}
use Rattle.wiring_table.specs.Below.hubs.SetupsWords.Wiring.{Wiring}
use Rattle.proof_cycles.specs.Below.hubs.declared.hub.Group.{Group}
use Rattle.proof_cycles.specs.Below.hubs.declared.hub.Hub.{Hub}
use Rattle.proof_cycles.specs.Below.hubs.declared.hub.Hub.TheVariants.{BAT, RO}
use Rattle.proof_cycles.specs.Below.machine.Machine.{MachineState}
use Rattle.proof_cycles.specs.Below.net.Cycles.{level_number}
use Rattle.proof_cycles.specs.Below.net.declared.cycle.Cycle.{Cycle}
use Rattle.proof_cycles.specs.Below.net.declared.cycle.Cycle.TheVariants.{Card, Head, Prog, RunIn}
use Rattle.proof_cycles.specs.Below.net.declared.cycle.Ordinal.TheVariants.{First, Second, Third}
use Rattle.proof_cycles.specs.Below.net.declared.cycle.Point.{Point}
use Rattle.proof_cycles.specs.Below.net.declared.cycle.Point.TheVariants.{C}
use Rattle.wiring_table.proofs.Groups.{top-serves}
use Rattle.wiring_table.specs.Parts.{top_for, top_group}
use Rattle.wiring_table.specs.Wires.{ChartWire}
use Rattle.proof_reports.proofs.WiredPanels.Contacts.{is_set}
use Rattle.proof_reports.proofs.WiredPanels.CounterAsksContacts.{transferred_is}
use Rattle.proof_reports.proofs.WiredPanels.CounterAsksControls.{ReadsOut, read_is, shut}
use Rattle.proof_reports.proofs.WiredPanels.CounterAsksControls.ReadsOut.{shows_it, turns_it}
use Rattle.proof_reports.proofs.WiredPanels.CounterAsksGiven.{gives_read}
use Rattle.proof_reports.proofs.WiredPanels.CounterUnits.{planned_unit}
use Rattle.proof_reports.proofs.WiredPanels.Straight.{control_arrives}
use Rattle.proof_reports.proofs.WiredPanels.ToCounters.{ToReadOut, itself, to_read_out}
use Rattle.proof_reports.proofs.WiredPanels.ToCounters.ToReadOut.{shown as read_shown, turned as read_turned}
use Rattle.proof_reports.specs.WiredPanels.Groups.{IsGroupOf, IsServing, Reading}
use Rattle.proof_reports.specs.WiredPanels.Groups.Reading.{second, third}
use Rattle.proof_reports.specs.WiredPanels.Panel.{Arrives}
use Rattle.proof_reports.specs.WiredPanels.Panel.Arrives.{straight, through}
use Rattle.proof_reports.specs.WiredPanels.PanelCycles.{IsPanelCycle}

module _ (chart : Chart) (plan : Lists) where
  -- wires lead to the read-out hub of the groups of totals alone
  read_serving : {group : Group} {exit : Hub} → ToReadOut chart.lines plan group exit → IsServing chart.lines plan group
  read_serving (read_shown name level given) = record { name = name; level = level; own = given }
  read_serving (read_turned name level rule top given given_top signed) = record { name = name; level = level; own = given }

  -- what comes to a hub comes by a last wire
  last_wire : {exits closed : Hub → Bool} {hub : Hub} → Arrives chart.lines plan exits closed hub → (exit : Hub) × ChartWire chart.lines plan exit hub
  last_wire (straight exit entry on given) = (exit, given)
  last_wire (through exit common contact entry on given leads shut_it last) = (contact, last)

module _ (chart : Chart) (plan : Lists) (wiring : Wiring) (old : MachineState) (cycle : Cycle) (pictures : Point → Hub → Bool)
    (at : IsPanelCycle chart plan wiring old cycle pictures) where
  -- a group that reads out is a total's
  pub read_serves : (group : Group) → pictures C (RO group) ≡ true → IsServing chart.lines plan group
  read_serves group on =
      let come = (control_arrives chart plan wiring old cycle pictures at (RO group) refl refl).0 on in
      let (exit, w) = last_wire chart plan come in
      read_serving chart plan (to_read_out chart.lines plan w.line.number (itself chart.lines w.line w.listed) w.wire)

-- the groups that read out in a cycle
module _ (chart : Chart) (plan : Lists) (wiring : Wiring) (rise : NumbersRise chart.lines chart.end) (old : MachineState)
    (pictures : Point → Hub → Bool) (group : Group) where
  pub reading : (cycle : Cycle) → IsPanelCycle chart plan wiring old cycle pictures
      → (pictures C (RO group) ≡ true) ↔ Reading chart plan old group cycle
  reading cycle at = (λ on. told cycle at on, given cycle at)
    where
      latch : (cycle : Cycle) (number : ℕ) (top : Group) → IsPanelCycle chart plan wiring old cycle pictures
          → top_for chart.lines plan number ≡ Some top → shut old cycle (BAT top 1) ≡ is_set old top
      latch cycle number top at balance =
          transferred_is old cycle top 1 at.between.ordered
          (planned_unit chart.lines plan number top at.panel.planned (top-serves chart.lines plan number top balance)) refl

      by : (cycle : Cycle) → IsPanelCycle chart plan wiring old cycle pictures → (name : List ℕ) (level : ℕ) (top : Group)
          → (own : IsGroupOf chart.lines plan name level group) → top_for chart.lines plan own.number ≡ Some top
          → ReadsOut chart.lines (shut old cycle) cycle name level top
          → Reading chart plan old group cycle
      by RunIn at name level top own balance (shows_it is) = absurd is
      by RunIn at name level top own balance (turns_it rule is its_sign closed) = absurd is
      by Card at name level top own balance (shows_it is) = absurd is
      by Card at name level top own balance (turns_it rule is its_sign closed) = absurd is
      by (Head heading) at name level top own balance (shows_it is) = absurd is
      by (Head heading) at name level top own balance (turns_it rule is its_sign closed) = absurd is
      by (Prog l First) at name level top own balance (shows_it is) = absurd (omega (arith, is.1))
      by (Prog l First) at name level top own balance (turns_it rule is its_sign closed) = absurd (omega (arith, is.1))
      by (Prog l Second) at name level top own balance (shows_it is) = absurd (omega (arith, is.1))
      by (Prog l Second) at name level top own balance (turns_it rule is its_sign closed) =
          let (moved_own, moved_balance) =
          subst (λ k. (o : IsGroupOf chart.lines plan name k group) × (top_for chart.lines plan o.number ≡ Some top)) (sym is.0) (own, balance) in
          second l name rule top moved_own moved_balance its_sign (sym (latch (Prog l Second) own.number top at balance) ∙ closed)
      by (Prog l Third) at name level top own balance (shows_it is) =
          third l name (subst (λ k. IsGroupOf chart.lines plan name k group) (sym is.0) own)
      by (Prog l Third) at name level top own balance (turns_it rule is its_sign closed) = absurd (omega (arith, is.1))

      told : (cycle : Cycle) → IsPanelCycle chart plan wiring old cycle pictures → pictures C (RO group) ≡ true
          → Reading chart plan old group cycle
      told cycle at on =
          let serves = read_serves chart plan wiring old cycle pictures at group on in
          let top = top_group serves.own.served.counter in
          let balance = ap (option_map top_group) serves.own.served.there in
          by cycle at serves.name serves.level top serves.own balance
          (read_is chart plan wiring old cycle pictures at rise serves.name serves.level group serves.own top balance on)

      given : (cycle : Cycle) → IsPanelCycle chart plan wiring old cycle pictures → Reading chart plan old group cycle
          → pictures C (RO group) ≡ true
      given cycle at (third l name own) =
          gives_read chart plan wiring old (Prog l Third) pictures at rise name (level_number l) group own
          (top_group own.served.counter) (ap (option_map top_group) own.served.there) (shows_it (refl, refl))
      given cycle at (second l name rule top own balance its_sign is) =
          gives_read chart plan wiring old (Prog l Second) pictures at rise name (level_number l) group own top balance
          (turns_it rule (refl, refl) its_sign (latch (Prog l Second) own.number top at balance ∙ is))
