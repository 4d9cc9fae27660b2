-- Which counter groups and storage units read out in the cycles that print: those of a level's totals and texts in its third program
-- cycle, and none in other cycles.
use Rattle.std.proofs.Common.{◌≡◌, refl, sym, ap, subst, ℕ, Bool, true, false, List, ◌↔◌}
use Rattle.wiring_table.specs.Below.hubs.SetupsWords.Wiring.{Wiring}
use Rattle.wiring_table.specs.Below.chart_lines.ChartsWords.Chart.{NumbersRise}
use Rattle.wiring_table.specs.Below.chart_lines.ChartsWords.Levels.{level_number as chart_number}
use Rattle.proof_cycles.specs.Below.hubs.declared.hub.Group.{Group}
use Rattle.proof_cycles.specs.Below.hubs.declared.hub.Hub.{Hub}
use Rattle.proof_cycles.specs.Below.hubs.declared.hub.Hub.TheVariants.{PX, RO, SO}
use Rattle.proof_cycles.specs.Below.net.Cycles.{level_number}
use Rattle.proof_cycles.specs.Below.net.declared.cycle.Cycle.{Cycle}
use Rattle.proof_cycles.specs.Below.net.declared.cycle.Cycle.TheVariants.{RunIn, Card, Prog, Head}
use Rattle.proof_cycles.specs.Below.net.declared.cycle.ProgramLevel.{ProgramLevel}
use Rattle.proof_cycles.specs.Below.net.declared.cycle.Ordinal.TheVariants.{First, Second, Third}
use Rattle.proof_cycles.specs.Below.net.declared.cycle.Point.TheVariants.{C}
use Rattle.proof_reports.proofs.WiredPanels.ReadingGroups.{reading}
use Rattle.proof_reports.proofs.WiredPanels.ToStorage.{unit-reads_out}
use Rattle.proof_reports.specs.WiredPanels.CycleRows.{CycleRow}
use Rattle.proof_reports.specs.WiredPanels.Groups.{IsGroupOf, Reading}
use Rattle.proof_reports.specs.WiredPanels.Groups.Reading.{third as reads_third, second as reads_second}
use Rattle.proof_reports.specs.WiredPanels.PanelCycles.{IsPanelCycle, IsTextPrinted}
use Rattle.proof_reports.specs.WiredPanels.Sources.{EmitsAtControl}
use Rattle.proof_reports.specs.WiredPanels.Sources.EmitsAtControl.{card as emits_card, prog as emits_prog, head as emits_head}

-- whether a cycle can print
abbrev pub can_print : Cycle → Bool
can_print RunIn = false
can_print Card = true
can_print (Prog level First) = false
can_print (Prog level Second) = false
can_print (Prog level Third) = true
can_print (Head heading) = true

-- the third program cycle of a level, by the exit that emits in it
pub third-of : {cycle : Cycle} {hub : Hub} (n : ℕ) → EmitsAtControl cycle hub → hub ≡ PX n 3 → can_print cycle ≡ true
    → (level : ProgramLevel) × (cycle ≡ Prog level Third)
third-of n emits_card is prints = cc
third-of n (emits_prog level First) is prints = cc
third-of n (emits_prog level Second) is prints = cc
third-of n (emits_prog level Third) is prints = (level, refl)
third-of n (emits_head heading) is prints = cc

module _ (wiring : Wiring) (at : CycleRow) (it : IsPanelCycle at.chart at.plan wiring at.old at.cycle at.pictures) where
  -- the units that read out
  unit-reads : (unit : ℕ) → (at.pictures C (SO unit) ≡ true) ↔ IsTextPrinted at.chart.lines at.plan at.cycle unit
  unit-reads unit = unit-reads_out at.chart at.plan wiring at.old at.cycle at.pictures it unit

  pub unit-third : (unit : ℕ) → can_print at.cycle ≡ true → at.pictures C (SO unit) ≡ true → (level : ProgramLevel) × (at.cycle ≡ Prog level Third)
  unit-third unit prints on = let text = (unit-reads unit).0 on in third-of (chart_number text.level) text.printed refl prints

  -- In the third program cycle of a level a unit that reads out is that of a text on the total line, and each of these reads out.
  pub text-read : (level : ProgramLevel) → at.cycle ≡ Prog level Third → (unit : ℕ) → at.pictures C (SO unit) ≡ true
      → IsTextPrinted at.chart.lines at.plan (Prog level Third) unit
  text-read level is unit on = subst (λ c. IsTextPrinted at.chart.lines at.plan c unit) is ((unit-reads unit).0 on)

  pub reads-text : (level : ProgramLevel) → at.cycle ≡ Prog level Third → (unit : ℕ) → IsTextPrinted at.chart.lines at.plan (Prog level Third) unit
      → at.pictures C (SO unit) ≡ true
  reads-text level is unit text = (unit-reads unit).1 (subst (λ c. IsTextPrinted at.chart.lines at.plan c unit) (sym is) text)

  module _ (rises : NumbersRise at.chart.lines at.chart.end) where
    -- the groups that read out
    group-reads : (group : Group) → (at.pictures C (RO group) ≡ true) ↔ Reading at.chart at.plan at.old group at.cycle
    group-reads group = reading at.chart at.plan wiring rises at.old at.pictures group at.cycle it

    pub group-third : (group : Group) → can_print at.cycle ≡ true → at.pictures C (RO group) ≡ true
        → (level : ProgramLevel) × (at.cycle ≡ Prog level Third)
    group-third group prints on = by ((group-reads group).0 on) prints
      where
        by : {cycle : Cycle} → Reading at.chart at.plan at.old group cycle → can_print cycle ≡ true → (level : ProgramLevel) × (cycle ≡ Prog level Third)
        by (reads_third level name own) prints = (level, refl)
        by (reads_second level name rule top own balance signed on) prints = cc

    -- In the third program cycle of a level a group that reads out is that of a total of the level, and each of these reads out.
    pub total-read : (level : ProgramLevel) → at.cycle ≡ Prog level Third → (group : Group) → at.pictures C (RO group) ≡ true
        → (name : List ℕ) × IsGroupOf at.chart.lines at.plan name (level_number level) group
    total-read level is group on = by ((group-reads group).0 on) is
      where
        level_of : Cycle → ℕ
        level_of (Prog its ordinal) = level_number its
        level_of other = 0

        by : {cycle : Cycle} → Reading at.chart at.plan at.old group cycle → cycle ≡ Prog level Third
            → (name : List ℕ) × IsGroupOf at.chart.lines at.plan name (level_number level) group
        by (reads_third l name own) same =
            let levels : level_number l ≡ level_number level = ap level_of same in
            (name, subst (λ n. IsGroupOf at.chart.lines at.plan name n group) levels own)
        by (reads_second l name rule top own balance signed on) same = cc

    pub reads-total : (level : ProgramLevel) → at.cycle ≡ Prog level Third → (name : List ℕ) (group : Group)
        → IsGroupOf at.chart.lines at.plan name (level_number level) group → at.pictures C (RO group) ≡ true
    reads-total level is name group own =
        (group-reads group).1 (subst (λ c. Reading at.chart at.plan at.old group c) (sym is) (reads_third level name own))
