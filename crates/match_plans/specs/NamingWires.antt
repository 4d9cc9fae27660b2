-- The wires by which parts are told off a panel, and panels on which these are as on one that is wired for a chart, whatever the other
-- wires, jacks and stops are.
use Rattle.std.specs.Prelude.{ℕ, List, ◌↔◌}
use Rattle.chart_lines.specs.declared.charts.chart.Line.{Line}
use Rattle.chart_lines.specs.declared.charts.statement.SignRule.{SignRule}
use Rattle.hubs.specs.declared.hub.Group.{Group}
use Rattle.hubs.specs.declared.hub.Hub.{Hub}
use Rattle.hubs.specs.declared.hub.Hub.TheVariants.{CA, CI, CO, CSD, CX, FR, GX, IX, MI, PIX, PX, RO, SO, ST, SX, W}
use Rattle.match_plans.specs.Wired.{IsWiredBy}
use Rattle.chart_plans.specs.PlansWords.Plans.{Lists}
use Rattle.hubs.specs.SetupsWords.Wiring.{HasWire, Wiring}
use Rattle.wiring_table.specs.Parts.{negative_side}

-- A wire names a part. A counter group is named by its read-out in a level's printing cycle, by the wire from its first place to a wheel,
-- and, if it carries to another, by the carry; a storage unit by its read-out and the wire from its first column to a wheel; a column
-- split and an indicate position by the wire to a wheel; a comparing position by its column at first reading and by its level; a pilot by
-- its column, and by the side that is closed for a negative amount: to a counter's minus, and to the wheel of a mark.
pub data NamesPart : Hub → Hub → Type 0 where
  group_read_out : (level : ℕ) (group : Group) → NamesPart (PX level 3) (RO group)
  units : (group : Group) (wheel : ℕ) → NamesPart (GX group 1) (W wheel)
  carry : (lower upper : Group) → NamesPart (CO lower) (CI upper)
  unit_read_out : (level unit : ℕ) → NamesPart (PX level 3) (SO unit)
  first_column : (unit wheel : ℕ) → NamesPart (SX unit 1) (W wheel)
  split_digit : (split wheel : ℕ) → NamesPart (CSD split) (W wheel)
  indicated : (level position wheel : ℕ) → NamesPart (IX level position) (W wheel)
  compared : (column position : ℕ) → NamesPart (FR column) (CA position)
  called : (position level : ℕ) → NamesPart (CX position) (ST level)
  picked_up : (column pilot : ℕ) → NamesPart (FR column) (PIX pilot)
  subtracting : (rule : SignRule) (pilot : ℕ) (group : Group) → NamesPart (negative_side rule pilot 1) (MI group)
  marking : (rule : SignRule) (pilot wheel : ℕ) → NamesPart (negative_side rule pilot 2) (W wheel)

-- two setups have the same of these wires
abbrev pub AreNamedAlike : (setup other : Wiring) → Type 0
AreNamedAlike setup other =
    (exit entry : Hub) → NamesPart exit entry → HasWire setup exit entry ↔ HasWire other exit entry

-- A setup shows the parts of another one that is wired for a chart by a plan: it differs from that one, if at all, only in wires that name
-- no part, in jacks and in its tape.
pub record ShowsPartsOf (lines : List Line) (setup other : Wiring) (plan : Lists) : Type 0 where
  pub wired : IsWiredBy lines other plan
  pub alike : AreNamedAlike setup other
