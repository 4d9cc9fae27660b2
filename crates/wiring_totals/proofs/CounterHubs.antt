-- The hubs of a position of a counter, and the wires of both its groups.
use Rattle.std.proofs.Common.{◌≡◌, ℕ, ap}
use Rattle.capacity.specs.declared.group.CounterGroup.{CounterGroup}
use Rattle.hubs.specs.declared.hub.Group.{Group}
use Rattle.hubs.specs.declared.hub.Hub.TheVariants.{GE, GX}
use Rattle.wiring_lines.proofs.LineWires.Steps.{adds-both, adds-by, by-said}
use Rattle.wiring_lines.specs.LineWires.HelperAdds.{Adds}
use Rattle.wiring_lines.specs.LineWires.HelperRows.{Wires}
use Rattle.chart_plans.specs.declared.plans.counter.TotalCounter.{TotalCounter}
use Rattle.chart_plans.specs.declared.plans.counter.TotalCounter.TheVariants as of
use Rattle.hubs.specs.SetupsWords.Wiring.{Wiring}
use Rattle.wiring_totals.specs.HelperCounters.{EachGroup, entry_of, exit_of}
use Rattle.wiring_lines.specs.Below.wiring_table.Parts.{panel_group}

pub same-exit : {at other : Group × ℕ} → at ≡ other → GX at.0 at.1 ≡ exit_of other
same-exit e = ap exit_of e

pub same-entry : {at other : Group × ℕ} → at ≡ other → GE at.0 at.1 ≡ entry_of other
same-entry e = ap entry_of e

-- the wires of the lower group of two, and then those of the upper one
pub adds-pair : (wires : Group → Wires) {counter : TotalCounter} {lower upper : CounterGroup} {low up : Group} {old mid new : Wiring}
    → counter ≡ of.Coupled lower upper → low ≡ panel_group lower → up ≡ panel_group upper → Adds (wires low) old mid
    → Adds (wires up) mid new → Adds (EachGroup counter wires) old new
adds-pair wires {old = old} {new = new} is is_low is_up first next =
    by-said (λ c. Adds (EachGroup c wires) old new) is
    (adds-both (adds-by wires first is_low) (adds-by wires next is_up))
