-- A helper of the code: the places of the positions of a counter, the wires that its groups have alike, and the carries between them.
use Rattle.std.specs.Prelude.{◌≡◌, ℕ, ◌+◌, ◌-◌, ◌≤◌, nat_le, true, if◌then◌else◌}
use Rattle.capacity.specs.declared.group.CounterGroup.{CounterGroup}
use Rattle.chart_plans.specs.declared.plans.counter.TotalCounter.{TotalCounter}
use Rattle.chart_plans.specs.declared.plans.counter.TotalCounter.TheVariants as of
use Rattle.hubs.specs.HubTable.Places.{is_width}
use Rattle.hubs.specs.declared.hub.Group.{Group}
use Rattle.hubs.specs.declared.hub.Hub.{Hub}
use Rattle.hubs.specs.declared.hub.Hub.TheVariants.{GX, CO, GE, CI}
use Rattle.wiring_lines.specs.LineWires.HelperAdds.{One, Both}
use Rattle.wiring_lines.specs.LineWires.HelperItems.{NoWires}
use Rattle.wiring_lines.specs.LineWires.HelperRows.{Wires}
use Rattle.wiring_lines.specs.Below.wiring_table.Parts.{panel_group}

-- the panel has a counter group
pub record IsOnPanel (group : Group) : Type 0 where
  pub width : is_width group.width ≡ true
  pub from : 1 ≤ group.number
  pub to : group.number ≤ 8

-- the panel has two counter groups of 8 positions
pub record ArePairOnPanel (lower upper : CounterGroup) : Type 0 where
  pub lower_there : IsOnPanel (panel_group lower)
  pub upper_there : IsOnPanel (panel_group upper)
  pub lower_width : lower.width ≡ 8
  pub upper_width : upper.width ≡ 8

-- the panel has the groups of a counter
abbrev pub IsCounterOnPanel : TotalCounter → Type 0
IsCounterOnPanel (of.Single group) = IsOnPanel (panel_group group)
IsCounterOnPanel (of.Coupled lower upper) = ArePairOnPanel lower upper

-- how many positions a counter has
abbrev pub positions_of : TotalCounter → ℕ
positions_of (of.Single group) = group.width
positions_of (of.Coupled lower upper) = lower.width + upper.width

-- the group with a position of a counter, and its place there: of two groups first those of the lower one, then those of the upper
-- one
abbrev pub place_of : TotalCounter → (position : ℕ) → Group × ℕ
place_of (of.Single group) position = (panel_group group, position)
place_of (of.Coupled lower upper) position =
    if nat_le position lower.width then (panel_group lower, position)
    else (panel_group upper, position - lower.width)

-- the exit of a place, and its entry
abbrev pub exit_of : Group × ℕ → Hub
exit_of (group, place) = GX group place

abbrev pub entry_of : Group × ℕ → Hub
entry_of (group, place) = GE group place

-- the wires of each group of a counter
abbrev pub EachGroup : TotalCounter → (Group → Wires) → Wires
EachGroup (of.Single group) wires = wires (panel_group group)
EachGroup (of.Coupled lower upper) wires = Both (wires (panel_group lower)) (wires (panel_group upper))

-- an exit to a control of each group of a counter: to its plus, minus or read-out entry
abbrev pub ControlWires : Hub → (control : Group → Hub) → TotalCounter → Wires
ControlWires exit control counter = EachGroup counter (λ group. One exit (control group))

-- the carry from the lower group of two to the upper one
abbrev pub CarryUpWires : TotalCounter → Wires
CarryUpWires (of.Single group) = NoWires
CarryUpWires (of.Coupled lower upper) = One (CO (panel_group lower)) (CI (panel_group upper))

-- the carry of a counter from its highest position to its lowest
abbrev pub RingWires : TotalCounter → Wires
RingWires (of.Single group) = One (CO (panel_group group)) (CI (panel_group group))
RingWires (of.Coupled lower upper) = One (CO (panel_group upper)) (CI (panel_group lower))
