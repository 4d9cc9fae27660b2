-- Which line of a chart asks for a wire.
use Rattle.std.specs.Prelude.{◌≡◌, ◌⊎◌, ℕ, ◌<◌, List, All, Some, map, slice_get}
use Rattle.chart_lines.specs.declared.charts.chart.Line.{Line}
use Rattle.hubs.specs.declared.hub.Hub.{Hub}
use Rattle.show_drawings.specs.declared.drawings.panel_drawing.drawing.PanelWire.{PanelWire}
use Rattle.chart_plans.specs.PlansWords.Plans.{Lists}
use Rattle.hubs.specs.SetupsWords.Wires.{AreWiresOf}
use Rattle.hubs.specs.SetupsWords.Wiring.{Wiring}
use Rattle.wiring_table.specs.Wires.{LineWire}

-- none of the lines before a place asks for the wire
abbrev pub NoneBefore : List Line → Lists → Hub → Hub → ℕ → Type 0
NoneBefore lines plan exit entry place =
    (before : ℕ) (line : Line) → before < place → slice_get lines before ≡ Some line
    → LineWire lines plan line.number line.statement exit entry → ⊥

-- the line of this number is the first one that asks for the wire
pub record IsFirstAsking (lines : List Line) (plan : Lists) (exit entry : Hub) (number : ℕ) : Type 0 where
  pub place : ℕ
  pub line : Line
  pub there : slice_get lines place ≡ Some line
  pub number_is : number ≡ line.number
  pub asks : LineWire lines plan line.number line.statement exit entry
  pub first : NoneBefore lines plan exit entry place

-- no line asks for the wire
abbrev pub NoneAsks : List Line → Lists → Hub → Hub → Type 0
NoneAsks lines plan exit entry =
    (place : ℕ) (line : Line) → slice_get lines place ≡ Some line → LineWire lines plan line.number line.statement exit entry → ⊥

-- the number of the line that asks for the wire, and 0 where none does
abbrev pub IsLineOf : List Line → Lists → Hub → Hub → ℕ → Type 0
IsLineOf lines plan exit entry number =
    IsFirstAsking lines plan exit entry number ⊎ ((number ≡ 0) × NoneAsks lines plan exit entry)

-- a drawn wire has the number of its line
abbrev pub HasItsLine : List Line → Lists → PanelWire → Type 0
HasItsLine lines plan wire = IsLineOf lines plan wire.exit wire.entry wire.line

-- the hubs of a drawn wire
abbrev pub ends : PanelWire → Hub × Hub
ends wire = (wire.exit, wire.entry)

-- a drawn wire with these hubs, and its line
pub record IsAsked (lines : List Line) (plan : Lists) (pair : Hub × Hub) (wire : PanelWire) : Type 0 where
  pub ends_is : ends wire ≡ pair
  pub asked : HasItsLine lines plan wire

-- wires with these hubs, each with its line
pub record AreAsked (lines : List Line) (plan : Lists) (pairs : List (Hub × Hub)) (wires : List PanelWire) : Type 0 where
  pub ends_are : map ends wires ≡ pairs
  pub asked : All (HasItsLine lines plan) wires

-- The wires of a setup for a drawing: each once, in the order of the hubs, and with each its line of the chart.
pub record AreChartWires (lines : List Line) (plan : Lists) (setup : Wiring) (wires : List PanelWire) : Type 0 where
  pub pairs : List (Hub × Hub)
  pub all : AreWiresOf setup pairs
  pub are : AreAsked lines plan pairs wires
