-- A helper of the code: plugging jacks and punching stops step by step.
use Rattle.std.specs.Prelude.{◌≡◌, ◌↔◌, ◌⊎◌, ℕ, ◌+◌, ◌<◌, ◌≤◌, List, Contains, Some, slice_get, true}
use Rattle.chart_line_rules.specs.PrintRules.Items.{figure_width, item_of}
use Rattle.chart_line_rules.specs.FieldRules.Fields.{fields_of}
use Rattle.chart_line_rules.specs.declared.print_rules.items.Item.{Item}
use Rattle.chart_line_rules.specs.declared.print_rules.items.Figure.{Figure}
use Rattle.chart_lines.specs.declared.charts.chart.Line.{Line}
use Rattle.chart_lines.specs.declared.charts.statement.Statement.{Statement}
use Rattle.hubs.specs.SetupsWords.Tapes.{CarriageTape, IsFormed, IsStop, has_stop}
use Rattle.hubs.specs.SetupsWords.Wiring.{Wiring, HasJack, SameWires}
use Rattle.hubs.specs.declared.jack.Jack.{Jack}
use Rattle.hubs.specs.declared.jack.Jack.TheVariants as jack
use Rattle.wiring_lines.specs.declared.jacks_and_tape.panel_jacks.WheelJack.{WheelJack}
use Rattle.wiring_lines.specs.declared.jacks_and_tape.panel_jacks.WheelJack.TheVariants as of_wheel
use Rattle.wiring_table.specs.Below.report_definition.ChartForm.{form_of, prints_totals, stops_of}
use Rattle.wiring_table.specs.Figures.{IsFigure, mark_wheel, free_digits}

-- the new setup has the old one's jacks and some more, and the old one's wires and tape
pub record Plugs (jacks_of : Jack → Type 0) (old new : Wiring) : Type 0 where
  pub jacks : (each : Jack) → HasJack new each ↔ (HasJack old each ⊎ jacks_of each)
  pub wires : SameWires old new
  pub tape : new.tape ≡ old.tape

-- the jack of a wheel
abbrev pub jack_of : WheelJack → ℕ → Jack
jack_of of_wheel.Link = jack.Link
jack_of of_wheel.Suppress = jack.Suppress
jack_of of_wheel.Symbol = jack.Symbol

-- the jacks of one kind of wheels from one on and before another
pub data Ranged (make : ℕ → Jack) (from end : ℕ) : Jack → Type 0 where
  ranged : (wheel : ℕ) → from ≤ wheel → wheel < end → Ranged make from end (make wheel)

-- the jacks of an amount from a wheel on
pub data FigureJacks (wheel : ℕ) (figure : Figure) (each : Jack) : Type 0 where
  links : Ranged jack.Link (wheel + 1) (wheel + figure_width figure) each → FigureJacks wheel figure each
  suppresses : Ranged jack.Suppress wheel (wheel + free_digits figure.digits figure.decimals) each → FigureJacks wheel figure each
  symbols : Ranged jack.Symbol (mark_wheel wheel figure.digits figure.decimals) (wheel + figure_width figure) each
      → FigureJacks wheel figure each

-- the jacks of the amount of a line of the chart, if it puts one on a line of the report
pub record LineJacks (lines : List Line) (statement : Statement) (each : Jack) : Type 0 where
  pub emitter : ℕ
  pub wheel : ℕ
  pub figure : Figure
  pub is_figure : IsFigure lines statement emitter wheel figure
  pub jacks : FigureJacks wheel figure each

-- the jacks of the amounts of the lines before a place of the chart
pub record JacksBefore (lines : List Line) (place : ℕ) (each : Jack) : Type 0 where
  pub at : ℕ
  pub before : at < place
  pub line : Line
  pub there : slice_get lines at ≡ Some line
  pub jacks : LineJacks lines line.statement each

-- the new tape has the old one's form and stops, and some stops more
pub record Punches (stops_of : (channel line : ℕ) → Type 0) (old new : CarriageTape) : Type 0 where
  pub lines : new.lines ≡ old.lines
  pub first : new.first ≡ old.first
  pub overflow : new.overflow ≡ old.overflow
  pub stops : (channel line : ℕ) → (has_stop new channel line ≡ true) ↔ ((has_stop old channel line ≡ true) ⊎ stops_of channel line)

-- an amount stands on wheels of the machine from a wheel on
pub record IsGoodFigure (wheel : ℕ) (figure : Figure) : Type 0 where
  pub from : 1 ≤ wheel
  pub last : wheel + figure_width figure ≤ 121
  pub some_digits : 1 ≤ figure.digits
  pub whole : figure.decimals ≤ figure.digits

-- an item of the chart that a line is, with an amount from a wheel on
pub record ItemWith (lines : List Line) (statement : Statement) (wheel : ℕ) (figure : Figure) : Type 0 where
  pub item : Item
  pub is_item : item_of (fields_of lines) statement ≡ Some item
  pub from : item.first ≡ wheel
  pub has : item.figure ≡ Some figure

-- the amounts of a line's items are those that it puts on lines of the report, and they stand on wheels of the machine
pub record FiguresAre (lines : List Line) (statement : Statement) : Type 0 where
  pub good : (emitter wheel : ℕ) (figure : Figure) → IsFigure lines statement emitter wheel figure → IsGoodFigure wheel figure
  pub there : (item : Item) (figure : Figure) → item_of (fields_of lines) statement ≡ Some item → item.figure ≡ Some figure
      → (emitter : ℕ) × IsFigure lines statement emitter item.first figure
  pub back : (emitter wheel : ℕ) (figure : Figure) → IsFigure lines statement emitter wheel figure
      → ItemWith lines statement wheel figure

-- the jacks of the levels below a bound with an item
pub data TotalsBelow (lines : List Line) (bound : ℕ) (each : Jack) : Type 0 where
  level : (number : ℕ) → number < bound → prints_totals lines number ≡ true → each ≡ jack.Total number → TotalsBelow lines bound each

-- a chart's form and its stops are those of a carriage tape
pub record HasTape (lines : List Line) : Type 0 where
  pub formed : IsFormed (form_of lines).lines (form_of lines).first (form_of lines).overflow
  pub stops : (channel line : ℕ) → Contains (stops_of lines channel) line → IsStop (form_of lines).lines channel line

-- the stops of the channels before a bound
pub record StopsBefore (lines : List Line) (bound channel line : ℕ) : Type 0 where
  pub from : 2 ≤ channel
  pub before : channel < bound
  pub listed : Contains (stops_of lines channel) line
