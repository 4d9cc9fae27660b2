-- The jacks on the wheels of an item are those of its own line of the chart, whatever other lines plug.
use Rattle.std.proofs.Common.{◌≡◌, ◌∙◌, refl, ap, subst, ℕ, ◌+◌, ◌<◌, ◌≤◌, true, List, Contains, Some, option_map}
use Rattle.wiring_table.specs.Below.chart_lines.ChartsWords.Field.{columns_of, decimals_of, is_amount}
use Rattle.wiring_table.specs.Below.chart_lines.declared.charts.chart.Line.{Line}
use Rattle.wiring_table.specs.Below.chart_lines.declared.charts.statement.BodyLine.TheVariants as body
use Rattle.wiring_table.specs.Below.chart_lines.declared.charts.statement.FieldKind.{FieldKind}
use Rattle.wiring_table.specs.Below.chart_lines.declared.charts.statement.FieldKind.TheVariants as holds
use Rattle.wiring_table.specs.Below.chart_lines.declared.charts.statement.Statement.{Statement}
use Rattle.wiring_table.specs.Below.chart_line_rules.declared.print_rules.items.Figure.{Figure}
use Rattle.wiring_table.specs.Below.chart_line_rules.declared.print_rules.items.PrintedLine.{PrintedLine}
use Rattle.wiring_table.specs.Below.chart_line_rules.declared.print_rules.items.PrintedLine.TheVariants.{Body}
use Rattle.wiring_table.specs.Below.chart_line_rules.FieldRules.Fields.{fields_of}
use Rattle.wiring_table.specs.Below.chart_line_rules.PrintRules.Items.{item_of, detail_item, total_item, figure_item, figure_width, mark_shown}
use Rattle.wiring_table.specs.Below.chart_line_rules.PrintRules.Wheels.{is_body}
use Rattle.print_unit.specs.Below.hubs.declared.jack.Jack.{Jack}
use Rattle.print_unit.specs.Below.hubs.declared.jack.Jack.TheVariants as jack
use Rattle.wiring_table.specs.Figures.{IsFigure, on_detail, on_total, mark_wheel, free_digits}
use Rattle.wiring_table.specs.Jacks.{ChartJack, HasFigure, list, total, head, link, suppress, symbol}

-- An amount of the chart as an item of a body line.
pub record FigureItem (lines : List Line) (wheel : ℕ) (figure : Figure) : Type 0 where
  pub line : Line
  pub there : Contains lines line
  pub on : PrintedLine
  pub is_body_line : is_body on ≡ true
  pub is_item : item_of (fields_of lines) line.statement ≡ Some (figure_item on wheel figure)

-- a statement that puts an amount on a line is an item of a body line
statement-item : (lines : List Line) {statement : Statement} {emitter wheel : ℕ} {figure : Figure}
    → IsFigure lines statement emitter wheel figure
    → (on : PrintedLine) × (is_body on ≡ true) × (item_of (fields_of lines) statement ≡ Some (figure_item on wheel figure))
statement-item lines (on_detail wheel name shown field is) = (
  Body body.Detail,
  refl,
  ap (option_map (λ field. detail_item wheel shown (columns_of field) field.kind)) is.named ∙ by field.kind is.holds_amount,
)
  where
    by : (kind : FieldKind) → is_amount kind ≡ true
        → Some (detail_item wheel shown (columns_of field) kind)
        ≡ Some (figure_item (Body body.Detail) wheel
        (record { digits = columns_of field; decimals = decimals_of kind; mark = mark_shown shown }))
    by holds.Text is = cc
    by (holds.Amount decimals rule) is = refl
statement-item lines (on_total asked field is) =
    (Body (body.Total asked.level), refl, ap (option_map (λ field. total_item asked field.kind)) is.named)

pub FigureItem-has : (lines : List Line) (wheel : ℕ) (figure : Figure) → HasFigure lines wheel figure
    → FigureItem lines wheel figure
FigureItem-has lines wheel figure has =
    let item = statement-item lines has.is_figure in
    record { line = has.line; there = has.listed; on = item.0; is_body_line = item.1; is_item = item.2 }

-- An amount that plugs a jack of a kind at a wheel, within bounds.
pub record Plugs (lines : List Line) (within : ℕ → Figure → Type 0) : Type 0 where
  pub wheel : ℕ
  pub figure : Figure
  pub item : FigureItem lines wheel figure
  pub inside_it : within wheel figure

-- where an amount plugs LINK, SUPPRESS and SYMBOL
abbrev pub LinksAt : ℕ → ℕ → Figure → Type 0
LinksAt v wheel figure = (wheel < v) × (v < wheel + figure_width figure)

abbrev pub SuppressesAt : ℕ → ℕ → Figure → Type 0
SuppressesAt v wheel figure = (wheel ≤ v) × (v < wheel + free_digits figure.digits figure.decimals)

abbrev pub MarksAt : ℕ → ℕ → Figure → Type 0
MarksAt v wheel figure = (mark_wheel wheel figure.digits figure.decimals ≤ v) × (v < wheel + figure_width figure)

-- an amount of the chart that plugs a jack
plugs : (lines : List Line) (within : ℕ → Figure → Type 0) (wheel : ℕ) (figure : Figure) → HasFigure lines wheel figure
    → within wheel figure → Plugs lines within
plugs lines within wheel figure has inside_it =
    record { wheel = wheel; figure = figure; item = FigureItem-has lines wheel figure has; inside_it = inside_it }

-- a plugged LINK is an amount's
pub plugs-link : (lines : List Line) (v : ℕ) → ChartJack lines (jack.Link v) → Plugs lines (LinksAt v)
plugs-link lines v plugged = by plugged refl
  where
    by : {j : Jack} → ChartJack lines j → j ≡ jack.Link v → Plugs lines (LinksAt v)
    by (list prints) same = cc
    by (total level prints) same = cc
    by (head heading some few) same = cc
    by (link wheel figure u has low high) same =
        let is : u ≡ v = cc in
        plugs lines (LinksAt v) wheel figure has (subst (λ x. LinksAt x wheel figure) is (low, high))
    by (suppress wheel figure u has low high) same = cc
    by (symbol wheel figure u has low high) same = cc

-- a plugged SUPPRESS is an amount's
pub plugs-suppress : (lines : List Line) (v : ℕ) → ChartJack lines (jack.Suppress v) → Plugs lines (SuppressesAt v)
plugs-suppress lines v plugged = by plugged refl
  where
    by : {j : Jack} → ChartJack lines j → j ≡ jack.Suppress v → Plugs lines (SuppressesAt v)
    by (list prints) same = cc
    by (total level prints) same = cc
    by (head heading some few) same = cc
    by (link wheel figure u has low high) same = cc
    by (suppress wheel figure u has low high) same =
        let is : u ≡ v = cc in
        plugs lines (SuppressesAt v) wheel figure has (subst (λ x. SuppressesAt x wheel figure) is (low, high))
    by (symbol wheel figure u has low high) same = cc

-- a plugged SYMBOL is an amount's
pub plugs-symbol : (lines : List Line) (v : ℕ) → ChartJack lines (jack.Symbol v) → Plugs lines (MarksAt v)
plugs-symbol lines v plugged = by plugged refl
  where
    by : {j : Jack} → ChartJack lines j → j ≡ jack.Symbol v → Plugs lines (MarksAt v)
    by (list prints) same = cc
    by (total level prints) same = cc
    by (head heading some few) same = cc
    by (link wheel figure u has low high) same = cc
    by (suppress wheel figure u has low high) same = cc
    by (symbol wheel figure u has low high) same =
        let is : u ≡ v = cc in
        plugs lines (MarksAt v) wheel figure has (subst (λ x. MarksAt x wheel figure) is (low, high))
