-- The wires that lead from columns at second reading to print wheels, read off the wiring table.
use Rattle.std.proofs.Common.{◌≡◌, ◌<◌, ◌≤◌, refl, ℕ, ◌+◌, Bool, true, false, List}
use Rattle.chart_lines.specs.ChartsWords.Field.{columns_of, decimals_of}
use Rattle.chart_lines.specs.declared.charts.chart.Line.{Line}
use Rattle.chart_lines.specs.declared.charts.statement.DetailOption.{DetailOption}
use Rattle.chart_lines.specs.declared.charts.statement.DetailOption.TheVariants as shown
use Rattle.chart_lines.specs.declared.charts.statement.Field.{Field}
use Rattle.chart_lines.specs.declared.charts.statement.Statement.{Statement}
use Rattle.chart_lines.specs.declared.charts.statement.Statement.TheVariants as says
use Rattle.hubs.specs.declared.hub.Hub.{Hub}
use Rattle.hubs.specs.declared.hub.Hub.TheVariants.{SR, W}
use Rattle.match_plans.proofs.Clashes.{apart, clash, is_side, side-is, to_wheel}
use Rattle.chart_plans.specs.PlansWords.Plans.{Lists}
use Rattle.wiring_table.specs.Figures.{IsAmount, IsText, digit_wheel}
use Rattle.wiring_table.specs.Wires.{LineWire}
use Rattle.wiring_table.specs.Wires.LineWire.{detail_digit, detail_mark_out, detail_text}

-- the exits of columns at second reading
abbrev is_second : Hub → Bool
is_second (SR column) = true
is_second other = false

-- a column that a text or an amount on the line of a card puts on a wheel
pub data ColumnOf (lines : List Line) (statement : Statement) (column wheel : ℕ) : Type 0 where
  of_text : (first : ℕ) (name : List ℕ) (field : Field) (place : ℕ) → statement ≡ says.DetailField first name shown.Plain
      → IsText lines name field → place < columns_of field → field.first + place ≡ column → first + place ≡ wheel
      → ColumnOf lines statement column wheel
  of_amount : (first : ℕ) (name : List ℕ) (how : DetailOption) (field : Field) (position : ℕ)
      → statement ≡ says.DetailField first name how → IsAmount lines name field → 1 ≤ position → position ≤ columns_of field
      → digit_wheel first (columns_of field) (decimals_of field.kind) position ≡ wheel → ColumnOf lines statement column wheel

module _ (lines : List Line) (plan : Lists) where
  pub column_of : {number : ℕ} {statement : Statement} {exit entry : Hub} (column wheel : ℕ)
      → LineWire lines plan number statement exit entry → exit ≡ SR column → entry ≡ W wheel → ColumnOf lines statement column wheel
  column_of column wheel (detail_text first name field place text within) e f =
      let same_column : field.first + place ≡ column = cc in
      let same_wheel : first + place ≡ wheel = cc in
      of_text first name field place refl text within same_column same_wheel
  column_of column wheel (detail_digit first name how field position amount from to plain) e f =
      let same_wheel : digit_wheel first (columns_of field) (decimals_of field.kind) position ≡ wheel = cc in
      of_amount first name how field position refl amount from to same_wheel
  column_of column wheel (detail_mark_out first name mark rule field pilot k row p0 p1 p2 p3) e f =
      clash is_side e (side-is rule pilot (2 + k)) refl
  column_of column wheel other e f = apart (to_wheel is_second) e f refl refl
