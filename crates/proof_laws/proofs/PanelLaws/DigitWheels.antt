-- The wheel of a digit of an amount is one of the amount's.
use Rattle.std.proofs.Common.{◌<◌, ◌≤◌, ℕ, ◌+◌, arith}
use Rattle.chart_line_rules.specs.PrintRules.Items.{figure_width}
use Rattle.chart_line_rules.specs.declared.print_rules.items.Figure.{Figure}
use Rattle.match_plans.proofs.Wheels.{on-wheels}
use Rattle.wiring_table.specs.Figures.{digit_wheel}

pub on_wheels : (wheel position : ℕ) (figure : Figure) → 1 ≤ position → position ≤ figure.digits
    → (wheel ≤ digit_wheel wheel figure.digits figure.decimals position)
    × (digit_wheel wheel figure.digits figure.decimals position < wheel + figure_width figure)
on_wheels wheel position figure from to =
    let on = on-wheels wheel figure.digits figure.decimals position from to in
    (on.0, omega (arith, on.1))
