-- Rules on the print wheels of the items: they are wheels of the machine, and only items that agree share them.
use Rattle.std.specs.Prelude.{ℕ, ◌<◌, ◌≤◌, Bool, true, false, List, Option, Some, None, max, min, not, is_none}
use Rattle.std.specs.Prelude.{◌&&◌, ◌||◌, ◌==◌, nat_lt, nat_le}
use Rattle.std.specs.List.{list_any}
use Rattle.chart_lines.specs.declared.charts.chart.Line.{Line}
use Rattle.chart_lines.specs.declared.charts.statement.Field.{Field}
use Rattle.chart_lines.specs.declared.charts.statement.Mark.{Mark}
use Rattle.chart_lines.specs.declared.charts.statement.Mark.TheVariants as mark
use Rattle.chart_lines.specs.declared.charts.statement.Statement.{Statement}
use Rattle.chart_line_rules.specs.declared.print_rules.items.Figure.{Figure}
use Rattle.chart_line_rules.specs.declared.print_rules.items.Item.{Item}
use Rattle.chart_line_rules.specs.declared.print_rules.items.PrintedLine.{PrintedLine}
use Rattle.chart_line_rules.specs.declared.print_rules.items.PrintedLine.TheVariants.{Heading, Body}
use Rattle.chart_line_rules.specs.PrintRules.Items.{item_of, is_same_line}

-- whether an item, if there is one, is not within wheels 1 to 120
abbrev pub is_off_wheels : Option Item → Bool
is_off_wheels (Some item) = not (nat_le 1 item.first && nat_le item.end 121)
is_off_wheels None = false

-- Wheel range: a line puts an item on wheels that the machine doesn't have.
abbrev pub breaks_wheel_range : List Field → Statement → Bool
breaks_wheel_range fields statement = is_off_wheels (item_of fields statement)

-- a wheel is one of those that an item takes
abbrev pub HasWheel : Item → ℕ → Type 0
HasWheel item wheel = (item.first ≤ wheel) × (wheel < item.end)

-- whether two items meet: they have a wheel in common, since the later first wheel stands before the earlier end
abbrev pub meet : Item → Item → Bool
meet one other = nat_lt (max one.first other.first) (min one.end other.end)

-- whether two lines of a chart are items of the same printed line that meet
abbrev pub overlap : Option Item → Option Item → Bool
overlap (Some one) (Some other) = is_same_line one.line other.line && meet one other
overlap one other = false

-- Wheel overlap: a line puts an item on wheels of which a line above it has taken one, for the same printed line.
abbrev pub breaks_wheel_overlap : List Field → List Line → Statement → Bool
breaks_wheel_overlap fields earlier statement =
    list_any (λ line. overlap (item_of fields line.statement) (item_of fields statement)) earlier

-- whether a printed line is a body line
abbrev pub is_body : PrintedLine → Bool
is_body (Body kind) = true
is_body (Heading line) = false

-- whether two marks are the same
abbrev pub is_same_mark : Option Mark → Option Mark → Bool
is_same_mark None None = true
is_same_mark (Some mark.Credit) (Some mark.Credit) = true
is_same_mark (Some mark.Minus) (Some mark.Minus) = true
is_same_mark one other = false

-- whether two figures are amounts with the same decimals and mark
abbrev pub is_same_style : Option Figure → Option Figure → Bool
is_same_style (Some one) (Some other) = (one.decimals == other.decimals) && is_same_mark one.mark other.mark
is_same_style one other = false

-- whether two items may share wheels: neither is an amount, or both are with the same last wheel, decimals and mark
abbrev pub may_share : Item → Item → Bool
may_share one other =
    (is_none one.figure && is_none other.figure)
    || ((one.end == other.end) && is_same_style one.figure other.figure)

-- whether two lines of a chart are items of different body lines that meet and may not share wheels
abbrev pub clash : Option Item → Option Item → Bool
clash (Some one) (Some other) =
    is_body one.line
    && is_body other.line
    && not (is_same_line one.line other.line)
    && meet one other
    && not (may_share one other)
clash one other = false

-- Wheel clash: a line puts an item on wheels that an item of another body line has already, and the two may not share them.
abbrev pub breaks_wheel_clash : List Field → List Line → Statement → Bool
breaks_wheel_clash fields earlier statement =
    list_any (λ line. clash (item_of fields line.statement) (item_of fields statement)) earlier
