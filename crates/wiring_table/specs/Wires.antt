-- The wires of a chart, by its plan: for each line of the chart the wires that it gives, and no others.
use Rattle.std.specs.Prelude.{◌≡◌, ◌≢◌, ℕ, ◌+◌, ◌-◌, ◌<◌, ◌≤◌, List, Contains, Some}
use Rattle.chart_plans.specs.Below.capacity.declared.group.CounterGroup.{CounterGroup}
use Rattle.chart_plans.specs.PlansWords.Plans.{Lists}
use Rattle.chart_plans.specs.declared.plans.counter.TotalCounter.TheVariants as of
use Rattle.report_definition.specs.Below.chart_line_rules.FieldRules.Fields.{field_named}
use Rattle.report_definition.specs.Below.chart_line_rules.declared.print_rules.items.Figure.{Figure}
use Rattle.chart_plans.specs.Below.chart_lines.ChartsWords.Field.{columns_of, decimals_of, column_of_rule, sign_column}
use Rattle.chart_plans.specs.Below.chart_lines.ChartsWords.Levels.{control_number, level_number}
use Rattle.chart_plans.specs.Below.chart_lines.declared.charts.chart.Line.{Line}
use Rattle.chart_plans.specs.Below.chart_lines.declared.charts.level.ControlLevel.{ControlLevel}
use Rattle.chart_plans.specs.Below.chart_lines.declared.charts.level.Level.{Level}
use Rattle.chart_plans.specs.Below.chart_lines.declared.charts.spacing.Spacing.TheVariants as spacing
use Rattle.chart_plans.specs.Below.chart_lines.declared.charts.statement.After.TheVariants as action
use Rattle.chart_plans.specs.Below.chart_lines.declared.charts.statement.BodyLine.{BodyLine}
use Rattle.chart_plans.specs.Below.chart_lines.declared.charts.statement.DetailOption.{DetailOption}
use Rattle.chart_plans.specs.Below.chart_lines.declared.charts.statement.DetailOption.TheVariants as shown
use Rattle.chart_plans.specs.Below.chart_lines.declared.charts.statement.Field.{Field}
use Rattle.chart_plans.specs.Below.chart_lines.declared.charts.statement.Mark.{Mark}
use Rattle.chart_plans.specs.Below.chart_lines.declared.charts.statement.SignRule.{SignRule}
use Rattle.chart_plans.specs.Below.chart_lines.declared.charts.statement.Statement.{Statement}
use Rattle.chart_plans.specs.Below.chart_lines.declared.charts.statement.TotalLine.{TotalLine}
use Rattle.chart_plans.specs.Below.chart_lines.declared.charts.statement.Statement.TheVariants as says
use Rattle.hubs.specs.declared.hub.Group.{Group}
use Rattle.hubs.specs.declared.hub.Hub.{Hub}
use Rattle.hubs.specs.declared.hub.Hub.TheVariants.{FR, SR, CX, GX, CO, BAN, BAT, SX, IX, CSD, EM, CC, PX, CA, CB, GE, PL, MI, RO, BT, CI, BAC, PIC, PIX, SE, SI, SO, IE, CSE, W, ST, SP, SK, RS}
use Rattle.wiring_table.specs.Figures.{IsText, IsAmount, IsSigned, IsUnsigned, IsLiteral, IsFigure, HasPunch, HasPunchAt, rule_of, digit_wheel, point_wheel, mark_wheel, mark_text, detail_emitter, total_emitter}
use Rattle.wiring_table.specs.Parts.{IsLowest, IsNextHigher, ServesPosition, ServesTotal, counter_for, group_for, top_for, panel_group, pilot_for, comparing_for, indicate_for, split_for, unit_for, negative_side, positive_side, source_of}

-- The wires of a line of the chart with a number. Columns, wheels and digits are counted from 1, digits from the units; `j` and `k`
-- are places in a text, from 0.
pub data LineWire (lines : List Line) (plan : Lists) (number : ℕ) : Statement → Hub → Hub → Type 0 where
  -- A text on the line of a card: each column at second reading to its wheel.
  detail_text : (wheel : ℕ) (name : List ℕ) (field : Field) (j : ℕ)
      → IsText lines name field → j < columns_of field
      → LineWire lines plan number (says.DetailField wheel name shown.Plain) (SR (field.first + j)) (W (wheel + j))
  -- An indicated text: each column passes through a position of its level.
  indicated_text_in : (wheel : ℕ) (name : List ℕ) (level : ControlLevel) (field : Field) (j x : ℕ)
      → IsText lines name field → j < columns_of field → indicate_for plan level number (field.first + j) ≡ Some x
      → LineWire lines plan number (says.DetailField wheel name (shown.Indicated level))
      (SR (field.first + j)) (IE (control_number level) x)
  indicated_text_out : (wheel : ℕ) (name : List ℕ) (level : ControlLevel) (field : Field) (j x : ℕ)
      → IsText lines name field → j < columns_of field → indicate_for plan level number (field.first + j) ≡ Some x
      → LineWire lines plan number (says.DetailField wheel name (shown.Indicated level))
      (IX (control_number level) x) (W (wheel + j))
  -- A literal: for each character the emitter's rows of its punches to its wheel; a blank has none.
  literal : (statement : Statement) (emitter wheel : ℕ) (text : List ℕ) (j row : ℕ)
      → IsLiteral statement emitter wheel text → HasPunchAt text j row
      → LineWire lines plan number statement (EM emitter row) (W (wheel + j))
  -- The point of an amount with decimals: the emitter's rows of the point's punches to its wheel.
  point : (statement : Statement) (emitter wheel : ℕ) (figure : Figure) (row : ℕ)
      → IsFigure lines statement emitter wheel figure → 0 < figure.decimals → HasPunch 46 row
      → LineWire lines plan number statement (EM emitter row) (W (point_wheel wheel figure.digits figure.decimals))
  -- An amount on the line of a card: each column at second reading to the wheel of its digit. Where the sign is punched in a column
  -- of the amount itself, that column passes through a split, which keeps the sign from the wheel.
  detail_digit : (wheel : ℕ) (name : List ℕ) (how : DetailOption) (field : Field) (position : ℕ)
      → IsAmount lines name field → 1 ≤ position → position ≤ columns_of field
      → sign_column field.kind ≢ Some (field.last + 1 - position)
      → LineWire lines plan number (says.DetailField wheel name how)
      (SR (field.last + 1 - position)) (W (digit_wheel wheel (columns_of field) (decimals_of field.kind) position))
  split_digit_in : (wheel : ℕ) (name : List ℕ) (how : DetailOption) (field : Field) (position split : ℕ)
      → IsAmount lines name field → 1 ≤ position → position ≤ columns_of field
      → sign_column field.kind ≡ Some (field.last + 1 - position) → split_for plan number ≡ Some split
      → LineWire lines plan number (says.DetailField wheel name how) (SR (field.last + 1 - position)) (CSE split)
  split_digit_out : (wheel : ℕ) (name : List ℕ) (how : DetailOption) (field : Field) (position split : ℕ)
      → IsAmount lines name field → 1 ≤ position → position ≤ columns_of field
      → sign_column field.kind ≡ Some (field.last + 1 - position) → split_for plan number ≡ Some split
      → LineWire lines plan number (says.DetailField wheel name how)
      (CSD split) (W (digit_wheel wheel (columns_of field) (decimals_of field.kind) position))
  -- The mark of an amount on the line of a card: the rows of its characters pass through the positions 2 and 3 of the pilot, on the
  -- side that is closed while the sign column tells negative. That of a zero or a blank may, and then the mark doesn't show.
  detail_mark_in : (wheel : ℕ) (name : List ℕ) (mark : Mark) (rule : SignRule) (pilot k row : ℕ)
      → IsSigned lines name rule → pilot_for plan name ≡ Some pilot → HasPunchAt (mark_text mark) k row
      → LineWire lines plan number (says.DetailField wheel name (shown.Marked mark)) (EM detail_emitter row) (PIC pilot (2 + k))
  detail_mark_out : (wheel : ℕ) (name : List ℕ) (mark : Mark) (rule : SignRule) (field : Field) (pilot k row : ℕ)
      → IsSigned lines name rule → field_named lines name ≡ Some field → pilot_for plan name ≡ Some pilot
      → HasPunchAt (mark_text mark) k row
      → LineWire lines plan number (says.DetailField wheel name (shown.Marked mark))
      (negative_side rule pilot (2 + k)) (W (mark_wheel wheel (columns_of field) (decimals_of field.kind) + k))
  -- The pickup of the pilot of an amount: its sign column at first reading.
  pickup : (field : Field) (rule : SignRule) (pilot : ℕ)
      → rule_of field.kind ≡ Some rule → pilot_for plan field.name ≡ Some pilot
      → LineWire lines plan number (says.Field field) (FR (column_of_rule rule)) (PIX pilot)
  -- The lowest total of an amount: each column at second reading enters it. Without a sign rule each card adds; with one it adds or
  -- subtracts by position 1 of the pilot. Both groups of a counter of two are told so.
  entry : (total : TotalLine) (field : Field) (group : Group) (position place : ℕ)
      → IsLowest lines total.name (level_number total.level) → ServesPosition lines plan number position group place
      → IsAmount lines total.name field → 1 ≤ position → position ≤ columns_of field
      → LineWire lines plan number (says.TotalAmount total) (SR (field.last + 1 - position)) (GE group place)
  entry_adds : (total : TotalLine) (group : Group)
      → IsLowest lines total.name (level_number total.level) → ServesTotal lines plan number group → IsUnsigned lines total.name
      → LineWire lines plan number (says.TotalAmount total) CC (PL group)
  entry_sign : (total : TotalLine) (rule : SignRule) (pilot : ℕ)
      → IsLowest lines total.name (level_number total.level) → IsSigned lines total.name rule → pilot_for plan total.name ≡ Some pilot
      → LineWire lines plan number (says.TotalAmount total) CC (PIC pilot 1)
  entry_plus : (total : TotalLine) (rule : SignRule) (pilot : ℕ) (group : Group)
      → IsLowest lines total.name (level_number total.level) → ServesTotal lines plan number group
      → IsSigned lines total.name rule → pilot_for plan total.name ≡ Some pilot
      → LineWire lines plan number (says.TotalAmount total) (positive_side rule pilot 1) (PL group)
  entry_minus : (total : TotalLine) (rule : SignRule) (pilot : ℕ) (group : Group)
      → IsLowest lines total.name (level_number total.level) → ServesTotal lines plan number group
      → IsSigned lines total.name rule → pilot_for plan total.name ≡ Some pilot
      → LineWire lines plan number (says.TotalAmount total) (negative_side rule pilot 1) (MI group)
  -- The read-out of a total in the cycle that prints it: its digits to their wheels.
  read_out : (total : TotalLine) (group : Group) → ServesTotal lines plan number group
      → LineWire lines plan number (says.TotalAmount total) (PX (level_number total.level) 3) (RO group)
  total_digit : (total : TotalLine) (field : Field) (group : Group) (position place : ℕ)
      → ServesPosition lines plan number position group place → IsAmount lines total.name field → 1 ≤ position → position ≤ total.digits
      → LineWire lines plan number (says.TotalAmount total)
      (GX group place) (W (digit_wheel total.wheel total.digits (decimals_of field.kind) position))
  -- The carry of a total with two groups goes from the lower one to the upper one.
  carry_up : (total : TotalLine) (lower upper : CounterGroup)
      → counter_for lines plan number ≡ Some (of.Coupled lower upper)
      → LineWire lines plan number (says.TotalAmount total) (CO (panel_group lower)) (CI (panel_group upper))
  -- The sign conversion of a signed total. Its wheels form a ring, of one group or of both. The first program cycle of the level
  -- tests the balance, that of the top group, which sets the latch for a total below 0 and for a 0 that stands as all nines; the second,
  -- where the latch is set, reads the total out into itself by minus, on all positions of its groups, which leaves the figure.
  ring : (total : TotalLine) (rule : SignRule) (group : Group)
      → group_for lines plan number ≡ Some group → IsSigned lines total.name rule
      → LineWire lines plan number (says.TotalAmount total) (CO group) (CI group)
  carry_round : (total : TotalLine) (rule : SignRule) (lower upper : CounterGroup)
      → counter_for lines plan number ≡ Some (of.Coupled lower upper) → IsSigned lines total.name rule
      → LineWire lines plan number (says.TotalAmount total) (CO (panel_group upper)) (CI (panel_group lower))
  balance_test : (total : TotalLine) (rule : SignRule) (top : Group)
      → top_for lines plan number ≡ Some top → IsSigned lines total.name rule
      → LineWire lines plan number (says.TotalAmount total) (PX (level_number total.level) 1) (BT top)
  conversion : (total : TotalLine) (rule : SignRule) (top : Group)
      → top_for lines plan number ≡ Some top → IsSigned lines total.name rule
      → LineWire lines plan number (says.TotalAmount total) (PX (level_number total.level) 2) (BAC top 1)
  conversion_read_out : (total : TotalLine) (rule : SignRule) (top group : Group)
      → top_for lines plan number ≡ Some top → ServesTotal lines plan number group → IsSigned lines total.name rule
      → LineWire lines plan number (says.TotalAmount total) (BAT top 1) (RO group)
  conversion_minus : (total : TotalLine) (rule : SignRule) (top group : Group)
      → top_for lines plan number ≡ Some top → ServesTotal lines plan number group → IsSigned lines total.name rule
      → LineWire lines plan number (says.TotalAmount total) (BAT top 1) (MI group)
  feedback : (total : TotalLine) (rule : SignRule) (group : Group) (place : ℕ)
      → ServesTotal lines plan number group → IsSigned lines total.name rule → 1 ≤ place → place ≤ group.width
      → LineWire lines plan number (says.TotalAmount total) (GX group place) (GE group place)
  -- The mark of a signed total: the rows of its characters pass through the balance positions 3 and 4, on the side that is closed
  -- while the latch is set.
  total_mark_in : (total : TotalLine) (mark : Mark) (rule : SignRule) (top : Group) (k row : ℕ)
      → total.mark ≡ Some mark → top_for lines plan number ≡ Some top → IsSigned lines total.name rule
      → HasPunchAt (mark_text mark) k row
      → LineWire lines plan number (says.TotalAmount total) (EM (total_emitter (level_number total.level)) row) (BAC top (3 + k))
  total_mark_out : (total : TotalLine) (mark : Mark) (rule : SignRule) (field : Field) (top : Group) (k row : ℕ)
      → total.mark ≡ Some mark → top_for lines plan number ≡ Some top → IsSigned lines total.name rule
      → field_named lines total.name ≡ Some field → HasPunchAt (mark_text mark) k row
      → LineWire lines plan number (says.TotalAmount total)
      (BAT top (3 + k)) (W (mark_wheel total.wheel total.digits (decimals_of field.kind) + k))
  -- The transfer of a total to the next higher total of its amount: its digits enter that one, position by position, which adds
  -- them, or subtracts them where the latch is set.
  transfer : (total : TotalLine) (group upper : Group) (other position place upper_place : ℕ)
      → ServesPosition lines plan number position group place → IsNextHigher lines total.name (level_number total.level) other
      → ServesPosition lines plan other position upper upper_place → 1 ≤ position → position ≤ total.digits
      → LineWire lines plan number (says.TotalAmount total) (GX group place) (GE upper upper_place)
  transfer_adds : (total : TotalLine) (upper : Group) (other : ℕ)
      → IsUnsigned lines total.name → IsNextHigher lines total.name (level_number total.level) other → ServesTotal lines plan other upper
      → LineWire lines plan number (says.TotalAmount total) (PX (level_number total.level) 3) (PL upper)
  transfer_sign : (total : TotalLine) (rule : SignRule) (top : Group) (other : ℕ)
      → top_for lines plan number ≡ Some top → IsSigned lines total.name rule
      → IsNextHigher lines total.name (level_number total.level) other
      → LineWire lines plan number (says.TotalAmount total) (PX (level_number total.level) 3) (BAC top 2)
  transfer_plus : (total : TotalLine) (rule : SignRule) (top upper : Group) (other : ℕ)
      → top_for lines plan number ≡ Some top → IsSigned lines total.name rule
      → IsNextHigher lines total.name (level_number total.level) other → ServesTotal lines plan other upper
      → LineWire lines plan number (says.TotalAmount total) (BAN top 2) (PL upper)
  transfer_minus : (total : TotalLine) (rule : SignRule) (top upper : Group) (other : ℕ)
      → top_for lines plan number ≡ Some top → IsSigned lines total.name rule
      → IsNextHigher lines total.name (level_number total.level) other → ServesTotal lines plan other upper
      → LineWire lines plan number (says.TotalAmount total) (BAT top 2) (MI upper)
  -- A text on a total line: a storage unit takes its columns from each card, and gives them in the cycle that prints the line.
  total_text_in : (level : Level) (wheel : ℕ) (name : List ℕ) (field : Field) (unit j : ℕ)
      → IsText lines name field → j < columns_of field → unit_for plan number ≡ Some unit
      → LineWire lines plan number (says.TotalText level wheel name) (SR (field.first + j)) (SE unit (j + 1))
  total_text_taken : (level : Level) (wheel : ℕ) (name : List ℕ) (unit : ℕ)
      → unit_for plan number ≡ Some unit → LineWire lines plan number (says.TotalText level wheel name) CC (SI unit)
  total_text_given : (level : Level) (wheel : ℕ) (name : List ℕ) (unit : ℕ)
      → unit_for plan number ≡ Some unit
      → LineWire lines plan number (says.TotalText level wheel name) (PX (level_number level) 3) (SO unit)
  total_text_out : (level : Level) (wheel : ℕ) (name : List ℕ) (field : Field) (unit j : ℕ)
      → IsText lines name field → j < columns_of field → unit_for plan number ≡ Some unit
      → LineWire lines plan number (says.TotalText level wheel name) (SX unit (j + 1)) (W (wheel + j))
  -- Comparing: each column of a control field at first and at second reading; where they differ, the level is called for.
  compared_first : (level : ControlLevel) (name : List ℕ) (field : Field) (j position : ℕ)
      → field_named lines name ≡ Some field → j < columns_of field
      → comparing_for plan number (field.first + j) ≡ Some position
      → LineWire lines plan number (says.Control level name) (FR (field.first + j)) (CA position)
  compared_second : (level : ControlLevel) (name : List ℕ) (field : Field) (j position : ℕ)
      → field_named lines name ≡ Some field → j < columns_of field
      → comparing_for plan number (field.first + j) ≡ Some position
      → LineWire lines plan number (says.Control level name) (SR (field.first + j)) (CB position)
  level_called : (level : ControlLevel) (name : List ℕ) (field : Field) (j position : ℕ)
      → field_named lines name ≡ Some field → j < columns_of field
      → comparing_for plan number (field.first + j) ≡ Some position
      → LineWire lines plan number (says.Control level name) (CX position) (ST (control_number level))
  -- The carriage: the cycle that prints a kind of line asks for its spacing, if that is not single, and for what follows it.
  double_space : (line : BodyLine) → LineWire lines plan number (says.Space line spacing.Double) (source_of line) (SP 2)
  triple_space : (line : BodyLine) → LineWire lines plan number (says.Space line spacing.Triple) (source_of line) (SP 3)
  page : (line : BodyLine) → LineWire lines plan number (says.After line action.Page) (source_of line) RS
  skip : (line : BodyLine) (channel : ℕ) → LineWire lines plan number (says.After line (action.Skip channel)) (source_of line) (SK channel)

-- A wire of a chart is one of some line of it.
pub record ChartWire (lines : List Line) (plan : Lists) (exit entry : Hub) : Type 0 where
  pub line : Line
  pub listed : Contains lines line
  pub wire : LineWire lines plan line.number line.statement exit entry
