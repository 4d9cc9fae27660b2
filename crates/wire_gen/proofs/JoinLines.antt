-- The wires that the code adds for a line of the chart are those of the table: literals, fields, control and the carriage.
use Rattle.std.proofs.Common.{◌≡◌, ℕ, ◌+◌, ◌-◌, ◌≤◌, List, Some, None, refl, ap, subst, arith}
use Rattle.std.proofs.lemmas.Option.{slice_get_within}
use Rattle.chart_plans.specs.PlansWords.Plans.{Lists}
use Rattle.chart_lines.specs.ChartsWords.Field.{sign_column, column_of_rule}
use Rattle.chart_lines.specs.ChartsWords.Headings.{heading_number}
use Rattle.chart_lines.specs.ChartsWords.Levels.{level_number}
use Rattle.chart_lines.specs.declared.charts.chart.Line.{Line}
use Rattle.chart_lines.specs.declared.charts.level.ControlLevel.{ControlLevel}
use Rattle.chart_lines.specs.declared.charts.level.Level.{Level}
use Rattle.chart_lines.specs.declared.charts.spacing.Spacing.{Spacing}
use Rattle.chart_lines.specs.declared.charts.spacing.Spacing.TheVariants as spacings
use Rattle.chart_lines.specs.declared.charts.statement.After.{After}
use Rattle.chart_lines.specs.declared.charts.statement.After.TheVariants as action
use Rattle.chart_lines.specs.declared.charts.statement.BodyLine.{BodyLine}
use Rattle.chart_lines.specs.declared.charts.statement.Field.{Field}
use Rattle.chart_lines.specs.declared.charts.statement.FieldKind.{FieldKind}
use Rattle.chart_lines.specs.declared.charts.statement.FieldKind.TheVariants as holds
use Rattle.chart_lines.specs.declared.charts.statement.SignRule.{SignRule}
use Rattle.chart_lines.specs.declared.charts.statement.Statement.{Statement}
use Rattle.chart_lines.specs.declared.charts.statement.Statement.TheVariants as says
use Rattle.hubs.specs.declared.hub.Hub.{Hub}
use Rattle.hubs.specs.declared.hub.Hub.TheVariants.{FR, EM, PIX, W}
use Rattle.wiring_lines.specs.Below.wiring_table.Figures.{IsLiteral, on_heading, on_detail, on_total, HasPunchAt, rule_of, detail_emitter, heading_emitter, total_emitter}
use Rattle.wiring_lines.specs.LineWires.HelperAdds.{One, one, first, second, Upto, below, some, given, punched}
use Rattle.wire_gen.specs.HelperLines.{StatementWires}
use Rattle.wiring_lines.specs.LineWires.HelperRows.{AfterWires, LiteralWires, PickupWires, SpaceWires, Wires}
use Rattle.wiring_lines.specs.Below.wiring_table.Wires.{LineWire}
use Rattle.wiring_lines.specs.Below.wiring_table.Wires as table

-- the places of a text as positions from 1
pub at-position : (at : ℕ → Wires) (bound position : ℕ) {exit to : Hub} → 1 ≤ position → position ≤ bound
    → at position exit to → Upto bound (λ place. at (place + 1)) exit to
at-position at bound position {exit} {to} from within wire =
    let P : ℕ → Type 0 = λ p. at p exit to in
    let same : position ≡ position - 1 + 1 = omega (arith, from) in
    below (position - 1) (omega (arith, from, within)) (subst P same wire)

-- what holds of a wire's own hubs holds of the hubs of one that is the same
pub by-one : (P : Wires) {from to exit entry : Hub} → One from to exit entry → P from to → P exit entry
by-one P one given_it = given_it

-- the rule of a sign column
pub rule-of-column : (kind : FieldKind) (column : ℕ) → sign_column kind ≡ Some column
    → (rule : SignRule) × (rule_of kind ≡ Some rule) × (column_of_rule rule ≡ column)
rule-of-column holds.Text column is = cc
rule-of-column (holds.Amount decimals None) column is = cc
rule-of-column (holds.Amount decimals (Some rule)) column is = let same : column_of_rule rule ≡ column = cc in (rule, refl, same)

-- and the sign column of a rule
pub column-of-rule : (kind : FieldKind) (rule : SignRule) → rule_of kind ≡ Some rule → sign_column kind ≡ Some (column_of_rule rule)
column-of-rule holds.Text rule is = cc
column-of-rule (holds.Amount decimals None) rule is = cc
column-of-rule (holds.Amount decimals (Some other)) rule is = let same : other ≡ rule = cc in ap (λ r. Some (column_of_rule r)) same

module _ (lines : List Line) (plan : Lists) (number : ℕ) where
  pub field-there : (field : Field) (exit to : Hub) → PickupWires plan field exit to
      → LineWire lines plan number (says.Field field) exit to
  field-there field exit to (some column is (some pilot is_pilot w)) =
      let found = rule-of-column field.kind column is in
      let P : ℕ → Type 0 = λ c. LineWire lines plan number (says.Field field) (FR c) (PIX pilot) in
      by-one (LineWire lines plan number (says.Field field)) w
      (subst P found.2 (table.pickup field found.0 pilot found.1 is_pilot))

  pub field-back : (field : Field) (exit to : Hub) → LineWire lines plan number (says.Field field) exit to
      → PickupWires plan field exit to
  field-back field exit to (table.pickup _ rule pilot ruled is_pilot) =
      some (column_of_rule rule) (column-of-rule field.kind rule ruled) (some pilot is_pilot one)
  field-back field exit to (table.literal _ emitter wheel text j row is punch) = elim is [ ]
  field-back field exit to (table.point _ emitter wheel figure row is has punch) = elim is [ ]

  pub literal-there : (statement : Statement) (emitter wheel : ℕ) (text : List ℕ) → IsLiteral statement emitter wheel text
      → (exit to : Hub) → LiteralWires emitter wheel text exit to → LineWire lines plan number statement exit to
  literal-there statement emitter wheel text is exit to (below j less (some character there (punched row punch w))) =
      by-one (LineWire lines plan number statement) w
      (table.literal statement emitter wheel text j row is (record { character = character; there = there; punch = punch }))

  literal-wire : (emitter wheel : ℕ) (text : List ℕ) (j row : ℕ) → HasPunchAt text j row
      → LiteralWires emitter wheel text (EM emitter row) (W (wheel + j))
  literal-wire emitter wheel text j row punch =
      below j (slice_get_within text j punch.character punch.there)
      (some punch.character punch.there (punched row punch.punch one))

  pub heading-back : (line : _) (wheel : ℕ) (text : List ℕ) (exit to : Hub)
      → LineWire lines plan number (says.Head line wheel text) exit to
      → LiteralWires (heading_emitter (heading_number line)) wheel text exit to
  heading-back line wheel text exit to (table.literal _ emitter _ _ j row (on_heading _ _ _) punch) =
      literal-wire (heading_emitter (heading_number line)) wheel text j row punch
  heading-back line wheel text exit to (table.point _ emitter _ figure row is has punch) = elim is [ ]

  pub detail_literal-back : (wheel : ℕ) (text : List ℕ) (exit to : Hub)
      → LineWire lines plan number (says.DetailLiteral wheel text) exit to → LiteralWires detail_emitter wheel text exit to
  detail_literal-back wheel text exit to (table.literal _ emitter _ _ j row (on_detail _ _) punch) =
      literal-wire detail_emitter wheel text j row punch
  detail_literal-back wheel text exit to (table.point _ emitter _ figure row is has punch) = elim is [ ]

  pub total_literal-back : (level : Level) (wheel : ℕ) (text : List ℕ) (exit to : Hub)
      → LineWire lines plan number (says.TotalLiteral level wheel text) exit to
      → LiteralWires (total_emitter (level_number level)) wheel text exit to
  total_literal-back level wheel text exit to (table.literal _ emitter _ _ j row (on_total _ _ _) punch) =
      literal-wire (total_emitter (level_number level)) wheel text j row punch
  total_literal-back level wheel text exit to (table.point _ emitter _ figure row is has punch) = elim is [ ]

  pub control-there : (level : ControlLevel) (name : List ℕ) (exit to : Hub)
      → StatementWires lines plan number (says.Control level name) exit to
      → LineWire lines plan number (says.Control level name) exit to
  control-there level name exit to (some field named (below j less (some position is (first w)))) =
      by-one (LineWire lines plan number (says.Control level name)) w
      (table.compared_first level name field j position named less is)
  control-there level name exit to (some field named (below j less (some position is (second (first w))))) =
      by-one (LineWire lines plan number (says.Control level name)) w
      (table.compared_second level name field j position named less is)
  control-there level name exit to (some field named (below j less (some position is (second (second w))))) =
      by-one (LineWire lines plan number (says.Control level name)) w
      (table.level_called level name field j position named less is)

  pub control-back : (level : ControlLevel) (name : List ℕ) (exit to : Hub)
      → LineWire lines plan number (says.Control level name) exit to
      → StatementWires lines plan number (says.Control level name) exit to
  control-back level name exit to (table.compared_first _ _ field j position named less is) =
      some field named (below j less (some position is (first one)))
  control-back level name exit to (table.compared_second _ _ field j position named less is) =
      some field named (below j less (some position is (second (first one))))
  control-back level name exit to (table.level_called _ _ field j position named less is) =
      some field named (below j less (some position is (second (second one))))
  control-back level name exit to (table.literal _ emitter wheel text j row is punch) = elim is [ ]
  control-back level name exit to (table.point _ emitter wheel figure row is has punch) = elim is [ ]

  pub space-there : (line : BodyLine) (spacing : Spacing) (exit to : Hub) → SpaceWires line spacing exit to
      → LineWire lines plan number (says.Space line spacing) exit to
  space-there line spacings.Single exit to (given more one) = absurd (omega (arith, more))
  space-there line spacings.Double exit to (given more one) = table.double_space line
  space-there line spacings.Triple exit to (given more one) = table.triple_space line

  pub space-back : (line : BodyLine) (spacing : Spacing) (exit to : Hub)
      → LineWire lines plan number (says.Space line spacing) exit to → SpaceWires line spacing exit to
  space-back line _ exit to (table.double_space _) = given (omega arith) one
  space-back line _ exit to (table.triple_space _) = given (omega arith) one
  space-back line spacing exit to (table.literal _ emitter wheel text j row is punch) = elim is [ ]
  space-back line spacing exit to (table.point _ emitter wheel figure row is has punch) = elim is [ ]

  pub after-there : (line : BodyLine) (follows : After) (exit to : Hub) → AfterWires line follows exit to
      → LineWire lines plan number (says.After line follows) exit to
  after-there line action.Page exit to one = table.page line
  after-there line (action.Skip channel) exit to one = table.skip line channel

  pub after-back : (line : BodyLine) (follows : After) (exit to : Hub)
      → LineWire lines plan number (says.After line follows) exit to → AfterWires line follows exit to
  after-back line _ exit to (table.page _) = one
  after-back line _ exit to (table.skip _ channel) = one
  after-back line follows exit to (table.literal _ emitter wheel text j row is punch) = elim is [ ]
  after-back line follows exit to (table.point _ emitter wheel figure row is has punch) = elim is [ ]
