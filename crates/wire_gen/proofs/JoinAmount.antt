-- The wires that the code adds for a total of an amount are those of the table.
use Rattle.std.proofs.Common.{◌≡◌, ℕ, ◌+◌, ◌<◌, ◌≤◌, List, Option, Some, None, option_and_then, option_map, refl, sym, subst, ◌∙◌, ap, arith}
use Rattle.std.proofs.lemmas.Option.{same_Some}
use Rattle.chart_plans.specs.PlansWords.Counters.{single_group}
use Rattle.chart_plans.specs.PlansWords.Plans.{Lists}
use Rattle.chart_plans.specs.declared.plans.counter.TotalCounter.{TotalCounter}
use Rattle.chart_plans.specs.declared.plans.counter.TotalCounter.TheVariants as of
use Rattle.chart_rules.specs.Below.chart_line_rules.FieldRules.Fields.{field_named}
use Rattle.chart_lines.specs.ChartsWords.Field.{decimals_of}
use Rattle.chart_lines.specs.ChartsWords.Levels.{level_number}
use Rattle.chart_lines.specs.declared.charts.chart.Line.{Line}
use Rattle.chart_lines.specs.declared.charts.statement.Field.{Field}
use Rattle.chart_lines.specs.declared.charts.statement.Mark.{Mark}
use Rattle.chart_lines.specs.declared.charts.statement.SignRule.{SignRule}
use Rattle.chart_lines.specs.declared.charts.statement.Statement.TheVariants as says
use Rattle.chart_lines.specs.declared.charts.statement.TotalLine.{TotalLine}
use Rattle.hubs.specs.declared.hub.Group.{Group}
use Rattle.hubs.specs.declared.hub.Hub.{Hub}
use Rattle.hubs.specs.declared.hub.Hub.TheVariants.{BAN, BAT, CC, MI, PL, PX, RO}
use Rattle.wiring_lines.specs.LineWires.HelperRows.{Wires}
use Rattle.wiring_lines.specs.Below.wiring_table.Figures.{IsAmount, IsSigned, on_total, IsFigure, rule_of, mark_wheel, total_emitter}
use Rattle.wiring_lines.specs.Below.wiring_table.Figures as figures
use Rattle.wiring_lines.specs.LineWires.HelperAdds.{first, second, below, some, given, punched}
use Rattle.wiring_totals.specs.HelperTotals.{IsGoodTotal, TotalWires}
use Rattle.wire_gen.specs.HelperKnown.{IsNamed}
use Rattle.wiring_totals.specs.HelperCounters.{CarryUpWires, IsCounterOnPanel, RingWires, place_of, positions_of}
use Rattle.wiring_totals.specs.HelperLevels.{HasCounterFor, next}
use Rattle.wire_gen.specs.HelperLines.{StatementWires}
use Rattle.wiring_totals.specs.HelperTotalRows.{EntrySense, FeedbackWires, SignedTotal, TotalMark, TransferSense}
use Rattle.wiring_lines.specs.Below.wiring_table.Parts.{HasPanelGroup, IsLowest, IsNextHigher, ServesPosition, counter_for, negative_side, panel_group, positive_side, top_group}
use Rattle.wiring_lines.specs.Below.wiring_table.Wires.{LineWire}
use Rattle.wiring_lines.specs.Below.wiring_table.Wires as table
use Rattle.wire_gen.proofs.CounterWires.{controls-there, each-there, position-there, serves-there, top-there}
use Rattle.wire_gen.proofs.Fields.{mark-punch, named-field, named-has}
use Rattle.wire_gen.proofs.JoinLines.{by-one}

module _ (lines : List Line) (plan : Lists) (number : ℕ) (total : TotalLine) where
  -- a wire of the line, by one of the table
  abbrev Told : Wires
  Told = LineWire lines plan number (says.TotalAmount total)

  entry-there : (field : Field) (counter : TotalCounter) → IsAmount lines total.name field → counter_for lines plan number ≡ Some counter
      → IsLowest lines total.name (level_number total.level) → (rule : Option SignRule) → rule_of field.kind ≡ rule → (exit to : Hub)
      → EntrySense plan total.name counter rule exit to → Told exit to
  entry-there field counter is at lowest None unruled exit to w =
      controls-there Told CC PL counter exit to w
      (λ group has. table.entry_adds total group lowest (serves-there lines plan number counter at group has)
      (record { field = field; is_amount = is; unruled = unruled }))
  entry-there field counter is at lowest (Some rule) ruled exit to (some pilot is_pilot (first w)) =
      by-one Told w
      (table.entry_sign total rule pilot lowest
      (record { field = field; named = is.named; ruled = ruled }) is_pilot)
  entry-there field counter is at lowest (Some rule) ruled exit to (some pilot is_pilot (second (first w))) =
      controls-there Told (positive_side rule pilot 1) PL counter exit to w
      (λ group has. table.entry_plus total rule pilot group lowest
      (serves-there lines plan number counter at group has) (record { field = field; named = is.named; ruled = ruled }) is_pilot)
  entry-there field counter is at lowest (Some rule) ruled exit to (some pilot is_pilot (second (second w))) =
      controls-there Told (negative_side rule pilot 1) MI counter exit to w
      (λ group has. table.entry_minus total rule pilot group lowest
      (serves-there lines plan number counter at group has) (record { field = field; named = is.named; ruled = ruled }) is_pilot)

  marked-there : (rule : SignRule) (field : Field) (counter : TotalCounter) → IsSigned lines total.name rule
      → field_named lines total.name ≡ Some field → counter_for lines plan number ≡ Some counter
      → (its_mark : Mark) → total.mark ≡ Some its_mark → (exit to : Hub)
      → TotalMark total.level (mark_wheel total.wheel total.digits (decimals_of field.kind)) its_mark (top_group counter) exit to → Told exit to
  marked-there rule field counter signed named at its_mark is exit to (below k less (some character there (first (punched row punch w)))) =
      by-one Told w
      (table.total_mark_in total its_mark rule (top_group counter) k row is (top-there lines plan number counter at) signed
      (record { character = character; there = there; punch = punch }))
  marked-there rule field counter signed named at its_mark is exit to (below k less (some character there (second w))) =
      let punch = mark-punch its_mark k character there in
      by-one Told w
      (table.total_mark_out total its_mark rule field (top_group counter) k punch.0 is
      (top-there lines plan number counter at) signed named punch.1)

  -- the carry of a counter round, and from its lower group to its upper one
  ring-there : (rule : SignRule) (counter : TotalCounter) → IsSigned lines total.name rule → counter_for lines plan number ≡ Some counter
      → (exit to : Hub) → RingWires counter exit to → Told exit to
  ring-there rule (of.Single own) signed at exit to w =
      by-one Told w
      (table.ring total rule (panel_group own)
      (ap (λ o. option_map panel_group (option_and_then single_group o)) at) signed)
  ring-there rule (of.Coupled lower upper) signed at exit to w =
      by-one Told w (table.carry_round total rule lower upper at signed)

  carry-there : (counter : TotalCounter) → counter_for lines plan number ≡ Some counter → (exit to : Hub)
      → CarryUpWires counter exit to → Told exit to
  carry-there (of.Single own) at exit to w = absurd w
  carry-there (of.Coupled lower upper) at exit to w = by-one Told w (table.carry_up total lower upper at)

  signed-there : (rule : SignRule) (field : Field) (counter : TotalCounter) → IsSigned lines total.name rule
      → field_named lines total.name ≡ Some field → counter_for lines plan number ≡ Some counter → (exit to : Hub)
      → SignedTotal total (decimals_of field.kind) counter exit to → Told exit to
  signed-there rule field counter signed named at exit to (first (first w)) = ring-there rule counter signed at exit to w
  signed-there rule field counter signed named at exit to (first (second (first (first w)))) =
      by-one Told w
      (table.balance_test total rule (top_group counter) (top-there lines plan number counter at) signed)
  signed-there rule field counter signed named at exit to (first (second (first (second (first w))))) =
      by-one Told w
      (table.conversion total rule (top_group counter) (top-there lines plan number counter at) signed)
  signed-there rule field counter signed named at exit to (first (second (first (second (second (first w)))))) =
      controls-there Told (BAT (top_group counter) 1) RO counter exit to w
      (λ group has. table.conversion_read_out total rule (top_group counter) group
      (top-there lines plan number counter at) (serves-there lines plan number counter at group has) signed)
  signed-there rule field counter signed named at exit to (first (second (first (second (second (second w)))))) =
      controls-there Told (BAT (top_group counter) 1) MI counter exit to w
      (λ group has. table.conversion_minus total rule (top_group counter) group
      (top-there lines plan number counter at) (serves-there lines plan number counter at group has) signed)
  signed-there rule field counter signed named at exit to (first (second (second w))) =
      each-there Told FeedbackWires counter exit to w (λ group has its. fed group has exit to its)
    where
      fed : (group : Group) → HasPanelGroup counter group → (from into : Hub) → FeedbackWires group from into → Told from into
      fed group has from into (below place less its) =
          by-one Told its
          (table.feedback total rule group (place + 1) (serves-there lines plan number counter at group has) signed
          (omega arith) (omega (arith, less)))
  signed-there rule field counter signed named at exit to (second (some its_mark is wires)) =
      marked-there rule field counter signed named at its_mark is exit to wires

  sense-there : (field : Field) (counter higher : TotalCounter) (other : ℕ) → IsAmount lines total.name field
      → counter_for lines plan number ≡ Some counter → IsNextHigher lines total.name (level_number total.level) other
      → counter_for lines plan other ≡ Some higher → (rule : Option SignRule) → rule_of field.kind ≡ rule → (exit to : Hub)
      → TransferSense total.level counter higher rule exit to → Told exit to
  sense-there field counter higher other is at is_next at_higher None unruled exit to w =
      controls-there Told (PX (level_number total.level) 3) PL higher exit to w
      (λ group has. table.transfer_adds total group other
      (record { field = field; is_amount = is; unruled = unruled }) is_next (serves-there lines plan other higher at_higher group has))
  sense-there field counter higher other is at is_next at_higher (Some rule) ruled exit to (first w) =
      by-one Told w
      (table.transfer_sign total rule (top_group counter) other (top-there lines plan number counter at)
      (record { field = field; named = is.named; ruled = ruled }) is_next)
  sense-there field counter higher other is at is_next at_higher (Some rule) ruled exit to (second (first w)) =
      controls-there Told (BAN (top_group counter) 2) PL higher exit to w
      (λ group has. table.transfer_plus total rule (top_group counter) group other
      (top-there lines plan number counter at) (record { field = field; named = is.named; ruled = ruled }) is_next
      (serves-there lines plan other higher at_higher group has))
  sense-there field counter higher other is at is_next at_higher (Some rule) ruled exit to (second (second w)) =
      controls-there Told (BAT (top_group counter) 2) MI higher exit to w
      (λ group has. table.transfer_minus total rule (top_group counter) group other
      (top-there lines plan number counter at) (record { field = field; named = is.named; ruled = ruled }) is_next
      (serves-there lines plan other higher at_higher group has))

  -- a position of a counter that has room for so many digits has its place
  placed : (its : ℕ) (counter : TotalCounter) → HasCounterFor lines plan its total.digits → counter_for lines plan its ≡ Some counter
      → (place : ℕ) → place < total.digits
      → ServesPosition lines plan its (place + 1) (place_of counter (place + 1)).0 (place_of counter (place + 1)).1
  placed its counter has at place less =
      let same = same_Some has.counter counter (sym has.there ∙ at) in
      let wide = subst (λ c. total.digits ≤ positions_of c) same has.wide in
      position-there lines plan its counter at (place + 1) (subst IsCounterOnPanel same has.on_panel) (omega arith)
      (omega (arith, less, wide))

  wires-there : (field : Field) (counter : TotalCounter) → IsAmount lines total.name field → counter_for lines plan number ≡ Some counter
      → IsGoodTotal lines plan number total field → (exit to : Hub)
      → TotalWires lines plan total field counter exit to → Told exit to
  wires-there field counter is at good exit to (first (given lowest (first (below place less w)))) =
      by-one Told w
      (let enough = good.enough in
      table.entry total field (place_of counter (place + 1)).0 (place + 1) (place_of counter (place + 1)).1
      lowest (placed number counter good.counter at place (omega (arith, less, enough))) is (omega arith) (omega (arith, less)))
  wires-there field counter is at good exit to (first (given lowest (second wires))) =
      entry-there field counter is at lowest (rule_of field.kind) refl exit to wires
  wires-there field counter is at good exit to (second (first (first w))) =
      controls-there Told (PX (level_number total.level) 3) RO counter exit to w
      (λ group has. table.read_out total group (serves-there lines plan number counter at group has))
  wires-there field counter is at good exit to (second (first (second (below place less w)))) =
      by-one Told w
      (table.total_digit total field (place_of counter (place + 1)).0 (place + 1)
      (place_of counter (place + 1)).1 (placed number counter good.counter at place less) is (omega arith) (omega (arith, less)))
  wires-there field counter is at good exit to (second (second (first (given has (punched row punch w))))) =
      by-one Told w
      (table.point (says.TotalAmount total) (total_emitter (level_number total.level)) total.wheel
      (record { digits = total.digits; decimals = decimals_of field.kind; mark = total.mark }) row
      (figures.IsFigure.on_total total field is) has punch)
  wires-there field counter is at good exit to (second (second (second (first (some rule ruled wires))))) =
      signed-there rule field counter (record { field = field; named = is.named; ruled = ruled }) is.named at exit to wires
  wires-there field counter is at good exit to
      (second (second (second (second (first (next other is_next (some higher at_higher (first (below place less w))))))))) =
      by-one Told w
      (table.transfer total (place_of counter (place + 1)).0 (place_of higher (place + 1)).0 other
      (place + 1) (place_of counter (place + 1)).1 (place_of higher (place + 1)).1
      (placed number counter good.counter at place less) is_next
      (placed other higher (good.higher other is_next) at_higher place less) (omega arith) (omega (arith, less)))
  wires-there field counter is at good exit to
      (second (second (second (second (first (next other is_next (some higher at_higher (second wires)))))))) =
      sense-there field counter higher other is at is_next at_higher (rule_of field.kind) refl exit to wires
  wires-there field counter is at good exit to (second (second (second (second (second wires))))) = carry-there counter at exit to wires

  pub total-there : IsNamed (field_named lines total.name) (IsGoodTotal lines plan number total)
      → (exit to : Hub) → StatementWires lines plan number (says.TotalAmount total) exit to
      → LineWire lines plan number (says.TotalAmount total) exit to
  total-there good exit to (some field named (some counter at wires)) =
      let known = named-has (field_named lines total.name) (IsGoodTotal lines plan number total) good field named in
      wires-there field counter (record { named = named; holds_amount = known.holds_amount }) at known exit to wires

  -- the wires of a known field and counter
  pub known-wires : (field : Field) (counter : TotalCounter) (exit to : Hub) → field_named lines total.name ≡ Some field
      → counter_for lines plan number ≡ Some counter → TotalWires lines plan total field counter exit to
      → StatementWires lines plan number (says.TotalAmount total) exit to
  known-wires field counter exit to named at wires = some field named (some counter at wires)

  -- where a total of the table has a counter of its own, and its field is known
  pub record Known : Type 0 where
    pub field : Field
    pub named : field_named lines total.name ≡ Some field
    pub good : IsGoodTotal lines plan number total field

  pub known-total : IsNamed (field_named lines total.name) (IsGoodTotal lines plan number total) → Known
  known-total good =
      let known = named-field (field_named lines total.name) (IsGoodTotal lines plan number total) good in
      record { field = known.0; named = known.1; good = known.2 }

  -- the sense of the entry of an amount
  pub sense-wires : (counter : TotalCounter) (known given_rule : Option SignRule) (exit to : Hub) → known ≡ given_rule
      → EntrySense plan total.name counter given_rule exit to → EntrySense plan total.name counter known exit to
  sense-wires counter known given_rule exit to same wires =
      let P : Option SignRule → Type 0 = λ r. EntrySense plan total.name counter r exit to in
      subst P (sym same) wires

  pub transfer-wires : (counter higher : TotalCounter) (known given_rule : Option SignRule) (exit to : Hub) → known ≡ given_rule
      → TransferSense total.level counter higher given_rule exit to → TransferSense total.level counter higher known exit to
  transfer-wires counter higher known given_rule exit to same wires =
      let P : Option SignRule → Type 0 = λ r. TransferSense total.level counter higher r exit to in
      subst P (sym same) wires
