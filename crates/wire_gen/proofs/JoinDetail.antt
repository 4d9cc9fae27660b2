-- The wires that the code adds for a field on the line of a card are those of the table.
use Rattle.std.proofs.Common.{◌≡◌, ℕ, ◌+◌, ◌-◌, ◌≤◌, true, false, List, Some, refl, sym, ap, ◌∙◌, subst, arith}
use Rattle.std.proofs.lemmas.Option.{slice_get_within, same_Some}
use Rattle.chart_plans.specs.PlansWords.Plans.{Lists}
use Rattle.chart_rules.specs.Below.chart_line_rules.FieldRules.Fields.{field_named}
use Rattle.chart_rules.specs.Below.chart_line_rules.PrintRules.Items.{mark_shown}
use Rattle.chart_lines.specs.ChartsWords.Field.{columns_of, decimals_of, is_amount, sign_column}
use Rattle.chart_lines.specs.declared.charts.chart.Line.{Line}
use Rattle.chart_lines.specs.declared.charts.statement.DetailOption.{DetailOption}
use Rattle.chart_lines.specs.declared.charts.statement.DetailOption.TheVariants as shown_as
use Rattle.chart_lines.specs.declared.charts.statement.Field.{Field}
use Rattle.chart_lines.specs.declared.charts.statement.FieldKind.{FieldKind}
use Rattle.chart_lines.specs.declared.charts.statement.FieldKind.TheVariants as holds
use Rattle.chart_lines.specs.declared.charts.statement.Mark.{Mark}
use Rattle.chart_lines.specs.declared.charts.statement.SignRule.{SignRule}
use Rattle.chart_lines.specs.declared.charts.statement.Statement.TheVariants as says
use Rattle.hubs.specs.declared.hub.Hub.{Hub}
use Rattle.wiring_lines.specs.Below.wiring_table.Figures.{IsText, IsAmount, on_detail, IsFigure, rule_of, digit_wheel, mark_wheel, mark_text, detail_emitter}
use Rattle.wiring_lines.specs.Below.wiring_table.Figures as figures
use Rattle.wiring_lines.specs.LineWires.HelperAdds.{one, first, second, below, OfSome, some, given, punched}
use Rattle.wiring_lines.specs.LineWires.HelperItems.{DetailAmount, DetailMarks, DetailText, DetailWires}
use Rattle.wire_gen.specs.HelperLines.{StatementWires}
use Rattle.wiring_lines.specs.LineWires.HelperRows.{DetailMark, DigitWires}
use Rattle.wiring_lines.specs.Below.wiring_table.Parts.{pilot_for}
use Rattle.wiring_lines.specs.Below.wiring_table.Wires.{LineWire}
use Rattle.wiring_lines.specs.Below.wiring_table.Wires as table
use Rattle.wire_gen.proofs.Fields.{mark-punch, ruled-amount}
use Rattle.wire_gen.proofs.JoinLines.{at-position, by-one}

module _ (lines : List Line) (plan : Lists) (number wheel : ℕ) (name : List ℕ) where
  text-there : (field : Field) → IsText lines name field → (shown : DetailOption) (exit to : Hub)
      → DetailText plan number wheel field shown exit to → LineWire lines plan number (says.DetailField wheel name shown) exit to
  text-there field is shown_as.Plain exit to (below j less w) =
      by-one (LineWire lines plan number (says.DetailField wheel name shown_as.Plain)) w
      (table.detail_text wheel name field j is less)
  text-there field is (shown_as.Indicated level) exit to (below j less (some x at (first w))) =
      by-one (LineWire lines plan number (says.DetailField wheel name (shown_as.Indicated level))) w
      (table.indicated_text_in wheel name level field j x is less at)
  text-there field is (shown_as.Indicated level) exit to (below j less (some x at (second w))) =
      by-one (LineWire lines plan number (says.DetailField wheel name (shown_as.Indicated level))) w
      (table.indicated_text_out wheel name level field j x is less at)
  text-there field is (shown_as.Marked mark) exit to wires = absurd wires

  mark-there : (field : Field) → field_named lines name ≡ Some field → (mark : Mark) (exit to : Hub)
      → OfSome (rule_of field.kind) (λ rule. OfSome (pilot_for plan name) (λ pilot.
      DetailMark rule pilot (mark_wheel wheel (columns_of field) (decimals_of field.kind)) mark)) exit to
      → LineWire lines plan number (says.DetailField wheel name (shown_as.Marked mark)) exit to
  mark-there field named mark exit to
      (some rule ruled (some pilot is_pilot (below k less (some character there (first (punched row punch w)))))) =
      by-one (LineWire lines plan number (says.DetailField wheel name (shown_as.Marked mark))) w
      (table.detail_mark_in wheel name mark rule pilot k row (record { field = field; named = named; ruled = ruled }) is_pilot
      (record { character = character; there = there; punch = punch }))
  mark-there field named mark exit to (some rule ruled (some pilot is_pilot (below k less (some character there (second w))))) =
      let punch = mark-punch mark k character there in
      by-one (LineWire lines plan number (says.DetailField wheel name (shown_as.Marked mark))) w
      (table.detail_mark_out wheel name mark rule field pilot k punch.0 (record { field = field; named = named; ruled = ruled })
      named is_pilot punch.1)

  marks-there : (field : Field) → field_named lines name ≡ Some field → (shown : DetailOption) (exit to : Hub)
      → DetailMarks plan name (mark_wheel wheel (columns_of field) (decimals_of field.kind)) (rule_of field.kind) (mark_shown shown) exit to
      → LineWire lines plan number (says.DetailField wheel name shown) exit to
  marks-there field named shown_as.Plain exit to (some mark is wires) = cc
  marks-there field named (shown_as.Indicated level) exit to (some mark is wires) = cc
  marks-there field named (shown_as.Marked its_mark) exit to (some mark is wires) =
      let same : mark ≡ its_mark = cc in
      let P : Mark → Type 0 = λ m. OfSome (rule_of field.kind) (λ rule. OfSome (pilot_for plan name) (λ pilot.
      DetailMark rule pilot (mark_wheel wheel (columns_of field) (decimals_of field.kind)) m)) exit to in
      mark-there field named its_mark exit to (subst P same wires)

  amount-there : (field : Field) → IsAmount lines name field → (shown : DetailOption) (exit to : Hub)
      → DetailAmount plan number wheel name field (mark_shown shown) exit to
      → LineWire lines plan number (says.DetailField wheel name shown) exit to
  amount-there field is shown exit to (first (below place less (first (given differs w)))) =
      by-one (LineWire lines plan number (says.DetailField wheel name shown)) w
      (table.detail_digit wheel name shown field (place + 1) is (omega arith) (omega (arith, less)) differs)
  amount-there field is shown exit to (first (below place less (second (given same (some split at (first w)))))) =
      by-one (LineWire lines plan number (says.DetailField wheel name shown)) w
      (table.split_digit_in wheel name shown field (place + 1) split is (omega arith) (omega (arith, less)) same at)
  amount-there field is shown exit to (first (below place less (second (given same (some split at (second w)))))) =
      by-one (LineWire lines plan number (says.DetailField wheel name shown)) w
      (table.split_digit_out wheel name shown field (place + 1) split is (omega arith) (omega (arith, less)) same at)
  amount-there field is shown exit to (second (first (given has (punched row punch w)))) =
      by-one (LineWire lines plan number (says.DetailField wheel name shown)) w
      (table.point (says.DetailField wheel name shown) detail_emitter wheel
      (record { digits = columns_of field; decimals = decimals_of field.kind; mark = mark_shown shown }) row
      (figures.IsFigure.on_detail wheel name shown field is) has punch)
  amount-there field is shown exit to (second (second wires)) = marks-there field is.named shown exit to wires

  pub detail-there : (shown : DetailOption) (exit to : Hub)
      → StatementWires lines plan number (says.DetailField wheel name shown) exit to
      → LineWire lines plan number (says.DetailField wheel name shown) exit to
  detail-there shown exit to (some field named wires) = by field.kind refl wires
    where
      by : (kind : FieldKind) → field.kind ≡ kind → DetailWires plan number wheel name field shown kind exit to
          → LineWire lines plan number (says.DetailField wheel name shown) exit to
      by holds.Text is wired =
          text-there field (record { named = named; holds_text = ap is_amount is }) shown exit to wired
      by (holds.Amount decimals rule) is wired =
          amount-there field (record { named = named; holds_amount = ap is_amount is }) shown exit to wired

  as-text : (field : Field) (shown : DetailOption) (exit to : Hub) (kind : FieldKind) → is_amount kind ≡ false
      → DetailText plan number wheel field shown exit to → DetailWires plan number wheel name field shown kind exit to
  as-text field shown exit to holds.Text is wires = wires
  as-text field shown exit to (holds.Amount decimals rule) is wires = cc

  as-amount : (field : Field) (shown : DetailOption) (exit to : Hub) (kind : FieldKind) → is_amount kind ≡ true
      → DetailAmount plan number wheel name field (mark_shown shown) exit to
      → DetailWires plan number wheel name field shown kind exit to
  as-amount field shown exit to holds.Text is wires = cc
  as-amount field shown exit to (holds.Amount decimals rule) is wires = wires

  of-text : (field : Field) (shown : DetailOption) (exit to : Hub) → IsText lines name field
      → DetailText plan number wheel field shown exit to
      → StatementWires lines plan number (says.DetailField wheel name shown) exit to
  of-text field shown exit to is wires = some field is.named (as-text field shown exit to field.kind is.holds_text wires)

  of-amount : (field : Field) (shown : DetailOption) (exit to : Hub) → IsAmount lines name field
      → DetailAmount plan number wheel name field (mark_shown shown) exit to
      → StatementWires lines plan number (says.DetailField wheel name shown) exit to
  of-amount field shown exit to is wires = some field is.named (as-amount field shown exit to field.kind is.holds_amount wires)

  of-signed : (mark : Mark) (field : Field) (rule : SignRule) (pilot : ℕ) (exit to : Hub) → field_named lines name ≡ Some field
      → rule_of field.kind ≡ Some rule → pilot_for plan name ≡ Some pilot
      → DetailMark rule pilot (mark_wheel wheel (columns_of field) (decimals_of field.kind)) mark exit to
      → StatementWires lines plan number (says.DetailField wheel name (shown_as.Marked mark)) exit to
  of-signed mark field rule pilot exit to named ruled is_pilot wires =
      of-amount field (shown_as.Marked mark) exit to
      (record { named = named; holds_amount = ruled-amount field.kind rule ruled })
      (second (second (some mark refl (some rule ruled (some pilot is_pilot wires)))))

  digit-back : (shown : DetailOption) (field : Field) (position : ℕ) (exit to : Hub) → IsAmount lines name field → 1 ≤ position
      → position ≤ columns_of field
      → DigitWires plan number (sign_column field.kind) (field.last + 1 - position)
      (digit_wheel wheel (columns_of field) (decimals_of field.kind) position) exit to
      → StatementWires lines plan number (says.DetailField wheel name shown) exit to
  digit-back shown field position exit to is from within wire =
      of-amount field shown exit to is
      (first (at-position (λ p. DigitWires plan number (sign_column field.kind) (field.last + 1 - p)
      (digit_wheel wheel (columns_of field) (decimals_of field.kind) p)) (columns_of field) position from within wire))

  pub detail-back : (shown : DetailOption) (exit to : Hub)
      → LineWire lines plan number (says.DetailField wheel name shown) exit to
      → StatementWires lines plan number (says.DetailField wheel name shown) exit to
  detail-back _ exit to (table.detail_text _ _ field j is less) =
      of-text field shown_as.Plain _ _ is (below j less one)
  detail-back _ exit to (table.indicated_text_in _ _ level field j x is less at) =
      of-text field (shown_as.Indicated level) _ _ is (below j less (some x at (first one)))
  detail-back _ exit to (table.indicated_text_out _ _ level field j x is less at) =
      of-text field (shown_as.Indicated level) _ _ is (below j less (some x at (second one)))
  detail-back shown exit to (table.literal _ emitter _ text j row is punch) = elim is [ ]
  detail-back shown exit to (table.point _ emitter _ figure row (figures.IsFigure.on_detail _ _ _ field is) has punch) =
      of-amount field shown _ _ is (second (first (given has (punched row punch one))))
  detail-back shown exit to (table.detail_digit _ _ _ field position is from within differs) =
      digit-back shown field position _ _ is from within (first (given differs one))
  detail-back shown exit to (table.split_digit_in _ _ _ field position split is from within same at) =
      digit-back shown field position _ _ is from within (second (given same (some split at (first one))))
  detail-back shown exit to (table.split_digit_out _ _ _ field position split is from within same at) =
      digit-back shown field position _ _ is from within (second (given same (some split at (second one))))
  detail-back _ exit to (table.detail_mark_in _ _ mark rule pilot k row signed is_pilot punch) =
      of-signed mark signed.field rule pilot _ _ signed.named signed.ruled is_pilot
      (below k (slice_get_within (mark_text mark) k punch.character punch.there)
      (some punch.character punch.there (first (punched row punch.punch one))))
  detail-back _ exit to (table.detail_mark_out _ _ mark rule field pilot k row signed named is_pilot punch) =
      let same : signed.field ≡ field = same_Some signed.field field (sym signed.named ∙ named) in
      of-signed mark field rule pilot _ _ named (ap (λ f. rule_of f.kind) (sym same) ∙ signed.ruled) is_pilot
      (below k (slice_get_within (mark_text mark) k punch.character punch.there)
      (some punch.character punch.there (second one)))
