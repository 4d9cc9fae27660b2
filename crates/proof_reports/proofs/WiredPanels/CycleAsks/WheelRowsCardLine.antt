-- In a card cycle what lines send to the line of a card arrives at its wheels.
use Rattle.std.proofs.Common.{◌≡◌, ◌≢◌, ◌∙◌, refl, sym, ap, subst, ℕ, ◌+◌, ◌-◌, ◌<◌, ◌≤◌, ◌==◌, ◌&&◌, Bool, true, false, List, Contains, Option, Some, None, is_some, length, map, slice_get, option_map, ◌⊎◌, arith}
use Rattle.std.proofs.lemmas.Bool.Decides.{nat_tests}
use Rattle.std.proofs.lemmas.Option.{slice_get_within}
use Rattle.std.proofs.lemmas.List.{length-map}
use Rattle.proof_reports.specs.Below.chart_plans.WantedWords.Units.{is_inside}
use Rattle.proof_reports.specs.Below.card_code.CardCode.{has_row}
use Rattle.proof_reports.specs.Below.card_code.Rows.{row_number}
use Rattle.proof_reports.specs.Below.chart_line_rules.FieldRules.Fields.{fields_of}
use Rattle.proof_reports.specs.Below.chart_line_rules.PrintRules.Items.{item_of, text_item, mark_shown, detail_item, figure_width}
use Rattle.proof_reports.specs.Below.chart_rules.Rules.{IsLawful}
use Rattle.proof_reports.specs.Below.chart_rules.ValidCard.{column_of}
use Rattle.proof_reports.specs.Below.chart_line_rules.PrintRules.Wheels.{HasWheel}
use Rattle.proof_reports.specs.Below.chart_line_rules.declared.print_rules.items.Item.{Item}
use Rattle.proof_reports.specs.Below.chart_line_rules.declared.print_rules.items.PrintedLine.TheVariants.{Body}
use Rattle.proof_reports.specs.Below.chart_lines.ChartsWords.Chart.{Chart}
use Rattle.proof_reports.specs.Below.chart_lines.ChartsWords.Field.{columns_of, decimals_of, is_amount, sign_column}
use Rattle.proof_reports.specs.Below.chart_lines.ChartsWords.Levels.{control_number}
use Rattle.proof_reports.specs.Below.chart_lines.declared.charts.chart.Line.{Line}
use Rattle.proof_reports.specs.Below.chart_lines.declared.charts.statement.BodyLine.TheVariants as body
use Rattle.proof_reports.specs.Below.chart_lines.declared.charts.statement.DetailOption.TheVariants as shown
use Rattle.proof_reports.specs.Below.chart_lines.declared.charts.statement.DetailOption.{DetailOption}
use Rattle.proof_reports.specs.Below.chart_lines.declared.charts.statement.Field.{Field}
use Rattle.proof_reports.specs.Below.chart_lines.declared.charts.statement.FieldKind.TheVariants as holds
use Rattle.proof_reports.specs.Below.chart_lines.declared.charts.statement.FieldKind.{FieldKind}
use Rattle.proof_reports.specs.Below.chart_lines.declared.charts.statement.Mark.TheVariants as mark
use Rattle.proof_reports.specs.Below.chart_lines.declared.charts.statement.Mark.{Mark}
use Rattle.proof_reports.specs.Below.chart_lines.declared.charts.statement.SignRule.{SignRule}
use Rattle.proof_reports.specs.Below.chart_lines.declared.charts.statement.Statement.TheVariants as says
use Rattle.proof_reports.specs.Below.chart_lines.declared.charts.statement.Statement.{Statement}
use Rattle.proof_reports.specs.Below.hubs.HubTable.Ranges.{is_within}
use Rattle.proof_reports.specs.Below.hubs.SetupsWords.Wiring.{Wiring}
use Rattle.proof_reports.specs.Below.hubs.declared.hub.Hub.TheVariants.{W}
use Rattle.proof_cycles.specs.Below.net.declared.cycle.Cycle.TheVariants.{Card}
use Rattle.proof_cycles.specs.Below.net.declared.cycle.Cycle.{Cycle}
use Rattle.print_unit.specs.Emitters.{emitter_of}
use Rattle.proof_reports.specs.PrintedLines.Shown.Shown.{Characters}
use Rattle.proof_reports.specs.PrintedLines.Shown.{Shown, set_of_character, digit_set, card_sends, field_sends}
use Rattle.report_definition.specs.Amounts.{columns_in, digits_on, is_negated}
use Rattle.report_definition.specs.BodyLines.{is_shown}
use Rattle.proof_reports.specs.Below.selectors.Indicate.{is_latch_set}
use Rattle.proof_reports.specs.Below.selectors.Splits.{is_digit_row}
use Rattle.wiring_table.specs.Figures.IsFigure.{on_detail as figure_on_detail}
use Rattle.wiring_table.specs.Figures.IsLiteral.{on_detail}
use Rattle.wiring_table.specs.Figures.{IsText, IsAmount, IsSigned, HasPunchAt, rule_of, mark_text, digit_wheel}
use Rattle.wiring_table.specs.Wires.LineWire.{detail_text, indicated_text_in, indicated_text_out, literal, point, detail_digit, split_digit_in, split_digit_out, detail_mark_in, detail_mark_out}
use Rattle.proof_reports.specs.WiredPanels.CycleRows.{CycleRow, reads}
use Rattle.proof_reports.specs.WiredPanels.CycleAsks.PrintedRows.{IsCardRow}
use Rattle.proof_reports.specs.WiredPanels.Sources.EmitsAtRow.{second, emitter}
use Rattle.proof_reports.proofs.WiredPanels.Contacts.{closes-CSD}
use Rattle.proof_reports.proofs.WiredPanels.ToWheels.{ArrivesThere, along, along_contact, pilot_common}
use Rattle.proof_reports.proofs.WiredPanels.CycleAsks.WheelRows.IsLineOf.{detail}
use Rattle.proof_reports.proofs.WiredPanels.CycleAsks.WheelRows.{IsLineOf, SendsRow, stands_on, sent_on}
use Rattle.proof_reports.proofs.WiredPanels.CycleAsks.WheelRowsCard.{control-low, control-high, has-read, closed-IX, closed-negative, negated-by}
use Rattle.proof_reports.proofs.WiredPanels.CycleAsks.WheelRowsDigits.{digit-in}
use Rattle.proof_reports.proofs.WiredPanels.CycleAsks.WheelRowsField.{left-of, right-of, both-of, field-tested, SendsField, text-sends, amount-sends, length-digits_on, digit-on, text-unmarked}
use Rattle.proof_reports.proofs.WiredPanels.CycleAsks.WheelRowsFigure.FigureSends.{digit as figure_digit, point as figure_point, marked as figure_marked}
use Rattle.proof_reports.proofs.WiredPanels.CycleAsks.WheelRowsFigure.{FigureSends, amount_shown, figure-of, length-sets}
use Rattle.proof_reports.proofs.WiredPanels.CycleAsks.WheelRowsText.{literal-of, standing, columns-sent, columns-of}
use Rattle.wiring_table.proofs.Parts.{indicate-given, pilot-given, split-given}
use Rattle.proof_reports.proofs.Below.chart_rules.Laws.{IsGoodField, amount-valid, good-field, one-digit}
use Rattle.proof_reports.proofs.Below.chart_line_rules.FieldRules.Places.{is_same_name-own}
use Rattle.proof_reports.specs.Below.chart_plans.WantedWords.Pilots.{shows}

emits-four : (cycle : Cycle) → cycle ≡ Card → emitter_of cycle ≡ Some 4
emits-four cycle is = ap emitter_of is

pub mark-few : (its : Mark) (k row : ℕ) → HasPunchAt (mark_text its) k row → k ≤ 1
mark-few mark.Credit k row punch = let e = slice_get_within (mark_text mark.Credit) k punch.character punch.there in omega (arith, e)
mark-few mark.Minus k row punch = let e = slice_get_within (mark_text mark.Minus) k punch.character punch.there in omega (arith, e)

-- an amount that is below 0 has a sign rule
record HasRule (kind : FieldKind) (card : List ℕ) : Type 0 where
  rule : SignRule
  is : rule_of kind ≡ Some rule
  signed : is_some (sign_column kind) ≡ true

rule-there : (kind : FieldKind) (card : List ℕ) → is_negated kind card ≡ true → HasRule kind card
rule-there holds.Text card below = cc
rule-there (holds.Amount decimals None) card below = cc
rule-there (holds.Amount decimals (Some rule)) card below = record { rule = rule; is = refl; signed = refl }

module _ (wiring : Wiring) (card : List ℕ) (opens : ℕ) (at : CycleRow) (row : IsCardRow wiring card opens at) where
  -- a text
  text-arrives : (line : Line) (place : ℕ) (wheel : ℕ) (name : List ℕ) (how : DetailOption) (field : Field) (j : ℕ)
      → slice_get at.chart.lines place ≡ Some line → Contains at.chart.lines line → line.statement ≡ says.DetailField wheel name how
      → is_shown how opens ≡ true → IsText at.chart.lines name field → j < columns_of field
      → has_row (column_of card (field.first + j)) (row_number at.row) ≡ true → ArrivesThere at (W (wheel + j))
  text-arrives line place wheel name shown.Plain field j listed there says_it on is within punched =
      let good = good-field at.chart row.on_panel.panel.lawful name field is.named in
      along wiring at row.on_panel row.rises line there says_it (detail_text wheel name field j is within)
      (second (field.first + j) row.cycle
      (has-read wiring card opens at row (field.first + j) (omega (arith, good.card.from)) (omega (arith, within, good.card.to, good.card.order)) punched))
  text-arrives line place wheel name (shown.Indicated level) field j listed there says_it on is within punched =
      let good = good-field at.chart row.on_panel.panel.lawful name field is.named in
      let planned = row.on_panel.panel.planned in
      let served = indicate-given at.chart.lines at.plan planned line level wheel name field j there says_it is.named within in
      let from = served.from in
      let to = served.to in
      let x_within : is_within served.n 30 ≡ true = grind (arith, nat_tests, from, to) in
      along_contact wiring at row.on_panel row.rises line there says_it (indicated_text_in wheel name level field j served.n is within served.is)
      (second (field.first + j) row.cycle
      (has-read wiring card opens at row (field.first + j) (omega (arith, good.card.from)) (omega (arith, within, good.card.to, good.card.order)) punched)) refl
      (closed-IX wiring card opens at row (control_number level) served.n
      ∙ both-of (is_latch_set at.old.indicate (control_number level)) (is_within served.n 30)
      (row.latches (control_number level) (control-low level) (control-high level) ∙ on) x_within)
      (indicated_text_out wheel name level field j served.n is within served.is)
  text-arrives line place wheel name (shown.Marked its) field j listed there says_it on is within punched =
      absurd (text-unmarked at.chart place line wheel name its field row.on_panel.panel.lawful listed says_it is.named is.holds_text)

  -- a digit of an amount, through a split where its column has the sign
  digit-arrives : (line : Line) (place : ℕ) (wheel : ℕ) (name : List ℕ) (how : DetailOption) (field : Field) (position : ℕ)
      → slice_get at.chart.lines place ≡ Some line → Contains at.chart.lines line → line.statement ≡ says.DetailField wheel name how
      → IsAmount at.chart.lines name field → 1 ≤ position → position ≤ columns_of field
      → has_row (column_of card (field.last + 1 - position)) (row_number at.row) ≡ true → is_digit_row at.row ≡ true
      → ArrivesThere at (W (digit_wheel wheel (columns_of field) (decimals_of field.kind) position))
  digit-arrives line place wheel name how field position listed there says_it is from to punched low = by (sign_column field.kind) refl
    where
      good : IsGoodField field
      good = good-field at.chart row.on_panel.panel.lawful name field is.named

      read : reads at (field.last + 1 - position) ≡ true
      read = let g = good.card in has-read wiring card opens at row (field.last + 1 - position) (omega (arith, from, to, g.from)) (omega (arith, from, g.to)) punched

      plain : sign_column field.kind ≢ Some (field.last + 1 - position)
          → ArrivesThere at (W (digit_wheel wheel (columns_of field) (decimals_of field.kind) position))
      plain apart =
          along wiring at row.on_panel row.rises line there says_it (detail_digit wheel name how field position is from to apart)
          (second (field.last + 1 - position) row.cycle read)

      split : sign_column field.kind ≡ Some (field.last + 1 - position)
          → ArrivesThere at (W (digit_wheel wheel (columns_of field) (decimals_of field.kind) position))
      split signed =
          let g = good in
          let planned = row.on_panel.panel.planned in
          let inside : is_inside field (Some (field.last + 1 - position)) ≡ true = grind (arith, nat_tests, from, to, g.card.order) in
          let served = split-given at.chart.lines at.plan planned line wheel name how field there says_it is.named
          (ap (is_inside field) signed ∙ inside) in
          let lowest = served.from in
          let highest = served.to in
          let within : is_within served.n 16 ≡ true = grind (arith, nat_tests, lowest, highest) in
          along_contact wiring at row.on_panel row.rises line there says_it
          (split_digit_in wheel name how field position served.n is from to signed served.is)
          (second (field.last + 1 - position) row.cycle read) refl
          (closes-CSD at.old at.cycle at.row served.n row.on_panel.between.ordered ∙ both-of (is_digit_row at.row) (is_within served.n 16) low within)
          (split_digit_out wheel name how field position served.n is from to signed served.is)

      by : (o : Option ℕ) → sign_column field.kind ≡ o
          → ArrivesThere at (W (digit_wheel wheel (columns_of field) (decimals_of field.kind) position))
      by None none = plain (λ some. differ (sym none ∙ some))
        where
          differ : {n : ℕ} → None ≡ Some n → ⊥
          differ e = cc
      by (Some sign) some = test (sign == field.last + 1 - position) refl
        where
          test : (b : Bool) → (sign == field.last + 1 - position) ≡ b
              → ArrivesThere at (W (digit_wheel wheel (columns_of field) (decimals_of field.kind) position))
          test true same = let e : sign ≡ field.last + 1 - position = grind (arith, nat_tests, same) in split (some ∙ ap Some e)
          test false differs = plain (λ other. apart (sym some ∙ other))
            where
              apart : Some sign ≡ Some (field.last + 1 - position) → ⊥
              apart e =
                  let f : sign ≡ field.last + 1 - position = cc in
                  let g : (sign == field.last + 1 - position) ≡ true = grind (arith, nat_tests, f) in
                  cc

  -- what an amount sends arrives
  figure-arrives : (line : Line) (place : ℕ) (wheel : ℕ) (name : List ℕ) (how : DetailOption) (field : Field) {v : ℕ}
      → slice_get at.chart.lines place ≡ Some line → Contains at.chart.lines line → line.statement ≡ says.DetailField wheel name how
      → IsAmount at.chart.lines name field
      → FigureSends wheel (columns_of field) (decimals_of field.kind) (mark_shown how) (digits_on field card) (is_negated field.kind card)
      (row_number at.row) v
      → ArrivesThere at (W v)
  figure-arrives line place wheel name how field listed there says_it is (figure_digit position from to on) =
      let good = good-field at.chart row.on_panel.panel.lawful name field is.named in
      let valid = amount-valid at.chart card name field row.read.valid is.named is.holds_amount in
      let few = one-digit field card (field.last + 1 - position) valid (omega (arith, from, to)) (omega (arith, from, to, good.card.order)) in
      let punched : (has_row (column_of card (field.last + 1 - position)) (row_number at.row) && is_digit_row at.row) ≡ true
      = sym (ap (λ o. has_row (digit_set o) (row_number at.row)) (digit-on field card position good from to)
      ∙ digit-in (column_of card (field.last + 1 - position)) at.row few) ∙ on in
      digit-arrives line place wheel name how field position listed there says_it is from to
      (left-of (has_row (column_of card (field.last + 1 - position)) (row_number at.row)) (is_digit_row at.row) punched)
      (right-of (has_row (column_of card (field.last + 1 - position)) (row_number at.row)) (is_digit_row at.row) punched)
  figure-arrives line place wheel name how field listed there says_it is (figure_point some punch) =
      along wiring at row.on_panel row.rises line there says_it
      (point (says.DetailField wheel name how) 4 wheel (record { digits = columns_of field; decimals = decimals_of field.kind; mark = mark_shown how })
      (row_number at.row) (figure_on_detail wheel name how field is) some punch) (emitter 4 (emits-four at.cycle row.cycle))
  figure-arrives line place wheel name shown.Plain field listed there says_it is (figure_marked its k marked below punch) = cc
  figure-arrives line place wheel name (shown.Indicated level) field listed there says_it is (figure_marked its k marked below punch) = cc
  figure-arrives line place wheel name (shown.Marked mark) field listed there says_it is (figure_marked its k marked below punch) =
      let ruled = rule-there field.kind card below in
      let planned = row.on_panel.panel.planned in
      let served = pilot-given at.chart.lines at.plan planned line name field there (ap (shows name) says_it ∙ is_same_name-own name) is.named ruled.signed in
      let signed : IsSigned at.chart.lines name ruled.rule = record { field = field; named = is.named; ruled = ruled.is } in
      let own : its ≡ mark = cc in
      let lowest = served.from in
      let highest = served.to in
      let within : is_within served.n 16 ≡ true = grind (arith, nat_tests, lowest, highest) in
      let its_punch : HasPunchAt (mark_text mark) k (row_number at.row) = subst (λ m. HasPunchAt (mark_text m) k (row_number at.row)) own punch in
      along_contact wiring at row.on_panel row.rises line there says_it
      (detail_mark_in wheel name mark ruled.rule served.n k (row_number at.row) signed served.is its_punch)
      (emitter 4 (emits-four at.cycle row.cycle)) (pilot_common ruled.rule served.n (2 + k))
      (closed-negative wiring card opens at row ruled.rule served.n k name signed served.is (mark-few its k (row_number at.row) punch) within
      (sym (negated-by wiring card opens at row field.kind ruled.rule ruled.is) ∙ below))
      (detail_mark_out wheel name mark ruled.rule field served.n k (row_number at.row) signed is.named served.is its_punch)

  field-arrives : (line : Line) (place : ℕ) (wheel : ℕ) (name : List ℕ) (how : DetailOption) (v : ℕ)
      → slice_get at.chart.lines place ≡ Some line → Contains at.chart.lines line → line.statement ≡ says.DetailField wheel name how
      → (sent : Shown) → SendsField at.chart.lines opens card wheel name how sent → stands_on sent v ≡ true
      → has_row (sent_on sent v) (row_number at.row) ≡ true → ArrivesThere at (W v)
  field-arrives line place wheel name how v listed there says_it sent given stands on = by (is_amount given.field.kind) refl
    where
      by : (b : Bool) → is_amount given.field.kind ≡ b → ArrivesThere at (W v)
      by false is =
          let e : sent ≡ Characters wheel (map (column_of card) (columns_in given.field))
          = given.is ∙ text-sends card wheel (mark_shown how) given.field given.field.kind is in
          let s = columns-of wheel card given.field v (sym (ap (λ x. stands_on x v) e) ∙ stands) in
          let punched : has_row (column_of card (given.field.first + s.j)) (row_number at.row) ≡ true
          = sym (ap (λ x. has_row (sent_on x v) (row_number at.row)) e
          ∙ ap (λ w. has_row (sent_on (Characters wheel (map (column_of card) (columns_in given.field))) w) (row_number at.row)) s.is
          ∙ ap (λ x. has_row x (row_number at.row)) (columns-sent wheel card given.field s.j s.within)) ∙ on in
          subst (λ w. ArrivesThere at (W w)) (sym s.is)
          (text-arrives line place wheel name how given.field s.j listed there says_it given.on
          (record { named = given.named; holds_text = is }) s.within punched)
      by true is =
          let good = good-field at.chart row.on_panel.panel.lawful name given.field given.named in
          let e : sent ≡ amount_shown wheel (columns_of given.field) (decimals_of given.field.kind) (mark_shown how) (digits_on given.field card)
          (is_negated given.field.kind card)
          = given.is ∙ amount-sends card wheel (mark_shown how) given.field given.field.kind is in
          figure-arrives line place wheel name how given.field listed there says_it (record { named = given.named; holds_amount = is })
          (figure-of wheel (columns_of given.field) (decimals_of given.field.kind) (mark_shown how) (digits_on given.field card)
          (is_negated given.field.kind card) at.row v good.decimals (length-digits_on given.field card)
          (sym (ap (λ x. stands_on x v) e) ∙ stands) (sym (ap (λ x. has_row (sent_on x v) (row_number at.row)) e) ∙ on))

  pub sends-arrives : (line : Line) (place : ℕ) (statement : Statement) (v : ℕ) → slice_get at.chart.lines place ≡ Some line
      → Contains at.chart.lines line → line.statement ≡ statement
      → SendsRow (card_sends at.chart.lines opens card) statement v (row_number at.row) → ArrivesThere at (W v)
  sends-arrives line place (says.DetailLiteral wheel characters) v listed there says_it sent =
      let shown : sent.shown ≡ Characters wheel (map set_of_character characters) = same sent.is_sent in
      let on = literal-of wheel characters v at.row (sym (ap (λ s. stands_on s v) shown) ∙ sent.there)
      (sym (ap (λ s. has_row (sent_on s v) (row_number at.row)) shown) ∙ sent.on) in
      subst (λ w. ArrivesThere at (W w)) (sym on.is)
      (along wiring at row.on_panel row.rises line there says_it
      (literal (says.DetailLiteral wheel characters) 4 wheel characters on.j (row_number at.row) (on_detail wheel characters) on.punch)
      (emitter 4 (emits-four at.cycle row.cycle)))
    where
      same : {x : Shown} → Some (Characters wheel (map set_of_character characters)) ≡ Some x → x ≡ Characters wheel (map set_of_character characters)
      same e = cc
  sends-arrives line place (says.DetailField wheel name how) v listed there says_it sent =
      field-arrives line place wheel name how v listed there says_it sent.shown
      (field-tested at.chart.lines opens card wheel name how sent.shown sent.is_sent) sent.there sent.on
  sends-arrives line place other v listed there says_it sent = let none = sent.is_sent in cc

field-item : (chart : Chart) (card : List ℕ) (v wheel : ℕ) (how : DetailOption) (field : Field) (kind : FieldKind) → IsGoodField field → field.kind ≡ kind
    → stands_on (field_sends card wheel (mark_shown how) field kind) v ≡ true
    → HasWheel (detail_item wheel how (columns_of field) kind) v × IsLineOf Card (detail_item wheel how (columns_of field) kind).line
field-item chart card v wheel how field holds.Text good is there =
    let s = columns-of wheel card field v there in
    ((omega (arith, s.is), omega (arith, s.is, s.within)), detail)
field-item chart card v wheel how field (holds.Amount decimals rule) good is there =
    let few : decimals ≤ columns_of field = subst (λ k. decimals_of k ≤ columns_of field) is good.decimals in
    let s = standing (field_sends card wheel (mark_shown how) field (holds.Amount decimals rule)) v there in
    let n = length-sets (columns_of field) decimals (mark_shown how) (digits_on field card) (is_negated field.kind card) few (length-digits_on field card) in
    let within : s.j < figure_width (record { digits = columns_of field; decimals = decimals; mark = mark_shown how }) = subst (λ m. s.j < m) n s.within in
    ((omega (arith, s.is), omega (arith, s.is, within)), detail)

pub item-of : (chart : Chart) (opens : ℕ) (card : List ℕ) (v : ℕ) (statement : Statement) (sent : Shown) → IsLawful chart
    → card_sends chart.lines opens card statement ≡ Some sent → stands_on sent v ≡ true
    → (item : Item) × (item_of (fields_of chart.lines) statement ≡ Some item) × HasWheel item v × IsLineOf Card item.line
item-of chart opens card v (says.DetailLiteral wheel characters) sent lawful is there =
    let e : sent ≡ Characters wheel (map set_of_character characters) = cc in
    let s = standing (Characters wheel (map set_of_character characters)) v (sym (ap (λ s. stands_on s v) e) ∙ there) in
    let n = length-map characters set_of_character in
    (text_item (Body body.Detail) wheel (length characters), refl, (omega (arith, s.is), omega (arith, s.is, s.within, n)), detail)
item-of chart opens card v (says.DetailField wheel name how) sent lawful is there =
    let t = field-tested chart.lines opens card wheel name how sent is in
    let good = good-field chart lawful name t.field t.named in
    let (wheels, line) = field-item chart card v wheel how t.field t.field.kind good refl (sym (ap (λ s. stands_on s v) t.is) ∙ there) in (
      detail_item wheel how (columns_of t.field) t.field.kind,
      ap (option_map (λ field. detail_item wheel how (columns_of field) field.kind)) t.named,
      wheels,
      line,
    )
item-of chart opens card v other sent lawful is there = cc
