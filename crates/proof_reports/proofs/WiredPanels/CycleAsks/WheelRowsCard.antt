-- What the print wheels receive in a card cycle: what the card and the literals send to its line.
use Rattle.std.proofs.Common.{◌≡◌, ◌≢◌, ◌∙◌, refl, sym, ap, ℕ, ◌+◌, ◌-◌, ◌<◌, ◌≤◌, ◌&&◌, not, Bool, true, false, List, Some, None, map, slice_get, arith}
use Rattle.std.specs.Prelude.{slice_index_or}
use Rattle.std.proofs.lemmas.Bool.Decides.{nat_tests}
use Rattle.proof_reports.specs.Below.card_code.CardCode.{has_row}
use Rattle.proof_reports.specs.Below.card_code.Rows.{row_number}
use Rattle.proof_reports.specs.Below.chart_line_rules.FieldRules.Fields.{field_named}
use Rattle.proof_reports.specs.Below.chart_line_rules.PrintRules.Items.{mark_shown}
use Rattle.proof_reports.specs.Below.chart_rules.ValidCard.{column_of}
use Rattle.proof_reports.specs.Below.chart_lines.ChartsWords.Field.{columns_of, decimals_of, is_amount, sign_column}
use Rattle.proof_reports.specs.Below.chart_lines.ChartsWords.Levels.{control_number}
use Rattle.proof_reports.specs.Below.chart_lines.declared.charts.chart.Line.{Line}
use Rattle.proof_reports.specs.Below.chart_lines.declared.charts.level.ControlLevel.TheVariants as control
use Rattle.proof_reports.specs.Below.chart_lines.declared.charts.level.ControlLevel.{ControlLevel}
use Rattle.proof_reports.specs.Below.chart_lines.declared.charts.statement.DetailOption.TheVariants as shown
use Rattle.proof_reports.specs.Below.chart_lines.declared.charts.statement.DetailOption.{DetailOption}
use Rattle.proof_reports.specs.Below.chart_lines.declared.charts.statement.Field.{Field}
use Rattle.proof_reports.specs.Below.chart_lines.declared.charts.statement.FieldKind.TheVariants as holds
use Rattle.proof_reports.specs.Below.chart_lines.declared.charts.statement.FieldKind.{FieldKind}
use Rattle.proof_reports.specs.Below.chart_lines.declared.charts.statement.Mark.{Mark}
use Rattle.proof_reports.specs.Below.chart_lines.declared.charts.statement.SignRule.TheVariants as sign
use Rattle.proof_reports.specs.Below.chart_lines.declared.charts.statement.SignRule.{SignRule}
use Rattle.proof_reports.specs.Below.chart_lines.declared.charts.statement.Statement.TheVariants as says
use Rattle.proof_reports.specs.Below.chart_lines.declared.charts.statement.Statement.{Statement}
use Rattle.proof_reports.specs.Below.hubs.HubTable.Ranges.{is_within}
use Rattle.proof_reports.specs.Below.hubs.SetupsWords.Wiring.{Wiring}
use Rattle.proof_reports.specs.Below.hubs.declared.hub.Hub.TheVariants.{CSD, IX}
use Rattle.proof_reports.specs.Below.machine.Machine.{closes}
use Rattle.proof_cycles.specs.Below.net.declared.cycle.Point.TheVariants.{Row}
use Rattle.proof_reports.specs.PrintedLines.Shown.Shown.{Characters}
use Rattle.proof_reports.specs.PrintedLines.Shown.{digit_set, card_sends}
use Rattle.report_definition.specs.Amounts.{columns_in, digits_on, is_negated, is_negative_by}
use Rattle.report_definition.specs.BodyLines.{is_shown}
use Rattle.proof_reports.specs.Below.selectors.Indicate.{is_latch_set}
use Rattle.proof_reports.specs.Below.selectors.Pilots.{is_normal, is_transferred}
use Rattle.proof_reports.specs.Below.selectors.Splits.{is_digit_row}
use Rattle.proof_reports.specs.Below.stations.Punches.{is_punched_at}
use Rattle.wiring_table.specs.Figures.{IsText, IsAmount, IsSigned, HasPunch, HasPunchAt, rule_of, digit_wheel, point_wheel, mark_wheel, mark_text}
use Rattle.wiring_table.specs.Parts.{pilot_for, negative_side}
use Rattle.proof_reports.specs.WiredPanels.CycleRows.{CycleRow, reads, is_closed}
use Rattle.proof_reports.specs.WiredPanels.CycleAsks.PrintedRows.{IsCardRow}
use Rattle.proof_reports.proofs.WiredPanels.Contacts.{closes-IX, closes-CSD, closes-PIT, closes-PIN}
use Rattle.proof_reports.proofs.Below.chart_rules.Laws.{good-field, amount-valid, one-digit}
use Rattle.proof_reports.proofs.WiredPanels.CycleAsks.WheelRows.{SendsRow}
use Rattle.proof_reports.proofs.WiredPanels.CycleAsks.WheelRowsDigits.{digit-in}
use Rattle.proof_reports.proofs.WiredPanels.CycleAsks.WheelRowsField.{left-of, right-of, both-of, field-sent, text-sends, amount-sends, length-digits_on, digit-on, digit-zone, amount-shown}
use Rattle.proof_reports.proofs.WiredPanels.CycleAsks.WheelRowsFigure.FigureSends.{digit as figure_digit, point as figure_point, marked as figure_marked}
use Rattle.proof_reports.proofs.WiredPanels.CycleAsks.WheelRowsFigure.{FigureSends, amount_shown, figure-sent}
use Rattle.proof_reports.proofs.WiredPanels.CycleAsks.WheelRowsText.{columns-stand, columns-sent}

pub control-low : (its : ControlLevel) → 1 ≤ control_number its
control-low control.Minor = omega arith
control-low control.Intermediate = omega arith
control-low control.Major = omega arith

pub control-high : (its : ControlLevel) → control_number its ≤ 3
control-high control.Minor = omega arith
control-high control.Intermediate = omega arith
control-high control.Major = omega arith

module _ (wiring : Wiring) (card : List ℕ) (opens : ℕ) (at : CycleRow) (row : IsCardRow wiring card opens at) where
  abbrev pub Sends : Statement → ℕ → Type 0
  Sends statement v = SendsRow (card_sends at.chart.lines opens card) statement v (row_number at.row)

  -- the card at second reading
  read-has : (column : ℕ) → reads at column ≡ true → has_row (column_of card column) (row_number at.row) ≡ true
  read-has column on =
      right-of (is_within column 80) (has_row (column_of card column) (row_number at.row))
      (sym (ap (λ c. is_punched_at c at.row column) row.read.second) ∙ on)

  pub has-read : (column : ℕ) → 1 ≤ column → column ≤ 80 → has_row (column_of card column) (row_number at.row) ≡ true → reads at column ≡ true
  has-read column from to on =
      let within : is_within column 80 ≡ true = grind (arith, nat_tests, from, to) in
      ap (λ c. is_punched_at c at.row column) row.read.second ∙ both-of (is_within column 80) _ within on

  -- contacts
  pub closed-IX : (level x : ℕ) → is_closed at (IX level x) ≡ (is_latch_set at.old.indicate level && is_within x 30)
  closed-IX level x =
      ap (λ c. closes at.old c (Row at.row) (IX level x)) row.cycle ∙ closes-IX at.old (Row at.row) level x row.on_panel.between.ordered

  negative-closed : (rule : SignRule) (pilot k : ℕ) (name : List ℕ) → IsSigned at.chart.lines name rule → pilot_for at.plan name ≡ Some pilot
      → is_closed at (negative_side rule pilot (2 + k)) ≡ true → is_negative_by rule card ≡ true
  negative-closed (sign.X c) pilot k name is served shut =
      let e = sym (closes-PIT at.old at.cycle (Row at.row) pilot (2 + k) row.on_panel.between.ordered) ∙ shut in
      sym (row.read.pilots name is.field (sign.X c) pilot is.named is.ruled served) ∙ left-of (is_transferred at.old.pilots pilot) (is_within (2 + k) 3) e
  negative-closed (sign.NX c) pilot k name is served shut =
      let e = sym (closes-PIN at.old at.cycle (Row at.row) pilot (2 + k) row.on_panel.between.ordered) ∙ shut in
      let f : is_normal at.old.pilots pilot ≡ true = left-of (is_normal at.old.pilots pilot) (is_within (2 + k) 3) e in
      by (is_within pilot 16) (slice_index_or at.old.pilots.transferred (pilot - 1) false) (has_row (column_of card c) 11) f
      (row.read.pilots name is.field (sign.NX c) pilot is.named is.ruled served)
    where
      by : (a b d : Bool) → (a && not b) ≡ true → (a && b) ≡ d → not d ≡ true
      by true false d on same = ap not (sym same)
      by true true d on same = cc
      by false b d on same = cc

  pub closed-negative : (rule : SignRule) (pilot k : ℕ) (name : List ℕ) → IsSigned at.chart.lines name rule → pilot_for at.plan name ≡ Some pilot
      → k ≤ 1 → is_within pilot 16 ≡ true → is_negative_by rule card ≡ true → is_closed at (negative_side rule pilot (2 + k)) ≡ true
  closed-negative (sign.X c) pilot k name is served few within on =
      let place : is_within (2 + k) 3 ≡ true = grind (arith, nat_tests, few) in
      closes-PIT at.old at.cycle (Row at.row) pilot (2 + k) row.on_panel.between.ordered
      ∙ both-of (is_transferred at.old.pilots pilot) (is_within (2 + k) 3) (row.read.pilots name is.field (sign.X c) pilot is.named is.ruled served ∙ on) place
  closed-negative (sign.NX c) pilot k name is served few within on =
      let place : is_within (2 + k) 3 ≡ true = grind (arith, nat_tests, few) in
      closes-PIN at.old at.cycle (Row at.row) pilot (2 + k) row.on_panel.between.ordered
      ∙ both-of (is_normal at.old.pilots pilot) (is_within (2 + k) 3)
      (by (is_within pilot 16) (slice_index_or at.old.pilots.transferred (pilot - 1) false) (has_row (column_of card c) 11) within
      (row.read.pilots name is.field (sign.NX c) pilot is.named is.ruled served) on) place
    where
      by : (a b d : Bool) → a ≡ true → (a && b) ≡ d → not d ≡ true → (a && not b) ≡ true
      by true b d on same none = ap not same ∙ none
      by false b d on same none = cc

  -- what a text sends
  pub text-row : (wheel : ℕ) (name : List ℕ) (how : DetailOption) (field : Field) (j : ℕ) → IsText at.chart.lines name field → j < columns_of field
      → is_shown how opens ≡ true → reads at (field.first + j) ≡ true → Sends (says.DetailField wheel name how) (wheel + j)
  text-row wheel name how field j is within on read = record {
    shown = Characters wheel (map (column_of card) (columns_in field));
    is_sent = field-sent at.chart.lines opens card wheel name how field on is.named
        ∙ ap Some (text-sends card wheel (mark_shown how) field field.kind is.holds_text);
    there = columns-stand wheel card field j within;
    on = ap (λ s. has_row s (row_number at.row)) (columns-sent wheel card field j within) ∙ read-has (field.first + j) read;
  }

  -- what an amount sends
  figure-row : (wheel : ℕ) (name : List ℕ) (how : DetailOption) (field : Field) {v : ℕ} → IsAmount at.chart.lines name field
      → is_shown how opens ≡ true
      → FigureSends wheel (columns_of field) (decimals_of field.kind) (mark_shown how) (digits_on field card) (is_negated field.kind card)
      (row_number at.row) v
      → Sends (says.DetailField wheel name how) v
  figure-row wheel name how field {v} is on sends =
      let good = good-field at.chart row.on_panel.panel.lawful name field is.named in
      let sent = figure-sent wheel (columns_of field) (decimals_of field.kind) (mark_shown how) (digits_on field card) (is_negated field.kind card)
      (row_number at.row) good.decimals (length-digits_on field card) sends in
      record {
        shown = amount_shown wheel (columns_of field) (decimals_of field.kind) (mark_shown how) (digits_on field card) (is_negated field.kind card);
        is_sent = field-sent at.chart.lines opens card wheel name how field on is.named
            ∙ ap Some (amount-sends card wheel (mark_shown how) field field.kind is.holds_amount);
        there = sent.0;
        on = sent.1;
      }

  -- a digit that the card has is sent
  digit-row : (wheel : ℕ) (name : List ℕ) (how : DetailOption) (field : Field) (position : ℕ) → IsAmount at.chart.lines name field
      → is_shown how opens ≡ true → 1 ≤ position → position ≤ columns_of field → reads at (field.last + 1 - position) ≡ true
      → is_digit_row at.row ≡ true
      → FigureSends wheel (columns_of field) (decimals_of field.kind) (mark_shown how) (digits_on field card) (is_negated field.kind card)
      (row_number at.row) (digit_wheel wheel (columns_of field) (decimals_of field.kind) position)
  digit-row wheel name how field position is on from to read low =
      let good = good-field at.chart row.on_panel.panel.lawful name field is.named in
      let valid = amount-valid at.chart card name field row.read.valid is.named is.holds_amount in
      let few = one-digit field card (field.last + 1 - position) valid (omega (arith, from, to)) (omega (arith, from, to, good.card.order)) in
      figure_digit position from to
      (ap (λ o. has_row (digit_set o) (row_number at.row)) (digit-on field card position good from to)
      ∙ digit-in (column_of card (field.last + 1 - position)) at.row few
      ∙ both-of (has_row (column_of card (field.last + 1 - position)) (row_number at.row)) (is_digit_row at.row)
      (read-has (field.last + 1 - position) read) low)

  negated : (name : List ℕ) (rule : SignRule) (field : Field) → IsSigned at.chart.lines name rule → field_named at.chart.lines name ≡ Some field
      → rule_of field.kind ≡ Some rule
  negated name rule field is named = let e : is.field ≡ field = one is.named named in sym (ap (λ f. rule_of f.kind) e) ∙ is.ruled
    where
      one : {a b : Field} → field_named at.chart.lines name ≡ Some a → field_named at.chart.lines name ≡ Some b → a ≡ b
      one p q = cc

  pub negated-by : (kind : FieldKind) (rule : SignRule) → rule_of kind ≡ Some rule → is_negated kind card ≡ is_negative_by rule card
  negated-by holds.Text rule is = cc
  negated-by (holds.Amount decimals None) rule is = cc
  negated-by (holds.Amount decimals (Some its)) rule is = let e : its ≡ rule = cc in ap (λ r. is_negative_by r card) e

  ruled-amount : (kind : FieldKind) (rule : SignRule) → rule_of kind ≡ Some rule → is_amount kind ≡ true
  ruled-amount holds.Text rule is = cc
  ruled-amount (holds.Amount decimals its) rule is = refl

  -- a digit of an amount, straight or through a split
  pub digit-sends : (line : Line) (place : ℕ) (wheel : ℕ) (name : List ℕ) (how : DetailOption) (field : Field) (position : ℕ)
      → slice_get at.chart.lines place ≡ Some line → line.statement ≡ says.DetailField wheel name how → IsAmount at.chart.lines name field
      → 1 ≤ position → position ≤ columns_of field → sign_column field.kind ≢ Some (field.last + 1 - position)
      → reads at (field.last + 1 - position) ≡ true
      → Sends (says.DetailField wheel name how) (digit_wheel wheel (columns_of field) (decimals_of field.kind) position)
  digit-sends line place wheel name how field position listed says_it is from to apart read =
      let on = amount-shown at.chart place line wheel name how field opens row.on_panel.panel.lawful listed says_it is in
      let good = good-field at.chart row.on_panel.panel.lawful name field is.named in
      let low = digit-zone field card (field.last + 1 - position) at.row (amount-valid at.chart card name field row.read.valid is.named is.holds_amount)
      (omega (arith, from, to)) (omega (arith, from, to, good.card.order)) apart (read-has (field.last + 1 - position) read) in
      figure-row wheel name how field is on (digit-row wheel name how field position is on from to read low)

  pub split-sends : (line : Line) (place : ℕ) (wheel : ℕ) (name : List ℕ) (how : DetailOption) (field : Field) (position split : ℕ)
      → slice_get at.chart.lines place ≡ Some line → line.statement ≡ says.DetailField wheel name how → IsAmount at.chart.lines name field
      → 1 ≤ position → position ≤ columns_of field → reads at (field.last + 1 - position) ≡ true → is_closed at (CSD split) ≡ true
      → Sends (says.DetailField wheel name how) (digit_wheel wheel (columns_of field) (decimals_of field.kind) position)
  split-sends line place wheel name how field position split listed says_it is from to read shut =
      let on = amount-shown at.chart place line wheel name how field opens row.on_panel.panel.lawful listed says_it is in
      let low = left-of (is_digit_row at.row) (is_within split 16)
      (sym (closes-CSD at.old at.cycle at.row split row.on_panel.between.ordered) ∙ shut) in
      figure-row wheel name how field is on (digit-row wheel name how field position is on from to read low)

  -- its point, and its mark
  pub point-sends : (line : Line) (place : ℕ) (wheel : ℕ) (name : List ℕ) (how : DetailOption) (field : Field)
      → slice_get at.chart.lines place ≡ Some line → line.statement ≡ says.DetailField wheel name how → IsAmount at.chart.lines name field
      → 0 < decimals_of field.kind → HasPunch 46 (row_number at.row)
      → Sends (says.DetailField wheel name how) (point_wheel wheel (columns_of field) (decimals_of field.kind))
  point-sends line place wheel name how field listed says_it is some punch =
      figure-row wheel name how field is
      (amount-shown at.chart place line wheel name how field opens row.on_panel.panel.lawful listed says_it is) (figure_point some punch)

  pub mark-sends : (wheel : ℕ) (name : List ℕ) (mark : Mark) (rule : SignRule) (field : Field) (pilot k : ℕ) → IsSigned at.chart.lines name rule
      → field_named at.chart.lines name ≡ Some field → pilot_for at.plan name ≡ Some pilot
      → HasPunchAt (mark_text mark) k (row_number at.row) → is_closed at (negative_side rule pilot (2 + k)) ≡ true
      → Sends (says.DetailField wheel name (shown.Marked mark)) (mark_wheel wheel (columns_of field) (decimals_of field.kind) + k)
  mark-sends wheel name mark rule field pilot k is named served punch shut =
      let ruled = negated name rule field is named in
      figure-row wheel name (shown.Marked mark) field (record { named = named; holds_amount = ruled-amount field.kind rule ruled }) refl
      (figure_marked mark k refl (negated-by field.kind rule ruled ∙ negative-closed rule pilot k name is served shut) punch)

  -- an indicated text
  pub indicated-sends : (wheel : ℕ) (name : List ℕ) (level : ControlLevel) (field : Field) (j x : ℕ) → IsText at.chart.lines name field
      → j < columns_of field → reads at (field.first + j) ≡ true → is_closed at (IX (control_number level) x) ≡ true
      → Sends (says.DetailField wheel name (shown.Indicated level)) (wheel + j)
  indicated-sends wheel name level field j x is within read shut =
      text-row wheel name (shown.Indicated level) field j is within
      (sym (row.latches (control_number level) (control-low level) (control-high level))
      ∙ left-of (is_latch_set at.old.indicate (control_number level)) (is_within x 30) (sym (closed-IX (control_number level) x) ∙ shut))
      read
