-- The line of a card: what the chart's lines send to it comes from their items, and spells what the report puts there.
use Rattle.std.proofs.Common.{◌≡◌, ◌∙◌, refl, ap, subst, ℕ, if◌then◌else◌, Bool, true, false, List, map, Contains, Option, Some, None, option_map, arith}
use Rattle.wiring_table.specs.Below.chart_lines.ChartsWords.Chart.{Chart}
use Rattle.wiring_table.specs.Below.chart_lines.ChartsWords.Field.{columns_of, decimals_of, is_amount}
use Rattle.wiring_table.specs.Below.chart_lines.ChartsWords.Literals.{HaveLiteralTexts, literal_in}
use Rattle.wiring_table.specs.Below.chart_lines.declared.charts.chart.Line.{Line}
use Rattle.wiring_table.specs.Below.chart_lines.declared.charts.statement.BodyLine.TheVariants as body
use Rattle.wiring_table.specs.Below.chart_lines.declared.charts.statement.DetailOption.{DetailOption}
use Rattle.wiring_table.specs.Below.chart_lines.declared.charts.statement.Field.{Field}
use Rattle.wiring_table.specs.Below.chart_lines.declared.charts.statement.FieldKind.{FieldKind}
use Rattle.wiring_table.specs.Below.chart_lines.declared.charts.statement.FieldKind.TheVariants as holds
use Rattle.wiring_table.specs.Below.chart_lines.declared.charts.statement.Statement.{Statement}
use Rattle.wiring_table.specs.Below.chart_lines.declared.charts.statement.Statement.TheVariants as says
use Rattle.wiring_table.specs.Below.chart_line_rules.declared.print_rules.items.Figure.{Figure}
use Rattle.wiring_table.specs.Below.chart_line_rules.declared.print_rules.items.PrintedLine.{PrintedLine}
use Rattle.wiring_table.specs.Below.chart_line_rules.declared.print_rules.items.PrintedLine.TheVariants.{Heading, Body}
use Rattle.wiring_table.specs.Below.chart_line_rules.FieldRules.Fields.{field_named}
use Rattle.wiring_table.specs.Below.chart_line_rules.PrintRules.Items.{is_same_line, mark_shown, detail_item}
use Rattle.wiring_table.specs.Below.chart_rules.Rules.{IsLawful}
use Rattle.wiring_table.specs.Below.chart_rules.ValidCard.{IsText, IsValidCard, IsValidField, IsValidKind}
use Rattle.wiring_table.specs.Below.chart_line_rules.PrintRules.Wheels.{is_body}
use Rattle.report_definition.specs.Amounts.{digits_on, is_negated}
use Rattle.report_definition.specs.BodyLines.{piece_at, card_piece, field_on, amount_on, is_shown}
use Rattle.wiring_table.specs.Figures.{IsFigure, on_detail, detail_emitter}
use Rattle.proof_reports.specs.PrintedLines.Laws.{CardLinesPrint}
use Rattle.proof_reports.specs.PrintedLines.Shown.{Shown, Characters, Amount, card_sends, field_sends, set_of_character}
use Rattle.proof_reports.proofs.PrintedLines.AmountLines.{card-amount}
use Rattle.proof_reports.proofs.PrintedLines.CardDigits.{digits-length}
use Rattle.proof_reports.proofs.PrintedLines.ItemText.{Spells}
use Rattle.wiring_table.proofs.Below.chart_rules.Laws.{IsGoodField, good-field, named-valid}
use Rattle.proof_reports.proofs.PrintedLines.Lines.{SpellsPiece, body-line}
use Rattle.proof_reports.proofs.PrintedLines.Sending.{IsItems, IsSending}
use Rattle.proof_reports.proofs.PrintedLines.Spelled.{literal-spelled, columns-spelled, literal-item, text-item, amount-item}

-- the items of cards stand on the line of the card
abbrev pub on_card_line : PrintedLine → Bool
on_card_line (Body body.Detail) = true
on_card_line other = false

-- what a field on the line of a card sends is its item's
field-items : (lines : List Line) (card : List ℕ) (wheel : ℕ) (name : List ℕ) (how : DetailOption) (field : Field)
    → field_named lines name ≡ Some field → (kind : FieldKind) → field.kind ≡ kind
    → IsItems lines on_card_line (says.DetailField wheel name how) (field_sends card wheel (mark_shown how) field kind)
field-items lines card wheel name how field named holds.Text is = record {
  amount = tt;
  line = Body body.Detail;
  is_on = refl;
  is_item =
      ap (option_map (λ f. detail_item wheel how (columns_of f) f.kind)) named
      ∙ ap (λ k. Some (detail_item wheel how (columns_of field) k)) is
      ∙ text-item (Body body.Detail) wheel card field;
}
field-items lines card wheel name how field named (holds.Amount decimals rule) is =
    let figure : ℕ → Figure = λ d. record { digits = columns_of field; decimals = d; mark = mark_shown how } in
    record {
      amount = (
        detail_emitter,
        subst (λ d. IsFigure lines (says.DetailField wheel name how) detail_emitter wheel (figure d)) (ap decimals_of is)
            (on_detail wheel name how field (record { named = named; holds_amount = ap is_amount is })),
        digits-length field card,
      );
      line = Body body.Detail;
      is_on = refl;
      is_item =
          ap (option_map (λ f. detail_item wheel how (columns_of f) f.kind)) named
          ∙ ap (λ k. Some (detail_item wheel how (columns_of field) k)) is
          ∙ amount-item (Body body.Detail) wheel (figure decimals) (digits_on field card) (is_negated field.kind card)
          (digits-length field card);
    }

-- what is sent to the line of a card comes from its items
card-items : (lines : List Line) (opens : ℕ) (card : List ℕ) (statement : Statement) (shown : Shown)
    → card_sends lines opens card statement ≡ Some shown → IsItems lines on_card_line statement shown
card-items lines opens card (says.DetailLiteral wheel literal) shown sent =
    let is : Characters wheel (map set_of_character literal) ≡ shown = cc in
    subst (IsItems lines on_card_line (says.DetailLiteral wheel literal)) is
    (record { amount = tt; line = Body body.Detail; is_on = refl; is_item = literal-item (Body body.Detail) wheel literal })
card-items lines opens card (says.DetailField wheel name how) shown sent =
    by (is_shown how opens) (field_named lines name) refl sent
  where
    by : (b : Bool) (o : Option Field) → field_named lines name ≡ o
        → (if b then option_map (λ field. field_sends card wheel (mark_shown how) field field.kind) o else None) ≡ Some shown
        → IsItems lines on_card_line (says.DetailField wheel name how) shown
    by false o named sent = cc
    by true None named sent = cc
    by true (Some field) named sent =
        let is : field_sends card wheel (mark_shown how) field field.kind ≡ shown = cc in
        subst (IsItems lines on_card_line (says.DetailField wheel name how)) is
        (field-items lines card wheel name how field named field.kind refl)
card-items lines opens card other shown sent = cc

-- the items of cards stand on one line
card-line : (first second : PrintedLine) → on_card_line first ≡ true → on_card_line second ≡ true → is_same_line first second ≡ true
card-line (Body body.Detail) (Body body.Detail) on also = refl
card-line other another on also = cc

card-body : (on : PrintedLine) → on_card_line on ≡ true → is_body on ≡ true
card-body (Body body.Detail) on = refl
card-body (Body (body.Total level)) on = cc
card-body (Heading heading) on = cc

pub card-sending : (lines : List Line) (opens : ℕ) (card : List ℕ) → IsSending lines on_card_line (card_sends lines opens card)
card-sending lines opens card =
    record { one = card-line; items = λ line shown there sent. card-items lines opens card line.statement shown sent }

-- a field on a valid card spells what the report shows of it
field-spells : (field : Field) (card : List ℕ) (wheel : ℕ) (how : DetailOption) → IsGoodField field → IsValidField field card
    → (kind : FieldKind) → field.kind ≡ kind
    → SpellsPiece (Some (field_sends card wheel (mark_shown how) field kind))
    (Some (piece_at wheel (field_on card (mark_shown how) field kind)))
field-spells field card wheel how good valid holds.Text is =
    let text : IsText field.first field.last card = subst (λ k. IsValidKind k field card) is valid in
    let order = good.card.order in (
      refl,
      columns-spelled card card field.first (columns_of field) (λ column low high. refl)
          (λ column low high. text column low (omega (arith, high, order))),
    )
field-spells field card wheel how good valid (holds.Amount decimals rule) is =
    let figure : ℕ → Figure = λ d. record { digits = columns_of field; decimals = d; mark = mark_shown how } in (
      refl,
      subst
          (λ d. Spells (Amount wheel (figure d) (digits_on field card) (is_negated field.kind card))
          (amount_on card (mark_shown how) field))
          (ap decimals_of is)
          (card-amount field card wheel (mark_shown how) good (subst (λ k. IsValidKind k field card) is valid)),
    )

-- each line of the chart spells what the report puts on the line of a valid card
card-spells : (chart : Chart) (opens : ℕ) (card : List ℕ) → IsLawful chart → HaveLiteralTexts chart.lines → IsValidCard chart card
    → (line : Line) → Contains chart.lines line
    → SpellsPiece (card_sends chart.lines opens card line.statement) (card_piece chart.lines opens card line.statement)
card-spells chart opens card lawful texts valid line there = by line.statement refl
  where
    shown_field : (wheel : ℕ) (name : List ℕ) (how : DetailOption) (b : Bool) (o : Option Field)
        → field_named chart.lines name ≡ o
        → SpellsPiece (if b then option_map (λ field. field_sends card wheel (mark_shown how) field field.kind) o else None)
        (if b then option_map (λ field. piece_at wheel (field_on card (mark_shown how) field field.kind)) o else None)
    shown_field wheel name how false o named = tt
    shown_field wheel name how true None named = tt
    shown_field wheel name how true (Some field) named =
        field-spells field card wheel how (good-field chart lawful name field named) (named-valid chart card name field valid named)
        field.kind refl

    by : (statement : Statement) → line.statement ≡ statement
        → SpellsPiece (card_sends chart.lines opens card statement) (card_piece chart.lines opens card statement)
    by (says.DetailLiteral wheel literal) is =
        (refl, literal-spelled literal (texts line literal there (ap literal_in is)).printable)
    by (says.DetailField wheel name how) is =
        shown_field wheel name how (is_shown how opens) (field_named chart.lines name) refl
    by other is = tt

-- the line of a valid card prints as the report has it
pub card_lines : CardLinesPrint
card_lines chart link suppress symbol opens card lawful texts jacks valid =
    body-line chart link suppress symbol on_card_line (card_sends chart.lines opens card) (card_piece chart.lines opens card)
    (record { lawful = lawful; jacks = jacks; body = card-body; sending = card-sending chart.lines opens card })
    (card-spells chart opens card lawful texts valid)
