-- Literals and texts spell themselves, and what is sent comes from the items of its lines.
use Rattle.std.proofs.Common.{◌≡◌, ◌∙◌, refl, sym, ap, ap₂, ℕ, zero, suc, ◌+◌, ◌<◌, ◌≤◌, IsTrue, Bool, true, List, [], ◌∷◌, length, map, Option, Some, None, arith}
use Rattle.std.specs.List.{list_all, range_with_len}
use Rattle.std.proofs.lemmas.List.{length-map}
use Rattle.std.proofs.lemmas.List.FromFn.{length-map-range_with_len}
use Rattle.std.proofs.lemmas.Bool.{and_parts}
use Rattle.print_unit.specs.Below.card_code.CardCode.{deck_character, print_character}
use Rattle.wiring_table.specs.Below.chart_lines.ChartsWords.Field.{columns_of}
use Rattle.wiring_table.specs.Below.chart_lines.ChartsWords.Literal.{is_printable}
use Rattle.wiring_table.specs.Below.chart_lines.declared.charts.statement.Field.{Field}
use Rattle.wiring_table.specs.Below.chart_line_rules.declared.print_rules.items.Figure.{Figure}
use Rattle.wiring_table.specs.Below.chart_line_rules.declared.print_rules.items.PrintedLine.{PrintedLine}
use Rattle.wiring_table.specs.Below.chart_line_rules.PrintRules.Items.{text_item, figure_item}
use Rattle.wiring_table.specs.Below.chart_rules.ValidCard.{column_of, is_printed}
use Rattle.print_unit.specs.ZeroControl.{character_of}
use Rattle.report_definition.specs.Amounts.{columns_in}
use Rattle.proof_reports.specs.PrintedLines.Shown.{Characters, Amount, set_of_character}
use Rattle.proof_reports.proofs.PrintedLines.Characters.{received, prints-set, prints-literal}
use Rattle.proof_reports.proofs.PrintedLines.ItemText.{amount-width}
use Rattle.proof_reports.proofs.PrintedLines.Sending.{item_for}

-- a literal spells itself
pub literal-spelled : (literal : List ℕ) → IsTrue (list_all is_printable literal)
    → map (λ set. character_of (received set)) (map set_of_character literal) ≡ literal
literal-spelled [] printable = refl
literal-spelled (character ∷ literal) printable =
    let parts = and_parts (is_printable character) (list_all is_printable literal) printable in
    ap₂ (λ c text. c ∷ text) (prints-literal character parts.0) (literal-spelled literal parts.1)

-- columns that hold characters spell the print characters of columns that are the same
pub columns-spelled : (held original : List ℕ) (from count : ℕ)
    → ((column : ℕ) → from ≤ column → column < from + count → column_of held column ≡ column_of original column)
    → ((column : ℕ) → from ≤ column → column < from + count → is_printed (deck_character (column_of original column)) ≡ true)
    → map (λ set. character_of (received set)) (map (column_of held) (range_with_len from count))
    ≡ map (λ column. print_character (column_of original column)) (range_with_len from count)
columns-spelled held original from zero same text = refl
columns-spelled held original from (suc count) same text =
    ap₂ (λ c line. c ∷ line)
    (ap (λ set. character_of (received set)) (same from (omega arith) (omega arith))
    ∙ character (column_of original from) (text from (omega arith) (omega arith)))
    (columns-spelled held original (from + 1) count
    (λ column low high. same column (omega (arith, low)) (omega (arith, high)))
    (λ column low high. text column (omega (arith, low)) (omega (arith, high))))
  where
    character : (set : ℕ) → is_printed (deck_character set) ≡ true → character_of (received set) ≡ print_character set
    character set printed = by (deck_character set) refl printed
      where
        by : (o : Option ℕ) → deck_character set ≡ o → is_printed o ≡ true → character_of (received set) ≡ print_character set
        by None none printed = cc
        by (Some c) coded printed = prints-set set c coded

-- a literal that is sent is its item's
pub literal-item : (on : PrintedLine) (wheel : ℕ) (literal : List ℕ)
    → Some (text_item on wheel (length literal)) ≡ Some (item_for on (Characters wheel (map set_of_character literal)))
literal-item on wheel literal = ap (λ n. Some (text_item on wheel n)) (sym (length-map literal set_of_character))

-- and so is a text
pub text-item : (on : PrintedLine) (wheel : ℕ) (card : List ℕ) (field : Field)
    → Some (text_item on wheel (columns_of field)) ≡ Some (item_for on (Characters wheel (map (column_of card) (columns_in field))))
text-item on wheel card field =
    ap (λ n. Some (text_item on wheel n)) (sym (length-map-range_with_len (column_of card) field.first (columns_of field)))

-- and an amount with all its digits
pub amount-item : (on : PrintedLine) (wheel : ℕ) (figure : Figure) (columns : List (Option ℕ)) (negative : Bool)
    → length columns ≡ figure.digits
    → Some (figure_item on wheel figure) ≡ Some (item_for on (Amount wheel figure columns negative))
amount-item on wheel figure columns negative long =
    ap (λ n. Some (record { line = on; first = wheel; end = wheel + n; figure = Some figure }))
    (sym (amount-width wheel figure columns negative long))
