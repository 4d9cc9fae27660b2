-- Amounts that one pass over their columns shows to be valid.
use Rattle.std.proofs.Common.{◌≡◌, ◌∙◌, refl, sym, ap, subst, ℕ, ◌+◌, ◌-◌, ◌<◌, ◌≤◌, ◌⊎◌, inl, inr, max, true, List, arith}
use Rattle.std.proofs.lemmas.Bool.{cases_eq}
use Rattle.chart_lines.specs.ChartsWords.Field.{decimals_of, is_amount, sign_column}
use Rattle.chart_lines.specs.declared.charts.statement.Field.{Field}
use Rattle.chart_lines.specs.declared.charts.statement.FieldKind.{FieldKind}
use Rattle.chart_lines.specs.declared.charts.statement.FieldKind.TheVariants as holds
use Rattle.chart_rules.specs.ValidCard.{AreBlank, IsValidAmount, IsValidField, IsValidKind, column_of, digit_count, has_good_zone}

-- What the pass keeps before a column: how many single digits stand right before it, and blanks before these; and the zones.
pub record IsPassed (field : Field) (column digits : ℕ) (card : List ℕ) : Type 0 where
  pub from : field.first ≤ column
  pub few : digits ≤ column - field.first
  pub blanks : AreBlank field.first (column - digits) card
  pub singles : (c : ℕ) → column - digits ≤ c → c < column → digit_count (column_of card c) ≡ 1
  pub zones : (c : ℕ) → field.first ≤ c → c < column → has_good_zone (sign_column field.kind) c (column_of card c) ≡ true

-- before the first column
pub passed-none : (field : Field) (card : List ℕ) → IsPassed field field.first 0 card
passed-none field card = record {
  from = omega arith;
  few = omega arith;
  blanks = λ c low high. absurd (omega (arith, low, high));
  singles = λ c low high. absurd (omega (arith, low, high));
  zones = λ c low high. absurd (omega (arith, low, high));
}

-- a column more: a blank where no digit came before, or a single digit
pub passed-more : (field : Field) (column digits count : ℕ) (card : List ℕ) → IsPassed field column digits card
    → count ≡ digit_count (column_of card column) → count ≤ 1 → (count ≡ 0 → digits ≡ 0)
    → has_good_zone (sign_column field.kind) column (column_of card column) ≡ true → IsPassed field (column + 1) (digits + count) card
passed-more field column digits count card passed is most blank zone = by (cases_eq count 0)
  where
    zones : (c : ℕ) → field.first ≤ c → c < column + 1 → has_good_zone (sign_column field.kind) c (column_of card c) ≡ true
    zones c low high = elim (cases_eq c column) [
      | inl here ↦ ap (λ (n : ℕ). has_good_zone (sign_column field.kind) n (column_of card n)) here ∙ zone
      | inr other ↦ passed.zones c low (omega (arith, high, other))
    ]

    from : field.first ≤ column + 1
    from = let low = passed.from in omega (arith, low)

    by : (count ≡ 0) ⊎ (count ≡ 0 → ⊥) → IsPassed field (column + 1) (digits + count) card
    by (inl none) =
        let no_digits = blank none in
        record {
          from = from;
          few = omega (arith, none, no_digits);
          blanks = λ c low high. elim (cases_eq c column) [
            | inl here ↦ ap (λ (n : ℕ). digit_count (column_of card n)) here ∙ sym is ∙ none
            | inr other ↦ passed.blanks c low (omega (arith, high, other, none, no_digits))
          ];
          singles = λ c low high. absurd (omega (arith, low, high, none, no_digits));
          zones = zones;
        }
    by (inr some) =
        let one : count ≡ 1 = omega (arith, most, some) in
        let less = passed.few in
        let low_end = passed.from in
        record {
          from = from;
          few = omega (arith, one, less, low_end);
          blanks = λ c low high. passed.blanks c low (omega (arith, high, one));
          singles = λ c low high. elim (cases_eq c column) [
            | inl here ↦ ap (λ (n : ℕ). digit_count (column_of card n)) here ∙ sym is ∙ one
            | inr other ↦ passed.singles c (omega (arith, low, one)) (omega (arith, high, other))
          ];
          zones = zones;
        }

-- after the last column
pub passed-all : (field : Field) (column digits : ℕ) (card : List ℕ) → is_amount field.kind ≡ true → column ≡ field.last + 1
    → IsPassed field column digits card → (digits ≡ 0) ⊎ (max (decimals_of field.kind) 1 ≤ digits) → IsValidField field card
passed-all field column digits card amount end passed enough = by field.kind refl
  where
    many : (digits ≡ 0) ⊎ (max (decimals_of field.kind) 1 ≤ digits)
        → (column - digits ≡ field.last + 1) ⊎ (column - digits + max (decimals_of field.kind) 1 ≤ field.last + 1)
    many (inl none) = inl (omega (arith, end, none))
    many (inr some) = let less = passed.few in let low = passed.from in inr (omega (arith, end, some, less, low))

    whole : IsValidAmount field card
    whole =
        let less = passed.few in
        let low = passed.from in
        record {
          digits = record {
            start = column - digits;
            from = omega (arith, less, low);
            to = omega (arith, end);
            blanks = passed.blanks;
            digits = λ c above below. passed.singles c above (omega (arith, below, end));
            enough = many enough;
          };
          zones = λ c above below. passed.zones c above (omega (arith, below, end));
        }

    by : (kind : FieldKind) → field.kind ≡ kind → IsValidField field card
    by holds.Text is = let t = sym (ap is_amount is) ∙ amount in cc
    by (holds.Amount decimals rule) is = subst (λ kind. IsValidKind kind field card) (sym is) whole
