-- Helper words of the code: the columns of amounts, as they are tested all at once.
use Rattle.std.specs.Prelude.{◌≡◌, ℕ, ◌+◌, ◌-◌, ◌<◌, ◌≤◌, true, false, max, List, Some, slice_get, slice_index}
use Rattle.card_code.specs.CardCode.{has_row}
use Rattle.chart_lines.specs.ChartsWords.Field.{columns_of, decimals_of, is_amount, sign_column}
use Rattle.chart_lines.specs.declared.charts.statement.Field.{Field}
use Rattle.chart_rules.specs.ValidCard.{EachColumn, digit_count, is_sign}
use Rattle.chart_rules.specs.declared.amounts.AmountColumns.{AmountColumns}

-- no field of a list has more decimals than columns
abbrev pub AreSized : List Field → Type 0
AreSized fields = (place : ℕ) (field : Field) → slice_get fields place ≡ Some field → decimals_of field.kind ≤ columns_of field

-- The columns of an amount are marked: all of them, those that are not its sign column, those behind its first, and of its last columns, as
-- many as it has digits at least, those behind the first of these.
pub record IsAmountMarked (columns : AmountColumns) (field : Field) : Type 0 where
  pub amounts : EachColumn field.first field.last (λ column. slice_index columns.amounts (column - 1) ≡ 65535)
  pub unsigned :
      EachColumn field.first field.last
      (λ column. is_sign (sign_column field.kind) column ≡ false → slice_index columns.unsigned (column - 1) ≡ 65535)
  pub inner : EachColumn (field.first + 1) field.last (λ column. slice_index columns.inner (column - 1) ≡ 65535)
  pub needed :
      EachColumn (field.last + 2 - max (decimals_of field.kind) 1) field.last
      (λ column. slice_index columns.needed (column - 1) ≡ 65535)
  pub within : field.last ≤ columns.end

-- the amounts among the first fields of a list are marked
abbrev pub AreAmountsMarked : List Field → ℕ → AmountColumns → Type 0
AreAmountsMarked fields count columns =
    (place : ℕ) (field : Field) → place < count → slice_get fields place ≡ Some field → is_amount field.kind ≡ true
    → IsAmountMarked columns field

-- what is marked stays marked
pub record Keeps (old new : AmountColumns) : Type 0 where
  pub amounts : (k : ℕ) → slice_index old.amounts k ≡ 65535 → slice_index new.amounts k ≡ 65535
  pub unsigned : (k : ℕ) → slice_index old.unsigned k ≡ 65535 → slice_index new.unsigned k ≡ 65535
  pub inner : (k : ℕ) → slice_index old.inner k ≡ 65535 → slice_index new.inner k ≡ 65535
  pub needed : (k : ℕ) → slice_index old.needed k ≡ 65535 → slice_index new.needed k ≡ 65535
  pub end : old.end ≤ new.end

-- The first columns of a card hold what their marks ask: an amount's have one digit at most and not row 12, an unsigned one not row 11; an
-- inner one has a digit where the column before it has one, and a needed one has none where the column before it has none.
pub record ArePlain (columns : AmountColumns) (count : ℕ) (card : List ℕ) : Type 0 where
  pub single : (k : ℕ) → k < count → slice_index columns.amounts k ≡ 65535 → digit_count (slice_index card k) ≤ 1
  pub low : (k : ℕ) → k < count → slice_index columns.amounts k ≡ 65535 → has_row (slice_index card k) 12 ≡ false
  pub unsigned : (k : ℕ) → k < count → slice_index columns.unsigned k ≡ 65535 → has_row (slice_index card k) 11 ≡ false
  pub inner :
      (k : ℕ) → k + 1 < count → slice_index columns.inner (k + 1) ≡ 65535 → digit_count (slice_index card (k + 1)) ≡ 0
      → digit_count (slice_index card k) ≡ 0
  pub needed :
      (k : ℕ) → k + 1 < count → slice_index columns.needed (k + 1) ≡ 65535 → digit_count (slice_index card k) ≡ 0
      → digit_count (slice_index card (k + 1)) ≡ 0
