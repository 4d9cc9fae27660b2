-- Helpers of the code: a character of a text that stands over another, and fields that can be read.
use Rattle.std.specs.Prelude.{◌≡◌, ◌≤◌, true, ℕ, ◌+◌, ◌-◌, ◌&&◌, List, length, nat_le, nat_lt, slice_index_or, if◌then◌else◌}
use Rattle.chart_lines.specs.ChartsWords.Field.{decimals_of, is_amount}
use Rattle.chart_lines.specs.declared.charts.statement.Field.{Field}
use Rattle.chart_rules.specs.HelperOnCard.{IsOnCard}
use Rattle.report_misfits.specs.HelperAmounts.{IsGoodAmount}

-- the character on a wheel where a text stands from a wheel on, and another below it
abbrev pub over : (first : ℕ) → (text : List ℕ) → (wheel below : ℕ) → ℕ
over first text wheel below =
    if nat_le first wheel && nat_lt wheel (first + length text) then slice_index_or text (wheel - first) 32 else below

-- a field whose columns are on the card, and, if it is an amount, one whose value can be told
pub record IsReadable (field : Field) : Type 0 where
  pub on_card : IsOnCard field
  pub amount : is_amount field.kind ≡ true → IsGoodAmount field
  pub decimals : decimals_of field.kind ≤ 8
