-- What a total keeps that is not out of its digits.
use Rattle.std.proofs.Common.{◌≡◌, ℕ, ◌≤◌, true, false, Some, is_some, arith}
use Rattle.std.proofs.lemmas.Bool.Decides.{nat_tests}
use Rattle.chart_lines.specs.ChartsWords.Field.{columns_of, sign_column}
use Rattle.chart_lines.specs.declared.charts.statement.Field.{Field}
use Rattle.chart_line_rules.specs.FieldRules.Digits.{is_out_of_digits}

-- Its digits are as many as its field's or more, and 16 at most, or 15 with a sign.
pub record AreGoodDigits (field : Field) (digits : ℕ) : Type 0 where
  pub enough : columns_of field ≤ digits
  pub few : digits ≤ 16
  pub signed : is_some (sign_column field.kind) ≡ true → digits ≤ 15

pub digits-kept : (field : Field) (digits : ℕ) → is_out_of_digits (Some field) digits ≡ false → AreGoodDigits field digits
digits-kept field digits kept = record {
  enough = grind (arith, nat_tests, kept);
  few = grind (arith, nat_tests, kept);
  signed = λ has. grind (arith, nat_tests, kept, has);
}
