-- What the rules of charts tell of names, of sign columns and of items.
use Rattle.std.proofs.Common.{◌≡◌, ℕ, ◌≤◌, true, false, not, ◌&&◌, nat_le, is_none, Option, Some, None, refl, sym, subst, arith}
use Rattle.chart_lines.specs.declared.charts.statement.Field.{Field}
use Rattle.wire_gen.specs.HelperKnown.{IsNamed}
use Rattle.std.proofs.lemmas.Bool.Decides.{nat_tests}
use Rattle.chart_rules.specs.Below.chart_line_rules.FieldRules.Columns.{has_good_sign}
use Rattle.wire_gen.specs.HelperKnown.{HasGoodSign}

-- a known name stands for a field
pub known-name : (found : Option Field) → is_none found ≡ false → (field : Field) × (found ≡ Some field)
known-name None is = cc
known-name (Some field) is = (field, refl)

pub named-by : (found : Option Field) (field : Field) (holds : Field → Type 0) → found ≡ Some field → holds field
    → IsNamed found holds
named-by None field holds is good = cc
named-by (Some other) field holds is good =
    let e : other ≡ field = cc in
    subst holds (sym e) good

-- a good sign column is a column of the card
pub good-sign : (sign : Option ℕ) → has_good_sign sign ≡ true → HasGoodSign sign
good-sign None is = tt
good-sign (Some column) is = (grind (arith, nat_tests, is), grind (arith, nat_tests, is))

-- an item within the wheels
pub wheels-within : (from end : ℕ) → not (nat_le 1 from && nat_le end 121) ≡ false → (1 ≤ from) × (end ≤ 121)
wheels-within from end is = (grind (arith, nat_tests, is), grind (arith, nat_tests, is))
