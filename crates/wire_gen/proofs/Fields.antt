-- The field of a name, and the punches of marks.
use Rattle.std.proofs.Common.{◌≡◌, ℕ, zero, suc, [], ◌∷◌, true, Option, Some, None, slice_get, refl, subst}
use Rattle.chart_lines.specs.ChartsWords.Field.{is_amount}
use Rattle.chart_lines.specs.declared.charts.statement.Field.{Field}
use Rattle.chart_lines.specs.declared.charts.statement.FieldKind.{FieldKind}
use Rattle.chart_lines.specs.declared.charts.statement.FieldKind.TheVariants as holds
use Rattle.chart_lines.specs.declared.charts.statement.Mark.{Mark}
use Rattle.chart_lines.specs.declared.charts.statement.Mark.TheVariants as marks
use Rattle.chart_lines.specs.declared.charts.statement.SignRule.{SignRule}
use Rattle.wiring_lines.specs.Below.wiring_table.Figures.{HasPunchAt, rule_of, mark_text}
use Rattle.wire_gen.specs.HelperKnown.{IsNamed}
use Rattle.chart_lines.specs.Below.card_code.CardCode.{code, rows_of, set_of}

-- a field with a sign rule is an amount
pub ruled-amount : (kind : FieldKind) (rule : SignRule) → rule_of kind ≡ Some rule → is_amount kind ≡ true
ruled-amount holds.Text rule is = cc
ruled-amount (holds.Amount decimals other) rule is = refl

-- a name with a property stands for a field
pub named-field : (found : Option Field) (holds : Field → Type 0) → IsNamed found holds
    → (field : Field) × (found ≡ Some field) × holds field
named-field None holds is = absurd is
named-field (Some field) holds is = (field, refl, is)

-- and that field has the property
pub named-has : (found : Option Field) (holds : Field → Type 0) → IsNamed found holds → (field : Field) → found ≡ Some field
    → holds field
named-has None holds is field same = absurd is
named-has (Some other) holds is field same =
    let e : other ≡ field = cc in
    subst holds e is

-- each character of a mark has a punch
pub mark-punch : (mark : Mark) (k character : ℕ) → slice_get (mark_text mark) k ≡ Some character
    → (row : ℕ) × HasPunchAt (mark_text mark) k row
unfolding code rows_of
mark-punch marks.Credit zero character is =
    (12, record { character = 67; there = refl; punch = record { set = set_of (12 ∷ 3 ∷ []); coded = refl; punched = refl } })
mark-punch marks.Credit (suc zero) character is =
    (11, record { character = 82; there = refl; punch = record { set = set_of (11 ∷ 9 ∷ []); coded = refl; punched = refl } })
mark-punch marks.Credit (suc (suc k)) character is = cc
mark-punch marks.Minus zero character is =
    (11, record { character = 45; there = refl; punch = record { set = set_of (11 ∷ []); coded = refl; punched = refl } })
mark-punch marks.Minus (suc k) character is = cc
