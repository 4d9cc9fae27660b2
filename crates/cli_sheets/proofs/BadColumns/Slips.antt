-- What is wrong with a column of a field, and what isn't.
use Rattle.std.proofs.Common.{◌≡◌, ℕ, ◌≤◌, ◌==◌, ◌&&◌, ◌||◌, not, Bool, true, false, cond, Option, Some, None, nat_lt, refl, ap, arith}
use Rattle.std.proofs.lemmas.Bool.Decides.{nat_tests}
use Rattle.cli_sheets.specs.BadColumns.Columns.{amount_slip, has_column, has_digit, kind_slip, slip_at, text_slip}
use Rattle.cli_sheets.specs.declared.bad_columns.column.ColumnSlip.{ColumnSlip}
use Rattle.cli_sheets.specs.declared.bad_columns.column.ColumnSlip.TheVariants as slip
use Rattle.card_code.specs.CardCode.{deck_character, has_row}
use Rattle.chart_lines.specs.declared.charts.statement.Field.{Field}
use Rattle.chart_rules.specs.ValidCard.{digit_count, has_good_zone, is_printed, is_sign}

-- a column between the first and the last of a field is one of it
pub has_column-in : (field : Field) (column : ℕ) → field.first ≤ column → column ≤ field.last → has_column field column ≡ true
has_column-in field column from to = grind (arith, nat_tests, from, to)

pub in-has_column : (field : Field) (column : ℕ) → has_column field column ≡ true → (field.first ≤ column) × (column ≤ field.last)
in-has_column field column has = (grind (arith, nat_tests, has), grind (arith, nat_tests, has))

-- what is wrong there is what is wrong with it by what the field holds
pub slip_at-in : (field : Field) (has_some is_begun : Bool) (column rows : ℕ) → field.first ≤ column → column ≤ field.last
    → slip_at field has_some is_begun column rows ≡ kind_slip field.kind field has_some is_begun column rows
slip_at-in field has_some is_begun column rows from to =
    ap (λ t. cond t (kind_slip field.kind field has_some is_begun column rows) None) (has_column-in field column from to)

-- and nothing is wrong with other columns
pub slip_at-out : (field : Field) (has_some is_begun : Bool) (column rows : ℕ) → has_column field column ≡ false
    → slip_at field has_some is_begun column rows ≡ None
slip_at-out field has_some is_begun column rows out =
    ap (λ t. cond t (kind_slip field.kind field has_some is_begun column rows) None) out

-- a digit that stands in a field stands in a column of it
pub has_digit-in : (field : Field) (column rows : ℕ) → field.first ≤ column → column ≤ field.last
    → has_digit field column rows ≡ nat_lt 0 (digit_count rows)
has_digit-in field column rows from to = ap (λ t. t && nat_lt 0 (digit_count rows)) (has_column-in field column from to)

-- nothing is wrong with a column of a text exactly if it is printed
pub text-none : (rows : ℕ) → text_slip rows ≡ None → is_printed (deck_character rows) ≡ true
text-none rows none = by (is_printed (deck_character rows)) none
  where
    by : (t : Bool) → cond t None (Some slip.Unprinted) ≡ None → t ≡ true
    by true h = refl
    by false h = cc

pub none-text : (rows : ℕ) → is_printed (deck_character rows) ≡ true → text_slip rows ≡ None
none-text rows printed = ap (λ t. cond t None (Some slip.Unprinted)) printed

-- what is wrong by five tests
abbrev first_of : (several twelve eleven sign due zero : Bool) → Option ColumnSlip
first_of several twelve eleven sign due zero =
    cond several (Some slip.Several)
    (cond twelve (Some slip.Twelve)
    (cond (eleven && not sign) (Some slip.Eleven)
    (cond (due && zero) (Some slip.Missing) None)))

none-tests : (several twelve eleven sign due zero : Bool) → first_of several twelve eleven sign due zero ≡ None
    → (several ≡ false) × ((not twelve && (not eleven || sign)) ≡ true) × (due ≡ true → zero ≡ false)
none-tests true twelve eleven sign due zero h = cc
none-tests false true eleven sign due zero h = cc
none-tests false false true false due zero h = cc
none-tests false false true true true true h = cc
none-tests false false true true true false h = (refl, refl, λ d. refl)
none-tests false false true true false zero h = (refl, refl, λ d. cc)
none-tests false false false sign true true h = cc
none-tests false false false sign true false h = (refl, refl, λ d. refl)
none-tests false false false sign false zero h = (refl, refl, λ d. cc)

tests-none : (several twelve eleven sign due zero : Bool) → several ≡ false → (not twelve && (not eleven || sign)) ≡ true
    → (due ≡ true → zero ≡ false) → first_of several twelve eleven sign due zero ≡ None
tests-none true twelve eleven sign due zero few zone there = cc
tests-none false true eleven sign due zero few zone there = cc
tests-none false false true false due zero few zone there = cc
tests-none false false true true true zero few zone there = ap (λ t. cond t (Some slip.Missing) None) (there refl)
tests-none false false true true false zero few zone there = refl
tests-none false false false sign true zero few zone there = ap (λ t. cond t (Some slip.Missing) None) (there refl)
tests-none false false false sign false zero few zone there = refl

-- Nothing is wrong with a column of an amount.
pub record IsGood (sign : Option ℕ) (is_due : Bool) (column rows : ℕ) : Type 0 where
  pub few : digit_count rows ≤ 1
  pub zone : has_good_zone sign column rows ≡ true
  pub there : is_due ≡ true → digit_count rows ≡ 1

pub amount-none : (sign : Option ℕ) (is_due : Bool) (column rows : ℕ) → amount_slip sign is_due column rows ≡ None → IsGood sign is_due column rows
amount-none sign is_due column rows none =
    let (several, zone, there) =
    none-tests (nat_lt 1 (digit_count rows)) (has_row rows 12) (has_row rows 11) (is_sign sign column) is_due (digit_count rows == 0) none in
    let few : digit_count rows ≤ 1 = grind (arith, nat_tests, several) in
    record { few = few; zone = zone; there = λ due. let some = there due in grind (arith, nat_tests, few, some) }

pub none-amount : (sign : Option ℕ) (is_due : Bool) (column rows : ℕ) → IsGood sign is_due column rows → amount_slip sign is_due column rows ≡ None
none-amount sign is_due column rows good =
    tests-none (nat_lt 1 (digit_count rows)) (has_row rows 12) (has_row rows 11) (is_sign sign column) is_due (digit_count rows == 0)
    (let few = good.few in grind (arith, nat_tests, few)) good.zone
    (λ due. let one = good.there due in grind (arith, nat_tests, one))
