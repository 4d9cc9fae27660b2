-- The digits of an amount on a valid card are those of its number: a column has the row of its digit, and no other of the rows 1 to 9.
use Rattle.std.proofs.Common.{◌≡◌, ◌∙◌, refl, sym, ap, subst, ℕ, suc, ◌+◌, ◌-◌, ◌*◌, ◌^◌, ◌<◌, ◌≤◌, ◌==◌, Bool, true, false, cond, List, [], ◌∷◌, All, Contains, Option, Some, None, find, length, map, slice_index, ◌⊎◌, inl, inr, arith}
use Rattle.std.proofs.lemmas.Bool.Decides.{nat_tests}
use Rattle.std.proofs.lemmas.List.Elements.{All-nil, All-cons}
use Rattle.std.proofs.lemmas.List.FromFn.{get_or-map-range_with_len, length-map-range_with_len}
use Rattle.std.proofs.lemmas.List.Sums.{sum_by-cons}
use Rattle.std.specs.List.{count_by, range_with_len}
use Rattle.std.proofs.lemmas.Bool.{both_ways}
use Rattle.proof_cycles.proofs.TotalsWords.CounterCycles.ShownLemmas.{digits-tell}
use Rattle.proof_cycles.specs.TotalsWords.CounterCycles.Acts.{digit_of}
use Rattle.proof_reports.specs.Below.card_code.CardCode.{has_row}
use Rattle.proof_reports.specs.Below.card_code.Rows.{row_number}
use Rattle.proof_reports.specs.Below.card_code.declared.row.Row.{Row as CardRow}
use Rattle.proof_reports.specs.Below.card_code.declared.row.Row.TheVariants.{Zero, One, Two, Three, Four, Five, Six, Seven, Eight, Nine, Eleven, Twelve}
use Rattle.proof_reports.specs.Below.chart_rules.ValidCard.{column_of, digit_rows, digit_count, IsValidCard}
use Rattle.proof_reports.specs.Below.chart_lines.ChartsWords.Chart.{Chart}
use Rattle.proof_reports.specs.Below.chart_lines.ChartsWords.Field.{columns_of}
use Rattle.proof_reports.specs.Below.chart_lines.declared.charts.statement.Field.{Field}
use Rattle.proof_cycles.proofs.Below.counters.NumberLemmas.{number-lt}
use Rattle.proof_cycles.specs.Below.counters.Laws.{IsDigit}
use Rattle.proof_cycles.specs.Below.counters.Numbers.{number}
use Rattle.report_definition.specs.Amounts.{digit_in, digits_on, number_in}
use Rattle.wiring_table.specs.Figures.{IsAmount}
use Rattle.proof_reports.proofs.WiredPanels.Ways.{same_tests}
use Rattle.proof_reports.proofs.Below.chart_lines.ChartsWords.Listed.{found-listed, listed-cases, listed-within}
use Rattle.proof_reports.proofs.Below.chart_rules.Laws.{amount-valid, one-digit}

-- a digit, a blank counting 0
abbrev pub digit_value : Option ℕ → ℕ
digit_value None = 0
digit_value (Some digit) = digit

-- the number of columns is that of their digits
length_values : (digits : List (Option ℕ)) → length (map digit_value digits) ≡ length digits
length_values [] = refl
length_values (digit ∷ digits) = ap suc (length_values digits)

pub number_values : (digits : List (Option ℕ)) → number_in digits ≡ number (map digit_value digits)
number_values [] = refl
number_values (Some digit ∷ digits) =
    let long = length_values digits in
    ap (λ n. digit * 10 ^ n + number_in digits) (sym long)
    ∙ ap (λ n. digit * 10 ^ length (map digit_value digits) + n) (number_values digits)
number_values (None ∷ digits) = let below = number_values digits in omega (arith, below)

-- the digits 0 to 9
digit_small : (rows : ℕ) → digit_value (digit_in rows) ≤ 9
digit_small rows = by (digit_in rows) refl
  where
    by : (o : Option ℕ) → digit_in rows ≡ o → digit_value o ≤ 9
    by None is = omega arith
    by (Some digit) is =
        let (there, on) = found-listed (λ d. has_row rows d) (range_with_len 0 10) digit is in
        omega (arith, listed-within 0 10 digit there)

digits_small : (card : List ℕ) (columns : List ℕ) → All IsDigit (map digit_value (map (λ column. digit_in (column_of card column)) columns))
digits_small card [] = All-nil IsDigit
digits_small card (column ∷ columns) =
    All-cons IsDigit (digit_value (digit_in (column_of card column))) _ (digit_small (column_of card column)) (digits_small card columns)

values_of : (card : List ℕ) (columns : List ℕ)
    → map digit_value (map (λ column. digit_in (column_of card column)) columns)
    ≡ map (λ column. digit_value (digit_in (column_of card column))) columns
values_of card [] = refl
values_of card (column ∷ columns) =
    ap (λ ds. digit_value (digit_in (column_of card column)) ∷ ds) (values_of card columns)

-- how many digits a field has
values_long : (field : Field) (card : List ℕ) → length (map digit_value (digits_on field card)) ≡ columns_of field
values_long field card =
    length_values (digits_on field card)
    ∙ length-map-range_with_len (λ column. digit_in (column_of card column)) field.first (columns_of field)

-- an amount on a card has no more digits than columns
pub number_small : (field : Field) (card : List ℕ) → number_in (digits_on field card) < 10 ^ columns_of field
number_small field card =
    let small = number-lt (map digit_value (digits_on field card)) (digits_small card (range_with_len field.first (columns_of field))) in
    let is = number_values (digits_on field card) in
    subst (λ n. number_in (digits_on field card) < 10 ^ n) (values_long field card)
    (subst (λ n. n < 10 ^ length (map digit_value (digits_on field card))) (sym is) small)

-- the digit of a position is that of its column
pub position_digit : (field : Field) (card : List ℕ) (position : ℕ) → 1 ≤ position → position ≤ columns_of field
    → digit_of (number_in (digits_on field card)) position ≡ digit_value (digit_in (column_of card (field.last + 1 - position)))
position_digit field card position from to =
    let values = map digit_value (digits_on field card) in
    let long = values_long field card in
    let listed = digits-tell.of_list values position (digits_small card (range_with_len field.first (columns_of field))) from
    (omega (arith, to, long)) in
    let place : length values - position ≡ columns_of field - position = omega (arith, long) in
    let within : columns_of field - position < columns_of field = omega (arith, from, to) in
    let column : field.first + (columns_of field - position) ≡ field.last + 1 - position = omega (arith, from, to) in
    ap (λ n. digit_of n position) (number_values (digits_on field card)) ∙ sym listed
    ∙ ap (slice_index values) place
    ∙ ap (λ ds. slice_index ds (columns_of field - position)) (values_of card (range_with_len field.first (columns_of field)))
    ∙ get_or-map-range_with_len (λ c. digit_value (digit_in (column_of card c))) field.first (columns_of field)
    (columns_of field - position) (field.last + 1 - position) _ within column

-- where an element passes, one is counted
count_some : (p : CardRow → Bool) (rows : List CardRow) (row : CardRow) → Contains rows row → p row ≡ true → 1 ≤ count_by p rows
count_some p [] row (k, within, is) on = absurd (omega (arith, within))
count_some p (r ∷ rs) row there on =
    subst (λ n. 1 ≤ n) (sym (sum_by-cons (λ x. cond (p x) 1 0) r rs))
    (by (p r) refl (listed-cases row r rs there) (λ later. count_some p rs row later on))
  where
    by : (b : Bool) → p r ≡ b → (r ≡ row) ⊎ Contains rs row → (Contains rs row → 1 ≤ count_by p rs)
        → 1 ≤ cond b 1 0 + count_by p rs
    by true is either later = omega arith
    by false is (inl e) later = absurd (both_ways _ is (ap p e ∙ on))
    by false is (inr there) later = omega (arith, later there)

-- of rows of which one at most is punched, the punched one is found
only_one : (column : ℕ) (rows : List CardRow) (row : CardRow) → Contains rows row
    → count_by (λ r. has_row column (row_number r)) rows ≤ 1 → has_row column (row_number row) ≡ true
    → find (λ d. has_row column d) (map row_number rows) ≡ Some (row_number row)
only_one column [] row (k, within, is) few on = absurd (omega (arith, within))
only_one column (r ∷ rs) row there few on =
    by (has_row column (row_number r)) refl (listed-cases row r rs there)
    (subst (λ n. n ≤ 1) (sum_by-cons (λ x. cond (has_row column (row_number x)) 1 0) r rs) few)
    (λ later less. only_one column rs row later less on)
    (λ later. count_some (λ x. has_row column (row_number x)) rs row later on)
  where
    by : (b : Bool) → has_row column (row_number r) ≡ b → (r ≡ row) ⊎ Contains rs row
        → cond b 1 0 + count_by (λ x. has_row column (row_number x)) rs ≤ 1
        → (Contains rs row → count_by (λ x. has_row column (row_number x)) rs ≤ 1
        → find (λ d. has_row column d) (map row_number rs) ≡ Some (row_number row))
        → (Contains rs row → 1 ≤ count_by (λ x. has_row column (row_number x)) rs)
        → cond b (Some (row_number r)) (find (λ d. has_row column d) (map row_number rs)) ≡ Some (row_number row)
    by true is (inl e) few later some = ap (λ x. Some (row_number x)) e
    by true is (inr there) few later some = absurd (omega (arith, few, some there))
    by false is (inl e) few later some = absurd (both_ways _ is (ap (λ x. has_row column (row_number x)) e ∙ on))
    by false is (inr there) few later some = later there (omega (arith, few))

-- the rows of the digits
digit_row : (row : CardRow) → row_number row ≤ 9 → Contains digit_rows row
unfolding digit_rows
digit_row Zero low = (0, omega arith, refl)
digit_row One low = (1, omega arith, refl)
digit_row Two low = (2, omega arith, refl)
digit_row Three low = (3, omega arith, refl)
digit_row Four low = (4, omega arith, refl)
digit_row Five low = (5, omega arith, refl)
digit_row Six low = (6, omega arith, refl)
digit_row Seven low = (7, omega arith, refl)
digit_row Eight low = (8, omega arith, refl)
digit_row Nine low = (9, omega arith, refl)
digit_row Eleven low = absurd (omega (arith, low))
digit_row Twelve low = absurd (omega (arith, low))

digit_numbers : map row_number digit_rows ≡ range_with_len 0 10
unfolding digit_rows
digit_numbers = refl

-- a column with one digit at most has the row of its digit
pub column_row : (column : ℕ) (row : CardRow) → 1 ≤ row_number row → row_number row ≤ 9 → digit_count column ≤ 1
    → has_row column (row_number row) ≡ (digit_value (digit_in column) == row_number row)
unfolding digit_count
column_row column row from to few =
    same_tests (has_row column (row_number row)) (digit_value (digit_in column) == row_number row)
    (λ on. given (ap (λ ds. find (λ d. has_row column d) ds) (sym digit_numbers) ∙ only_one column digit_rows row (digit_row row to) few on)) back
  where
    given : digit_in column ≡ Some (row_number row) → (digit_value (digit_in column) == row_number row) ≡ true
    given is = let e : digit_value (digit_in column) ≡ row_number row = ap digit_value is in grind (arith, nat_tests, e)

    back : (digit_value (digit_in column) == row_number row) ≡ true → has_row column (row_number row) ≡ true
    back same = on (digit_in column) refl (grind (arith, nat_tests, same))
      where
        on : (o : Option ℕ) → digit_in column ≡ o → digit_value o ≡ row_number row → has_row column (row_number row) ≡ true
        on None is e = absurd (omega (arith, e, from))
        on (Some digit) is e =
            ap (has_row column) (sym e) ∙ (found-listed (λ d. has_row column d) (range_with_len 0 10) digit is).1

-- the columns of an amount on a valid card have one digit at most
pub few_digits : (chart : Chart) (card : List ℕ) (name : List ℕ) (field : Field) (column : ℕ) → IsValidCard chart card
    → IsAmount chart.lines name field → field.first ≤ column → column ≤ field.last → digit_count (column_of card column) ≤ 1
few_digits chart card name field column valid amount from to =
    one-digit field card column (amount-valid chart card name field valid amount.named amount.holds_amount) from to
