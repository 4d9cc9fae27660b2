-- What characters send to their wheels: the rows of a literal, and the columns of a field.
use Rattle.std.proofs.Common.{◌≡◌, ◌∙◌, refl, sym, ap, subst, ℕ, ◌+◌, ◌-◌, ◌<◌, ◌≤◌, ◌&&◌, nat_le, nat_lt, true, List, Option, Some, None, length, map, slice_get, get_or, inl, inr, ◌⊎◌, arith}
use Rattle.std.proofs.lemmas.Bool.Decides.{nat_tests}
use Rattle.std.proofs.lemmas.List.{length-map, get_or-map}
use Rattle.std.proofs.lemmas.List.FromFn.{get_or-map-range_with_len, length-map-range_with_len}
use Rattle.std.proofs.lemmas.Option.{get_or_from_slice_get, slice_get_cases, slice_get_within}
use Rattle.proof_reports.specs.Below.card_code.CardCode.{has_row, rows_of}
use Rattle.proof_reports.specs.Below.card_code.Rows.{row_number}
use Rattle.proof_reports.specs.Below.card_code.declared.row.Row.{Row as CardRow}
use Rattle.proof_reports.specs.Below.chart_rules.ValidCard.{column_of}
use Rattle.proof_reports.specs.Below.chart_lines.ChartsWords.Field.{columns_of}
use Rattle.proof_reports.specs.Below.chart_lines.declared.charts.statement.Field.{Field}
use Rattle.proof_reports.specs.PrintedLines.Shown.Shown.{Characters}
use Rattle.proof_reports.specs.PrintedLines.Shown.{Shown, set_of_character, sets_of, wheel_of_shown}
use Rattle.report_definition.specs.Amounts.{columns_in}
use Rattle.wiring_table.specs.Figures.{HasPunch, HasPunchAt}
use Rattle.proof_reports.proofs.WiredPanels.CycleAsks.WheelRows.{stands_on, sent_on, no_rows}

-- a wheel on which an item stands
pub record Standing (first many v : ℕ) : Type 0 where
  pub j : ℕ
  pub is : v ≡ first + j
  pub within : j < many
  pub after : v - first ≡ j

pub standing : (shown : Shown) (v : ℕ) → stands_on shown v ≡ true → Standing (wheel_of_shown shown) (length (sets_of shown)) v
standing shown v is = of (wheel_of_shown shown) (length (sets_of shown)) is
  where
    of : (first many : ℕ) → (nat_le first v && nat_lt v (first + many)) ≡ true → Standing first many v
    of first many is =
        let low : first ≤ v = grind (arith, nat_tests, is) in
        let high : v < first + many = grind (arith, nat_tests, is) in
        record { j = v - first; is = omega (arith, low); within = omega (arith, low, high); after = refl }

pub stand : (shown : Shown) (j : ℕ) → j < length (sets_of shown) → stands_on shown (wheel_of_shown shown + j) ≡ true
stand shown j within = of (wheel_of_shown shown) (length (sets_of shown)) within
  where
    of : (first many : ℕ) → j < many → (nat_le first (first + j) && nat_lt (first + j) (first + many)) ≡ true
    of first many within = grind (arith, nat_tests, within)

-- what an item sends to a wheel, by its place among the item's
pub sent-at : (shown : Shown) (j : ℕ) → sent_on shown (wheel_of_shown shown + j) ≡ get_or (sets_of shown) j 0
sent-at shown j =
    let e : wheel_of_shown shown + j - wheel_of_shown shown ≡ j = omega arith in
    ap (λ k. get_or (sets_of shown) k 0) e

-- the rows of a character
pub punch-of : (character row : ℕ) → HasPunch character row → has_row (set_of_character character) row ≡ true
punch-of character row punch =
    ap (λ o. has_row (elim o [ None ↦ 0 | Some set ↦ set ]) row) punch.coded ∙ punch.punched

pub has-punch : (character : ℕ) (row : CardRow) → has_row (set_of_character character) (row_number row) ≡ true → HasPunch character (row_number row)
has-punch character row on = by (rows_of character) refl on
  where
    by : (o : Option ℕ) → rows_of character ≡ o → has_row (elim o [ None ↦ 0 | Some set ↦ set ]) (row_number row) ≡ true
        → HasPunch character (row_number row)
    by None is there = let none = no_rows row in cc
    by (Some set) is there = record { set = set; coded = is; punched = there }

-- a character of a text
pub punch-sent : (text : List ℕ) (j row : ℕ) → HasPunchAt text j row
    → (j < length text) × (has_row (get_or (map set_of_character text) j 0) row ≡ true)
punch-sent text j row punch =
    let within : j < length text = slice_get_within text j punch.character punch.there in
    let set : get_or (map set_of_character text) j 0 ≡ set_of_character punch.character
    = get_or-map set_of_character text j 0 0 within ∙ ap set_of_character (get_or_from_slice_get text j punch.character 0 punch.there) in
    (within, ap (λ s. has_row s row) set ∙ punch-of punch.character row punch.punch)

pub punch-at : (text : List ℕ) (j : ℕ) (row : CardRow) → j < length text
    → has_row (get_or (map set_of_character text) j 0) (row_number row) ≡ true → HasPunchAt text j (row_number row)
punch-at text j row within on = by (slice_get_cases text j).1
  where
    by : ((c : ℕ) × (j < length text) × (slice_get text j ≡ Some c) × (get_or text j c ≡ c)) ⊎ ((length text ≤ j) × (slice_get text j ≡ None))
        → HasPunchAt text j (row_number row)
    by (inr (past, none)) = absurd (omega (arith, within, past))
    by (inl (c, inside, got, at)) =
        let set : get_or (map set_of_character text) j 0 ≡ set_of_character c
        = get_or-map set_of_character text j c 0 within ∙ ap set_of_character at in
        record { character = c; there = got; punch = has-punch c row (sym (ap (λ s. has_row s (row_number row)) set) ∙ on) }

-- a literal
pub literal-sent : (wheel : ℕ) (text : List ℕ) (j row : ℕ) → HasPunchAt text j row
    → (stands_on (Characters wheel (map set_of_character text)) (wheel + j) ≡ true)
    × (has_row (sent_on (Characters wheel (map set_of_character text)) (wheel + j)) row ≡ true)
literal-sent wheel text j row punch =
    let (within, on) = punch-sent text j row punch in (
      stand (Characters wheel (map set_of_character text)) j (subst (λ n. j < n) (sym (length-map text set_of_character)) within),
      ap (λ s. has_row s row) (sent-at (Characters wheel (map set_of_character text)) j) ∙ on,
    )

pub record LiteralOn (wheel : ℕ) (text : List ℕ) (v row : ℕ) : Type 0 where
  pub j : ℕ
  pub is : v ≡ wheel + j
  pub punch : HasPunchAt text j row

pub literal-of : (wheel : ℕ) (text : List ℕ) (v : ℕ) (row : CardRow) → stands_on (Characters wheel (map set_of_character text)) v ≡ true
    → has_row (sent_on (Characters wheel (map set_of_character text)) v) (row_number row) ≡ true → LiteralOn wheel text v (row_number row)
literal-of wheel text v row there on =
    let s = standing (Characters wheel (map set_of_character text)) v there in
    let within : s.j < length text = subst (λ n. s.j < n) (length-map text set_of_character) s.within in
    let here : has_row (get_or (map set_of_character text) s.j 0) (row_number row) ≡ true
    = sym (ap (λ k. has_row (get_or (map set_of_character text) k 0) (row_number row)) s.after) ∙ on in
    record { j = s.j; is = s.is; punch = punch-at text s.j row within here }

-- the columns of a field
pub columns-stand : (wheel : ℕ) (card : List ℕ) (field : Field) (j : ℕ) → j < columns_of field
    → stands_on (Characters wheel (map (column_of card) (columns_in field))) (wheel + j) ≡ true
columns-stand wheel card field j within =
    stand (Characters wheel (map (column_of card) (columns_in field))) j
    (subst (λ n. j < n) (sym (length-map-range_with_len (column_of card) field.first (columns_of field))) within)

pub columns-sent : (wheel : ℕ) (card : List ℕ) (field : Field) (j : ℕ) → j < columns_of field
    → sent_on (Characters wheel (map (column_of card) (columns_in field))) (wheel + j) ≡ column_of card (field.first + j)
columns-sent wheel card field j within =
    sent-at (Characters wheel (map (column_of card) (columns_in field))) j
    ∙ get_or-map-range_with_len (column_of card) field.first (columns_of field) j (field.first + j) 0 within refl

pub columns-of : (wheel : ℕ) (card : List ℕ) (field : Field) (v : ℕ)
    → stands_on (Characters wheel (map (column_of card) (columns_in field))) v ≡ true → Standing wheel (columns_of field) v
columns-of wheel card field v there =
    subst (λ n. Standing wheel n v) (length-map-range_with_len (column_of card) field.first (columns_of field))
    (standing (Characters wheel (map (column_of card) (columns_in field))) v there)
