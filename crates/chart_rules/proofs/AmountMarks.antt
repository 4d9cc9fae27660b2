-- The columns of amounts, marked and looked at all at once.
use Rattle.std.proofs.Common.{◌≡◌, ◌≢◌, ◌∙◌, refl, sym, ap, subst, ℕ, zero, suc, ◌+◌, ◌-◌, ◌^◌, ◌<◌, ◌≤◌, ◌==◌, ◌&&◌, ◌||◌, not, ◌⊎◌, inl, inr, Bool, true, false, List, length, get_or, set, max, Option, Some, slice_get, slice_index, bit_and, bit_or, arith}
use Rattle.std.proofs.lemmas.Bool.{cases_eq, cases_lt, true≢false}
use Rattle.std.proofs.lemmas.Bool.Decides.{eqb_tells}
use Rattle.std.proofs.lemmas.List.{get_or-set_same, get_or-set_other, length-set}
use Rattle.std.proofs.lemmas.Nat.{and_le_r}
use Rattle.std.proofs.lemmas.Option.{same_Some, slice_get_read}
use Rattle.card_code.specs.CardCode.{has_row}
use Rattle.card_code.specs.Columns.{column_of as column_of_set}
use Rattle.card_code.specs.declared.row.Row.TheVariants.{Eleven}
use Rattle.chart_lines.specs.ChartsWords.Field.{columns_of, decimals_of, is_amount, sign_column}
use Rattle.chart_lines.specs.declared.charts.statement.Field.{Field}
use Rattle.chart_rules.specs.HelperAmounts.{AreAmountsMarked, ArePlain, AreSized, IsAmountMarked, Keeps}
use Rattle.chart_rules.specs.HelperOnCard.{AreOnCard, IsOnCard}
use Rattle.chart_rules.specs.HelperTexts.{AreAmountsValid}
use Rattle.chart_rules.specs.ValidCard.{IsValidField, column_of, digit_count, has_good_zone, is_sign}
use Rattle.chart_rules.specs.declared.amounts.AmountColumns.{AmountColumns}
use Rattle.chart_rules.proofs.DigitCounts.{unpunched}
use Rattle.chart_rules.proofs.PlainAmounts.{IsPassed, passed-none, passed-more, passed-all}
use Rattle.chart_rules.proofs.TextMarks.{all_bits, nothing}

-- What a loop over the columns of an amount keeps: those so far that are not its sign column are marked, and what was marked before.
pub record IsUnsignedTo (first place : ℕ) (sign : Option ℕ) (old new : List ℕ) : Type 0 where
  pub marked : (k : ℕ) → first ≤ k + 1 → k < place → is_sign sign (k + 1) ≡ false → slice_index new k ≡ 65535
  pub kept : (k : ℕ) → slice_index old k ≡ 65535 → slice_index new k ≡ 65535
  pub long : length new ≡ 80

-- one column more
pub unsigned-more : (first place : ℕ) (sign : Option ℕ) (old new : List ℕ) → place < 80 → IsUnsignedTo first place sign old new
    → IsUnsignedTo first (place + 1) sign old (set new place 65535)
unsigned-more first place sign old new inside so_far = record {
  marked = λ k from to other. by k (eqb_tells k place) (λ apart. so_far.marked k from (omega (arith, to, apart)) other);
  kept = λ k was. by k (eqb_tells k place) (λ apart. so_far.kept k was);
  long = length-set new place 65535 ∙ so_far.long;
}
  where
    by : (k : ℕ) → ((k == place) ≡ true) × (k ≡ place) ⊎ ((k == place) ≡ false) × (k ≢ place) → (k ≢ place → slice_index new k ≡ 65535)
        → slice_index (set new place 65535) k ≡ 65535
    by k (inl same) was =
        ap (λ (n : ℕ). slice_index (set new place 65535) n) same.1 ∙ get_or-set_same new place 65535 0 (let long = so_far.long in omega (arith, inside, long))
    by k (inr other) was = get_or-set_other new place k 65535 0 other.1 ∙ was other.1

-- the sign column
pub unsigned-past : (first place : ℕ) (sign : Option ℕ) (old new : List ℕ) → is_sign sign (place + 1) ≡ true
    → IsUnsignedTo first place sign old new → IsUnsignedTo first (place + 1) sign old new
unsigned-past first place sign old new signed so_far = record {
  marked = λ k from to other. by k from to other (cases_eq k place);
  kept = so_far.kept;
  long = so_far.long;
}
  where
    by : (k : ℕ) → first ≤ k + 1 → k < place + 1 → is_sign sign (k + 1) ≡ false → (k ≡ place) ⊎ (k ≡ place → ⊥) → slice_index new k ≡ 65535
    by k from to other (inl same) = absurd (true≢false (sym signed ∙ ap (λ (n : ℕ). is_sign sign (n + 1)) (sym same) ∙ other))
    by k from to other (inr apart) = so_far.marked k from (omega (arith, to, apart)) other

-- an amount that is marked stays so
amount-kept : (old new : AmountColumns) (field : Field) → Keeps old new → IsAmountMarked old field → IsAmountMarked new field
amount-kept old new field kept was = record {
  amounts = λ column first to. kept.amounts (column - 1) (was.amounts column first to);
  unsigned = λ column first to other. kept.unsigned (column - 1) (was.unsigned column first to other);
  inner = λ column first to. kept.inner (column - 1) (was.inner column first to);
  needed = λ column first to. kept.needed (column - 1) (was.needed column first to);
  within = let w = was.within in let e = kept.end in omega (arith, w, e);
}

-- an amount more
pub amounts-more : (fields : List Field) (i : ℕ) (field : Field) (old new : AmountColumns) → i < length fields
    → field ≡ get_or fields i field → AreAmountsMarked fields i old → Keeps old new → IsAmountMarked new field
    → AreAmountsMarked fields (i + 1) new
amounts-more fields i field old new within at so_far kept marked place other before there amount = by (cases_lt place i)
  where
    by : (place < i) ⊎ (i ≤ place) → IsAmountMarked new other
    by (inl earlier) = amount-kept old new other kept (so_far place other earlier there amount)
    by (inr not_earlier) =
        let here : place ≡ i = omega (arith, before, not_earlier) in
        let stands : slice_get fields i ≡ Some field = slice_get_read fields (length fields) i field refl within at in
        let e : Some other ≡ Some field = sym there ∙ ap (slice_get fields) here ∙ stands in
        subst (IsAmountMarked new) (sym (same_Some other field e)) marked

-- a text more
pub amounts-past : (fields : List Field) (i : ℕ) (field : Field) (columns : AmountColumns) → i < length fields
    → field ≡ get_or fields i field → AreAmountsMarked fields i columns → is_amount field.kind ≡ false
    → AreAmountsMarked fields (i + 1) columns
amounts-past fields i field columns within at so_far text place other before there amount = by (cases_lt place i)
  where
    by : (place < i) ⊎ (i ≤ place) → IsAmountMarked columns other
    by (inl earlier) = so_far place other earlier there amount
    by (inr not_earlier) =
        let here : place ≡ i = omega (arith, before, not_earlier) in
        let stands : slice_get fields i ≡ Some field = slice_get_read fields (length fields) i field refl within at in
        let e : Some other ≡ Some field = sym there ∙ ap (slice_get fields) here ∙ stands in
        absurd (true≢false (sym amount ∙ ap (λ (f : Field). is_amount f.kind) (same_Some other field e) ∙ text))

-- where a column is marked, and nothing is left of what was found under its mask, nothing was found
unmasked : (masks : List ℕ) (k place found : ℕ) → found < 2 ^ 16 → k ≡ place → slice_index masks k ≡ 65535
    → bit_and (slice_index masks place) found ≡ 0 → found ≡ 0
unmasked masks k place found small same marked none =
    let whole : slice_index masks place ≡ 65535 = ap (slice_index masks) (sym same) ∙ marked in
    all_bits found small (sym (ap (λ m. bit_and m found) whole) ∙ none)

-- one column more that is looked at
pub plain-more : (columns : AmountColumns) (card : List ℕ) (place joined before set crowding lacks lacked next : ℕ)
    → (joined ≡ 0 → ArePlain columns place card)
    → next ≡ bit_or joined (bit_or (bit_or (bit_or (bit_and (slice_index columns.amounts place) crowding)
    (bit_and (slice_index columns.unsigned place) (bit_and set 1024)))
    (bit_and (slice_index columns.inner place) lacks))
    (bit_and (slice_index columns.needed place) lacked))
    → column_of_set set ≡ slice_index card place → (1 ≤ place → column_of_set before ≡ slice_index card (place - 1))
    → crowding < 2 ^ 16 → lacks < 2 ^ 16 → lacked < 2 ^ 16
    → (crowding ≡ 0 → digit_count (column_of_set set) ≤ 1) → (crowding ≡ 0 → has_row (column_of_set set) 12 ≡ false)
    → (lacks ≡ 0 → digit_count (column_of_set set) ≡ 0 → digit_count (column_of_set before) ≡ 0)
    → (lacked ≡ 0 → digit_count (column_of_set before) ≡ 0 → digit_count (column_of_set set) ≡ 0)
    → next ≡ 0 → ArePlain columns (place + 1) card
plain-more columns card place joined before set crowding lacks lacked next so_far is here there few less least single low inner needed none = record {
  single = λ k within marked. elim (cases_eq k place) [
    | inl same ↦
        subst (λ (n : ℕ). digit_count (slice_index card n) ≤ 1) (sym same)
        (subst (λ (n : ℕ). digit_count n ≤ 1) here (single (unmasked columns.amounts k place crowding few same marked one.0)))
    | inr apart ↦ earlier.single k (omega (arith, within, apart)) marked
  ];
  low = λ k within marked. elim (cases_eq k place) [
    | inl same ↦
        subst (λ (n : ℕ). has_row (slice_index card n) 12 ≡ false) (sym same)
        (subst (λ (n : ℕ). has_row n 12 ≡ false) here (low (unmasked columns.amounts k place crowding few same marked one.0)))
    | inr apart ↦ earlier.low k (omega (arith, within, apart)) marked
  ];
  unsigned = λ k within marked. elim (cases_eq k place) [
    | inl same ↦
        subst (λ (n : ℕ). has_row (slice_index card n) 11 ≡ false) (sym same)
        (subst (λ (n : ℕ). has_row n 11 ≡ false) here
        (unpunched set Eleven
        (unmasked columns.unsigned k place (bit_and set 1024) (let most = and_le_r set 1024 in omega (arith, most)) same marked one.1)))
    | inr apart ↦ earlier.unsigned k (omega (arith, within, apart)) marked
  ];
  inner = λ k within marked blank. elim (cases_eq (k + 1) place) [
    | inl same ↦
        ap (λ (n : ℕ). digit_count n) (sym (behind k same))
        ∙ inner (unmasked columns.inner (k + 1) place lacks less same marked two.1)
        (ap (λ (n : ℕ). digit_count n) (here ∙ ap (slice_index card) (sym same)) ∙ blank)
    | inr apart ↦ earlier.inner k (omega (arith, within, apart)) marked blank
  ];
  needed = λ k within marked blank. elim (cases_eq (k + 1) place) [
    | inl same ↦
        ap (λ (n : ℕ). digit_count n) (sym (here ∙ ap (slice_index card) (sym same)))
        ∙ needed (unmasked columns.needed (k + 1) place lacked least same marked three.1)
        (ap (λ (n : ℕ). digit_count n) (behind k same) ∙ blank)
    | inr apart ↦ earlier.needed k (omega (arith, within, apart)) marked blank
  ];
}
  where
    of_amounts : ℕ
    of_amounts = bit_and (slice_index columns.amounts place) crowding

    of_unsigned : ℕ
    of_unsigned = bit_and (slice_index columns.unsigned place) (bit_and set 1024)

    of_inner : ℕ
    of_inner = bit_and (slice_index columns.inner place) lacks

    of_needed : ℕ
    of_needed = bit_and (slice_index columns.needed place) lacked

    all : (joined ≡ 0) × (bit_or (bit_or (bit_or of_amounts of_unsigned) of_inner) of_needed ≡ 0)
    all = nothing joined (bit_or (bit_or (bit_or of_amounts of_unsigned) of_inner) of_needed) (sym is ∙ none)

    three : (bit_or (bit_or of_amounts of_unsigned) of_inner ≡ 0) × (of_needed ≡ 0)
    three = nothing (bit_or (bit_or of_amounts of_unsigned) of_inner) of_needed all.1

    two : (bit_or of_amounts of_unsigned ≡ 0) × (of_inner ≡ 0)
    two = nothing (bit_or of_amounts of_unsigned) of_inner three.0

    one : (of_amounts ≡ 0) × (of_unsigned ≡ 0)
    one = nothing of_amounts of_unsigned two.0

    earlier : ArePlain columns place card
    earlier = so_far all.0

    behind : (k : ℕ) → k + 1 ≡ place → column_of_set before ≡ slice_index card k
    behind k same =
        let index : place - 1 ≡ k = omega (arith, same) in
        there (omega (arith, same)) ∙ ap (slice_index card) index

-- no column
pub plain-none : (columns : AmountColumns) (card : List ℕ) → ArePlain columns 0 card
plain-none columns card = record {
  single = λ k within. absurd (omega (arith, within));
  low = λ k within. absurd (omega (arith, within));
  unsigned = λ k within. absurd (omega (arith, within));
  inner = λ k within. absurd (omega (arith, within));
  needed = λ k within. absurd (omega (arith, within));
}

-- a zone that is good
good-zone : (sign : Option ℕ) (column rows : ℕ) → has_row rows 12 ≡ false → (is_sign sign column ≡ false → has_row rows 11 ≡ false)
    → has_good_zone sign column rows ≡ true
good-zone sign column rows low unsigned = by (is_sign sign column) refl
  where
    either : (b : Bool) → (not b || true) ≡ true
    either true = refl
    either false = refl

    by : (b : Bool) → is_sign sign column ≡ b → has_good_zone sign column rows ≡ true
    by true is = (λ i. not (low i) && (not (has_row rows 11) || is i)) ∙ either (has_row rows 11)
    by false is = (λ i. not (low i) && (not (unsigned is i) || is_sign sign column))

-- What is passed of an amount before a column.
record Passed (field : Field) (column : ℕ) (card : List ℕ) : Type 0 where
  pub digits : ℕ
  pub passed : IsPassed field column digits card

-- so many columns of an amount whose marks hold
passed-to : (columns : AmountColumns) (card : List ℕ) (field : Field) → IsAmountMarked columns field → ArePlain columns columns.end card
    → IsOnCard field → (n : ℕ) → field.first + n ≤ field.last + 1 → Passed field (field.first + n) card
passed-to columns card field marked plain on zero within = record {
  digits = 0;
  passed = let same : field.first ≡ field.first + 0 = omega arith in subst (λ (c : ℕ). IsPassed field c 0 card) same (passed-none field card);
}
passed-to columns card field marked plain on (suc n) within =
    let from = on.from in
    let to = marked.within in
    let earlier = passed-to columns card field marked plain on n (omega (arith, within)) in
    let column = field.first + n in
    let low : field.first ≤ column = omega arith in
    let high : column ≤ field.last = omega (arith, within) in
    let inside : column - 1 < columns.end = omega (arith, from, to, high, low) in
    let rows = column_of card column in
    let next : column + 1 ≡ field.first + suc n = omega arith in
    let zone = good-zone (sign_column field.kind) column rows
    (plain.low (column - 1) inside (marked.amounts column low high))
    (λ other. plain.unsigned (column - 1) inside (marked.unsigned column low high other)) in
    record {
      digits = earlier.digits + digit_count rows;
      passed =
          subst (λ (c : ℕ). IsPassed field c (earlier.digits + digit_count rows) card) next
          (passed-more field column earlier.digits (digit_count rows) card earlier.passed refl
          (plain.single (column - 1) inside (marked.amounts column low high))
          (λ blank. none earlier low high inside blank)
          zone);
    }
  where
    none : (earlier : Passed field (field.first + n) card) → field.first ≤ field.first + n → field.first + n ≤ field.last
        → field.first + n - 1 < columns.end → digit_count (column_of card (field.first + n)) ≡ 0 → earlier.digits ≡ 0
    none earlier low high inside blank = by (cases_eq n 0)
      where
        few : earlier.digits ≤ field.first + n - field.first
        few = earlier.passed.few

        by : (n ≡ 0) ⊎ (n ≡ 0 → ⊥) → earlier.digits ≡ 0
        by (inl first) = omega (arith, first, few)
        by (inr later) = elim (cases_eq earlier.digits 0) [
          | inl done ↦ done
          | inr some ↦
              let from = on.from in
              let k : ℕ = field.first + n - 2 in
              let index : k + 1 ≡ field.first + n - 1 = omega (arith, later, from) in
              let back : k ≡ field.first + n - 1 - 1 = omega arith in
              let empty = plain.inner k (omega (arith, index, inside))
              (ap (slice_index columns.inner) index ∙ marked.inner (field.first + n) (omega (arith, later)) high)
              (ap (λ (p : ℕ). digit_count (slice_index card p)) index ∙ blank) in
              let full = earlier.passed.singles (field.first + n - 1) (omega (arith, some)) (omega (arith, later, from)) in
              let same : digit_count (slice_index card k) ≡ digit_count (column_of card (field.first + n - 1))
              = ap (λ (p : ℕ). digit_count (slice_index card p)) back in
              absurd (omega (arith, empty, full, same))
        ]

-- an amount whose marks hold is valid
pub plain-valid : (columns : AmountColumns) (card : List ℕ) (field : Field) → IsAmountMarked columns field
    → ArePlain columns columns.end card → IsOnCard field → decimals_of field.kind ≤ columns_of field → is_amount field.kind ≡ true
    → IsValidField field card
plain-valid columns card field marked plain on sized amount =
    let order = on.order in
    let whole = passed-to columns card field marked plain on (field.last + 1 - field.first) (omega (arith, order)) in
    let end : field.first + (field.last + 1 - field.first) ≡ field.last + 1 = omega (arith, order) in
    let passed = subst (λ (c : ℕ). IsPassed field c whole.digits card) end whole.passed in
    passed-all field (field.last + 1) whole.digits card amount refl passed (enough whole.digits passed (cases_lt whole.digits least) (cases_eq whole.digits 0))
  where
    least : ℕ
    least = max (decimals_of field.kind) 1

    enough : (digits : ℕ) → IsPassed field (field.last + 1) digits card → (digits < least) ⊎ (least ≤ digits)
        → (digits ≡ 0) ⊎ (digits ≡ 0 → ⊥) → (digits ≡ 0) ⊎ (max (decimals_of field.kind) 1 ≤ digits)
    enough digits passed (inr many) none = inr many
    enough digits passed (inl few) (inl none) = inl none
    enough digits passed (inl few) (inr some) =
        let from = on.from in
        let order = on.order in
        let to = marked.within in
        let fits : least ≤ field.last + 1 - field.first = omega (arith, sized, order) in
        let c : ℕ = field.last + 1 - digits in
        let low : field.first + 1 ≤ c = omega (arith, few, fits) in
        let k : ℕ = c - 2 in
        let index : k + 1 ≡ c - 1 = omega (arith, low, from) in
        let back : k ≡ c - 1 - 1 = omega arith in
        let lacks = passed.blanks (c - 1) (omega (arith, low)) (omega (arith, low)) in
        let empty = plain.needed k (omega (arith, index, to, from, low, some))
        (ap (slice_index columns.needed) index ∙ marked.needed c (omega (arith, few, fits, some)) (omega (arith, some)))
        (ap (λ (p : ℕ). digit_count (slice_index card p)) back ∙ lacks) in
        let full = passed.singles c (omega arith) (omega (arith, some, low)) in
        let same : digit_count (slice_index card (k + 1)) ≡ digit_count (column_of card c)
        = ap (λ (p : ℕ). digit_count (slice_index card p)) index in
        absurd (omega (arith, empty, full, same))

-- so all amounts are
pub plain-amounts : (fields : List Field) (columns : AmountColumns) (card : List ℕ) → AreOnCard fields → AreSized fields
    → AreAmountsMarked fields (length fields) columns → ArePlain columns columns.end card → AreAmountsValid fields (length fields) card
plain-amounts fields columns card on sized marked plain place field before there amount =
    plain-valid columns card field (marked place field before there amount) plain (on place field there) (sized place field there) amount
