-- The bounds that open totals keep, card by card.
use Rattle.std.proofs.Common.{◌≡◌, ap, ℕ, suc, ℤ, pos, ◌+ℤ◌, ◌+◌, ◌*◌, ◌^◌, ◌<◌, ◌≤◌, nat_le, Bool, true, false, List, [], ◌∷◌, Option, Some, None, length, map, if◌then◌else◌, arith}
use Rattle.std.specs.Option.{unwrap_or}
use Rattle.std.specs.List.{All}
use Rattle.std.proofs.Math.Nat.{pow-suc, mul-le-mul_right}
use Rattle.std.proofs.lemmas.Int.{ints}
use Rattle.std.proofs.lemmas.List.{length-map}
use Rattle.std.proofs.lemmas.List.Elements.{All-map, All-weaker}
use Rattle.std.proofs.lemmas.List.FromFn.{length-range_with_len}
use Rattle.chart_lines.specs.ChartsWords.Field.{columns_of}
use Rattle.chart_lines.specs.ChartsWords.Levels.{level_number}
use Rattle.chart_lines.specs.declared.charts.statement.Field.{Field}
use Rattle.chart_rules.specs.ValidCard.{column_of}
use Rattle.report_definition.specs.Amounts.{columns_in, digit_in, digits_on, is_negated, number_in, signed, value_of}
use Rattle.report_misfits.specs.HelperAmounts.{IsGoodAmount}
use Rattle.report_misfits.specs.HelperTotals.{IsKept, IsWithin, above_amounts}
use Rattle.report_misfits.specs.OpenTotals.{closed_to, with_card}
use Rattle.report_misfits.specs.declared.open_total.OpenTotal.{OpenTotal}
use Rattle.report_misfits.proofs.Numbers.{below_power, digit_small}

-- so many columns spell a number of so many digits
number_below : (card columns : List ℕ) → number_in (map (λ column. digit_in (column_of card column)) columns) < 10 ^ length columns
number_below card [] = omega arith
number_below card (column ∷ columns) =
    by (digit_in (column_of card column)) (digit_small (column_of card column)) (number_below card columns)
  where
    others : List (Option ℕ)
    others = map (λ each. digit_in (column_of card each)) columns

    by : (o : Option ℕ) → unwrap_or o 0 < 10 → number_in others < 10 ^ length columns → number_in (o ∷ others) < 10 ^ suc (length columns)
    by None small rest = let power = pow-suc 10 (length columns) in omega (arith, rest, power)
    by (Some digit) small rest =
        let power = pow-suc 10 (length columns) in
        let long : 10 ^ length others ≡ 10 ^ length columns = ap (λ n. 10 ^ n) (length-map columns (λ each. digit_in (column_of card each))) in
        let share : digit * 10 ^ length others ≡ digit * 10 ^ length columns = ap (λ n. digit * n) long in
        let most : digit * 10 ^ length columns ≤ 9 * 10 ^ length columns = mul-le-mul_right (10 ^ length columns) (omega (arith, small)) in
        omega (arith, rest, power, share, most)

signed_within : (b : Bool) (number most : ℕ) → number < most → IsWithin most (signed b number)
signed_within true number most small = (omega (arith, ints), omega (arith, ints))
signed_within false number most small = (omega (arith, ints), omega (arith, ints))

-- an amount on a card is small
pub value_within : (field : Field) (card : List ℕ) → IsGoodAmount field → IsWithin above_amounts (value_of field card)
value_within field card good =
    let long : length (columns_in field) ≡ columns_of field = length-range_with_len field.first (columns_of field) in
    let small = below_power (number_in (digits_on field card)) (length (columns_in field)) 8 (number_below card (columns_in field))
    (let few = good.few in omega (arith, few, long)) in
    signed_within (is_negated field.kind card) (number_in (digits_on field card)) above_amounts small

pub sum_within : (cards : ℕ) (sum value : ℤ) → IsWithin (cards * above_amounts) sum → IsWithin above_amounts value
    → IsWithin ((cards + 1) * above_amounts) (sum +ℤ value)
sum_within cards sum value some more = (omega (arith, ints, some, more), omega (arith, ints, some, more))

-- one card more
kept_with_card : (cards : ℕ) (card : List ℕ) (total : OpenTotal) → IsKept cards total → IsKept (cards + 1) (with_card card total)
kept_with_card cards card total kept = record {
  amount = kept.amount;
  few_digits = kept.few_digits;
  small = sum_within cards total.sum (value_of total.field card) kept.small (value_within total.field card kept.amount);
}

pub none_within : (most : ℕ) → IsWithin most (pos 0)
none_within most = (omega (arith, ints), omega (arith, ints))

-- groups that end
kept_closed : (cards ended : ℕ) (total : OpenTotal) → IsKept cards total → IsKept cards (closed_to ended total)
kept_closed cards ended total kept = by (nat_le (level_number total.level) ended)
  where
    by : (b : Bool) → IsKept cards (if b then record total { sum = pos 0 } else total)
    by true = record { amount = kept.amount; few_digits = kept.few_digits; small = none_within (cards * above_amounts) }
    by false = kept

-- after fewer cards the bounds are narrower
pub wider : (few most : ℕ) (sum : ℤ) → few ≤ most → IsWithin (few * above_amounts) sum → IsWithin (most * above_amounts) sum
wider few most sum less within = (omega (arith, ints, within, less), omega (arith, ints, within, less))

kept_wider : (few most : ℕ) (total : OpenTotal) → few ≤ most → IsKept few total → IsKept most total
kept_wider few most total less kept =
    record { amount = kept.amount; few_digits = kept.few_digits; small = wider few most total.sum less kept.small }

pub all_wider : (few most : ℕ) (totals : List OpenTotal) → few ≤ most → All (IsKept few) totals → All (IsKept most) totals
all_wider few most totals less kept = All-weaker (IsKept few) (IsKept most) (λ total is. kept_wider few most total less is) totals kept

pub all_with_card : (cards : ℕ) (card : List ℕ) (totals : List OpenTotal) → All (IsKept cards) totals
    → All (IsKept (cards + 1)) (map (with_card card) totals)
all_with_card cards card totals kept =
    All-map (IsKept (cards + 1)) (with_card card) totals
    (All-weaker (IsKept cards) (λ total. IsKept (cards + 1) (with_card card total)) (λ total is. kept_with_card cards card total is) totals kept)

pub all_closed : (cards ended : ℕ) (totals : List OpenTotal) → All (IsKept cards) totals → All (IsKept cards) (map (closed_to ended) totals)
all_closed cards ended totals kept =
    All-map (IsKept cards) (closed_to ended) totals
    (All-weaker (IsKept cards) (λ total. IsKept cards (closed_to ended total)) (λ total is. kept_closed cards ended total is) totals kept)
