-- Numbers digit by digit.
use Rattle.std.proofs.Common.{◌≡◌, ◌∙◌, refl, sym, ap, ℕ, zero, suc, ◌+◌, ◌-◌, ◌*◌, ◌^◌, ◌<◌, ◌≤◌, List, [], ◌∷◌, ◌++◌, Option, Some, None, length, length-append, map, arith}
use Rattle.std.specs.Option.{unwrap_or}
use Rattle.std.specs.List.{range_with_len}
use Rattle.std.proofs.lemmas.List.{map-append}
use Rattle.std.proofs.Math.Nat.{pow-suc, pow-le-pow_right}
use Rattle.card_code.specs.CardCode.{has_row}
use Rattle.chart_lines.proofs.ChartsWords.Listed.{found-listed, listed-within}
use Rattle.report_definition.specs.Amounts.{digit_in, number_in}

-- a digit's share with one digit more after it
share : (digit power more : ℕ) → digit * (power * 10) ≡ 10 * (digit * power)
share digit power more = omega arith

-- one digit more
pub one_more : (digits : List (Option ℕ)) (digit : Option ℕ) → number_in (digits ++ digit ∷ []) ≡ 10 * number_in digits + unwrap_or digit 0
one_more [] None = refl
one_more [] (Some digit) = omega arith
one_more (None ∷ digits) digit = one_more digits digit
one_more (Some first ∷ digits) digit =
    let more = one_more digits digit in
    let long : length (digits ++ digit ∷ []) ≡ suc (length digits) = grind (arith, length-append) in
    let power : 10 ^ length (digits ++ digit ∷ []) ≡ 10 ^ length digits * 10 = ap (λ n. 10 ^ n) long ∙ pow-suc 10 (length digits) in
    let front : first * 10 ^ length (digits ++ digit ∷ []) ≡ 10 * (first * 10 ^ length digits)
    = ap (λ n. first * n) power ∙ share first (10 ^ length digits) 0 in
    omega (arith, more, front)

-- a digit is below 10
pub digit_small : (rows : ℕ) → unwrap_or (digit_in rows) 0 < 10
digit_small rows = by (digit_in rows) refl
  where
    by : (o : Option ℕ) → digit_in rows ≡ o → unwrap_or o 0 < 10
    by None is = omega arith
    by (Some digit) is =
        listed-within 0 10 digit (found-listed (λ each. has_row rows each) (range_with_len 0 10) digit is).0

-- What a loop over columns keeps: the number of the digits so far, with room for one more.
pub record Kept (first column number digits : ℕ) : Type 0 where
  pub from : first ≤ column
  pub is : number ≡ digits
  pub small : number < 10 ^ (column - first)

-- one number more
range_more : (from count : ℕ) → range_with_len from (count + 1) ≡ range_with_len from count ++ (from + count) ∷ []
range_more from zero = grind arith
range_more from (suc count) = let more = range_more (from + 1) count in grind (arith, more)

-- one column more
pub kept : (digit_of : ℕ → Option ℕ) (first column number digit : ℕ)
    → Kept first column number (number_in (map digit_of (range_with_len first (column - first))))
    → digit ≡ unwrap_or (digit_of column) 0 → digit < 10
    → Kept first (column + 1) (10 * number + digit) (number_in (map digit_of (range_with_len first (column + 1 - first))))
kept digit_of first column number digit so_far is small =
    let from = so_far.from in
    let long : column + 1 - first ≡ column - first + 1 = omega (arith, from) in
    let at : first + (column - first) ≡ column = omega (arith, from) in
    record {
      from = omega (arith, from);
      is = ap (λ n. 10 * n + digit) so_far.is
          ∙ ap (λ n. 10 * number_in (map digit_of (range_with_len first (column - first))) + n) is
          ∙ sym (one_more (map digit_of (range_with_len first (column - first))) (digit_of column))
          ∙ ap (λ c. number_in (map digit_of (range_with_len first (column - first)) ++ digit_of c ∷ [])) (sym at)
          ∙ ap number_in (sym (map-append digit_of (range_with_len first (column - first)) ((first + (column - first)) ∷ [])))
          ∙ ap (λ l. number_in (map digit_of l)) (sym (range_more first (column - first)))
          ∙ ap (λ n. number_in (map digit_of (range_with_len first n))) (sym long);
      small =
          let room = so_far.small in
          let power : 10 ^ (column + 1 - first) ≡ 10 ^ (column - first) * 10
          = ap (λ n. 10 ^ n) (long ∙ (omega arith)) ∙ pow-suc 10 (column - first) in
          omega (arith, room, small, power);
    }

-- a number of at most so many digits is below the power
pub below_power : (number count most : ℕ) → number < 10 ^ count → count ≤ most → number < 10 ^ most
below_power number count most small few =
    let more : 10 ^ count ≤ 10 ^ most = pow-le-pow_right {n = 10} (omega arith) few in omega (arith, small, more)
