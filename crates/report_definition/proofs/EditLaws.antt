-- Edited amounts: how many wheels they take.
use Rattle.std.proofs.Common.{◌≡◌, ◌∙◌, refl, ap, ℕ, zero, suc, ◌+◌, ◌-◌, ◌≤◌, ◌==◌, Bool, true, false, nat_lt, min, List, [], ◌∷◌, ◌++◌, Option, Some, None, length, map, take, drop, replicate, if◌then◌else◌, arith, unsigned_abs}
use Rattle.std.specs.Int.{is_negative}
use Rattle.std.proofs.lemmas.Bool.Decides.{nat_tests}
use Rattle.std.proofs.lemmas.List.{length-map, length-append, length-drop, length-replicate, length-take}
use Rattle.chart_lines.specs.declared.charts.statement.Mark.{Mark}
use Rattle.chart_lines.specs.declared.charts.statement.Mark.TheVariants as mark
use Rattle.chart_rules.specs.Below.chart_line_rules.PrintRules.Items.{figure_width, mark_width}
use Rattle.report_definition.specs.Edits.{last_digits, figure, without_leading_zeros, free_digits, point, marked, edited_digits, edited_blank}
use Rattle.report_definition.specs.Laws.{EditsFillTheirItems}

-- so many digits are so many
pub last_digits-length : (count number : ℕ) → length (last_digits count number) ≡ count
last_digits-length zero number = refl
last_digits-length (suc count) number = ap suc (last_digits-length count number)

-- blank zeros take their wheels
zeros-length : (digits : List ℕ) → length (without_leading_zeros digits) ≡ length digits
zeros-length [] = refl
zeros-length (digit ∷ others) = by_test (digit == 0) (zeros-length others)
  where
    by_test : (b : Bool) → length (without_leading_zeros others) ≡ length others
        → length (if b then 32 ∷ without_leading_zeros others else map figure (digit ∷ others)) ≡ suc (length others)
    by_test true more = ap suc more
    by_test false more = ap suc (length-map others figure)

-- a mark, or the blanks in its place
pub marked-length : (mark : Option Mark) (negative : Bool) → length (marked mark negative) ≡ mark_width mark
marked-length None negative = refl
marked-length (Some mark.Credit) true = refl
marked-length (Some mark.Credit) false = refl
marked-length (Some mark.Minus) true = refl
marked-length (Some mark.Minus) false = refl

-- the point
pub point-length : (decimals : ℕ) → length (point decimals) ≡ (if nat_lt 0 decimals then 1 else 0)
point-length zero = refl
point-length (suc decimals) = grind (arith, nat_tests)

-- four parts, put together, are as long as they are
four_parts : (one two three four : List ℕ)
    → length (one ++ (two ++ (three ++ four))) ≡ length one + (length two + (length three + length four))
four_parts one two three four =
    rw (length-append one (two ++ (three ++ four)), length-append two (three ++ four), length-append three four) refl

-- the sums of the parts' wheels
sum_up : (n width free a p m k t w : ℕ) → free ≤ n → n ≡ width → a ≡ min free n → p ≡ t → m ≡ n - free → k ≡ w
    → a + (p + (m + k)) ≡ width + t + w
sum_up n width free a p m k t w short long f q b l =
    let least : min free n ≡ free = omega (arith, short) in omega (arith, short, long, f, q, b, l, least)

blank_sum : (width free t w : ℕ) → free ≤ width → free + (t + (width - free + w)) ≡ width + t + w
blank_sum width free t w short = omega (arith, short)

-- the wheels of an amount
abbrev wheels : (digits decimals : ℕ) → Option Mark → ℕ
wheels digits decimals mark = figure_width (record { digits = digits; decimals = decimals; mark = mark })

-- digits cut in two parts
digits_fill :
    (digits : List ℕ) (width decimals : ℕ) (mark : Option Mark) (negative : Bool) → length digits ≡ width → 1 ≤ width
    → decimals ≤ width → length (edited_digits digits decimals mark negative) ≡ wheels width decimals mark
digits_fill digits width decimals mark negative long some few =
    let free = free_digits (length digits) decimals in
    let front : length (without_leading_zeros (take free digits)) ≡ min free (length digits)
    = zeros-length (take free digits) ∙ length-take free digits in
    let back : length (map figure (drop free digits)) ≡ length digits - free
    = length-map (drop free digits) figure ∙ length-drop free digits in
    let all = four_parts (without_leading_zeros (take free digits)) (point decimals) (map figure (drop free digits))
    (marked mark negative) in
    let short : free ≤ length digits = omega arith in
    all ∙ sum_up (length digits) width free _ _ _ _ _ _ short long front (point-length decimals) back
    (marked-length mark negative)

-- the parts of a blank amount
blank_fill :
    (width decimals : ℕ) (mark : Option Mark)
    → length (edited_blank width decimals mark) ≡ wheels width decimals mark
blank_fill width decimals mark =
    let free = free_digits width decimals in
    let short : free ≤ width = omega arith in
    rw (
      length-append (replicate free 32) (point decimals ++ replicate (width - free + mark_width mark) 32),
      length-append (point decimals) (replicate (width - free + mark_width mark) 32),
      length-replicate {A = ℕ} free 32,
      length-replicate {A = ℕ} (width - free + mark_width mark) 32,
      point-length decimals,
    )
    (blank_sum width free (if nat_lt 0 decimals then 1 else 0) (mark_width mark) short)

pub edits_fill : EditsFillTheirItems
edits_fill number figure some few = (
  digits_fill (last_digits figure.digits (unsigned_abs number)) figure.digits figure.decimals figure.mark (is_negative number)
      (last_digits-length figure.digits (unsigned_abs number)) some few,
  blank_fill figure.digits figure.decimals figure.mark,
)
