-- The edited amount. Its digits stand with leading zeros blank, left of the point, or left of the units where there are no
-- decimals; the point and the decimals always stand; the mark stands after them exactly where the number is below 0.
use Rattle.std.specs.Prelude.{ℕ, ◌+◌, ◌-◌, ◌^◌, ◌/◌, ◌%◌, ◌==◌, zero, suc, max, Bool, List, [], ◌∷◌, ◌++◌, Option, Some, None, length, map, take, drop, replicate, codes, if◌then◌else◌, unsigned_abs}
use Rattle.std.specs.Prelude.{ℤ}
use Rattle.std.specs.Int.{is_negative}
use Rattle.chart_lines.specs.declared.charts.statement.Mark.{Mark}
use Rattle.chart_lines.specs.declared.charts.statement.Mark.TheVariants as mark
use Rattle.chart_rules.specs.Below.chart_line_rules.PrintRules.Items.{mark_width}

-- the last so many digits of a number, the first of them first
abbrev pub last_digits : (count number : ℕ) → List ℕ
last_digits zero number = []
last_digits (suc count) number = number / 10 ^ count % 10 ∷ last_digits count number

-- the character of a digit
abbrev pub figure : ℕ → ℕ
figure digit = 48 + digit

-- digits with leading zeros blank
abbrev pub without_leading_zeros : List ℕ → List ℕ
without_leading_zeros [] = []
without_leading_zeros (digit ∷ others) =
    if digit == 0 then 32 ∷ without_leading_zeros others else map figure (digit ∷ others)

-- how many of so many digits may be blank: those left of the point, or left of the units
abbrev pub free_digits : (digits decimals : ℕ) → ℕ
free_digits digits decimals = digits - max decimals 1

-- the point, where there are decimals
abbrev pub point : ℕ → List ℕ
point zero = []
point (suc decimals) = 46 ∷ []

-- the characters of a mark
abbrev pub mark_text : Mark → List ℕ
mark_text mark.Credit = codes "CR"
mark_text mark.Minus = codes "-"

-- a mark, or as many blanks
abbrev pub marked : Option Mark → Bool → List ℕ
marked None negative = []
marked (Some mark) negative = if negative then mark_text mark else replicate (mark_width (Some mark)) 32

-- digits with the point among them and the mark after
abbrev pub edited_digits : List ℕ → ℕ → Option Mark → Bool → List ℕ
edited_digits digits decimals mark negative =
    let free = free_digits (length digits) decimals in
    without_leading_zeros (take free digits)
    ++ (point decimals ++ (map figure (drop free digits) ++ marked mark negative))

-- a number in so many digits
abbrev pub edited : ℤ → (digits decimals : ℕ) → Option Mark → List ℕ
edited number digits decimals mark =
    edited_digits (last_digits digits (unsigned_abs number)) decimals mark (is_negative number)

-- a blank amount: the point alone
abbrev pub edited_blank : (digits decimals : ℕ) → Option Mark → List ℕ
edited_blank digits decimals mark =
    let free = free_digits digits decimals in
    replicate free 32 ++ (point decimals ++ replicate (digits - free + mark_width mark) 32)
