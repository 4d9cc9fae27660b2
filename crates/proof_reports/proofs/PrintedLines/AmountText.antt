-- An amount under zero control: its wheels print the edited amount. Significance starts at the first digit above 0, and passes
-- through the wheels up to the mark.
use Rattle.std.proofs.Common.{◌≡◌, ◌∙◌, refl, sym, ap, ap₂, ℕ, zero, suc, ◌+◌, ◌-◌, ◌≤◌, ◌==◌, ◌&&◌, ◌||◌, not, Bool, true, false, List, [], ◌∷◌, ◌++◌, length, map, take, drop, replicate, Option, Some, None, if◌then◌else◌, arith}
use Rattle.std.proofs.lemmas.List.{take-map, drop-map, map-append, length-map, length-take, length-drop, take-append-drop, replicate-append-replicate}
use Rattle.std.proofs.lemmas.List.Folds.{list_any-append}
use Rattle.print_unit.specs.Below.card_code.CardCode.{print_character, deck_character, code, rows_of}
use Rattle.wiring_table.specs.Below.chart_line_rules.PrintRules.Items.{mark_width}
use Rattle.wiring_table.specs.Below.chart_lines.declared.charts.statement.Mark.{Mark}
use Rattle.wiring_table.specs.Below.chart_lines.declared.charts.statement.Mark.TheVariants as mark
use Rattle.print_unit.specs.ZeroControl.{Wheel, character_of, is_figure, is_zero, shown, has_significance, gives, printed_from}
use Rattle.report_definition.specs.Edits.{figure, without_leading_zeros, free_digits, point, marked, edited_digits, edited_blank}
use Rattle.proof_reports.specs.PrintedLines.Shown.{digit_set, point_sets, mark_sets}
use Rattle.proof_reports.proofs.PrintedLines.Characters.{received, IsDigitSet-digit, blank-prints}
use Rattle.proof_reports.proofs.PrintedLines.Numbers.{value, any_above_zero, AreDigits, IsNumeral, AreBlank, IsNumeral-digits}

-- a wheel of an amount after its first: one whose zeros may be blank, one that always prints, and one of the mark
abbrev pub high_wheel : Option ℕ → Wheel
high_wheel column = record { received = received (digit_set column); link = true; suppress = true; symbol = false }

abbrev pub plain_wheel : ℕ → Wheel
plain_wheel set = record { received = received set; link = true; suppress = false; symbol = false }

abbrev pub mark_wheel : ℕ → Wheel
mark_wheel set = record { received = received set; link = true; suppress = false; symbol = true }

-- the wheels of an amount
abbrev pub amount_wheels : (free decimals : ℕ) → Option Mark → List (Option ℕ) → Bool → List Wheel
amount_wheels free decimals mark columns negative =
    map high_wheel (take free columns)
    ++ (map plain_wheel (point_sets decimals)
    ++ (map (λ column. plain_wheel (digit_set column)) (drop free columns) ++ map mark_wheel (mark_sets mark negative)))

-- the significance that wheels give to what stands after them
given_after : Bool → List Wheel → Bool
given_after given [] = given
given_after given (wheel ∷ others) = given_after (gives (has_significance true given wheel) wheel) others

-- wheels print from the left, those after with what those before give them
printed-append : (given : Bool) (one other : List Wheel)
    → printed_from true given (one ++ other) ≡ printed_from true given one ++ printed_from true (given_after given one) other
unfolding given_after
printed-append given [] other = refl
printed-append given (wheel ∷ others) other =
    ap (λ line. shown (has_significance true given wheel) wheel ∷ line)
    (printed-append (gives (has_significance true given wheel) wheel) others other)

-- wheels in two parts, where it is known what each of them prints
printed-parts : (given after : Bool) (front tail : List Wheel) (one other : List ℕ) → printed_from true given front ≡ one
    → given_after given front ≡ after → printed_from true after tail ≡ other → printed_from true given (front ++ tail) ≡ one ++ other
printed-parts given after front tail one other is_one is_after is_other =
    printed-append given front tail
    ∙ ap₂ (λ xs ys. xs ++ ys) is_one (ap (λ g. printed_from true g tail) is_after ∙ is_other)

-- the digits on the left, with significance
high-significant : (columns : List (Option ℕ)) → AreDigits columns
    → (printed_from true true (map high_wheel columns) ≡ map figure (map value columns))
    × (given_after true (map high_wheel columns) ≡ true)
unfolding given_after
high-significant [] are = (refl, refl)
high-significant (None ∷ columns) are = absurd are
high-significant (Some digit ∷ columns) are =
    let rest = high-significant columns are.1 in
    let is = IsDigitSet-digit digit are.0 in
    (ap₂ (λ c line. c ∷ line) is.prints rest.0, rest.1)

-- the digits on the left, from no significance on
high-numeral : (columns : List (Option ℕ)) → IsNumeral columns
    → (printed_from true false (map high_wheel columns) ≡ without_leading_zeros (map value columns))
    × (given_after false (map high_wheel columns) ≡ any_above_zero (map value columns))
unfolding given_after
high-numeral [] is = (refl, refl)
high-numeral (None ∷ columns) is =
    let rest = high-numeral columns is in (ap₂ (λ c line. c ∷ line) blank-prints rest.0, rest.1)
high-numeral (Some digit ∷ columns) is =
    let set = IsDigitSet-digit digit is.0 in
    by (digit == 0) (is_zero (received (digit_set (Some digit)))) (is_figure (received (digit_set (Some digit))))
    (character_of (received (digit_set (Some digit)))) set.zero set.figure set.prints
    (high-numeral columns (IsNumeral-digits columns is.1)) (high-significant columns is.1)
  where
    by : (z zero other : Bool) (character : ℕ) → zero ≡ z → other ≡ not z → character ≡ figure digit
        → (printed_from true false (map high_wheel columns) ≡ without_leading_zeros (map value columns))
        × (given_after false (map high_wheel columns) ≡ any_above_zero (map value columns))
        → (printed_from true true (map high_wheel columns) ≡ map figure (map value columns))
        × (given_after true (map high_wheel columns) ≡ true)
        → ((if zero then 32 else character) ∷ printed_from true other (map high_wheel columns)
        ≡ (if z then 32 ∷ without_leading_zeros (map value columns) else figure digit ∷ map figure (map value columns)))
        × (given_after other (map high_wheel columns) ≡ (not z || any_above_zero (map value columns)))
    by true true false character is_zero_set is_other prints free full = (ap (λ line. 32 ∷ line) free.0, free.1)
    by false false true character is_zero_set is_other prints free full = (ap₂ (λ c line. c ∷ line) prints full.0, full.1)
    by true false other character is_zero_set is_other prints free full = cc
    by false true other character is_zero_set is_other prints free full = cc
    by true true true character is_zero_set is_other prints free full = cc
    by false false false character is_zero_set is_other prints free full = cc

-- blank columns on the left
high-blank : (columns : List (Option ℕ)) → AreBlank columns
    → (printed_from true false (map high_wheel columns) ≡ replicate (length columns) 32)
    × (given_after false (map high_wheel columns) ≡ false)
unfolding given_after
high-blank [] are = (refl, refl)
high-blank (None ∷ columns) are =
    let rest = high-blank columns are in (ap₂ (λ c line. c ∷ line) blank-prints rest.0, rest.1)
high-blank (Some digit ∷ columns) are = absurd are

-- a wheel without SUPPRESS and SYMBOL prints what it received
pub plain-shown : (has : Bool) (wheel : Wheel) → wheel.suppress ≡ false → wheel.symbol ≡ false
    → shown has wheel ≡ character_of wheel.received
plain-shown true wheel no_suppress no_symbol = refl
plain-shown false wheel no_suppress no_symbol = rw (no_suppress, no_symbol) refl

-- the digits that always print
low-digits : (given : Bool) (columns : List (Option ℕ)) → AreDigits columns
    → (printed_from true given (map (λ column. plain_wheel (digit_set column)) columns) ≡ map figure (map value columns))
    × (given_after given (map (λ column. plain_wheel (digit_set column)) columns) ≡ (given || any_above_zero (map value columns)))
unfolding given_after
low-digits true [] are = (refl, refl)
low-digits false [] are = (refl, refl)
low-digits given (None ∷ columns) are = absurd are
low-digits given (Some digit ∷ columns) are =
    let set = IsDigitSet-digit digit are.0 in
    let wheel = plain_wheel (digit_set (Some digit)) in
    let rest = low-digits (given || is_figure wheel.received) columns are.1 in (
      ap₂ (λ c line. c ∷ line) (plain-shown given wheel refl refl ∙ set.prints) rest.0,
      rest.1 ∙ by given (is_figure wheel.received) (not (digit == 0)) (any_above_zero (map value columns)) set.figure,
    )
  where
    by : (a b c d : Bool) → b ≡ c → ((a || b) || d) ≡ (a || (c || d))
    by true b c d is = refl
    by false b c d is = ap (λ x. x || d) is

-- blank columns among them
low-blank : (columns : List (Option ℕ)) → AreBlank columns
    → (printed_from true false (map (λ column. plain_wheel (digit_set column)) columns) ≡ replicate (length columns) 32)
    × (given_after false (map (λ column. plain_wheel (digit_set column)) columns) ≡ false)
unfolding given_after
low-blank [] are = (refl, refl)
low-blank (None ∷ columns) are =
    let rest = low-blank columns are in (ap₂ (λ c line. c ∷ line) blank-prints rest.0, rest.1)
low-blank (Some digit ∷ columns) are = absurd are

-- the point
point-prints : (given : Bool) (decimals : ℕ)
    → (printed_from true given (map plain_wheel (point_sets decimals)) ≡ point decimals)
    × (given_after given (map plain_wheel (point_sets decimals)) ≡ given)
unfolding given_after print_character deck_character code rows_of
point-prints given zero = (refl, refl)
point-prints true (suc decimals) = (refl, refl)
point-prints false (suc decimals) = (refl, refl)

-- the mark prints where significance comes to it
mark-prints : (given : Bool) (mark : Option Mark) (negative : Bool)
    → printed_from true given (map mark_wheel (mark_sets mark negative)) ≡ marked mark (given && negative)
unfolding print_character deck_character code rows_of
mark-prints given None negative = refl
mark-prints true (Some mark.Credit) true = refl
mark-prints true (Some mark.Credit) false = refl
mark-prints false (Some mark.Credit) true = refl
mark-prints false (Some mark.Credit) false = refl
mark-prints true (Some mark.Minus) true = refl
mark-prints true (Some mark.Minus) false = refl
mark-prints false (Some mark.Minus) true = refl
mark-prints false (Some mark.Minus) false = refl

-- what stands after the digits on the left
tail : ℕ → Option Mark → Bool → List (Option ℕ) → List Wheel
tail decimals mark negative low =
    map plain_wheel (point_sets decimals)
    ++ (map (λ column. plain_wheel (digit_set column)) low ++ map mark_wheel (mark_sets mark negative))

after-digits : (given : Bool) (decimals : ℕ) (mark : Option Mark) (negative : Bool) (low : List (Option ℕ)) → AreDigits low
    → printed_from true given (tail decimals mark negative low)
    ≡ point decimals ++ (map figure (map value low) ++ marked mark ((given || any_above_zero (map value low)) && negative))
unfolding tail
after-digits given decimals mark negative low are =
    let points = point-prints given decimals in
    let digits = low-digits given low are in
    let marks = mark-prints (given || any_above_zero (map value low)) mark negative in
    printed-parts given given _ _ _ _ points.0 points.1 (printed-parts given _ _ _ _ _ digits.0 digits.1 marks)

after-blank : (decimals : ℕ) (mark : Option Mark) (negative : Bool) (low : List (Option ℕ)) → AreBlank low
    → printed_from true false (tail decimals mark negative low)
    ≡ point decimals ++ (replicate (length low) 32 ++ marked mark false)
unfolding tail
after-blank decimals mark negative low are =
    let points = point-prints false decimals in
    let digits = low-blank low are in
    printed-parts false false _ _ _ _ points.0 points.1
    (printed-parts false false _ _ _ _ digits.0 digits.1 (mark-prints false mark negative))

-- some of the digits are digits
AreDigits-take : (count : ℕ) (columns : List (Option ℕ)) → AreDigits columns → AreDigits (take count columns)
AreDigits-take zero columns are = tt
AreDigits-take (suc count) [] are = tt
AreDigits-take (suc count) (None ∷ columns) are = absurd are
AreDigits-take (suc count) (Some digit ∷ columns) are = (are.0, AreDigits-take count columns are.1)

-- the first columns of a numeral are one
IsNumeral-take : (count : ℕ) (columns : List (Option ℕ)) → IsNumeral columns → IsNumeral (take count columns)
IsNumeral-take zero columns is = tt
IsNumeral-take (suc count) [] is = tt
IsNumeral-take (suc count) (None ∷ columns) is = IsNumeral-take count columns is
IsNumeral-take (suc count) (Some digit ∷ columns) is = (is.0, AreDigits-take count columns is.1)

AreBlank-take : (count : ℕ) (columns : List (Option ℕ)) → AreBlank columns → AreBlank (take count columns)
AreBlank-take zero columns are = tt
AreBlank-take (suc count) [] are = tt
AreBlank-take (suc count) (None ∷ columns) are = AreBlank-take count columns are
AreBlank-take (suc count) (Some digit ∷ columns) are = absurd are

AreBlank-drop : (count : ℕ) (columns : List (Option ℕ)) → AreBlank columns → AreBlank (drop count columns)
AreBlank-drop zero columns are = are
AreBlank-drop (suc count) [] are = tt
AreBlank-drop (suc count) (None ∷ columns) are = AreBlank-drop count columns are
AreBlank-drop (suc count) (Some digit ∷ columns) are = absurd are

-- some digit is above 0 among the first or among the others
any-cut : (count : ℕ) (columns : List (Option ℕ))
    → (any_above_zero (map value (take count columns)) || any_above_zero (map value (drop count columns)))
    ≡ any_above_zero (map value columns)
any-cut count columns =
    sym (list_any-append (λ digit. not (digit == 0)) (map value (take count columns)) (map value (drop count columns)))
    ∙ ap any_above_zero
    (sym (map-append value (take count columns) (drop count columns)) ∙ ap (map value) (take-append-drop count columns))

-- an amount with a digit prints the edited amount
pub amount-edited : (columns : List (Option ℕ)) (decimals : ℕ) (mark : Option Mark) (negative below : Bool) → IsNumeral columns
    → AreDigits (drop (free_digits (length columns) decimals) columns)
    → marked mark (any_above_zero (map value columns) && negative) ≡ marked mark below
    → printed_from true false (amount_wheels (free_digits (length columns) decimals) decimals mark columns negative)
    ≡ edited_digits (map value columns) decimals mark below
unfolding tail
amount-edited columns decimals mark negative below is low same =
    let free = free_digits (length columns) decimals in
    let parts : List ℕ → List ℕ → List ℕ → List ℕ
    = λ one other end. without_leading_zeros one ++ (point decimals ++ (map figure other ++ end)) in
    let front = high-numeral (take free columns) (IsNumeral-take free columns is) in
    let given = any_above_zero (map value (take free columns)) in
    let digits = map value columns in
    printed-parts false given _ _ _ _ front.0 front.1 (after-digits given decimals mark negative (drop free columns) low)
    ∙ ap (parts (map value (take free columns)) (map value (drop free columns)))
    (ap (λ b. marked mark (b && negative)) (any-cut free columns) ∙ same)
    ∙ sym (ap (λ n. parts (take (free_digits n decimals) digits) (drop (free_digits n decimals) digits) (marked mark below))
    (length-map columns value)
    ∙ ap₂ (λ one other. parts one other (marked mark below)) (take-map value free columns) (drop-map value free columns))

-- what is blank after the point
blank-end : (count : ℕ) (mark : Option Mark) → replicate count 32 ++ marked mark false ≡ replicate (count + mark_width mark) 32
blank-end count mark = ap (λ end. replicate count 32 ++ end) (blanks mark) ∙ replicate-append-replicate count (mark_width mark) 32
  where
    blanks : (mark : Option Mark) → marked mark false ≡ replicate (mark_width mark) 32
    blanks None = refl
    blanks (Some mark) = refl

-- a blank amount prints its point alone
pub amount-blank : (columns : List (Option ℕ)) (decimals : ℕ) (mark : Option Mark) (negative : Bool) → AreBlank columns
    → printed_from true false (amount_wheels (free_digits (length columns) decimals) decimals mark columns negative)
    ≡ edited_blank (length columns) decimals mark
unfolding tail
amount-blank columns decimals mark negative are =
    let free = free_digits (length columns) decimals in
    let front = high-blank (take free columns) (AreBlank-take free columns are) in
    let short : free ≤ length columns = omega arith in
    let first : length (take free columns) ≡ free = length-take free columns ∙ omega (arith, short) in
    printed-parts false false (map high_wheel (take free columns)) (tail decimals mark negative (drop free columns))
    (replicate free 32) (point decimals ++ replicate (length columns - free + mark_width mark) 32)
    (front.0 ∙ ap (λ n. replicate n 32) first) front.1
    (after-blank decimals mark negative (drop free columns) (AreBlank-drop free columns are)
    ∙ ap (λ end. point decimals ++ end)
    (blank-end (length (drop free columns)) mark ∙ ap (λ n. replicate (n + mark_width mark) 32) (length-drop free columns)))
