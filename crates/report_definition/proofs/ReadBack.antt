-- Edited amounts read back, and the signs of values.
use Rattle.std.proofs.Common.{◌≡◌, ◌∙◌, ◌↔◌, refl, sym, ap, subst, ℕ, zero, suc, ℤ, pos, negsuc, ◌+◌, ◌-◌, ◌*◌, ◌/◌, ◌%◌, ◌^◌, ◌<◌, ◌==◌, ◌||◌, Bool, true, false, not, List, [], ◌∷◌, ◌++◌, Option, Some, None, is_some, length, map, take, drop, if◌then◌else◌, arith, unsigned_abs}
use Rattle.std.specs.Char.{is_ascii_digit}
use Rattle.std.specs.Int.{is_negative}
use Rattle.std.specs.List.{list_any}
use Rattle.std.proofs.Math.Nat.{pow-suc, div-one, div-eq_of_lt, div-div-eq-div-mul}
use Rattle.std.proofs.lemmas.Nat.{div-add-mod'}
use Rattle.std.proofs.lemmas.Bool.{false≢true}
use Rattle.std.proofs.lemmas.Bool.Decides.{nat_tests}
use Rattle.std.proofs.lemmas.List.{take-append-drop}
use Rattle.std.proofs.lemmas.List.Folds.{list_any-append}
use Rattle.card_code.specs.CardCode.{has_row}
use Rattle.chart_lines.specs.declared.charts.statement.Mark.{Mark}
use Rattle.chart_lines.specs.declared.charts.statement.Mark.TheVariants as mark
use Rattle.chart_rules.specs.ValidCard.{column_of}
use Rattle.report_definition.specs.AmountLaws.{spelled_after, is_of_mark, EditsReadBack, SignByPunch, SignByAbsence, SizesAreOfDigits}
use Rattle.report_definition.specs.Amounts.{digits_on, number_in, is_negated, signed}
use Rattle.report_definition.specs.Edits.{last_digits, figure, without_leading_zeros, free_digits, point, marked, edited, edited_digits}

-- all digits are below 10
abbrev AreSmall : List ℕ → Type 0
AreSmall [] = Unit {0}
AreSmall (digit ∷ digits) = (digit < 10) × AreSmall digits

-- the number of digits after those of a number so far
abbrev joined : ℕ → List ℕ → ℕ
joined so_far [] = so_far
joined so_far (digit ∷ digits) = joined (so_far * 10 + digit) digits

last_digits-small : (count number : ℕ) → AreSmall (last_digits count number)
last_digits-small zero number = tt
last_digits-small (suc count) number = (omega arith, last_digits-small count number)

take-small : (count : ℕ) (digits : List ℕ) → AreSmall digits → AreSmall (take count digits)
take-small zero digits small = tt
take-small (suc count) [] small = tt
take-small (suc count) (digit ∷ digits) small = (small.0, take-small count digits small.1)

drop-small : (count : ℕ) (digits : List ℕ) → AreSmall digits → AreSmall (drop count digits)
drop-small zero digits small = small
drop-small (suc count) [] small = tt
drop-small (suc count) (digit ∷ digits) small = drop-small count digits small.1

-- a text in two parts is read part by part
spelled-append : (so_far : ℕ) (one other : List ℕ)
    → spelled_after so_far (one ++ other) ≡ spelled_after (spelled_after so_far one) other
spelled-append so_far [] other = refl
spelled-append so_far (character ∷ one) other =
    by (is_ascii_digit character) (spelled-append (so_far * 10 + (character - 48)) one other) (spelled-append so_far one other)
  where
    by : (b : Bool)
        → spelled_after (so_far * 10 + (character - 48)) (one ++ other)
        ≡ spelled_after (spelled_after (so_far * 10 + (character - 48)) one) other
        → spelled_after so_far (one ++ other) ≡ spelled_after (spelled_after so_far one) other
        → (if b then spelled_after (so_far * 10 + (character - 48)) (one ++ other) else spelled_after so_far (one ++ other))
        ≡ spelled_after (if b then spelled_after (so_far * 10 + (character - 48)) one else spelled_after so_far one) other
    by true taken passed = taken
    by false taken passed = passed

-- a digit's character is a digit
figure-digit : (digit : ℕ) → digit < 10 → is_ascii_digit (figure digit) ≡ true
figure-digit digit small = grind (arith, nat_tests, small)

-- the characters of digits spell their number
spelled-figures : (so_far : ℕ) (digits : List ℕ) → AreSmall digits → spelled_after so_far (map figure digits) ≡ joined so_far digits
spelled-figures so_far [] small = refl
spelled-figures so_far (digit ∷ digits) small =
    ap
    (λ b. if b then spelled_after (so_far * 10 + (figure digit - 48)) (map figure digits) else spelled_after so_far (map figure digits))
    (figure-digit digit small.0)
    ∙ ap (λ n. spelled_after n (map figure digits)) same
    ∙ spelled-figures (so_far * 10 + digit) digits small.1
  where
    same : so_far * 10 + (48 + digit - 48) ≡ so_far * 10 + digit
    same = omega arith

-- blank zeros in front count nothing
spelled-blanks : (digits : List ℕ) → AreSmall digits → spelled_after 0 (without_leading_zeros digits) ≡ joined 0 digits
spelled-blanks [] small = refl
spelled-blanks (digit ∷ digits) small =
    by (digit == 0) refl (spelled-blanks digits small.1)
  where
    by : (b : Bool) → (digit == 0) ≡ b → spelled_after 0 (without_leading_zeros digits) ≡ joined 0 digits
        → spelled_after 0 (if b then 32 ∷ without_leading_zeros digits else map figure (digit ∷ digits)) ≡ joined 0 (digit ∷ digits)
    by true is more = let none : 0 ≡ 0 * 10 + digit = grind (arith, nat_tests, is) in more ∙ ap (λ n. joined n digits) none
    by false is more = spelled-figures 0 (digit ∷ digits) small

-- digits in two parts
joined-append : (so_far : ℕ) (one other : List ℕ) → joined (joined so_far one) other ≡ joined so_far (one ++ other)
joined-append so_far [] other = refl
joined-append so_far (digit ∷ one) other = joined-append (so_far * 10 + digit) one other

-- one digit more of a number
one_more : (count number : ℕ) → number / 10 ^ suc count * 10 + number / 10 ^ count % 10 ≡ number / 10 ^ count
one_more count number =
    ap (λ n. n * 10 + number / 10 ^ count % 10) (ap (λ n. number / n) (pow-suc 10 count) ∙ sym (div-div-eq-div-mul number (10 ^ count) 10))
    ∙ div-add-mod' (number / 10 ^ count) 10

-- the last digits after the front ones are the number
joined-last : (count number : ℕ) → joined (number / 10 ^ count) (last_digits count number) ≡ number
joined-last zero number = div-one number
joined-last (suc count) number =
    ap (λ n. joined n (last_digits count number)) (one_more count number) ∙ joined-last count number

-- a number with room has no more digits in front
joined-whole : (count number : ℕ) → number < 10 ^ count → joined 0 (last_digits count number) ≡ number
joined-whole count number room =
    ap (λ n. joined n (last_digits count number)) none ∙ joined-last count number
  where
    none : 0 ≡ number / 10 ^ count
    none = sym (div-eq_of_lt room)

-- the point is passed over
spelled-point : (so_far decimals : ℕ) → spelled_after so_far (point decimals) ≡ so_far
spelled-point so_far zero = refl
spelled-point so_far (suc decimals) = refl

-- and so is a mark
spelled-mark : (so_far : ℕ) (mark : Option Mark) (negative : Bool) → spelled_after so_far (marked mark negative) ≡ so_far
spelled-mark so_far None negative = refl
spelled-mark so_far (Some mark.Credit) true = refl
spelled-mark so_far (Some mark.Credit) false = refl
spelled-mark so_far (Some mark.Minus) true = refl
spelled-mark so_far (Some mark.Minus) false = refl

-- the digits of an edited amount spell its number
spelled-edit : (digits : List ℕ) (decimals : ℕ) (mark : Option Mark) (negative : Bool) → AreSmall digits
    → spelled_after 0 (edited_digits digits decimals mark negative) ≡ joined 0 digits
spelled-edit digits decimals mark negative small =
    let free = free_digits (length digits) decimals in
    let front = without_leading_zeros (take free digits) in
    let back = map figure (drop free digits) in
    spelled-append 0 front (point decimals ++ (back ++ marked mark negative))
    ∙ spelled-append (spelled_after 0 front) (point decimals) (back ++ marked mark negative)
    ∙ ap (λ n. spelled_after n (back ++ marked mark negative)) (spelled-point (spelled_after 0 front) decimals)
    ∙ spelled-append (spelled_after 0 front) back (marked mark negative)
    ∙ spelled-mark (spelled_after (spelled_after 0 front) back) mark negative
    ∙ ap (λ n. spelled_after n back) (spelled-blanks (take free digits) (take-small free digits small))
    ∙ spelled-figures (joined 0 (take free digits)) (drop free digits) (drop-small free digits small)
    ∙ joined-append 0 (take free digits) (drop free digits)
    ∙ ap (joined 0) (take-append-drop free digits)

-- figures have no mark
figures-unmarked : (digits : List ℕ) → AreSmall digits → list_any is_of_mark (map figure digits) ≡ false
figures-unmarked [] small = refl
figures-unmarked (digit ∷ digits) small =
    let more = figures-unmarked digits small.1 in
    let here : is_of_mark (figure digit) ≡ false = grind (arith, nat_tests, small.0) in
    ap (λ b. b || list_any is_of_mark (map figure digits)) here ∙ more

blanks-unmarked : (digits : List ℕ) → AreSmall digits → list_any is_of_mark (without_leading_zeros digits) ≡ false
blanks-unmarked [] small = refl
blanks-unmarked (digit ∷ digits) small = by (digit == 0) (blanks-unmarked digits small.1)
  where
    by : (b : Bool) → list_any is_of_mark (without_leading_zeros digits) ≡ false
        → list_any is_of_mark (if b then 32 ∷ without_leading_zeros digits else map figure (digit ∷ digits)) ≡ false
    by true more = more
    by false more = figures-unmarked (digit ∷ digits) small

point-unmarked : (decimals : ℕ) → list_any is_of_mark (point decimals) ≡ false
point-unmarked zero = refl
point-unmarked (suc decimals) = refl

-- a mark stands where there is one and the number is below 0
mark-marked : (mark : Option Mark) (negative : Bool) → (negative ≡ true → is_some mark ≡ true)
    → list_any is_of_mark (marked mark negative) ≡ negative
mark-marked None true some = let no : false ≡ true = some refl in cc
mark-marked None false some = refl
mark-marked (Some mark.Credit) true some = refl
mark-marked (Some mark.Credit) false some = refl
mark-marked (Some mark.Minus) true some = refl
mark-marked (Some mark.Minus) false some = refl

edit-marked : (digits : List ℕ) (decimals : ℕ) (mark : Option Mark) (negative : Bool) → AreSmall digits
    → (negative ≡ true → is_some mark ≡ true)
    → list_any is_of_mark (edited_digits digits decimals mark negative) ≡ negative
edit-marked digits decimals mark negative small some =
    let free = free_digits (length digits) decimals in
    let front = without_leading_zeros (take free digits) in
    let back = map figure (drop free digits) in
    list_any-append is_of_mark front (point decimals ++ (back ++ marked mark negative))
    ∙ ap (λ b. b || list_any is_of_mark (point decimals ++ (back ++ marked mark negative))) (blanks-unmarked (take free digits) (take-small free digits small))
    ∙ list_any-append is_of_mark (point decimals) (back ++ marked mark negative)
    ∙ ap (λ b. b || list_any is_of_mark (back ++ marked mark negative)) (point-unmarked decimals)
    ∙ list_any-append is_of_mark back (marked mark negative)
    ∙ ap (λ b. b || list_any is_of_mark (marked mark negative)) (figures-unmarked (drop free digits) (drop-small free digits small))
    ∙ mark-marked mark negative some

-- a number from 0 on is not negative
pub not-negative : (number : ℕ) → is_negative (pos number) ≡ false
not-negative number = grind (arith, nat_tests)

-- sign and size make the number
sign_and_size : (number : ℤ) → signed (is_negative number) (unsigned_abs number) ≡ number
sign_and_size (pos number) = ap (λ b. signed b number) (not-negative number)
sign_and_size (negsuc number) = refl

pub edits_read : EditsReadBack
edits_read number digits decimals mark some few room shown =
    let small = last_digits-small digits (unsigned_abs number) in
    ap (λ b. signed b (spelled_after 0 (edited number digits decimals mark)))
    (edit-marked (last_digits digits (unsigned_abs number)) decimals mark (is_negative number) small shown)
    ∙ ap (signed (is_negative number))
    (spelled-edit (last_digits digits (unsigned_abs number)) decimals mark (is_negative number) small
    ∙ joined-whole digits (unsigned_abs number) room)
    ∙ sign_and_size number

-- a negated number is below 0 where it is not 0
below : (negated : Bool) (number : ℕ)
    → (is_negative (signed negated number) ≡ true) ↔ ((negated ≡ true) × (0 < number))
below true zero = (λ h. cc, λ h. absurd (omega (arith, h.1)))
below true (suc number) = (λ h. (refl, omega arith), λ h. refl)
below false number = (λ h. absurd (false≢true (sym (not-negative number) ∙ h)), λ h. let no : false ≡ true = h.0 in cc)

pub signed-size : (negated : Bool) (number : ℕ) → unsigned_abs (signed negated number) ≡ number
signed-size true zero = refl
signed-size true (suc number) = refl
signed-size false number = refl

pub sizes : SizesAreOfDigits
sizes field card = signed-size (is_negated field.kind card) (number_in (digits_on field card))

pub by_punch : SignByPunch
by_punch field card decimals column kind =
    subst (λ k. (is_negative (signed (is_negated k card) (number_in (digits_on field card))) ≡ true)
    ↔ ((has_row (column_of card column) 11 ≡ true) × (0 < number_in (digits_on field card))))
    (sym kind)
    (below (has_row (column_of card column) 11) (number_in (digits_on field card)))

pub by_absence : SignByAbsence
by_absence field card decimals column kind =
    let one = below (not (has_row (column_of card column) 11)) (number_in (digits_on field card)) in
    subst (λ k. (is_negative (signed (is_negated k card) (number_in (digits_on field card))) ≡ true)
    ↔ ((has_row (column_of card column) 11 ≡ false) × (0 < number_in (digits_on field card))))
    (sym kind)
    (turned (has_row (column_of card column) 11) one)
  where
    turned : (punched : Bool) → {P Q : Type 0} → (P ↔ ((not punched ≡ true) × Q)) → (P ↔ ((punched ≡ false) × Q))
    turned true one = (λ h. let no : false ≡ true = (one.0 h).0 in cc, λ h. let no : true ≡ false = h.0 in cc)
    turned false one = (λ h. (refl, (one.0 h).1), λ h. one.1 (refl, h.1))
