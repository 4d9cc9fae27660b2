-- The digits of a number, and the number of digits: leading blanks count nothing.
use Rattle.std.proofs.Common.{◌≡◌, ◌∙◌, refl, sym, ap, ap₂, ℕ, zero, suc, ◌+◌, ◌-◌, ◌*◌, ◌^◌, ◌/◌, ◌%◌, ◌<◌, ◌≤◌, ◌==◌, ◌||◌, not, Bool, List, [], ◌∷◌, length, map, Option, Some, None, arith}
use Rattle.std.specs.List.{list_any}
use Rattle.std.proofs.Math.Nat.{pow-succ', mul-add-div_right, mul-add-mod_self_right, mod-eq_of_lt, mod-lt, div-add-mod, div-eq_of_lt, div-lt_iff_lt-mul}
use Rattle.std.proofs.lemmas.Nat.{div-mul-add}
use Rattle.std.proofs.lemmas.Bool.Decides.{nat_tests}
use Rattle.report_definition.specs.Amounts.{number_in}
use Rattle.report_definition.specs.Edits.{last_digits}

-- the digit that a column counts as
abbrev pub value : Option ℕ → ℕ
value None = 0
value (Some digit) = digit

-- whether some digit is above 0
abbrev pub any_above_zero : List ℕ → Bool
any_above_zero digits = list_any (λ digit. not (digit == 0)) digits

-- each column that has a digit has one below 10
abbrev pub AreSmall : List (Option ℕ) → Type 0
AreSmall [] = Unit {0}
AreSmall (None ∷ columns) = AreSmall columns
AreSmall (Some digit ∷ columns) = (digit < 10) × AreSmall columns

-- each column has a digit
abbrev pub AreDigits : List (Option ℕ) → Type 0
AreDigits [] = Unit {0}
AreDigits (None ∷ columns) = ⊥
AreDigits (Some digit ∷ columns) = (digit < 10) × AreDigits columns

-- blank columns, and then digits
abbrev pub IsNumeral : List (Option ℕ) → Type 0
IsNumeral [] = Unit {0}
IsNumeral (None ∷ columns) = IsNumeral columns
IsNumeral (Some digit ∷ columns) = (digit < 10) × AreDigits columns

-- no column has a digit
abbrev pub AreBlank : List (Option ℕ) → Type 0
AreBlank [] = Unit {0}
AreBlank (None ∷ columns) = AreBlank columns
AreBlank (Some digit ∷ columns) = ⊥

pub AreSmall-digits : (columns : List (Option ℕ)) → AreDigits columns → AreSmall columns
AreSmall-digits [] are = tt
AreSmall-digits (None ∷ columns) are = absurd are
AreSmall-digits (Some digit ∷ columns) are = (are.0, AreSmall-digits columns are.1)

pub AreSmall-numeral : (columns : List (Option ℕ)) → IsNumeral columns → AreSmall columns
AreSmall-numeral [] is = tt
AreSmall-numeral (None ∷ columns) is = AreSmall-numeral columns is
AreSmall-numeral (Some digit ∷ columns) is = (is.0, AreSmall-digits columns is.1)

pub IsNumeral-digits : (columns : List (Option ℕ)) → AreDigits columns → IsNumeral columns
IsNumeral-digits [] are = tt
IsNumeral-digits (None ∷ columns) are = absurd are
IsNumeral-digits (Some digit ∷ columns) are = are

-- a power of ten is above 0
ten_pow : (k : ℕ) → 0 < 10 ^ k
ten_pow zero = omega arith
ten_pow (suc k) = let below = ten_pow k in rw (pow-succ' 10 k) (omega (arith, below))

-- one digit more before a number that is small enough
one_more : (digit power number : ℕ) → digit < 10 → number < power → digit * power + number < 10 * power
one_more digit power number small below =
    let room : digit * power + power ≤ 10 * power = multiples digit power small in
    omega (arith, below, room)
  where
    shared : (a b p : ℕ) → (a + b) * p ≡ a * p + b * p
    shared a b p = omega arith

    multiples : (d p : ℕ) → d < 10 → d * p + p ≤ 10 * p
    multiples d p small =
        let left = 9 - d in
        let all : d + left ≡ 9 = omega (arith, small) in
        let total : d * p + left * p ≡ 9 * p = sym (shared d left p) ∙ ap (λ n. n * p) all in
        omega (arith, total)

-- so many columns spell a number of so many digits
pub number_in-small : (columns : List (Option ℕ)) → AreSmall columns → number_in columns < 10 ^ length columns
number_in-small [] are = omega arith
number_in-small (None ∷ columns) are =
    let below = number_in-small columns are in let some = ten_pow (length columns) in
    rw (pow-succ' 10 (length columns)) (omega (arith, below, some))
number_in-small (Some digit ∷ columns) are =
    rw (pow-succ' 10 (length columns))
    (one_more digit (10 ^ length columns) (number_in columns) are.0 (number_in-small columns are.1))

-- the last digits don't tell of what stands before them
pub last_digits-after : (count before number : ℕ) → last_digits count (before * 10 ^ count + number) ≡ last_digits count number
last_digits-after zero before number = refl
last_digits-after (suc count) before number =
    let tens : before * 10 ^ suc count + number ≡ (before * 10) * 10 ^ count + number = rw (pow-succ' 10 count) (omega arith) in
    let head : ((before * 10) * 10 ^ count + number) / 10 ^ count % 10 ≡ number / 10 ^ count % 10
    = ap (λ n. n % 10) (mul-add-div_right (ten_pow count) (before * 10) number)
    ∙ mul-add-mod_self_right before 10 (number / 10 ^ count) in
    ap (last_digits (suc count)) tens ∙ ap₂ (λ d ds. d ∷ ds) head (last_digits-after count (before * 10) number)

-- the digits of the number that columns spell are the columns' own, 0 where a column is blank
pub last_digits-columns : (columns : List (Option ℕ)) → AreSmall columns
    → last_digits (length columns) (number_in columns) ≡ map value columns
last_digits-columns [] are = refl
last_digits-columns (None ∷ columns) are =
    let below = number_in-small columns are in
    let head : number_in columns / 10 ^ length columns % 10 ≡ 0
    = ap (λ n. n % 10) (div-eq_of_lt below) in
    ap₂ (λ d ds. d ∷ ds) head (last_digits-columns columns are)
last_digits-columns (Some digit ∷ columns) are =
    let below = number_in-small columns are.1 in
    let head : (digit * 10 ^ length columns + number_in columns) / 10 ^ length columns % 10 ≡ digit
    = ap (λ n. n % 10) (div-mul-add digit (10 ^ length columns) (number_in columns) below) ∙ mod-eq_of_lt are.0 in
    ap₂ (λ d ds. d ∷ ds) head
    (last_digits-after (length columns) digit (number_in columns) ∙ last_digits-columns columns are.1)

-- some digit is above 0 where the number is
pub any_above_zero-number : (count number : ℕ) → number < 10 ^ count → any_above_zero (last_digits count number) ≡ not (number == 0)
any_above_zero-number zero number below = let none : number ≡ 0 = omega (arith, below) in ap (λ n. not (n == 0)) (sym none)
any_above_zero-number (suc count) number below =
    let power = 10 ^ count in
    let some = ten_pow count in
    let high = number / power in
    let low = number % power in
    let parts : power * high + low ≡ number = div-add-mod number power in
    let short : low < power = mod-lt number some in
    let single : high < 10 = (div-lt_iff_lt-mul some).1 (rw (pow-succ' 10 count) at below) in
    let split : number ≡ high * power + low = sym parts ∙ omega arith in
    let below_it : any_above_zero (last_digits count number) ≡ not (low == 0)
    = ap (λ n. any_above_zero (last_digits count n)) split ∙ ap any_above_zero (last_digits-after count high low)
    ∙ any_above_zero-number count low short in
    ap₂ (λ d rest. not (d == 0) || rest) (mod-eq_of_lt single) below_it ∙ either power high low number some parts
  where
    either : (power high low number : ℕ) → 0 < power → power * high + low ≡ number
        → (not (high == 0) || not (low == 0)) ≡ not (number == 0)
    either power zero low number some parts =
        let same : low ≡ number = omega (arith, parts) in ap (λ n. not (n == 0)) same
    either power (suc high) low number some parts =
        let above : 0 < number = omega (arith, some, parts) in
        grind (arith, nat_tests, above)
