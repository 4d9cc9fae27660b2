-- Tokens are exactly the numbers that their readers answer.
use Rattle.std.proofs.Common.{◌≡◌, ℕ, ◌+◌, ◌-◌, ◌*◌, ◌≤◌, true, false, eqb, leb, ◌&&◌, List, [], ◌∷◌, length, Some, refl, ap, subst, arith, suc}
use Rattle.std.proofs.lemmas.Bool.{eqb-false, ne_eqb, and_parts, leb-true, le-leb}
use Rattle.std.proofs.lemmas.Option.{same_Some, cond_some}
use Rattle.std.specs.Char.{is_ascii_digit}
use Rattle.chart_lines.specs.TokensWords.Number.{IsNumber, IsNumberTo, AreNumbers, none, next}
use Rattle.chart_lines.specs.TokensWords.NumberReading.{digit_of, number_of, number_to, numbers_of}
use Rattle.chart_lines.proofs.TokensWords.Steps.{bound, refused}

-- a digit's byte is within the digits
digit_range : (b : ℕ) → is_ascii_digit b ≡ true → (48 ≤ b) × (b ≤ 57)
digit_range b digit =
    let p = and_parts (leb 48 b) (leb b 57) digit in
    (leb-true 48 b p.0, leb-true b 57 p.1)

two_digits : (a b tens units : ℕ) → (is_ascii_digit a ≡ true) × (a - 48 ≡ tens) → (is_ascii_digit b ≡ true) × (b - 48 ≡ units)
    → eqb a 48 ≡ false
    → IsNumber (a ∷ b ∷ []) (10 * tens + units)
two_digits a b tens units p q first = record {
  some = omega arith;
  few = omega arith;
  digits = rw (p.0, q.0) refl;
  leading = omega (arith, digit_range a p.0, eqb-false a 48 first);
  value = omega (arith, p.1, q.1);
}

three_digits : (a b c hundreds tens units : ℕ) → (is_ascii_digit a ≡ true) × (a - 48 ≡ hundreds)
    → (is_ascii_digit b ≡ true) × (b - 48 ≡ tens) → (is_ascii_digit c ≡ true) × (c - 48 ≡ units)
    → eqb a 48 ≡ false → IsNumber (a ∷ b ∷ c ∷ []) (100 * hundreds + 10 * tens + units)
three_digits a b c hundreds tens units p q r first = record {
  some = omega arith;
  few = omega arith;
  digits = rw (p.0, q.0, r.0) refl;
  leading = omega (arith, digit_range a p.0, eqb-false a 48 first);
  value = omega (arith, p.1, q.1, r.1);
}

-- what is read as a number is this number
pub number_is : (token : List ℕ) (n : ℕ) → number_of token ≡ Some n → IsNumber token n
unfolding number_of
number_is [] n read = cc
number_is (a ∷ []) n read =
    let p = cond_some (is_ascii_digit a) (a - 48) n read in
    record { some = omega arith; few = omega arith; digits = rw p.0 refl; leading = tt; value = omega (arith, p.1) }
number_is (a ∷ b ∷ []) n read =
    let first = refused _ _ n read in
    let tens = bound (digit_of a) _ n first.1 in
    let units = bound (digit_of b) _ n tens.2 in
    subst (IsNumber (a ∷ b ∷ [])) (same_Some _ n units.2)
    (two_digits a b tens.0 units.0 (cond_some (is_ascii_digit a) (a - 48) _ tens.1)
    (cond_some (is_ascii_digit b) (b - 48) _ units.1) first.0)
number_is (a ∷ b ∷ c ∷ []) n read =
    let first = refused _ _ n read in
    let hundreds = bound (digit_of a) _ n first.1 in
    let tens = bound (digit_of b) _ n hundreds.2 in
    let units = bound (digit_of c) _ n tens.2 in
    subst (IsNumber (a ∷ b ∷ c ∷ [])) (same_Some _ n units.2)
    (three_digits a b c hundreds.0 tens.0 units.0 (cond_some (is_ascii_digit a) (a - 48) _ hundreds.1)
    (cond_some (is_ascii_digit b) (b - 48) _ tens.1) (cond_some (is_ascii_digit c) (c - 48) _ units.1) first.0)
number_is (a ∷ b ∷ c ∷ d ∷ bytes) n read = cc

-- a number is read
pub number_read : (token : List ℕ) (n : ℕ) → IsNumber token n → number_of token ≡ Some n
unfolding number_of
number_read [] n is = absurd (omega (arith, is.some))
number_read (a ∷ []) n is =
    let p = and_parts (is_ascii_digit a) true is.digits in
    rw p.0 (ap Some (omega (arith, is.value)))
number_read (a ∷ b ∷ []) n is =
    let p = and_parts (is_ascii_digit a) (is_ascii_digit b && true) is.digits in
    let q = and_parts (is_ascii_digit b) true p.1 in
    rw (ne_eqb a 48 (λ same. absurd (omega (arith, is.leading, same))), p.0, q.0) (ap Some (omega (arith, is.value)))
number_read (a ∷ b ∷ c ∷ []) n is =
    let p = and_parts (is_ascii_digit a) (is_ascii_digit b && (is_ascii_digit c && true)) is.digits in
    let q = and_parts (is_ascii_digit b) (is_ascii_digit c && true) p.1 in
    let r = and_parts (is_ascii_digit c) true q.1 in
    rw (ne_eqb a 48 (λ same. absurd (omega (arith, is.leading, same))), p.0, q.0, r.0)
    (ap Some (omega (arith, is.value)))
number_read (a ∷ b ∷ c ∷ d ∷ bytes) n is = absurd (omega (arith, is.few))

-- what is read as a number up to the greatest is one
pub number_to_is : (greatest : ℕ) (token : List ℕ) (n : ℕ) → number_to greatest token ≡ Some n
    → IsNumberTo greatest token n
unfolding number_to
number_to_is greatest token n read =
    let m = bound (number_of token) _ n read in
    let p = cond_some (leb 1 m.0 && leb m.0 greatest) m.0 n m.2 in
    let bounds = and_parts (leb 1 m.0) (leb m.0 greatest) p.0 in
    subst (IsNumberTo greatest token) p.1
    (record {
      spelled = number_is token m.0 m.1;
      least = leb-true 1 m.0 bounds.0;
      most = leb-true m.0 greatest
          bounds.1;
    })

pub number_to_read : (greatest : ℕ) (token : List ℕ) (n : ℕ) → IsNumberTo greatest token n
    → number_to greatest token ≡ Some n
unfolding number_to
number_to_read greatest token n is =
    rw (number_read token n is.spelled, le-leb 1 n is.least, le-leb n greatest is.most) refl

-- what are read as numbers are these numbers
pub numbers_are : (tokens : List (List ℕ)) (numbers : List ℕ) → numbers_of tokens ≡ Some numbers
    → AreNumbers tokens numbers
numbers_are [] numbers read = subst (AreNumbers []) (same_Some [] numbers read) none
numbers_are (token ∷ tokens) numbers read =
    let first = bound (number_of token) _ numbers read in
    let others = bound (numbers_of tokens) _ numbers first.2 in
    subst (AreNumbers (token ∷ tokens)) (same_Some _ numbers others.2)
    (next token tokens first.0 others.0 (number_is token first.0 first.1) (numbers_are tokens others.0 others.1))

pub numbers_read : {tokens : List (List ℕ)} {numbers : List ℕ} → AreNumbers tokens numbers
    → numbers_of tokens ≡ Some numbers
numbers_read none = refl
numbers_read (next token tokens number numbers is are) = rw (number_read token number is, numbers_read are) refl

pub as_many_numbers : {tokens : List (List ℕ)} {numbers : List ℕ} → AreNumbers tokens numbers
    → length numbers ≡ length tokens
as_many_numbers none = refl
as_many_numbers (next token tokens number numbers is are) = ap suc (as_many_numbers are)
