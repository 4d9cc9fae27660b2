-- Numbers and hubs as they are written are numbers and hubs' names.
use Rattle.std.proofs.Common.{◌≡◌, ◌∙◌, ℕ, ◌+◌, ◌*◌, ◌/◌, ◌%◌, ◌<◌, ◌≤◌, inl, inr, List, [], ◌∷◌, ◌++◌, length, true, ◌&&◌, Some, refl, sym, ap, subst, arith, leb, length-append, decimal}
use Rattle.std.specs.Char.{is_ascii_digit}
use Rattle.std.specs.List.{list_all}
use Rattle.std.specs.Prelude.{nat_le}
use Rattle.std.proofs.lemmas.Bool.{and_parts, cases_lt, lt-ltb, leb-true, and_from}
use Rattle.std.proofs.lemmas.Fmt.{decimal_digit, decimal_step}
use Rattle.std.proofs.lemmas.Bool.Decides.{nat_tests}
use Rattle.hubs.specs.HubTable.HubTable.{row_of}
use Rattle.hubs.specs.Hubs.{letters_of, numbers_of, number_of}
use Rattle.hubs.specs.declared.hub.Group.{Group}
use Rattle.hubs.specs.declared.hub.Hub.{Hub}
use Rattle.hubs.specs.declared.hub_table.shape.Numbers.{Numbers}
use Rattle.hubs.specs.declared.hub_table.shape.Numbers.TheVariants.{Bare, One, Two, Three}
use Rattle.chart_lines.specs.TokensWords.Number.{IsNumber}
use Rattle.wiring_text.specs.HubNames.{IsGroup, IsPointed, IsDotted, bare, one, two, three, IsHubName, name_of}
use Rattle.hubs.specs.HubText.{group_text, pointed, numbers_text, hub_text}
use Rattle.wire_chart.proofs.RowLemmas.{AreSmall, good_letters, numbered_small}
use Rattle.wire_chart.proofs.WrittenBytes.{is_high, IsWord, all_weaker, append_true}

-- the byte of a digit
abbrev digit_text : ℕ → List ℕ
digit_text digit = (48 + digit) ∷ []

digit_is : (d : ℕ) → d < 10 → is_ascii_digit (48 + d) ≡ true
digit_is d h = grind (arith, nat_tests)

number_one : (n : ℕ) → n < 10 → IsNumber (digit_text n) n
number_one n h = record {
  some = omega arith;
  few = omega arith;
  digits = and_from (is_ascii_digit (48 + n)) true (digit_is n h) refl;
  leading = tt;
  value = omega arith;
}

number_two : (a b n : ℕ) → 1 ≤ a → a < 10 → b < 10 → n ≡ 10 * a + b → IsNumber (digit_text a ++ digit_text b) n
number_two a b n some h k e = record {
  some = omega arith;
  few = omega arith;
  digits = and_from (is_ascii_digit (48 + a)) (is_ascii_digit (48 + b) && true) (digit_is a h)
      (and_from (is_ascii_digit (48 + b)) true (digit_is b k) refl);
  leading = omega arith;
  value = omega arith;
}

number_three : (a b c n : ℕ) → 1 ≤ a → a < 10 → b < 10 → c < 10 → n ≡ 100 * a + 10 * b + c
    → IsNumber (digit_text a ++ digit_text b ++ digit_text c) n
number_three a b c n some h k l e = record {
  some = omega arith;
  few = omega arith;
  digits = and_from (is_ascii_digit (48 + a)) (is_ascii_digit (48 + b) && (is_ascii_digit (48 + c) && true)) (digit_is a h)
      (and_from (is_ascii_digit (48 + b)) (is_ascii_digit (48 + c) && true) (digit_is b k)
      (and_from (is_ascii_digit (48 + c)) true (digit_is c l) refl));
  leading = omega arith;
  value = omega arith;
}

-- a number below 1,000 by its digits
two_digits : (n : ℕ) → 10 ≤ n → n < 100 → decimal n ≡ digit_text (n / 10) ++ digit_text (n % 10)
two_digits n from to = decimal_step n from (omega arith) ∙ ap (λ front. front ++ digit_text (n % 10)) (decimal_digit (n / 10) (omega arith))

three_digits : (n : ℕ) → 100 ≤ n → n < 1000
    → decimal n ≡ (digit_text (n / 10 / 10) ++ digit_text (n / 10 % 10)) ++ digit_text (n % 10)
three_digits n from to =
    decimal_step n (omega arith) (omega arith)
    ∙ ap (λ front. front ++ digit_text (n % 10)) (two_digits (n / 10) (omega arith) (omega arith))

-- a number as it is written is that number
pub number_written : (n : ℕ) → n < 1000 → IsNumber (decimal n) n
number_written n small = elim (cases_lt n 10) [
  | inl below ↦ subst (λ ds. IsNumber ds n) (sym (decimal_digit n below)) (number_one n below)
  | inr from ↦ elim (cases_lt n 100) [
    | inl below ↦ subst (λ ds. IsNumber ds n) (sym (two_digits n from below))
        (number_two (n / 10) (n % 10) n (omega arith) (omega arith) (omega arith) (omega arith))
    | inr from ↦ subst (λ ds. IsNumber ds n) (sym (three_digits n from small))
        (number_three (n / 10 / 10) (n / 10 % 10) (n % 10) n (omega arith) (omega arith) (omega arith) (omega arith) (omega arith))
  ]
]

digit_high : (b : ℕ) → is_ascii_digit b ≡ true → is_high b ≡ true
digit_high b h =
    let from : 48 ≤ b = leb-true 48 b (and_parts (leb 48 b) (leb b 57) h).0 in
    lt-ltb 39 b (omega arith)

number_high : (n : ℕ) → n < 1000 → list_all is_high (decimal n) ≡ true
number_high n small = all_weaker is_ascii_digit is_high digit_high (decimal n) (number_written n small).digits

pub number_word : (n : ℕ) → n < 1000 → IsWord (decimal n)
number_word n small =
    let is : IsNumber (decimal n) n = number_written n small in
    record { some = is.some; few = omega (arith, is.few); high = number_high n small }

-- a point and a number
pointed_written : (n : ℕ) → n < 1000 → IsPointed (pointed n) n
pointed_written n small = record { digits = decimal n; spelled = refl; value = number_written n small }

pointed_high : (n : ℕ) → n < 1000 → list_all is_high (pointed n) ≡ true
pointed_high n small = and_from true (list_all is_high (decimal n)) refl (number_high n small)

pointed_length : (n : ℕ) → n < 1000 → length (pointed n) ≤ 4
pointed_length n small = let is : IsNumber (decimal n) n = number_written n small in omega (arith, is.few)

-- the numbers of a hub
numbers_written : (numbers : Numbers) → AreSmall numbers → IsDotted (numbers_text numbers) numbers
numbers_written Bare small = bare
numbers_written (One n) small = one (pointed_written n small)
numbers_written (Two m n) small = two (pointed_written m small.0) (pointed_written n small.1)
numbers_written (Three l m n) small = three (pointed_written l small.0) (pointed_written m small.1) (pointed_written n small.2)

numbers_high : (numbers : Numbers) → AreSmall numbers → list_all is_high (numbers_text numbers) ≡ true
numbers_high Bare small = refl
numbers_high (One n) small = pointed_high n small
numbers_high (Two m n) small =
    append_true is_high (pointed m) (pointed n) (pointed_high m small.0) (pointed_high n small.1)
numbers_high (Three l m n) small =
    append_true is_high (pointed l ++ pointed m) (pointed n)
    (append_true is_high (pointed l) (pointed m) (pointed_high l small.0) (pointed_high m small.1)) (pointed_high n small.2)

numbers_length : (numbers : Numbers) → AreSmall numbers → length (numbers_text numbers) ≤ 12
numbers_length Bare small = omega arith
numbers_length (One n) small = omega (arith, pointed_length n small)
numbers_length (Two m n) small =
    omega (arith, length-append (pointed m) (pointed n), pointed_length m small.0, pointed_length n small.1)
numbers_length (Three l m n) small =
    omega (
      arith,
      length-append (pointed l ++ pointed m) (pointed n),
      length-append (pointed l) (pointed m),
      pointed_length l small.0,
      pointed_length m small.1,
      pointed_length n small.2,
    )

-- a hub as it is written is its name
pub hub_written : (hub : Hub) (number : ℕ) → number_of hub ≡ Some number → IsHubName (hub_text hub) (name_of hub)
hub_written hub number e =
    let small = numbered_small hub number e in
    record {
      dotted = numbers_text (numbers_of hub);
      spelled = refl;
      numbers = numbers_written (numbers_of hub) small.0;
      as_many = small.1;
    }

pub hub_word : (hub : Hub) (number : ℕ) → number_of hub ≡ Some number → IsWord (hub_text hub)
hub_word hub number e =
    let small = (numbered_small hub number e).0 in
    let spelled : List ℕ = (row_of (letters_of hub)).spelled in
    let dotted : List ℕ = numbers_text (numbers_of hub) in
    let good = and_parts (list_all is_high spelled) (nat_le 1 (length spelled) && nat_le (length spelled) 3)
    (good_letters (letters_of hub)) in
    let counted = and_parts (nat_le 1 (length spelled)) (nat_le (length spelled) 3) good.1 in
    let some : 1 ≤ length spelled = leb-true 1 (length spelled) counted.0 in
    let few : length spelled ≤ 3 = leb-true (length spelled) 3 counted.1 in
    record {
      some = omega (arith, length-append spelled dotted, some);
      few = omega (arith, length-append spelled dotted, few, numbers_length (numbers_of hub) small);
      high = append_true is_high spelled dotted good.0 (numbers_high (numbers_of hub) small);
    }

-- a counter group as it is written is its width and its number
pub group_written : (group : Group) → group.width < 1000 → group.number < 1000 → IsGroup (group_text group) group.width group.number
group_written group wide numbered = record {
  digits = decimal group.width;
  after = pointed group.number;
  spelled = refl;
  wide = number_written group.width wide;
  numbered = pointed_written group.number numbered;
}

pub group_word : (group : Group) → group.width < 1000 → group.number < 1000 → IsWord (group_text group)
group_word group wide numbered =
    let is : IsWord (decimal group.width) = number_word group.width wide in
    let few : IsNumber (decimal group.width) group.width = number_written group.width wide in
    record {
      some = omega (arith, length-append (decimal group.width) (pointed group.number), is.some);
      few = omega (
        arith,
        length-append (decimal group.width) (pointed group.number),
        few.few,
        pointed_length group.number numbered,
      );
      high = append_true is_high (decimal group.width) (pointed group.number) is.high (pointed_high group.number numbered);
    }
