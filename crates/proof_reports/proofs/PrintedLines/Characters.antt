-- What a wheel makes of the set of rows that it received: its character, and whether that is a figure or a zero.
use Rattle.std.proofs.Common.{◌≡◌, ◌∙◌, refl, sym, ap, ℕ, ◌+◌, ◌<◌, ◌==◌, ◌&&◌, not, Bool, true, false, List, [], ◌∷◌, map, length, get_or, zero, suc, Option, Some, None, if◌then◌else◌, Contains, arith, is_some}
use Rattle.std.specs.List.{list_all, range_with_len}
use Rattle.std.proofs.lemmas.Bool.{eqb-true, and_parts}
use Rattle.std.proofs.lemmas.List.FromFn.{get_or-range_with_len, length-range_with_len}
use Rattle.print_unit.specs.Below.card_code.CardCode.{has_row, code, deck_character, rows_of, print_character, printed_for}
use Rattle.print_unit.specs.Below.card_code.Rows.{row_number, rows}
use Rattle.print_unit.proofs.Below.card_code.OneToOne.{Contains-rows, Contains-character}
use Rattle.wiring_table.specs.Below.chart_lines.ChartsWords.Literal.{is_printable}
use Rattle.print_unit.specs.ZeroControl.{character_of, is_figure, is_zero}
use Rattle.proof_reports.specs.PrintedLines.Shown.{set_of_character, digit_set}

-- the rows of a set, in the order in which a wheel receives them
abbrev pub received : ℕ → List Bool
received set = map (λ row. has_row set (row_number row)) rows

-- an element of a list passes a test that all of them pass
pub passes : {X : Type 0} (test : X → Bool) (xs : List X) (x : X) → list_all test xs ≡ true → Contains xs x → test x ≡ true
passes test xs x all (k, within, is) = at xs k all within is
  where
    at : (ys : List _) (k : ℕ) → list_all test ys ≡ true → k < length ys → get_or ys k x ≡ x → test x ≡ true
    at [] k all within is = absurd (omega (arith, within))
    at (y ∷ ys) zero all within is = ap test (sym is) ∙ (and_parts (test y) (list_all test ys) all).0
    at (y ∷ ys) (suc k) all within is = at ys k (and_parts (test y) (list_all test ys) all).1 (omega (arith, within)) is

-- a digit is one of ten
is_digit : (digit : ℕ) → digit < 10 → Contains (range_with_len 0 10) digit
is_digit digit below =
    let is : get_or (range_with_len 0 10) digit digit ≡ 0 + digit = get_or-range_with_len 0 10 digit digit below in
    (digit, rw (length-range_with_len 0 10) below, is ∙ omega arith)

-- the wheel prints what the code prints for the set of a deck character
prints_code : ℕ × ℕ → Bool
prints_code pair = character_of (received pair.1) == printed_for (Some pair.0)

all_print : list_all prints_code code ≡ true
unfolding prints_code code print_character deck_character
all_print = refl

-- a wheel prints the set of a deck character as the print character of that set
pub prints-set : (set character : ℕ) → deck_character set ≡ Some character → character_of (received set) ≡ print_character set
unfolding prints_code deck_character print_character
prints-set set character coded =
    eqb-true (character_of (received set)) (printed_for (Some character))
    (passes prints_code code (character, set) all_print (Contains-character code character set coded))
    ∙ sym (ap printed_for coded)

-- a printable character is no `!`, and so the code prints it as itself
itself : (character : ℕ) → not (character == 33) ≡ true → printed_for (Some character) ≡ character
itself character other = by (character == 33) other
  where
    by : (b : Bool) → not b ≡ true → (if b then 32 else character) ≡ character
    by true other = cc
    by false other = refl

-- a printable character prints as itself
pub prints-literal : (character : ℕ) → is_printable character ≡ true → character_of (received (set_of_character character)) ≡ character
unfolding rows_of prints_code
prints-literal character printable =
    by (rows_of character) refl (and_parts (is_some (rows_of character)) (not (character == 33)) printable)
  where
    by : (o : Option ℕ) → rows_of character ≡ o → (is_some o ≡ true) × (not (character == 33) ≡ true)
        → character_of (received (set_of_character character)) ≡ character
    by None none parts = cc
    by (Some set) coded parts =
        let is_set : set_of_character character ≡ set = ap (λ (o : Option ℕ). elim o [ None ↦ 0 | Some set ↦ set ]) coded in
        ap (λ s. character_of (received s)) is_set
        ∙ eqb-true (character_of (received set)) (printed_for (Some character))
        (passes prints_code code (character, set) all_print (Contains-rows code character set coded))
        ∙ itself character parts.1

-- whether two tests say the same
same_answer : Bool → Bool → Bool
same_answer true other = other
same_answer false other = not other

tests_are : (one other : Bool) → same_answer one other ≡ true → one ≡ other
unfolding same_answer
tests_are true other is = sym is
tests_are false true is = cc
tests_are false false is = refl

-- what a wheel makes of a digit
prints_figure : ℕ → Bool
prints_figure digit =
    (character_of (received (digit_set (Some digit))) == 48 + digit)
    && (same_answer (is_zero (received (digit_set (Some digit)))) (digit == 0)
    && same_answer (is_figure (received (digit_set (Some digit)))) (not (digit == 0)))

all_figures : list_all prints_figure (range_with_len 0 10) ≡ true
unfolding prints_figure same_answer rows_of code print_character deck_character
all_figures = refl

-- a digit prints as its character, it is a zero where it is 0, and else a figure
pub record IsDigitSet (digit : ℕ) : Type 0 where
  pub prints : character_of (received (digit_set (Some digit))) ≡ 48 + digit
  pub zero : is_zero (received (digit_set (Some digit))) ≡ (digit == 0)
  pub figure : is_figure (received (digit_set (Some digit))) ≡ not (digit == 0)

pub IsDigitSet-digit : (digit : ℕ) → digit < 10 → IsDigitSet digit
unfolding prints_figure
IsDigitSet-digit digit below =
    let all = passes prints_figure (range_with_len 0 10) digit all_figures (is_digit digit below) in
    let first = and_parts (character_of (received (digit_set (Some digit))) == 48 + digit) _ all in
    let rest = and_parts (same_answer (is_zero (received (digit_set (Some digit)))) (digit == 0)) _ first.1 in
    record {
      prints = eqb-true (character_of (received (digit_set (Some digit)))) (48 + digit) first.0;
      zero = tests_are _ _ rest.0;
      figure = tests_are _ _ rest.1;
    }

-- where nothing is received the wheel prints blank, and it is no figure
pub blank-prints : character_of (received 0) ≡ 32
unfolding print_character deck_character code
blank-prints = refl

pub blank-figure : is_figure (received 0) ≡ false
blank-figure = refl
