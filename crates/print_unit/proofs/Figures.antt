-- A wheel that received a figure prints one of the characters 1 to 9, one that received a zero prints 0, and no other wheel does.
use Rattle.std.proofs.Common.{◌≡◌, ◌∙◌, refl, sym, ap, ℕ, zero, suc, ◌<◌, ◌&&◌, not, Bool, true, false, List, [], ◌∷◌, length, arith, get_or}
use Rattle.std.specs.List.{list_all, range_with_len}
use Rattle.std.proofs.lemmas.Bool.{and_parts}
use Rattle.std.proofs.lemmas.List.FromFn.{get_or-range_with_len, length-range_with_len}
use Rattle.std.proofs.lemmas.List.Sums.{AllPass-from_list_all}
use Rattle.card_code.specs.CardCode.{code, deck_character, print_character}
use Rattle.print_unit.specs.WheelWords.{is_between}
use Rattle.print_unit.specs.ZeroControl.{character_of, is_figure, is_zero}

-- whether two answers are the same
unfoldable pub same_answer : Bool → Bool → Bool
same_answer true other = other
same_answer false other = not other

pub answers-same : (one other : Bool) → same_answer one other ≡ true → one ≡ other
unfolding same_answer
answers-same true other e = sym e
answers-same false true e = cc
answers-same false false e = refl

-- what is true of each place is so at one
pub at-place : (test : ℕ → Bool) (count place : ℕ) → list_all test (range_with_len 0 count) ≡ true → place < count → test place ≡ true
at-place test count place all below =
    let at : get_or (range_with_len 0 count) place 0 ≡ place = get_or-range_with_len 0 count place 0 below ∙ omega arith in
    ap test (sym at) ∙ AllPass-from_list_all test (range_with_len 0 count) all place 0 (rw (length-range_with_len 0 count) below)

-- whether all lists of so many answers pass a test
all_pass : ℕ → (List Bool → Bool) → Bool
all_pass zero test = test []
all_pass (suc count) test = all_pass count (λ list. test (true ∷ list)) && all_pass count (λ list. test (false ∷ list))

-- then each passes
at-list : (count : ℕ) (test : List Bool → Bool) (list : List Bool) → all_pass count test ≡ true → length list ≡ count → test list ≡ true
unfolding all_pass
at-list zero test [] all long = all
at-list zero test (has ∷ list) all long = absurd (omega (arith, long))
at-list (suc count) test [] all long = absurd (omega (arith, long))
at-list (suc count) test (has ∷ list) all long =
    let both = and_parts (all_pass count (λ l. test (true ∷ l))) (all_pass count (λ l. test (false ∷ l))) all in
    by has (at-list count (λ l. test (true ∷ l)) list both.0 (omega (arith, long))) (at-list count (λ l. test (false ∷ l)) list both.1 (omega (arith, long)))
  where
    by : (has : Bool) → test (true ∷ list) ≡ true → test (false ∷ list) ≡ true → test (has ∷ list) ≡ true
    by true there other = there
    by false other there = there

-- a figure by its character
tells_figure : List Bool → Bool
tells_figure received = same_answer (is_figure received) (is_between 49 58 (character_of received))

all_figures : all_pass 12 tells_figure ≡ true
unfolding tells_figure all_pass same_answer print_character deck_character code
all_figures = refl

pub figure-tells : (received : List Bool) → length received ≡ 12 → is_figure received ≡ is_between 49 58 (character_of received)
unfolding tells_figure
figure-tells received long =
    answers-same (is_figure received) (is_between 49 58 (character_of received)) (at-list 12 tells_figure received all_figures long)

-- a zero by its character
tells_zero : List Bool → Bool
tells_zero received = same_answer (is_zero received) (is_between 48 49 (character_of received))

all_zeros : all_pass 12 tells_zero ≡ true
unfolding tells_zero all_pass same_answer print_character deck_character code
all_zeros = refl

pub zero-tells : (received : List Bool) → length received ≡ 12 → is_zero received ≡ is_between 48 49 (character_of received)
unfolding tells_zero
zero-tells received long =
    answers-same (is_zero received) (is_between 48 49 (character_of received)) (at-list 12 tells_zero received all_zeros long)
