-- Steps of a loop that finds the first line of a text that passes a test.
use Rattle.std.proofs.Common.{◌≡◌, ℕ, suc, ◌+◌, ◌<◌, ◌≤◌, Bool, true, false, cond, List, [], ◌∷◌, Some, None, length, sym, ap, ◌∙◌, arith}
use Rattle.std.proofs.Math.Numerals.{suc-eq-add-one}
use Rattle.card_code.specs.Lines.{lines_of}
use Rattle.fault_slips.specs.LineMarks.FirstLines.{first_of}

-- none of the lines that are passed passes the test, and each of them takes a byte of the text
pub record Passed (test : List ℕ → Bool) (passed : ℕ) (rest text : List ℕ) : Type 0 where
  pub none : first_of test (passed + 1) (lines_of rest) ≡ first_of test 1 (lines_of text)
  pub within : passed + length rest ≤ length text

module _ (test : List ℕ → Bool) (rest text other after : List ℕ) (passed : ℕ) (first : lines_of rest ≡ other ∷ lines_of after) (shorter : length after < length rest) where
  -- the first of the lines that are left
  first_left : first_of test (passed + 1) (lines_of rest)
      ≡ cond (test other) (Some (passed + 1)) (first_of test (suc (passed + 1)) (lines_of after))
  first_left = ap (first_of test (passed + 1)) first

  -- it passes
  pub found : test other ≡ true → Passed test passed rest text → Some (passed + 1) ≡ first_of test 1 (lines_of text)
  found passes so_far =
      sym (first_left ∙ ap (λ t. cond t (Some (passed + 1)) (first_of test (suc (passed + 1)) (lines_of after))) passes) ∙ so_far.none

  -- it doesn't
  pub more : test other ≡ false → Passed test passed rest text → Passed test (passed + 1) after text
  more fails so_far = record {
    none =
        ap (λ n. first_of test n (lines_of after)) (sym (suc-eq-add-one (passed + 1)))
        ∙ sym (first_left ∙ ap (λ t. cond t (Some (passed + 1)) (first_of test (suc (passed + 1)) (lines_of after))) fails)
        ∙ so_far.none;
    within = omega (arith, shorter, so_far.within);
  }

-- no line is left
pub all_passed : (test : List ℕ → Bool) (rest text : List ℕ) (passed : ℕ) → lines_of rest ≡ [] → Passed test passed rest text
    → None ≡ first_of test 1 (lines_of text)
all_passed test rest text passed none so_far = sym (ap (first_of test (passed + 1)) none) ∙ so_far.none
