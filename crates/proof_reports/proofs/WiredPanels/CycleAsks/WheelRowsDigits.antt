-- The rows of digits: of those on a card, and of those that counter groups show.
use Rattle.std.proofs.Common.{◌≡◌, ◌≢◌, ◌∙◌, refl, sym, ap, subst, ℕ, zero, suc, ◌+◌, ◌^◌, ◌<◌, ◌≤◌, ◌==◌, ◌&&◌, Bool, true, false, cond, List, [], ◌∷◌, Option, Some, None, find, slice_get, arith}
use Rattle.std.specs.List.{count_by, range_with_len}
use Rattle.std.proofs.lemmas.Bool.Decides.{nat_tests}
use Rattle.std.proofs.lemmas.List.Sums.{sum_by-cons}
use Rattle.std.proofs.lemmas.List.FromFn.{get_or-range_with_len}
use Rattle.std.proofs.lemmas.Nat.Bits.{bit_at-pow_same, bit_at-pow_other}
use Rattle.std.proofs.lemmas.Option.{slice_get-get_or, slice_get_within, get_or_from_slice_get}
use Rattle.proof_reports.specs.Below.card_code.CardCode.{has_row, rows_of, code}
use Rattle.proof_reports.specs.Below.card_code.Rows.{row_number}
use Rattle.proof_reports.specs.Below.card_code.declared.row.Row.{Row as CardRow}
use Rattle.proof_reports.specs.Below.chart_rules.ValidCard.{digit_count, digit_rows}
use Rattle.proof_reports.specs.PrintedLines.Shown.{set_of_character, digit_set}
use Rattle.report_definition.specs.Amounts.{digit_in}
use Rattle.proof_reports.specs.Below.selectors.Splits.{is_digit_row}
use Rattle.proof_reports.proofs.WiredPanels.CycleAsks.WheelRows.{no_rows}

-- a digit has one row
digit-set : (d : ℕ) → d ≤ 9 → set_of_character (48 + d) ≡ 2 ^ d
unfolding rows_of code
digit-set (suc (suc (suc (suc (suc (suc (suc (suc (suc (suc d)))))))))) few = absurd (omega (arith, few))
digit-set other few = refl

pub digit-row : (d row : ℕ) → d ≤ 9 → has_row (digit_set (Some d)) row ≡ (d == row)
digit-row d row few = ap (λ s. has_row s row) (digit-set d few) ∙ by (d == row) refl
  where
    by : (b : Bool) → (d == row) ≡ b → has_row (2 ^ d) row ≡ b
    by true same =
        let e : d ≡ row = grind (arith, nat_tests, same) in
        let f = ap (λ k. has_row (2 ^ d) k) (sym e) in
        f ∙ ap (λ n. n == 1) (bit_at-pow_same d)
    by false differs =
        let e : row ≢ d = λ same. apart (sym same) differs in
        ap (λ n. n == 1) (bit_at-pow_other d row e)
      where
        apart : d ≡ row → (d == row) ≡ false → ⊥
        apart same differs = let e : (d == row) ≡ true = grind (arith, nat_tests, same) in cc

-- how much one counts
abbrev counts : Bool → ℕ
counts b = cond b 1 0

-- where one passes, some count
count-some : (f : ℕ → Bool) (ks : List ℕ) (i k : ℕ) → slice_get ks i ≡ Some k → f k ≡ true → 1 ≤ count_by f ks
count-some f [] i k at on = cc
count-some f (x ∷ ks) zero k at on =
    let e : x ≡ k = cc in
    let here : counts (f x) ≡ 1 = ap counts (ap f e ∙ on) in
    let sum = sum_by-cons (λ y. counts (f y)) x ks in
    omega (arith, here, sum)
count-some f (x ∷ ks) (suc i) k at on =
    let rest = count-some f ks i k at on in
    let sum = sum_by-cons (λ y. counts (f y)) x ks in
    omega (arith, rest, sum)

-- the only one that passes is found
find-only : (f : ℕ → Bool) (ks : List ℕ) (i k : ℕ) → slice_get ks i ≡ Some k → f k ≡ true → count_by f ks ≤ 1 → find f ks ≡ Some k
find-only f [] i k at on few = cc
find-only f (x ∷ ks) zero k at on few =
    let e : x ≡ k = cc in
    ap (λ b. cond b (Some x) (find f ks)) (ap f e ∙ on) ∙ ap Some e
find-only f (x ∷ ks) (suc i) k at on few = by (f x) refl (sum_by-cons (λ y. counts (f y)) x ks) (count-some f ks i k at on) (find-only f ks i k at on)
  where
    by : (b : Bool) → f x ≡ b → count_by f (x ∷ ks) ≡ counts (f x) + count_by f ks → 1 ≤ count_by f ks → (count_by f ks ≤ 1 → find f ks ≡ Some k)
        → find f (x ∷ ks) ≡ Some k
    by true is sum some rest = let here : counts (f x) ≡ 1 = ap counts is in absurd (omega (arith, here, sum, some, few))
    by false is sum some rest =
        ap (λ b. cond b (Some x) (find f ks)) is ∙ rest (omega (arith, sum, few))

-- what is found passes, and stands in the list
record FoundAt (f : ℕ → Bool) (ks : List ℕ) (k : ℕ) : Type 0 where
  place : ℕ
  at : slice_get ks place ≡ Some k
  on : f k ≡ true

found-at : (f : ℕ → Bool) (ks : List ℕ) (k : ℕ) → find f ks ≡ Some k → FoundAt f ks k
found-at f [] k is = cc
found-at f (x ∷ ks) k is = by (f x) refl is (found-at f ks k)
  where
    by : (b : Bool) → f x ≡ b → cond b (Some x) (find f ks) ≡ Some k → (find f ks ≡ Some k → FoundAt f ks k) → FoundAt f (x ∷ ks) k
    by true on same rest = let e : x ≡ k = cc in record { place = 0; at = ap Some e; on = sym (ap f e) ∙ on }
    by false off same rest = let r = rest same in record { place = suc r.place; at = r.at; on = r.on }

from_none : (r : ℕ) → 0 + r ≡ r
from_none r = omega arith

ten-at : (r : ℕ) → r ≤ 9 → slice_get (range_with_len 0 10) r ≡ Some r
ten-at r few = slice_get-get_or (range_with_len 0 10) r 0 (omega (arith, few)) ∙ ap Some (get_or-range_with_len 0 10 r 0 (omega (arith, few)) ∙ from_none r)

ten-of : (r d : ℕ) → slice_get (range_with_len 0 10) r ≡ Some d → d ≤ 9
ten-of r d at =
    let within : r < 10 = slice_get_within (range_with_len 0 10) r d at in
    let e : d ≡ r = sym (get_or_from_slice_get (range_with_len 0 10) r d 0 at) ∙ get_or-range_with_len 0 10 r 0 within ∙ from_none r in
    omega (arith, within, e)

counted : (set : ℕ) → digit_count set ≡ count_by (λ digit. has_row set digit) (range_with_len 0 10)
unfolding digit_count digit_rows
counted set = refl

-- A column with one digit at most has the row of its digit, among the rows of digits.
pub digit-in : (set : ℕ) (row : CardRow) → digit_count set ≤ 1
    → has_row (digit_set (digit_in set)) (row_number row) ≡ (has_row set (row_number row) && is_digit_row row)
digit-in set row few = by (has_row (digit_set (digit_in set)) (row_number row)) (has_row set (row_number row)) (is_digit_row row) refl refl refl
  where
    test : ℕ → Bool
    test digit = has_row set digit

    has : (o : Option ℕ) → digit_in set ≡ o → has_row (digit_set (digit_in set)) (row_number row) ≡ true
        → (has_row set (row_number row) ≡ true) × (is_digit_row row ≡ true)
    has None is on = let none = no_rows row in let e : has_row 0 (row_number row) ≡ true = sym (ap (λ o. has_row (digit_set o) (row_number row)) is) ∙ on in cc
    has (Some d) is on =
        let found = found-at (λ digit. has_row set digit) (range_with_len 0 10) d is in
        let small = ten-of found.place d found.at in
        let e : (d == row_number row) ≡ true = sym (digit-row d (row_number row) small) ∙ (sym (ap (λ o. has_row (digit_set o) (row_number row)) is) ∙ on) in
        let f : d ≡ row_number row = grind (arith, nat_tests, e) in
        (ap (has_row set) (sym f) ∙ found.on, grind (arith, nat_tests, f, small))

    gives : has_row set (row_number row) ≡ true → is_digit_row row ≡ true → has_row (digit_set (digit_in set)) (row_number row) ≡ true
    gives on low =
        let small : row_number row ≤ 9 = grind (arith, nat_tests, low) in
        let is : digit_in set ≡ Some (row_number row)
        = find-only (λ digit. has_row set digit) (range_with_len 0 10) (row_number row) (row_number row) (ten-at (row_number row) small) on
        (subst (λ n. n ≤ 1) (counted set) few) in
        let same : (row_number row == row_number row) ≡ true = grind (arith, nat_tests) in
        ap (λ o. has_row (digit_set o) (row_number row)) is ∙ digit-row (row_number row) (row_number row) small ∙ same

    by : (a b c : Bool) → has_row (digit_set (digit_in set)) (row_number row) ≡ a → has_row set (row_number row) ≡ b → is_digit_row row ≡ c → a ≡ (b && c)
    by a true true is on low = sym is ∙ gives on low
    by true true false is on low = let h = has (digit_in set) refl is in let e = h.1 in cc
    by true false c is on low = let h = has (digit_in set) refl is in let e = h.0 in cc
    by false true false is on low = refl
    by false false c is on low = refl
