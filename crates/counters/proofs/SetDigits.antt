-- Digits that are read off sets of rows, and entered by them.
use Rattle.std.proofs.Common.{◌≡◌, ◌≢◌, ◌∙◌, refl, sym, ap, ℕ, zero, suc, ◌+◌, ◌-◌, ◌*◌, ◌%◌, ◌^◌, ◌<◌, ◌≤◌, ◌==◌, ◌&&◌, ◌||◌, ◌⊎◌, inl, inr, Bool, true, false, List, [], ◌∷◌, length, replicate, reverse, get_or, slice_index_or, arith, if◌then◌else◌, bit_or, w16}
use Rattle.std.specs.Prelude.{nat_lt}
use Rattle.std.specs.Int.{trailing_zeros}
use Rattle.std.proofs.lemmas.Bool.{cases_lt}
use Rattle.std.proofs.lemmas.Bool.Decides.{eqb_tells, nat_tests}
use Rattle.std.proofs.lemmas.List.{get_or-replicate, get_or_past, length-reverse}
use Rattle.std.proofs.lemmas.Nat.{le_or_r, one_shl, or_lt}
use Rattle.std.proofs.lemmas.Nat.Bits.{bit_at-trailing_zeros}
use Rattle.card_code.specs.Rows.{passing_place, row_number, rows}
use Rattle.card_code.specs.declared.row.Row.{Row as CardRow}
use Rattle.card_code.specs.declared.row.Row.TheVariants.{Zero, One, Two, Three, Four, Five, Six, Seven, Eight, Nine, Eleven, Twelve}
use Rattle.hubs.specs.declared.hub.Group.{Group}
use Rattle.hubs.specs.declared.hub.Hub.TheVariants.{GE}
use Rattle.net.specs.HubSets.{is_bit}
use Rattle.net.specs.HubRows.{has_at, has_row_at}
use Rattle.net.specs.RowSets.{pictures_of}
use Rattle.counters.specs.AllRows.{digit_entered, earliest_digit}
use Rattle.counters.specs.WholeCycles.{digit_rows, first_digit, listed}
use Rattle.counters.specs.declared.controls.Controls.{Controls}
use Rattle.counters.proofs.EarliestRows.{digit_after, digit_after-kept, digit_after-rows, impulsed_at, rows_taken, rows_taken-listed}
use Rattle.counters.proofs.ListedDigits.{listed-same}
use Rattle.counters.proofs.ShownRows.{is_bit-or, is_bit-pow, is_bit-zero}
use Rattle.counters.proofs.TakenRows.{reversed-at}

-- the row of a digit has its place among the points
pub row-of : (digit : ℕ) (row : CardRow) → digit ≤ 9 → is_bit (1 * 2 ^ (9 - digit) % 2 ^ 16) (passing_place row) ≡ (digit == row_number row)
row-of digit row small =
    ap (λ w. is_bit w (passing_place row)) (one_shl (9 - digit) 16 (omega arith)) ∙ is_bit-pow (9 - digit) (passing_place row) ∙ by row
  where
    by : (row : CardRow) → (passing_place row == 9 - digit) ≡ (digit == row_number row)
    by Nine = grind (arith, nat_tests, small)
    by Eight = grind (arith, nat_tests, small)
    by Seven = grind (arith, nat_tests, small)
    by Six = grind (arith, nat_tests, small)
    by Five = grind (arith, nat_tests, small)
    by Four = grind (arith, nat_tests, small)
    by Three = grind (arith, nat_tests, small)
    by Two = grind (arith, nat_tests, small)
    by One = grind (arith, nat_tests, small)
    by Zero = grind (arith, nat_tests, small)
    by Eleven = grind (arith, nat_tests, small)
    by Twelve = grind (arith, nat_tests, small)

-- the digit of a set by the place of its first row, which is 9 where the set has none of the rows 9 to 1
earliest-at : (set at : ℕ) → at ≤ 9 → (at < 9 → is_bit set at ≡ true) → ((k : ℕ) → k < at → is_bit set k ≡ false) → 9 - at ≡ earliest_digit set
earliest-at set zero low on off = rw (on (omega arith)) refl
earliest-at set (suc zero) low on off = rw (off 0 (omega arith), on (omega arith)) refl
earliest-at set (suc (suc zero)) low on off = rw (off 0 (omega arith), off 1 (omega arith), on (omega arith)) refl
earliest-at set (suc (suc (suc zero))) low on off =
    rw (off 0 (omega arith), off 1 (omega arith), off 2 (omega arith), on (omega arith)) refl
earliest-at set (suc (suc (suc (suc zero)))) low on off =
    rw (off 0 (omega arith), off 1 (omega arith), off 2 (omega arith), off 3 (omega arith), on (omega arith)) refl
earliest-at set (suc (suc (suc (suc (suc zero))))) low on off =
    rw (off 0 (omega arith), off 1 (omega arith), off 2 (omega arith), off 3 (omega arith), off 4 (omega arith), on (omega arith)) refl
earliest-at set (suc (suc (suc (suc (suc (suc zero)))))) low on off =
    rw (off 0 (omega arith), off 1 (omega arith), off 2 (omega arith), off 3 (omega arith), off 4 (omega arith), off 5 (omega arith), on (omega arith)) refl
earliest-at set (suc (suc (suc (suc (suc (suc (suc zero))))))) low on off =
    rw (off 0 (omega arith), off 1 (omega arith), off 2 (omega arith), off 3 (omega arith), off 4 (omega arith), off 5 (omega arith), off 6 (omega arith), on (omega arith)) refl
earliest-at set (suc (suc (suc (suc (suc (suc (suc (suc zero)))))))) low on off =
    rw (off 0 (omega arith), off 1 (omega arith), off 2 (omega arith), off 3 (omega arith), off 4 (omega arith), off 5 (omega arith), off 6 (omega arith), off 7 (omega arith), on (omega arith)) refl
earliest-at set (suc (suc (suc (suc (suc (suc (suc (suc (suc zero))))))))) low on off =
    rw (off 0 (omega arith), off 1 (omega arith), off 2 (omega arith), off 3 (omega arith), off 4 (omega arith), off 5 (omega arith), off 6 (omega arith), off 7 (omega arith), off 8 (omega arith)) refl
earliest-at set (suc (suc (suc (suc (suc (suc (suc (suc (suc (suc at)))))))))) low on off = absurd (omega (arith, low))

-- the first row of a set with row 0 in it, as a place and as a digit
pub earliest-found : (set : ℕ) → set < 2 ^ 16
    → (trailing_zeros w16 (bit_or set 512) ≤ 9) × (9 - trailing_zeros w16 (bit_or set 512) ≡ earliest_digit set)
unfolding is_bit
earliest-found set small =
    let some = le_or_r set 512 in
    let facts = bit_at-trailing_zeros w16 (bit_or set 512) (omega (arith, some)) (or_lt 16 set 512 small (omega arith)) in
    by (trailing_zeros w16 (bit_or set 512)) (ap (λ n. n == 1) facts.1) (λ k less. ap (λ n. n == 1) (facts.2 k less))
  where
    joined : (k : ℕ) → is_bit (bit_or set 512) k ≡ (is_bit set k || (k == 9))
    joined k = is_bit-or set 512 k ∙ ap (λ b. is_bit set k || b) (is_bit-pow 9 k)

    by : (at : ℕ) → is_bit (bit_or set 512) at ≡ true → ((k : ℕ) → k < at → is_bit (bit_or set 512) k ≡ false)
        → (at ≤ 9) × (9 - at ≡ earliest_digit set)
    by at on off = (low, earliest-at set at low there gone) where
      low : at ≤ 9
      low = elim (cases_lt 9 at) [
        | inl less ↦
            let is = sym (joined 9) ∙ off 9 less in absurd (both (is_bit set 9) is)
        | inr not_less ↦ not_less
      ]
        where
          both : (b : Bool) → (b || true) ≡ false → ⊥
          both true is = cc
          both false is = cc

      there : at < 9 → is_bit set at ≡ true
      there less = let is = sym (joined at) ∙ on in one (is_bit set at) is where
        one : (b : Bool) → (b || (at == 9)) ≡ true → b ≡ true
        one b is = grind (arith, nat_tests, is, less)

      gone : (k : ℕ) → k < at → is_bit set k ≡ false
      gone k less = none (is_bit set k) (k == 9) (sym (joined k) ∙ off k less) where
        none : (a b : Bool) → (a || b) ≡ false → a ≡ false
        none false b is = refl
        none true b is = cc

-- a list as digits by position
abbrev digit_at : List ℕ → ℕ → ℕ
digit_at xs position = get_or xs (length xs - position) 0

listed-of : (xs : List ℕ) → xs ≡ listed (digit_at xs) (length xs)
listed-of [] = refl
listed-of (x ∷ below) =
    ap (λ (xs : List ℕ). x ∷ xs) (listed-of below ∙ listed-same (digit_at below) (digit_at (x ∷ below)) (length below) same)
    ∙ ap (λ (d : ℕ). d ∷ listed (digit_at (x ∷ below)) (length below)) first
  where
    first : x ≡ digit_at (x ∷ below) (length below + 1)
    first = let index : length (x ∷ below) - (length below + 1) ≡ 0 = omega arith in sym (ap (λ (k : ℕ). get_or (x ∷ below) k 0) index)

    same : (position : ℕ) → 1 ≤ position → position ≤ length below → digit_at below position ≡ digit_at (x ∷ below) position
    same position from to =
        let index : length (x ∷ below) - position ≡ suc (length below - position) = omega (arith, to) in
        sym (ap (λ (k : ℕ). get_or (x ∷ below) k 0) index)

-- what a position has entered after all rows of a set
digit-rows : (impulsed : CardRow → Bool) (digit : ℕ)
    → digit_after true impulsed rows digit ≡ (if digit == 0 then first_digit impulsed digit_rows else digit)
digit-rows impulsed digit = by (eqb_tells digit 0) where
  by : ((digit == 0) ≡ true) × (digit ≡ 0) ⊎ ((digit == 0) ≡ false) × (digit ≢ 0)
      → digit_after true impulsed rows digit ≡ (if digit == 0 then first_digit impulsed digit_rows else digit)
  by (inl none) =
      ap (digit_after true impulsed rows) none.1 ∙ digit_after-rows true impulsed
      ∙ ap (λ b. if b then first_digit impulsed digit_rows else digit) (sym none.0)
  by (inr some) =
      digit_after-kept impulsed rows digit some.0 ∙ ap (λ b. if b then first_digit impulsed digit_rows else digit) (sym some.0)

-- all positions of a group that takes digits, from the top down, by their sets and digits from the units on
pub taken-by_sets : (controls : Controls) (name : Group) (sets read old new : List ℕ) → (controls.plus || controls.minus) ≡ true
    → length new ≡ length old
    → ((position row : ℕ) → 1 ≤ position → position ≤ length old → has_at read (position - 1) row ≡ has_row_at sets row (GE name position))
    → ((k : ℕ) → k < length old → slice_index_or new k 0 ≡ digit_entered (slice_index_or read k 0) (slice_index_or old k 0))
    → reverse new ≡ rows_taken controls name (pictures_of sets) rows (reverse old)
taken-by_sets controls name sets read old new takes long reads entered =
    listed-of (reverse new)
    ∙ ap (listed (digit_at (reverse new))) (length-reverse new ∙ long)
    ∙ listed-same (digit_at (reverse new))
    (λ position. digit_after (controls.plus || controls.minus) (λ row. impulsed_at name (pictures_of sets) row position) rows (digit_at (reverse old) position))
    (length old) each
    ∙ ap (listed (λ position. digit_after (controls.plus || controls.minus) (λ row. impulsed_at name (pictures_of sets) row position) rows
    (digit_at (reverse old) position))) (sym (length-reverse old))
    ∙ sym (ap (rows_taken controls name (pictures_of sets) rows) (listed-of (reverse old))
    ∙ rows_taken-listed controls name (pictures_of sets) rows (digit_at (reverse old)) (length (reverse old)))
  where
    each : (position : ℕ) → 1 ≤ position → position ≤ length old
        → digit_at (reverse new) position
        ≡ digit_after (controls.plus || controls.minus) (λ row. impulsed_at name (pictures_of sets) row position) rows (digit_at (reverse old) position)
    each position from to =
        let index : length (reverse new) - position ≡ length (reverse old) - position
        = ap (λ (n : ℕ). n - position) (length-reverse new ∙ long ∙ sym (length-reverse old)) in
        let place : length old - 1 - (length (reverse old) - position) ≡ position - 1 = omega (arith, from, to, length-reverse old) in
        ap (λ (k : ℕ). get_or (reverse new) k 0) index
        ∙ reversed-at (λ k d. digit_entered (slice_index_or read k 0) d) old new long entered (length (reverse old) - position)
        (omega (arith, from, to, length-reverse old))
        ∙ ap (λ (k : ℕ). digit_entered (slice_index_or read k 0) (digit_at (reverse old) position)) place
        ∙ ap (λ (impulsed : CardRow → Bool). if digit_at (reverse old) position == 0 then first_digit impulsed digit_rows
        else digit_at (reverse old) position)
        (λ i row. reads position (passing_place row) from to i)
        ∙ sym (digit-rows (λ row. impulsed_at name (pictures_of sets) row position) (digit_at (reverse old) position))
        ∙ ap (λ b. digit_after b (λ row. impulsed_at name (pictures_of sets) row position) rows (digit_at (reverse old) position)) (sym takes)

-- before any position no row is shown
pub no-sets : (k place : ℕ) (test : Bool) → has_at (replicate 8 0) k place ≡ (nat_lt k 0 && test)
no-sets k place test =
    let zero : get_or none_shown k 0 ≡ 0 = by k in
    ap (λ w. is_bit w place) zero ∙ is_bit-zero place ∙ none
  where
    none_shown : List ℕ
    none_shown = replicate 8 0

    by : (k : ℕ) → get_or none_shown k 0 ≡ 0
    by k = elim (cases_lt k 8) [
      | inl low ↦ get_or-replicate {A = ℕ} 8 k 0 0 low
      | inr high ↦ get_or_past none_shown k 0 high
    ]

    none : false ≡ (nat_lt k 0 && test)
    none = grind (arith, nat_tests)
