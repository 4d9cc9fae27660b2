-- How many digits are punched in a column, by its set.
use Rattle.std.proofs.Common.{◌≡◌, ◌≢◌, ◌∙◌, ℕ, zero, suc, ◌+◌, ◌*◌, ◌^◌, ◌%◌, ◌<◌, ◌≤◌, ◌==◌, arith, refl, sym, Bool, true, false, nat_lt, bit_and, if◌then◌else◌}
use Rattle.std.specs.Int.{bit_at}
use Rattle.std.proofs.lemmas.Bool.Decides.{nat_tests}
use Rattle.std.proofs.lemmas.Nat.{pow_pos}
use Rattle.std.proofs.lemmas.Nat.Bits.{and_pow}
use Rattle.card_code.specs.AllSets.{passes_all, passes-at}
use Rattle.card_code.proofs.Columns.{column-row}
use Rattle.card_code.specs.CardCode.{has_row}
use Rattle.card_code.specs.Columns.{column_of}
use Rattle.card_code.specs.Rows.{passing_place, row_number}
use Rattle.card_code.specs.declared.row.Row.{Row}
use Rattle.chart_rules.specs.ValidCard.{digit_count, digit_rows}

-- what is left of a set without its first place
abbrev left_of : ℕ → ℕ
left_of set = bit_and set ((set + 65535) % 65536)

-- whether the places of the digits tell how many there are: none, one where nothing is left, or several
abbrev is_told : (digits left count : ℕ) → Bool
is_told digits left count = if digits == 0 then count == 0 else if left == 0 then count == 1 else nat_lt 1 count

tells : ℕ → Bool
tells set = is_told (bit_and set 1023) (left_of (bit_and set 1023)) (digit_count (column_of set))

all_tell : passes_all 12 tells ≡ true
unfolding tells passes_all digit_count digit_rows column_of
all_tell = refl

-- The same, in facts.
pub record IsTold (digits left count : ℕ) : Type 0 where
  pub none : digits ≡ 0 → 0 ≡ count
  pub some : digits ≢ 0 → count ≢ 0
  pub one : digits ≢ 0 → left ≡ 0 → 1 ≡ count
  pub few : left ≡ 0 → count ≤ 1

pub told : (set : ℕ) → set < 4096 → IsTold (bit_and set 1023) (left_of (bit_and set 1023)) (digit_count (column_of set))
unfolding tells
told set small = by (bit_and set 1023) (left_of (bit_and set 1023)) (digit_count (column_of set)) (passes-at 12 tells set all_tell small)
  where
    by : (digits left count : ℕ) → is_told digits left count ≡ true → IsTold digits left count
    by digits left count is = record {
      none = λ blank. grind (arith, nat_tests, is, blank);
      some = λ punched zero. grind (arith, nat_tests, is, punched, zero);
      one = λ punched alone. grind (arith, nat_tests, is, punched, alone);
      few = λ alone. grind (arith, nat_tests, is, alone);
    }

-- a row that is not punched, since nothing is at its place
pub unpunched : (set : ℕ) (row : Row) → bit_and set (2 ^ passing_place row) ≡ 0 → has_row (column_of set) (row_number row) ≡ false
unpunched set row none =
    column-row set row ∙ by (bit_at set (passing_place row)) (sym (and_pow set (passing_place row)) ∙ none)
  where
    by : (bit : ℕ) → bit * 2 ^ passing_place row ≡ 0 → (bit == 1) ≡ false
    by zero e = refl
    by (suc bit) e = absurd (omega (arith, e, pow_pos (passing_place row)))
