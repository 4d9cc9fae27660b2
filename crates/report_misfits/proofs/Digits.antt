-- The digit of a column, by the highest place of its set.
use Rattle.std.proofs.Common.{◌≡◌, ◌≢◌, refl, ap, ℕ, ◌-◌, ◌<◌, ◌≤◌, ◌==◌, ◌&&◌, not, nat_le, Bool, true, Option, Some, None, bit_and, w16, arith}
use Rattle.std.specs.Int.{leading_zeros}
use Rattle.std.specs.Int.Count.{count_leading_zeros}
use Rattle.std.proofs.lemmas.Bool.Decides.{nat_tests}
use Rattle.card_code.specs.AllSets.{passes_all, passes-at}
use Rattle.card_code.specs.Columns.{column_of}
use Rattle.report_definition.specs.Amounts.{digit_in}

-- whether the places of the digits, if there are any, tell the digit
abbrev is_read : (leading digits : ℕ) → Option ℕ → Bool
is_read leading digits None = digits == 0
is_read leading digits (Some digit) = not (digits == 0) && nat_le 6 leading && (digit == leading - 6)

reads : ℕ → Bool
reads set = is_read (leading_zeros w16 (bit_and set 1023)) (bit_and set 1023) (digit_in (column_of set))

all_read : passes_all 12 reads ≡ true
unfolding reads passes_all column_of count_leading_zeros
all_read = refl

-- The same, in facts.
pub record IsRead (leading digits : ℕ) (read : Option ℕ) : Type 0 where
  pub none : digits ≡ 0 → None ≡ read
  pub some : digits ≢ 0 → (6 ≤ leading) × (Some (leading - 6) ≡ read)

pub digit_read : (set : ℕ) → set < 4096 → IsRead (leading_zeros w16 (bit_and set 1023)) (bit_and set 1023) (digit_in (column_of set))
unfolding reads
digit_read set small =
    by (leading_zeros w16 (bit_and set 1023)) (bit_and set 1023) (digit_in (column_of set)) (passes-at 12 reads set all_read small)
  where
    by : (leading digits : ℕ) (read : Option ℕ) → is_read leading digits read ≡ true → IsRead leading digits read
    by leading digits None is = record { none = λ blank. refl; some = λ punched. absurd (punched (grind (arith, nat_tests, is))) }
    by leading digits (Some digit) is = record {
      none = λ blank. absurd (grind (arith, nat_tests, is, blank));
      some = λ punched. (grind (arith, nat_tests, is), let same : leading - 6 ≡ digit = grind (arith, nat_tests, is) in ap (λ (n : ℕ). Some n) same);
    }
