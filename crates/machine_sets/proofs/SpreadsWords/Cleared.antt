-- Sets that are cleared.
use Rattle.std.proofs.Common.{⊎_elim, ◌≡◌, ◌≢◌, ◌∙◌, ℕ, ◌+◌, ◌*◌, ◌/◌, ◌<◌, ◌≤◌, ◌&&◌, not, nat_lt, Bool, true, false, List, refl, sym, ap, arith, ◌%◌, ◌^◌, length, slice_set}
use Rattle.std.specs.Int.{trailing_zeros, bit_not, w64}
use Rattle.std.specs.Int.Bits.{bit_and}
use Rattle.std.specs.Prelude.{◌==◌, nat_le}
use Rattle.std.proofs.lemmas.Bool.{cases_eq, cases_lt, false≢true}
use Rattle.std.proofs.lemmas.Bool.Decides.{nat_tests}
use Rattle.std.proofs.lemmas.List.{get_or-set_same, get_or-set_other, get_or_past}
use Rattle.machine_sets.proofs.BitSets.BitLemmas.{is_bit-taken, is_bit-zero, is_bit-above, lowest_bit}
use Rattle.machine_sets.specs.BitSets.Bits.{is_bit}
use Rattle.machine_sets.specs.SpreadsWords.Blocks.{AreTouched}
use Rattle.machine_sets.specs.SpreadsWords.Links.{has_at}

-- so many sets are cleared from a place on
pub record AreCleared (count first : ℕ) (old now : List ℕ) : Type 0 where
  pub rows :
      (place row : ℕ) → has_at now place row ≡ (has_at old place row && not (nat_le first place && nat_lt place (first + count)))
  pub long : length now ≡ 1936

pub cleared-none : (first : ℕ) (old : List ℕ) → length old ≡ 1936 → AreCleared 0 first old old
cleared-none first old long = record { rows = λ place row. by (has_at old place row) place; long = long } where
  by : (a : Bool) (place : ℕ) → a ≡ (a && not (nat_le first place && nat_lt place (first + 0)))
  by a place = grind (arith, nat_tests)

pub cleared-more : (k first : ℕ) (old now : List ℕ) → first + k < 1936 → length (slice_set now (first + k) 0) ≡ 1936
    → AreCleared k first old now → AreCleared (k + 1) first old (slice_set now (first + k) 0)
cleared-more k first old now inside long before = record {
  rows = λ place row. ⊎_elim
      (λ (same : place ≡ first + k).
      ap (λ (p : ℕ). has_at (slice_set now (first + k) 0) p row) same
      ∙ ap (λ (w : ℕ). is_bit w row) (get_or-set_same now (first + k) 0 0 (let was = before.long in omega (arith, was, inside)))
      ∙ is_bit-zero row ∙ cut place (has_at old place row) same)
      (λ (apart : place ≢ first + k).
      ap (λ (w : ℕ). is_bit w row) (get_or-set_other now (first + k) place 0 0 apart)
      ∙ before.rows place row ∙ wider place (has_at old place row) apart)
      (cases_eq place (first + k));
  long = long;
} where
  cut : (place : ℕ) (a : Bool) → place ≡ first + k → false ≡ (a && not (nat_le first place && nat_lt place (first + (k + 1))))
  cut place a same = grind (arith, nat_tests, same)

  wider : (place : ℕ) (a : Bool) → place ≢ first + k → (a && not (nat_le first place && nat_lt place (first + k)))
      ≡ (a && not (nat_le first place && nat_lt place (first + (k + 1))))
  wider place a apart = grind (arith, nat_tests, apart)

-- sixteen of them
pub cleared-sixteen : (sixteen : ℕ) (old now : List ℕ) → AreCleared 16 (16 * sixteen) old now
    → (place row : ℕ) → has_at now place row ≡ (has_at old place row && not (place / 16 == sixteen))
cleared-sixteen sixteen old now are place row = are.rows place row ∙ by (has_at old place row) where
  by : (a : Bool) → (a && not (nat_le (16 * sixteen) place && nat_lt place (16 * sixteen + 16))) ≡ (a && not (place / 16 == sixteen))
  by a = grind (arith, nat_tests)

-- nothing is behind the last place
past-last : (sets : List ℕ) (place row : ℕ) → length sets ≡ 1936 → 1936 ≤ place → has_at sets place row ≡ false
past-last sets place row long past =
    ap (λ (w : ℕ). is_bit w row) (get_or_past sets place 0 (omega (arith, long, past))) ∙ is_bit-zero row

-- of the last block there are sixteen places, and none of those behind it
pub cleared-last : (block place row : ℕ) (sets : List ℕ) → block ≡ 60 → length sets ≡ 1936
    → (has_at sets place row && not (place / 16 == 2 * block)) ≡ (has_at sets place row && not (place / 32 == block))
cleared-last block place row sets last long = by (has_at sets place row) (λ past. past-last sets place row long past) where
  by : (a : Bool) → (1936 ≤ place → a ≡ false) → (a && not (place / 16 == 2 * block)) ≡ (a && not (place / 32 == block))
  by a none = ⊎_elim
      (λ (low : place < 1936). grind (arith, nat_tests, low, last))
      (λ (past : 1936 ≤ place). let off = none past in grind (arith, nat_tests, off)) (cases_lt place 1936)

pub cleared-beyond : (block place row : ℕ) (sets : List ℕ) → 60 < block → length sets ≡ 1936
    → has_at sets place row ≡ (has_at sets place row && not (place / 32 == block))
cleared-beyond block place row sets high long = by (has_at sets place row) (λ past. past-last sets place row long past) where
  by : (a : Bool) → (1936 ≤ place → a ≡ false) → a ≡ (a && not (place / 32 == block))
  by a none = ⊎_elim
      (λ (low : place < 1936). grind (arith, nat_tests, low, high))
      (λ (past : 1936 ≤ place). let off = none past in grind (arith, nat_tests, off)) (cases_lt place 1936)

-- a block that is cleared may have no rows
pub cleared-touched : (left : ℕ) (old now : List ℕ) → 0 < left → left < 2 ^ 64 → AreTouched left old → length now ≡ 1936
    → ((place row : ℕ) → has_at now place row ≡ (has_at old place row && not (place / 32 == trailing_zeros w64 left)))
    → AreTouched (bit_and left (bit_not w64 (1 * 2 ^ trailing_zeros w64 left % 2 ^ 64))) now
cleared-touched left old now some small are long cleared = record {
  long = long;
  silent = λ place row off. cleared place row ∙ ⊎_elim
      (λ (there : place / 32 < 64).
      gone (has_at old place row) (is_bit left (place / 32)) (place / 32 == trailing_zeros w64 left)
      (sym (is_bit-taken left (trailing_zeros w64 left) (place / 32) (lowest_bit left some small).0 there) ∙ off)
      (are.silent place row))
      (λ (past : 64 ≤ place / 32).
      ap (λ b. b && not (place / 32 == trailing_zeros w64 left))
      (are.silent place row (is_bit-above left 64 (place / 32) small past)))
      (cases_lt (place / 32) 64);
} where
  gone : (a on same : Bool) → (on && not same) ≡ false → (on ≡ false → a ≡ false) → (a && not same) ≡ false
  gone a true true off none = not-and a
    where
      not-and : (b : Bool) → (b && false) ≡ false
      not-and true = refl
      not-and false = refl
  gone a true false off none = absurd (false≢true (sym off))
  gone a false same off none = ap (λ b. b && not same) (none refl)
