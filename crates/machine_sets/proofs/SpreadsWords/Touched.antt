-- Blocks of places as bits of a word, and that places of no other blocks have rows.
use Rattle.std.proofs.Common.{⊎_elim, ◌≡◌, ◌∙◌, ℕ, ◌+◌, ◌-◌, ◌*◌, ◌/◌, ◌%◌, ◌^◌, ◌<◌, ◌≤◌, ◌&&◌, ◌||◌, Bool, true, false, List, sym, ap, refl, arith, length, replicate, slice_index_or, bit_or}
use Rattle.std.specs.Prelude.{◌==◌, nat_le, nat_lt}
use Rattle.std.proofs.lemmas.Bool.{and_parts, cases_lt, false≢true}
use Rattle.std.proofs.lemmas.Bool.Decides.{nat_tests}
use Rattle.std.proofs.lemmas.Grind.{common_steps}
use Rattle.std.proofs.lemmas.List.{get_or-replicate, get_or_past, length-replicate}
use Rattle.std.proofs.lemmas.Nat.{one_shl}
use Rattle.machine_sets.proofs.BitSets.BitLemmas.{is_bit-low, is_bit-ones, is_bit-or, is_bit-pow, is_bit-shl, is_bit-zero}
use Rattle.machine_sets.specs.BitSets.Bits.{is_bit}
use Rattle.machine_sets.specs.SpreadsWords.Blocks.{AreTouched}
use Rattle.machine_sets.specs.SpreadsWords.Links.{has_at}
use Rattle.machine_sets.proofs.SpreadsWords.PassLemmas.{neither}

pub not-both : (a : Bool) → (a ≡ true → ⊥) → a ≡ false
not-both true none = absurd (none refl)
not-both false none = refl

-- the bit of one block
pub one-block : (of block : ℕ) → of < 64 → is_bit (1 * 2 ^ of % 2 ^ 64) block ≡ (block == of)
one-block of block low = ap (λ (w : ℕ). is_bit w block) (one_shl of 64 low) ∙ is_bit-pow of block

-- so many ones
pub ones-first : (count block : ℕ) → count < 64 → block < count → is_bit (1 * 2 ^ count % 2 ^ 64 - 1) block ≡ true
ones-first count block low inside =
    ap (λ (n : ℕ). is_bit (n - 1) block) (one_shl count 64 low) ∙ is_bit-ones count block ∙ yes
  where
    yes : nat_lt block count ≡ true
    yes = grind (arith, nat_tests, inside)

-- ones that are shifted
pub ones-shifted : (ones count by block : ℕ) → ((b : ℕ) → b < count → is_bit ones b ≡ true) → block < 64 → by ≤ block → block < by + count
    → is_bit (ones * 2 ^ by % 2 ^ 64) block ≡ true
ones-shifted ones count by block first low from to =
    is_bit-low (ones * 2 ^ by) 64 block low ∙ is_bit-shl ones by block
    ∙ ap (λ b. b && is_bit ones (block - by)) yes ∙ first (block - by) (omega (arith, from, to))
  where
    yes : nat_le by block ≡ true
    yes = grind (arith, nat_tests, from)

-- Where the sets gain rows in some blocks alone, no others are touched than before and these.
pub touched-more : (touched blocks : ℕ) (old new : List ℕ) → AreTouched touched old → length new ≡ 1936
    → ((place row : ℕ) → place < 1936 → is_bit blocks (place / 32) ≡ false → has_at old place row ≡ false → has_at new place row ≡ false)
    → AreTouched (bit_or touched blocks) new
touched-more touched blocks old new are long gains = record {
  long = long;
  silent = λ place row off.
      let both = neither (is_bit touched (place / 32)) (is_bit blocks (place / 32)) (sym (is_bit-or touched blocks (place / 32)) ∙ off) in
      ⊎_elim (λ low. gains place row low both.1 (are.silent place row both.0)) (λ high. past place row high) (cases_lt place 1936);
} where
  past : (place row : ℕ) → 1936 ≤ place → has_at new place row ≡ false
  past place row high = ap (λ (w : ℕ). is_bit w row) (get_or_past new place 0 (omega (arith, long, high))) ∙ is_bit-zero row

-- sets are joined from a place on
pub touched-joined : (touched blocks : ℕ) (sets old new : List ℕ) (first : ℕ) → AreTouched touched old → length new ≡ 1936
    → ((place row : ℕ) → place < 1936
    → has_at new place row ≡ (has_at old place row || (nat_le first place && has_at sets (place - first) row)))
    → ((place : ℕ) → first ≤ place → place < first + length sets → place < 1936 → is_bit blocks (place / 32) ≡ true)
    → AreTouched (bit_or touched blocks) new
touched-joined touched blocks sets old new first are long joined within =
    touched-more touched blocks old new are long
    (λ place row low off none.
    joined place row low ∙ ap (λ b. b || (nat_le first place && has_at sets (place - first) row)) none
    ∙ not-both (nat_le first place && has_at sets (place - first) row)
    (λ on.
    let both = and_parts (nat_le first place) (has_at sets (place - first) row) on in
    let from = reached first place both.0 in
    ⊎_elim
    (λ (there : place - first < length sets).
    false≢true (sym off ∙ within place from (omega (arith, from, there)) low))
    (λ (past : length sets ≤ place - first).
    false≢true (sym (ap (λ (w : ℕ). is_bit w row) (get_or_past sets (place - first) 0 past) ∙ is_bit-zero row) ∙ both.1))
    (cases_lt (place - first) (length sets))))
  where
    reached : (m n : ℕ) → nat_le m n ≡ true → m ≤ n
    reached m n e = grind (arith, nat_tests, e)

-- empty sets
pub touched-new : AreTouched 0 (replicate {A = ℕ} 1936 0)
touched-new = record {
  long = length-replicate {A = ℕ} 1936 0;
  silent = λ place row off. ap (λ (w : ℕ). is_bit w row) (read 1936 place) ∙ is_bit-zero row;
} where
  read : (n place : ℕ) → slice_index_or (replicate {A = ℕ} n 0) place 0 ≡ 0
  read n place = grind (arith, common_steps, get_or-replicate, get_or_past)

-- where all blocks count as touched nothing is told of the sets
pub touched-all : (sets : List ℕ) → length sets ≡ 1936 → AreTouched 18446744073709551615 sets
touched-all sets long = record {
  long = long;
  silent = λ place row off. ⊎_elim
      (λ (low : place < 1936). absurd (false≢true (sym off ∙ is_bit-ones 64 (place / 32) ∙ yes place low)))
      (λ (high : 1936 ≤ place).
      ap (λ (w : ℕ). is_bit w row) (get_or_past sets place 0 (omega (arith, long, high))) ∙ is_bit-zero row)
      (cases_lt place 1936);
} where
  yes : (place : ℕ) → place < 1936 → nat_lt (place / 32) 64 ≡ true
  yes place low = grind (arith, nat_tests, low)

-- where no block is touched no place has a row
pub none-touched : (touched : ℕ) (sets : List ℕ) → AreTouched touched sets → (touched == 0) ≡ true → (place row : ℕ)
    → has_at sets place row ≡ false
none-touched touched sets are none place row =
    are.silent place row (ap (λ (w : ℕ). is_bit w (place / 32)) (zero touched none) ∙ is_bit-zero (place / 32))
  where
    zero : (n : ℕ) → (n == 0) ≡ true → n ≡ 0
    zero n e = grind (arith, nat_tests, e)
