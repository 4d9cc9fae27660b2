-- Rows of two words at most, as these words. A row stands for the places from 1024 on: its word k is word 16 + k of a set.
use Rattle.std.specs.Prelude.{◌≡◌, ℕ, ◌<◌, ◌/◌, ◌%◌, ◌==◌, ◌&&◌, ◌||◌, Bool, true, List, [], length, slice_index_or}
use Rattle.machine_sets.specs.BitSets.Bits.{is_bit}
use Rattle.machine_sets.specs.BitSets.Rows.{is_in_entries}
use Rattle.machine_sets.specs.declared.bit_sets.shorts.Short.{Short}

-- whether one of the two words has a place
abbrev pub is_in_short : Short → ℕ → Bool
is_in_short short place =
    ((place / 64 == short.first) && is_bit short.first_bits (place % 64))
    || ((place / 64 == short.last) && is_bit short.last_bits (place % 64))

-- two words of a row, and whether they have all of its places
pub record IsShort (row : List ℕ) (short : Short) : Type 0 where
  pub first : short.first < 31
  pub last : short.last < 31
  pub whole : short.is_whole ≡ true → (place : ℕ) → is_in_entries row place ≡ is_in_short short place

-- the two words of each of the first rows
abbrev pub AreShorts : List Short → List (List ℕ) → Type 0
AreShorts shorts rows =
    (from : ℕ) (default : Short) → from < length shorts
    → IsShort (slice_index_or rows from []) (slice_index_or shorts from default)
