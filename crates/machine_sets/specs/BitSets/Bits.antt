-- Bits of a word, and sets of places: place k of a list of words is bit k % 64 of its word k / 64.
use Rattle.std.specs.Prelude.{◌≡◌, ℕ, ◌-◌, ◌/◌, ◌%◌, ◌==◌, ◌&&◌, ◌||◌, nat_le, Bool, List, slice_index_or}
use Rattle.std.specs.Int.{bit_at}

-- whether a bit of a word is set
unfoldable pub is_bit : ℕ → ℕ → Bool
is_bit word bit = bit_at word bit == 1

-- whether a set has a place
unfoldable pub has_place : List ℕ → ℕ → Bool
has_place words place = is_bit (slice_index_or words (place / 64) 0) (place % 64)

-- whether a place, from the first one of a row on, has its bit in the row
abbrev pub is_in_run : ℕ → ℕ → ℕ → Bool
is_in_run first bits place = nat_le first place && is_bit bits (place - first)

-- new has what old has, and each place of the test
abbrev pub GainsPlaces : (ℕ → Bool) → List ℕ → List ℕ → Type 0
GainsPlaces test old new = (place : ℕ) → has_place new place ≡ (has_place old place || test place)
