-- Rows of places: which places each place leads to. A row stands for the places from 1024 on.
use Rattle.std.specs.Prelude.{◌≡◌, ℕ, ◌-◌, ◌/◌, ◌&&◌, ◌⊎◌, nat_le, nat_lt, Bool, true, false, List, [], slice_index_or}
use Rattle.machine_sets.specs.BitSets.Bits.{has_place}

-- whether a row has a place
abbrev pub is_in_entries : List ℕ → ℕ → Bool
is_in_entries row to = nat_le 1024 to && has_place row (to - 1024)

-- whether one place leads to another
abbrev pub leads : List (List ℕ) → ℕ → ℕ → Bool
leads rows from to = is_in_entries (slice_index_or rows from []) to

-- new has what old has and what the places of the test lead to, and no more; what they lead to leads nowhere
pub record GainsLed (rows : List (List ℕ)) (test : ℕ → Bool) (old new : List ℕ) : Type 0 where
  pub kept : (place : ℕ) → has_place old place ≡ true → has_place new place ≡ true
  pub led : (from to : ℕ) → test from ≡ true → leads rows from to ≡ true → has_place new to ≡ true
  pub only :
      (to : ℕ) → has_place new to ≡ true
      → (has_place old to ≡ true) ⊎ ((from : ℕ) × (test from ≡ true) × (leads rows from to ≡ true))
  pub last : (from to next : ℕ) → test from ≡ true → leads rows from to ≡ true → leads rows to next ≡ false

-- whether a set has a place in its words from one to another
abbrev pub is_in_words : ℕ → ℕ → List ℕ → ℕ → Bool
is_in_words from to words place = nat_le from (place / 64) && (nat_lt (place / 64) to && has_place words place)
