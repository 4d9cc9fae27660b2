-- Words joined with the words of a row. A row stands for the places from 1024 on: its word k is joined with word 16 + k.
use Rattle.std.specs.Prelude.{◌≡◌, ℕ, ◌+◌, ◌<◌, ◌≤◌, ◌⊎◌, List, slice_index}
use Rattle.std.specs.Int.Bits.{bit_or}

-- the words of a row from one to another are joined with those of a set, and the others are as they were
pub record IsJoined (from to : ℕ) (old row new : List ℕ) : Type 0 where
  pub joined :
      (k : ℕ) → from ≤ k → k < to → slice_index new (16 + k) ≡ bit_or (slice_index old (16 + k)) (slice_index row k)
  pub others : (number : ℕ) → (number < 16 + from) ⊎ (16 + to ≤ number) → slice_index new number ≡ slice_index old number
