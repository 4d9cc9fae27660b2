-- Lines that can be punched.
use Rattle.std.specs.Prelude.{ℕ, ◌<◌, List, length, slice_index, IsSome}
use Rattle.card_code.specs.CardCode.{rows_of}

-- each byte is a deck character
abbrev pub ArePunchable : List ℕ → Type 0
ArePunchable line = (k : ℕ) → k < length line → IsSome (rows_of (slice_index line k))
