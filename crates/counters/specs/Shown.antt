-- Positions as bits, from the units on: a helper word of the loops that make the exits of a group.
use Rattle.std.specs.Prelude.{ℕ, ◌==◌, ◌&&◌, nat_lt, Bool, List, length, slice_index}

-- whether the position of a bit has the given digit
abbrev pub shows_at : ℕ → List ℕ → ℕ → Bool
shows_at given digits bit = nat_lt bit (length digits) && (slice_index digits bit == given)
