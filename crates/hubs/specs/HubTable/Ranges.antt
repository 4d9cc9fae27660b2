-- Numbers in a range.
use Rattle.std.specs.Prelude.{ℕ, Bool, ◌&&◌, nat_le}

-- whether a number is one of 1 to last
abbrev pub is_within : ℕ → ℕ → Bool
is_within n last = nat_le 1 n && nat_le n last
