-- Digits by position, and the number that they spell; position 1 is the units.
use Rattle.std.specs.Prelude.{ℕ, zero, suc, ◌+◌, ◌*◌, ◌^◌}

-- the number that digits spell in so many positions
abbrev pub spelt : (ℕ → ℕ) → ℕ → ℕ
spelt digit zero = 0
spelt digit (suc position) = digit (position + 1) * 10 ^ position + spelt digit position
