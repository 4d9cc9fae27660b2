-- The numbers of tokens, read one after another.
use Rattle.std.proofs.Common.{ℕ, List, ◌++◌, Option, option_map}

-- numbers that are read, before those that are left to read
abbrev pub led_by : List ℕ → Option (List ℕ) → Option (List ℕ)
led_by front rest = option_map (λ numbers. front ++ numbers) rest
