-- Tests of the numbers from 1 on, as lists.
use Rattle.std.specs.Prelude.{ℕ, Bool, List, map}
use Rattle.std.specs.List.{range_with_len}

-- what a test tells of the numbers 1 to the last, in their order
unfoldable pub tests_to : ℕ → (ℕ → Bool) → List Bool
tests_to last test = map test (range_with_len 1 last)
