-- The pilots as bits of a word: that of the first one is the lowest.
use Rattle.std.specs.Prelude.{ℕ, ◌-◌, Bool, List}
use Rattle.net.specs.HubSets.{is_bit}
use Rattle.selectors.specs.Numbered.{tests_to}

-- which pilots have their bits in a word
abbrev pub pilots_in : ℕ → List Bool
pilots_in word = tests_to 16 (λ pilot. is_bit word (pilot - 1))
