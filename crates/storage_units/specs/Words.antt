-- A set of columns as a word: bit c - 1 tells of column c.
use Rattle.std.specs.Prelude.{ℕ, ◌+◌, ◌-◌, ◌*◌, ◌^◌, ◌&&◌, Bool, zero, suc, if◌then◌else◌}
use Rattle.hubs.specs.HubTable.Ranges.{is_within}
use Rattle.net.specs.HubSets.{is_bit}

-- the word of those of the columns 1 to so many that pass a test
unfoldable pub word_of : (ℕ → Bool) → ℕ → ℕ
word_of test zero = 0
word_of test (suc last) = (if test (suc last) then 1 else 0) * 2 ^ last + word_of test last

-- whether a column 1 to 16 is in the set of a word
abbrev pub has_column : ℕ → ℕ → Bool
has_column word column = is_within column 16 && is_bit word (column - 1)
