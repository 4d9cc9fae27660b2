-- Sets of rows as numbers, for the contracts of this crate: bit p stands for the row that comes p rows after row 9, in the order of the
-- points. What a set prints stands in ZeroControl.
use Rattle.std.specs.Prelude.{◌≡◌, ℕ, ◌-◌, ◌<◌, ◌==◌, ◌&&◌, ◌||◌, nat_le, nat_lt, slice_index_or, Bool, List, map}
use Rattle.std.specs.List.{range_with_len}
use Rattle.net.specs.HubSets.{is_bit}
use Rattle.net.specs.Straight.{is_brought}
use Rattle.net.specs.declared.straight.Straight.{Straight}
use Rattle.print_unit.specs.ZeroControl.{character_of}

-- the rows of a set, by their places in the order of the points
abbrev pub rows_in : ℕ → List Bool
rows_in set = map (λ place. is_bit set place) (range_with_len 0 12)

-- the characters of so many sets of rows
abbrev pub HasCharacters : ℕ → List ℕ → Type 0
HasCharacters count characters =
    (set : ℕ) → set < count → slice_index_or characters set 0 ≡ character_of (rows_in set)

-- each wheel of a word takes the row of a place
abbrev pub TakesRow : ℕ → ℕ → List ℕ → List ℕ → Type 0
TakesRow word place old new =
    (k : ℕ) → k < 128 → (p : ℕ)
    → is_bit (slice_index_or new k 0) p ≡ (is_bit (slice_index_or old k 0) p || (p == place) && is_bit word k)

-- each wheel has what its old set has, and so many from one on have what they receive
abbrev pub Receives : ℕ → ℕ → List ℕ → List ℕ → List ℕ → Type 0
Receives first count received old new =
    (k : ℕ) → k < 120 → (p : ℕ)
    → is_bit (slice_index_or new k 0) p
    ≡ (is_bit (slice_index_or old k 0) p
    || nat_le first k && (nat_lt (k - first) count && is_bit (slice_index_or received (k - first) 0) p))

-- each wheel has what its old set has, and what the runs bring to it from columns
abbrev pub ReceivesRuns : List ℕ → List Straight → List ℕ → List ℕ → Type 0
ReceivesRuns columns runs old new =
    (k : ℕ) → k < 120 → (p : ℕ)
    → is_bit (slice_index_or new k 0) p ≡ (is_bit (slice_index_or old k 0) p || is_brought columns runs k p)
