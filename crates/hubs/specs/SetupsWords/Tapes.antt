-- Carriage tapes: the lines of a form and the stops of its channels.
use Rattle.std.specs.Prelude.{◌≡◌, ◌≢◌, ◌↔◌, ℕ, ◌≤◌, nat_eq, Bool, true, false, ◌&&◌, ◌||◌}
use Rattle.std.specs.Prelude.{List, [], All, AllPairs, Contains, length, slice_index_or}

-- A carriage tape: the lines of a form, its first line (channel 1), its overflow line (channel 12), and the stops of
-- channels 2 to 11. Read the stops through has_stop alone.
pub record CarriageTape : Type 0 where
  pub lines : ℕ
  pub first : ℕ
  pub overflow : ℕ
  pub stops : List (List Bool)

-- whether a channel has a stop at a line
abbrev pub has_stop : CarriageTape → ℕ → ℕ → Bool
has_stop form channel line = slice_index_or (slice_index_or form.stops channel []) line false

-- a stop of a tape: its channel and its line
abbrev pub IsStopOf : CarriageTape → ℕ × ℕ → Type 0
IsStopOf form stop = has_stop form stop.0 stop.1 ≡ true

-- a stop of a form of so many lines: channel 2 to 11, and a line of the form
pub record IsStop (lines channel line : ℕ) : Type 0 where
  pub channel_from : 2 ≤ channel
  pub channel_to : channel ≤ 11
  pub line_from : 1 ≤ line
  pub line_to : line ≤ lines

-- the lines of a tape are in range
pub record IsFormed (lines first overflow : ℕ) : Type 0 where
  pub lines_from : 3 ≤ lines
  pub lines_to : lines ≤ 144
  pub first_from : 1 ≤ first
  pub first_to : first ≤ lines
  pub overflow_from : 1 ≤ overflow
  pub overflow_to : overflow ≤ lines

-- Every tape keeps places for 12 channels, and in each for 145 lines, from 0 on: a channel and a line stand at their own numbers.
pub record HasPlaces (form : CarriageTape) : Type 0 where
  pub channels : length form.stops ≡ 12
  pub lines : All (λ row. length row ≡ 145) form.stops

-- a form that a tape can have
pub record IsCarriageTape (form : CarriageTape) : Type 0 where
  pub formed : IsFormed form.lines form.first form.overflow
  pub places : HasPlaces form
  pub stops : (channel line : ℕ) → has_stop form channel line ≡ true → IsStop form.lines channel line

-- the numbers and the stops of a tape: each is in range, and no stop stands twice
pub record IsTape (lines first overflow : ℕ) (holes : List (ℕ × ℕ)) : Type 0 where
  pub formed : IsFormed lines first overflow
  pub stops : All (λ stop. IsStop lines stop.0 stop.1) holes
  pub once : AllPairs (λ one other. one ≢ other) holes

-- the tape has exactly these stops
abbrev pub HasStops : CarriageTape → List (ℕ × ℕ) → Type 0
HasStops form holes = (channel line : ℕ) → (has_stop form channel line ≡ true) ↔ Contains holes (channel, line)

-- new is old with a stop more
pub record AddsStop (old new : CarriageTape) (channel line : ℕ) : Type 0 where
  pub lines : new.lines ≡ old.lines
  pub first : new.first ≡ old.first
  pub overflow : new.overflow ≡ old.overflow
  pub stops : (c l : ℕ) → has_stop new c l ≡ (has_stop old c l || (nat_eq c channel && nat_eq l line))

-- two tapes are the same: the same lines, first line and overflow line, and the same stops
pub record SameTape (one other : CarriageTape) : Type 0 where
  pub lines : other.lines ≡ one.lines
  pub first : other.first ≡ one.first
  pub overflow : other.overflow ≡ one.overflow
  pub stops : (channel line : ℕ) → has_stop other channel line ≡ has_stop one channel line
