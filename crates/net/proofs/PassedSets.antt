-- Sets of rows before and after wires spread their rows and closed contacts pass them on.
use Rattle.std.specs.Prelude.{◌≡◌, ◌↔◌, ◌⊎◌, ℕ, Bool, true, List, Some}
use Rattle.card_code.specs.Rows.{passing_place}
use Rattle.card_code.specs.declared.row.Row.{Row as CardRow}
use Rattle.hubs.specs.declared.hub.Hub.{Hub}
use Rattle.hubs.specs.SetupsWords.Wiring.{HasWire, Wiring}
use Rattle.net.specs.HubSets.{HubSet}
use Rattle.net.specs.HubRows.{has_row_at}
use Rattle.net.specs.Laws.{EmitsOrIsFed}
use Rattle.net.specs.Panel.{contact_of}
use Rattle.net.specs.Passing.{closes_at_row}

-- a closed contact leads to the hub from one that has the row
pub record IsPassedAt (digits zones : HubSet) (sets : List ℕ) (row : CardRow) (hub : Hub) : Type 0 where
  pub common : Hub
  pub contact : contact_of hub ≡ Some common
  pub closed : closes_at_row digits zones row hub ≡ true
  pub on : has_row_at sets (passing_place row) common ≡ true

-- a row is spread: each hub has it that had it, or to which a wire leads from an exit that had it, and no other
abbrev pub SpreadsRow : Wiring → ℕ → List ℕ → List ℕ → Type 0
SpreadsRow wiring row old new = (hub : Hub) → (has_row_at new row hub ≡ true) ↔ EmitsOrIsFed wiring (has_row_at old row) hub

-- so are all rows of a card
abbrev pub SpreadsRows : Wiring → List ℕ → List ℕ → Type 0
SpreadsRows wiring old new = (row : CardRow) → SpreadsRow wiring (passing_place row) old new

-- Hubs have the rows that they had, and no others but those that wires lead to them: all those from the exits of contacts to which a
-- wire leads from an exit of the test.
pub record SpreadsOn (wiring : Wiring) (test : Hub → Bool) (old new : List ℕ) : Type 0 where
  pub kept : (row : ℕ) (hub : Hub) → has_row_at old row hub ≡ true → has_row_at new row hub ≡ true
  pub only : (row : ℕ) (hub : Hub) → has_row_at new row hub ≡ true → EmitsOrIsFed wiring (has_row_at old row) hub
  pub fed :
      (row : ℕ) (exit common hub before : Hub) → contact_of exit ≡ Some common → test before ≡ true → HasWire wiring before common
      → HasWire wiring exit hub → has_row_at old row exit ≡ true → has_row_at new row hub ≡ true

-- Hubs have the rows that they had, and no others but those that closed contacts pass on to them: all those of contacts to which a wire
-- leads from an exit of the test. Hubs from which contacts lead gain none.
pub record PassesOn (wiring : Wiring) (test : Hub → Bool) (digits zones : HubSet) (old new : List ℕ) : Type 0 where
  pub kept :
      (row : CardRow) (hub : Hub) → has_row_at old (passing_place row) hub ≡ true → has_row_at new (passing_place row) hub ≡ true
  pub only :
      (row : CardRow) (hub : Hub) → has_row_at new (passing_place row) hub ≡ true
      → (has_row_at old (passing_place row) hub ≡ true) ⊎ IsPassedAt digits zones old row hub
  pub passed :
      (row : CardRow) (before hub : Hub) (passed : IsPassedAt digits zones old row hub) → test before ≡ true
      → HasWire wiring before passed.common → has_row_at new (passing_place row) hub ≡ true
  pub commons :
      (row : CardRow) (common hub : Hub) → contact_of hub ≡ Some common → has_row_at new (passing_place row) common ≡ true
      → has_row_at old (passing_place row) common ≡ true

-- Closed contacts pass on what has come to them by a wire from the exit of another contact, to which a wire leads from an exit of the test.
pub record PassesBehind (wiring : Wiring) (test : Hub → Bool) (digits zones : HubSet) (old new : List ℕ) : Type 0 where
  pub passed :
      (row : CardRow) (before first exit hub : Hub) (passed : IsPassedAt digits zones old row hub) → test before ≡ true
      → HasWire wiring before first → contact_of exit ≡ Some first → HasWire wiring exit passed.common
      → has_row_at new (passing_place row) hub ≡ true
