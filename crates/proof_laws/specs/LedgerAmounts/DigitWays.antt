-- Of each digit of a number that came to an account a way is told, and it has its line below the entry of the ledger.
use Rattle.std.specs.Prelude.{◌≡◌, ℕ, ◌+◌, ◌-◌, ◌/◌, ◌%◌, ◌≤◌, List, [], ◌++◌, All, Option, Some, None, IsSome, Vec}
use Rattle.std.specs.declared.alloc.Global.{Global}
use Rattle.explain_ledgers.specs.CycleWays.Points.{TellsOf}
use Rattle.hubs.specs.declared.hub.Hub.{Hub}
use Rattle.explain_ledgers.specs.LedgersWords.Accounts.{IsAccount, positions_of}
use Rattle.explain_ledgers.specs.LedgersWords.LedgerText.Entries.{Words}
use Rattle.explain_ledgers.specs.LedgersWords.Ledgers.{Along, IsLedger}
use Rattle.explain_ledgers.specs.LedgersWords.Running.{HasCycle}
use Rattle.explain_ledgers.specs.declared.ledgers.account.Account.{Account}
use Rattle.explain_ledgers.specs.declared.ledgers.entry.Change.{Change}
use Rattle.explain_ledgers.specs.declared.ledgers.entry.Change.TheVariants.{Plus, Minus, Turned, Carry, Apart}
use Rattle.explain_ledgers.specs.declared.ledgers.entry.Entry.{Entry}
use Rattle.net.specs.declared.cycle.Cycle.{Cycle}
use Rattle.explain_origins.specs.declared.holes.Hole.{Hole}
use Rattle.hubs.specs.SetupsWords.Wiring.{Wiring}
use Rattle.proof_cycles.specs.TotalsWords.CounterCycles.Acts.{digit_of}
use Rattle.explain_wheel_ledgers.specs.LedgerHoles.Digits.{digit_label, hole_for, hole_line, row_of}
use Rattle.explain_wheel_ledgers.specs.LedgerHoles.Down.{IsEntryDown}
use Rattle.explain_wheel_ledgers.specs.LedgerHoles.Positions.{entry_at, position_in}
use Rattle.explain_wheel_ledgers.specs.LedgerHoles.Ways.{way_line}
use Rattle.explain_wheel_ledgers.specs.declared.ledger_holes.positions.Position.{Position}
use Rattle.proof_laws.specs.LedgerAmounts.Changes.{movement_in}

-- the digit at a position, the units at position 1, of the number that came to an account in a cycle of a run
abbrev pub digit_in : Account → {wiring : Wiring} {deck : List (List ℕ)} {passed : ℕ} → HasCycle wiring deck passed → (position : ℕ) → ℕ
digit_in account has position = digit_of (movement_in account has).entered position

-- A digit, 1 to 9, came in by a way: one is told, at the row of the digit, of the hub of its position. The row 9 has place 1 of the points,
-- and the row 1 place 9.
abbrev pub DigitsHaveWays : Type 0
DigitsHaveWays =
    (wiring : Wiring) (deck : List (List ℕ)) (passed : ℕ) (has : HasCycle wiring deck passed) (account : Account) (position : ℕ)
    (found : Option (Vec Hub Global))
    → IsAccount account → 1 ≤ position → 1 ≤ digit_in account has position
    → TellsOf has (10 - digit_in account has position) (entry_at (position_in account position)) found
    → IsSome found

-- The line of a digit that came in at a position in a cycle in which so many cards were read: none of 0, and of any other one a line that tells
-- the hole and the wire from its brush, or, if there is no such hole, a way that is told of the position's entry at the row of the digit.
pub data IsRowLine {wiring : Wiring} {deck : List (List ℕ)} {passed : ℕ} (has : HasCycle wiring deck passed) (cycle : Cycle) (card : ℕ)
    (at_position : Position) : (digit : ℕ) → List ℕ → Type 0 where
  no_line : IsRowLine has cycle card at_position 0 []
  by_hole :
      (digit : ℕ) (hole : Hole) → 1 ≤ digit
      → hole_for wiring deck cycle card (row_of digit) (entry_at at_position) ≡ Some hole
      → IsRowLine has cycle card at_position digit (hole_line card at_position (row_of digit) hole)
  by_way :
      (digit : ℕ) (way : Vec Hub Global) → 1 ≤ digit
      → hole_for wiring deck cycle card (row_of digit) (entry_at at_position) ≡ None
      → TellsOf has (10 - digit) (entry_at at_position) (Some way)
      → IsRowLine has cycle card at_position digit (way_line (digit_label (row_of digit)) (Some way))

-- The lines of so many digits of a number, from a position on upwards, that of the top one first: what the line of a digit at a position is,
-- is given.
pub data AreRows (Line : (position digit : ℕ) → List ℕ → Type 0) : (count position number : ℕ) → List ℕ → Type 0 where
  no_row : (position number : ℕ) → AreRows Line 0 position number []
  next_row :
      (count position number : ℕ) (above line : List ℕ) → AreRows Line count (position + 1) (number / 10) above
      → Line position (number % 10) line
      → AreRows Line (count + 1) position number (above ++ line)

-- the lines of so many digits of a number that came to an account in a cycle, from a position on upwards
abbrev pub AreRowLines : {wiring : Wiring} {deck : List (List ℕ)} {passed : ℕ} → HasCycle wiring deck passed → Cycle → (card : ℕ) → Account
    → (count position number : ℕ) → List ℕ → Type 0
AreRowLines has cycle card account count position number lines =
    AreRows (λ at. IsRowLine has cycle card (position_in account at)) count position number lines

-- the lines of the number of an entry by its change: those of all its digits, but none if the number turned, or if only a carry came
abbrev pub TellsRows : {wiring : Wiring} {deck : List (List ℕ)} {passed : ℕ} → HasCycle wiring deck passed → Account → Entry → Change
    → List ℕ → Type 0
TellsRows has account entry Plus lines = AreRowLines has entry.cycle entry.card account (positions_of account) 1 entry.entered lines
TellsRows has account entry Minus lines = AreRowLines has entry.cycle entry.card account (positions_of account) 1 entry.entered lines
TellsRows has account entry Turned lines = lines ≡ []
TellsRows has account entry Carry lines = lines ≡ []
TellsRows has account entry Apart lines = AreRowLines has entry.cycle entry.card account (positions_of account) 1 entry.entered lines

-- A text that tells an entry of a ledger down to the holes ends with the lines of its number.
abbrev pub EntriesTellRows : Type 0
EntriesTellRows =
    (wiring : Wiring) (deck : List (List ℕ)) (words : Option Words) (account : Account) (along : Along) (entries : List Entry)
    → IsAccount account → IsLedger wiring deck account along entries
    → All
    (λ entry. (text : List ℕ) (down : IsEntryDown wiring deck words account entry text)
    → TellsRows down.has account entry entry.change down.entered) entries
